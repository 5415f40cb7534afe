-- The editions of the layout, in the words of the format.
use Rattle.std.specs.Prelude.{Bool, true, false}
use Rattle.trials.specs.declared.layout.Edition.{Edition}
use Rattle.trials.specs.declared.layout.Edition.TheVariants.{First, Second}

-- whether an edition is the first
abbrev pub is_first : Edition → Bool
is_first First = true
is_first Second = false
