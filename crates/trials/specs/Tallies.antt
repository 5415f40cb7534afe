-- What trials add up to.
use Rattle.std.specs.Prelude.{◌+◌, ◌-◌, ◌^◌, Bool, cond, min}
use Rattle.trials.specs.declared.tally.Tally.{Tally}

-- one trial
abbrev pub one : Bool → Tally
one right = record { made = 1; right = cond right 1 0 }

-- the trials of both, or the largest number
abbrev pub both : Tally → Tally → Tally
both a b = record {
  made = min (a.made + b.made) (2 ^ 64 - 1);
  right = min (a.right + b.right) (2 ^ 64 - 1);
}
