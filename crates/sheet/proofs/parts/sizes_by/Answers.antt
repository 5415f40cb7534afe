-- `sheet::parts::sizes_by` meets its contract.
use mathlib.Core.Path.{sym, ◌∙◌}
use borrow.Author.Rules.{rules}
use Rattle.chambers.specs.Chambers.{sizes_in}
use Rattle.format.specs.Format.{limits_of}
use Rattle.sheet.proofs.FourParts.{same_sizes, alone_sums}
use Rattle.sheet.proofs.parts.sizes_by.Goals as goal

pub returns-then-not-is_subset : goal.returns-then-not-is_subset
unfolding sizes_in
returns-then-not-is_subset c = simp (sym c.is_subset.ensures ∙ c.if-not-is_subset.true)

pub returns : goal.returns
unfolding sizes_in
returns c =
    simp (sym c.is_subset.ensures ∙ c.if-not-is_subset.false)
    (same_sizes (limits_of c.args.x) c.at.ensures c.part_sizes.ensures.value ∙ alone_sums c.args.chambers.units c.args.x (search rules) (c.requires c.if-not-first.false))
