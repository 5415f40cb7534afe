-- `units::feasible_sizes` meets its contract: each way out rewrites the test's parts by what the tests before it
-- found.
use Rattle.std.proofs.Common.{sym, ap, ◌∙◌, min, max}
use borrow.Author.Tests.{le-leb, lt-leb}
use Rattle.units.specs.Limits.{feasible_sizes}
use Rattle.units.proofs.feasible_sizes.Goals as goal

pub returns-then-not-is_subset : goal.returns-then-not-is_subset
unfolding feasible_sizes
returns-then-not-is_subset c = simp (sym c.is_subset.ensures ∙ c.if-not-is_subset.true)

pub returns-then-many-few : goal.returns-then-many-few
unfolding feasible_sizes
returns-then-many-few c =
    let few = c.max-few.ensures ∙ ap (max _) c.size.ensures in
    let many = c.min-many.ensures ∙ ap (min _) c.size-2.ensures in
    simp (sym c.is_subset.ensures ∙ c.if-not-is_subset.false, sym few, sym many, lt-leb _ _ c.if-many-few.true)

pub returns : goal.returns
unfolding feasible_sizes
returns c =
    let few = c.max-few.ensures ∙ ap (max _) c.size.ensures in
    let many = c.min-many.ensures ∙ ap (min _) c.size-2.ensures in
    simp (sym c.is_subset.ensures ∙ c.if-not-is_subset.false, sym few, sym many, le-leb _ _ c.if-many-few.false)
