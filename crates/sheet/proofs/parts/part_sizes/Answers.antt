-- `sheet::parts::part_sizes` meets its contract.
use Rattle.std.proofs.Common.{ℕ, sym, ap, ◌∙◌, subst, get_or, arith}
use Rattle.chambers.specs.Chambers.{chamber, part_of}
use Rattle.plans.specs.Steps.{limits}
use Rattle.plans.specs.Switch.{sizes_of}
use Rattle.format.specs.Format.{limits_of}
use Rattle.sheet.specs.Few.{AtMost}
use Rattle.sheet.proofs.FourParts.{same_sizes, empty_asked, part_at_most}
use Rattle.sheet.proofs.parts.part_sizes.Goals as goal

pub returns-then-units-eq0-clause-value : goal.returns-then-units-eq0-clause-value
returns-then-units-eq0-clause-value c =
    let x = c.args.x in
    let number = c.chamber.inside.number in
    same_sizes (limits_of x) c.chamber.view_is
    (c.then_some.ensures
    ∙ empty_asked x.lower x.upper (get_or x.least number 0) (get_or x.greatest number 0)
    ∙ ap (λ (u : ℕ). sizes_of (part_of (chamber number u) (limits_of x))) (sym c.if-units-eq0.true))

pub returns-clause-at_most_64 : goal.returns-clause-at_most_64
returns-clause-at_most_64 c =
    let x = c.args.x in
    let number = c.chamber.inside.number in
    let part = limits c.intersection.result c.intersection-2.result (get_or x.least number 0) (get_or x.greatest number 0) in
    subst (AtMost 64) (sym c.feasible_sizes.ensures) (part_at_most part (omega (arith, c.intersection-2.type_inv)))
