-- `switch::pick::first_by_tie` meets its contract: the highest unit is the one that none goes before by the house
-- rule, and the lowest the one that goes before none. This proof, the law `tie_ordered` and the function itself are
-- all that depends on the rule.
use mathlib.Core.Path.{◌≡◌, sym, subst}
use mathlib.Core.Bool.{Bool, true, false}
use borrow.Author.Tests.{ltb-true}
use Rattle.plans.specs.Support.{tie_order, members, first_in}
use Rattle.plans.proofs.Chosen.{first_leads}
use Rattle.switch.specs.Toward.{toward}
use Rattle.switch.proofs.Picking.{tie_toward}
use Rattle.switch.proofs.pick.first_by_tie.Goals as goal

pub returns-then-last : goal.returns-then-last
returns-then-last c =
    let s = c.args.s in
    let u = c.lowest.result in
    subst (λ (t : Bool). u ≡ first_in (toward t tie_order) (members s)) (sym c.if-last.true)
    (first_leads (tie_toward true) s u (record { has = c.lowest.ensures.has; first = λ v e. c.lowest.ensures.first v (ltb-true v u e) }))

pub returns-else-last : goal.returns-else-last
returns-else-last c =
    let s = c.args.s in
    let u = c.highest.result in
    subst (λ (t : Bool). u ≡ first_in (toward t tie_order) (members s)) (sym c.if-last.false)
    (first_leads (tie_toward false) s u (record { has = c.highest.ensures.has; first = λ v e. c.highest.ensures.first v (ltb-true u v e) }))
