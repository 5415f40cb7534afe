-- `switch::plan::plan` meets its contract. The loop's invariant is `Planned`: the plan is joined to the first i
-- places, and with the plan from there on joined to the others it is joined to all; the switches so far, with those
-- still to come, are its total.
use mathlib.Core.Path.{◌≡◌, ap, ◌∙◌}
use Prim.Native.Nat.{◌≤◌}
use native.Mathlib.Omega.{arith}
use Rattle.units.specs.Sets.{size}
use Rattle.units.proofs.Sets.{size_below}
use Rattle.plans.specs.Steps.{step_at, ranking_at}
use Rattle.plans.specs.Support.{support_set}
use Rattle.plans.proofs.Laid.{steps_at}
use Rattle.switch.proofs.Planning.{plan_begun, plan_on_lem, plan_done}
use Rattle.switch.proofs.plan.plan.Goals.{After-size-total}
use Rattle.switch.proofs.plan.plan.Goals as goal

-- a step makes 64 switches at the most
few : (c : After-size-total) → c.size-total.result ≤ 64
few c = omega (arith, c.size-total.ensures, size_below 64 c.difference.result (omega (arith, c.difference.type_inv)))

pub loop-i-init : goal.loop-i-init
loop-i-init c = plan_begun c.args.steps.now c.args.start c.args.out.now

pub overflow_add-total : goal.overflow_add-total
overflow_add-total c = omega (arith, few c, c.loop-i.invariant.small, c.loop-i-test.true, c.requires.few)

pub loop-i-preserved : goal.loop-i-preserved
loop-i-preserved c =
    let l = c.loop-i in
    let ss = c.args.steps.now in
    let set = c.step_set-set.result in
    let is : set ≡ support_set (ranking_at ss l.i) (step_at ss l.i) l.before = c.step_set-set.ensures in
    let many = c.size-total.ensures ∙ ap size c.difference.ensures in
    rw (many, c.union.ensures)
    (plan_on_lem l.invariant set (steps_at ss l.i c.loop-i-test.true) is (omega (arith, many, few (goal.at.loop-i-preserved c).After-size-total)) (omega (arith, c.loop-i-test.true, c.requires.room)))

pub returns-clause-out_after : goal.returns-clause-out_after
returns-clause-out_after c = (plan_done c.loop-i.invariant (omega (arith, c.loop-i-test.false))).0

pub returns-clause-value : goal.returns-clause-value
returns-clause-value c = (plan_done c.loop-i.invariant (omega (arith, c.loop-i-test.false))).1
