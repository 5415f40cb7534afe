-- `campaign::check::check_read` meets its contract.
use Rattle.std.proofs.Common.{◌≡◌, ◌≤◌, inl, inr, refl, map, sym, ap, ◌∙◌, ℕ, length, arith}
use Rattle.units.specs.Sets.{size}
use Rattle.units.proofs.Sets.{size_below}
use Rattle.chambers.specs.Chambers.{numbered, fits}
use Rattle.plans.specs.Plans.{is_feasible}
use Rattle.plans.specs.Switch.{total}
use Rattle.format.specs.Format.{limits_of}
use Rattle.format.specs.Reading.{steps_of}
use Rattle.promises.proofs.Read.{was_opened, start_is, many_steps}
use Rattle.campaign.proofs.Checking.{check_on, check_done}
use Rattle.campaign.proofs.Decoded.{units_dealt, few_dealt}
use Rattle.campaign.proofs.check.check_read.Goals.{After-into_iter-step-iterator, After-size-total}
use Rattle.campaign.proofs.check.check_read.Goals as goal

-- a step makes 64 switches at the most
few : (c : After-size-total) → c.size-total.result ≤ 64
few c = omega (arith, c.size-total.ensures, size_below 64 c.difference.result (omega (arith, c.difference.type_inv)))

pub deal-chambers-requires : goal.deal-chambers-requires
deal-chambers-requires c = few_dealt c.args.sheet.bytes.now c.args.sheet.passed

-- the steps and the sets that the loop goes over
over : (c : After-into_iter-step-iterator)
    → (c.into_iter-step-iterator.result.a ≡ steps_of c.args.sheet.bytes.now) × (c.into_iter-step-iterator.result.b.rest.now ≡ c.args.plan.now)
over c =
    let same = c.into_iter-step-iterator.ensures.into_iter_gives in
    (ap (λ z. z.a) same ∙ c.zip-step-items.ensures.first ∙ c.steps.ensures, ap (λ z. z.b.rest.now) same ∙ c.zip-step-items.ensures.second.0)

pub loop-step-init : goal.loop-step-init
loop-step-init c =
    let s = c.args.sheet.bytes.now in
    rw ((over c).0, (over c).1)
    (record { paired = many_steps s c.args.sheet.passed ∙ sym c.requires; tested = refl; counted = omega arith; small = omega arith })

pub overflow_add-total : goal.overflow_add-total
overflow_add-total c =
    let turn = c.in-Some.ensures.steps in
    omega (arith, few c, c.loop-step.invariant.small, ap length turn.1, c.requires, (was_opened c.args.sheet.bytes.now c.args.sheet.passed).few)

pub loop-step-preserved : goal.loop-step-preserved
loop-step-preserved c =
    let turn = c.in-Some.ensures.steps in
    let many = c.size-total.ensures ∙ ap size c.difference.ensures in
    rw (many, c.set_fits-feasible.ensures) (check_on c.loop-step.invariant turn.0 turn.1 (omega (arith, many, few c)))

pub returns : goal.returns
returns c =
    let s = c.args.sheet.bytes.now in
    let plan = c.args.plan.now in
    let rest : length c.loop-step.step-iterator.b.rest.now ≡ 0 =
    elim c.in-None.ensures.steps [ inl w ↦ omega (arith, c.loop-step.invariant.paired, ap length w.1.0) | inr w ↦ w.1.0 ] in
    let (tested, counted) = check_done c.loop-step.invariant rest in
    let dealt = c.deal-chambers.ensures ∙ units_dealt s c.args.sheet.passed in
    record {
      feasible_value =
          tested
          ∙ (λ i. is_feasible (fits (numbered 0 (dealt i))) (map limits_of ((over (goal.at.returns c).After-into_iter-step-iterator).0 i)) plan);
      total_value = counted ∙ ap (λ (x : ℕ). total x plan) (start_is s c.args.sheet.passed);
    }
