-- `sheet::chain::walk_chain` meets its contract.
use mathlib.Core.Path.{◌≡◌, sym, ap, ◌∙◌}
use native.Mathlib.Omega.{arith}
use Rattle.sheet.specs.declared.chain.Walk.{Walk}
use Rattle.sheet.specs.Walking.{is_met, onto}
use Rattle.format.specs.Format.{next_of}
use Rattle.format.proofs.Chains.{met_room}
use Rattle.sheet.proofs.Walks.{started, ended, led_out, met_again, room, onward}
use Rattle.sheet.proofs.chain.walk_chain.Goals.{After-has_met}
use Rattle.sheet.proofs.chain.walk_chain.Goals as goal

pub walk-init : goal.walk-init
walk-init c = rw c.begin-walk.ensures (started c.args.records.bytes.now c.args.count)

pub overflow_cast-result : goal.overflow_cast-result
overflow_cast-result c = omega (arith, c.walk.invariant.counted, met_room c.walk.invariant.met)

pub returns-then-next-eq0 : goal.returns-then-next-eq0
returns-then-next-eq0 c = ended c.walk.invariant (sym c.follow-next.ensures.0 ∙ c.if-next-eq0.true)

pub returns-then-count-next : goal.returns-then-count-next
returns-then-count-next c =
    rw c.at.ensures (led_out c.walk.invariant (omega (arith, c.follow-next.ensures.0)) (omega (arith, c.follow-next.ensures.0)))

-- whether the next record was met
met : (c : After-has_met) → is_met c.walk.walk (next_of c.args.records.bytes.now c.walk.walk.at) ≡ c.has_met.result
met c = ap (is_met c.walk.walk) (sym c.follow-next.ensures.0) ∙ sym c.has_met.ensures

pub returns-then-has_met : goal.returns-then-has_met
returns-then-has_met c =
    rw c.at-then-has_met.ensures
    (met_again c.walk.invariant (omega (arith, c.follow-next.ensures.0)) (omega arith) (omega (arith, c.follow-next.ensures.0)) (met (goal.at.returns-then-has_met c).After-has_met ∙ c.if-has_met.true))

pub step_onto-walk-requires-clause-steps_lt_record_limit : goal.step_onto-walk-requires-clause-steps_lt_record_limit
step_onto-walk-requires-clause-steps_lt_record_limit c =
    omega (arith, room c.walk.invariant (omega (arith, c.follow-next.ensures.0)) (omega arith) (omega (arith, c.follow-next.ensures.0)) (met (goal.at.step_onto-walk-requires-clause-steps_lt_record_limit c).After-has_met ∙ c.if-has_met.false))

pub walk-smaller : goal.walk-smaller
unfolding onto
walk-smaller c =
    omega (arith, room c.walk.invariant (omega (arith, c.follow-next.ensures.0)) (omega arith) (omega (arith, c.follow-next.ensures.0)) (met (goal.at.walk-smaller c).After-has_met ∙ c.if-has_met.false), ap (λ (w : Walk). w.steps) c.step_onto-walk.ensures)

pub walk-preserved : goal.walk-preserved
walk-preserved c =
    rw (c.step_onto-walk.ensures ∙ ap (onto c.walk.walk) c.follow-next.ensures.0)
    (onward c.walk.invariant (omega (arith, c.follow-next.ensures.0)) (omega arith) (omega (arith, c.follow-next.ensures.0)) (met (goal.at.walk-preserved c).After-has_met ∙ c.if-has_met.false))
