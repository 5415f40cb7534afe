-- `next` of `sheet::iter::Steps` meets its contract.
use Rattle.std.proofs.Common.{◌≡◌, sym, ap, ap₂, ◌∙◌, ℕ, ◌-◌, ◌∷◌, rules}
use Rattle.format.specs.declared.ChamberStep.{ChamberStep}
use Rattle.format.specs.Chain.{steps_from}
use Rattle.format.specs.Format.{step_of}
use Rattle.sheet.proofs.Onward.{Onward, none_left, onward}
use Rattle.sheet.proofs.iter.StepsIterator.next.Goals.{Else-self-eq0, After-step}
use Rattle.sheet.proofs.iter.StepsIterator.next.Goals as goal

pub returns-then-self-eq0-clause-steps : goal.returns-then-self-eq0-clause-steps
returns-then-self-eq0-clause-steps c =
    let e = sym c.self.view_is ∙ none_left c.self.inside.records.bytes.now c.self.inside.at c.self.inside.left c.if-self-eq0.true in
    (e, e)

ahead : (c : Else-self-eq0) → Onward c.self.inside.records.bytes.now c.self.inside.at c.self.inside.left
ahead c = onward c.self.inside.records.bytes.now c.self.inside.at c.self.inside.left c.if-self-eq0.false c.self.invariant

pub follow-at-requires : goal.follow-at-requires
follow-at-requires c = record { within = (ahead (goal.at.follow-at-requires c).Else-self-eq0).here }

pub step-requires-clause-j_nonzero : goal.step-requires-clause-j_nonzero
step-requires-clause-j_nonzero c = rw c.follow-at.ensures.0 (ahead (goal.at.step-requires-clause-j_nonzero c).Else-self-eq0).some

pub step-requires-clause-within : goal.step-requires-clause-within
step-requires-clause-within c = rw c.follow-at.ensures.0 (ahead (goal.at.step-requires-clause-within c).Else-self-eq0).there

pub invariant_of-self : goal.invariant_of-self
invariant_of-self c = rw c.follow-at.ensures.0 (ahead (goal.at.invariant_of-self c).Else-self-eq0).others

-- the step that is taken, and those that are left
taken : (c : After-step)
    → c.args.self.now ≡ c.step.result ∷ steps_from c.self.inside.records.bytes.now c.follow-at.result (c.self.inside.left - 1)
taken c =
    let s = c.self.inside.records.bytes.now in
    let follows = c.follow-at.ensures.0 in
    sym c.self.view_is ∙ (ahead (goal.at.returns-clause-steps c).Else-self-eq0).steps
    ∙ sym (ap₂ (λ (x : ChamberStep) (j : ℕ). x ∷ steps_from s j (c.self.inside.left - 1)) (c.step.ensures ∙ ap (step_of s) follows) follows)

pub returns-clause-steps : goal.returns-clause-steps
returns-clause-steps c = taken c

pub returns-clause-goes : goal.returns-clause-goes
returns-clause-goes c = rw (taken c) (search rules)
