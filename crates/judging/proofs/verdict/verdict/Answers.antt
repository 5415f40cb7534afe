-- `judging::verdict::verdict` meets its contract.
use Rattle.std.proofs.Common.{ℕ, List, sym, ap, ◌∙◌}
use Rattle.plans.specs.Switch.{total}
use Rattle.format.specs.Format.{start_of}
use Rattle.format.proofs.Told.{err_exit}
use Rattle.promises.specs.Common.{full_reply}
use Rattle.promises.specs.Replies.{verdict_reply}
use Rattle.promises.specs.Verdict.{accepts, judged, warm_verdict}
use Rattle.promises.proofs.Verdicts.{verdict_refused, verdict_misfit, verdict_given}
use Rattle.judging.proofs.verdict.verdict.Goals as goal

pub returns-in_err-sheet : goal.returns-in_err-sheet
unfolding warm_verdict judged
returns-in_err-sheet c =
    let a = c.args in
    ap verdict_reply (err_exit c.from_residual.result c.in_err-sheet.field-0.0 c.from_residual.ensures.1)
    ∙ ap judged (verdict_refused a.bytes.now a.plan.now (sym c.in_err-sheet.ensures.value))

pub returns-then-plan-many : goal.returns-then-plan-many
unfolding warm_verdict judged
returns-then-plan-many c =
    let a = c.args in
    ap judged (verdict_misfit a.bytes.now a.plan.now (sym c.in_ok-sheet.ensures.value) c.if-plan-many.true)

pub returns : goal.returns
unfolding warm_verdict judged
returns c =
    let a = c.args in
    c.judge.ensures
    ∙ ap (λ (s : List ℕ). full_reply (total (start_of s) a.plan.now) (accepts s a.plan.now)) c.in_ok-sheet.ensures.same_bytes
    ∙ ap judged (verdict_given a.bytes.now a.plan.now (sym c.in_ok-sheet.ensures.value) c.if-plan-many.false)
