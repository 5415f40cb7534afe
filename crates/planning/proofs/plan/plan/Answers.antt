-- `planning::plan::plan` meets its contract.
use Rattle.std.proofs.Common.{sym, ap, ◌∙◌, length}
use Rattle.format.specs.Answer.{Given, unless}
use Rattle.format.specs.Format.{start_of}
use Rattle.format.proofs.Told.{err_exit}
use Rattle.promises.specs.Plan.{support_on, bound_causes, planned, warm_plan}
use Rattle.promises.specs.Replies.{plan_reply}
use Rattle.promises.proofs.Plans.{plan_refused, plan_short, plan_open}
use Rattle.planning.proofs.plan.plan.Goals as goal

pub returns-in_err-sheet : goal.returns-in_err-sheet
unfolding warm_plan planned
returns-in_err-sheet c =
    let s = c.args.bytes.now in
    let out = c.args.plan.now in
    ap (λ r. (plan_reply r, out)) (err_exit c.from_residual.result c.in_err-sheet.field-0.0 c.from_residual.ensures.1)
    ∙ ap (planned (start_of s) out) (plan_refused s (length out) (sym c.in_err-sheet.ensures.value))

pub returns-then-plan-many : goal.returns-then-plan-many
unfolding warm_plan planned
returns-then-plan-many c =
    let s = c.args.bytes.now in
    let out = c.args.plan.now in
    ap (planned (start_of s) out) (plan_short s (length out) (sym c.in_ok-sheet.ensures.value) c.if-plan-many.true)

pub hand_out-requires : goal.hand_out-requires
hand_out-requires c = c.if-plan-many.false

pub returns : goal.returns
unfolding warm_plan planned
returns c =
    let s = c.args.bytes.now in
    let out = c.args.plan.now in
    c.hand_out.ensures
    ∙ ap (λ t. planned (start_of t) out (unless (bound_causes t) (Given (support_on t)))) c.in_ok-sheet.ensures.same_bytes
    ∙ ap (planned (start_of s) out) (plan_open s (length out) (sym c.in_ok-sheet.ensures.value) c.if-plan-many.false)
