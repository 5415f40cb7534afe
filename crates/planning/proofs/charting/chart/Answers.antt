-- `planning::charting::chart` meets its contract.
use Rattle.std.proofs.Common.{ℕ, List, sym, ap, ◌∙◌, min, length, arith}
use Rattle.format.specs.Answer.{Answer, Given, unless}
use Rattle.format.specs.Format.{start_of}
use Rattle.format.proofs.Told.{err_exit}
use Rattle.promises.specs.declared.Reply.{Reply}
use Rattle.promises.specs.Chart.{on_words, off_words, charted, warm_chart}
use Rattle.promises.specs.Plan.{support_on, bound_causes}
use Rattle.promises.specs.Replies.{plan_reply}
use Rattle.promises.proofs.Plans.{plan_refused, plan_short, plan_open}
use Rattle.planning.proofs.charting.chart.Goals as goal

-- the reply and the outputs, from the answer
abbrev both : List ℕ → List ℕ → List ℕ → Answer (List ℕ) → Reply × (List ℕ × List ℕ)
both s on off a = charted (start_of s) (on_words s) (off_words s) on off a

pub returns-in_err-sheet : goal.returns-in_err-sheet
unfolding warm_chart charted
returns-in_err-sheet c =
    let s = c.args.bytes.now in
    let on = c.args.on.now in
    let off = c.args.off.now in
    ap (λ r. (plan_reply r, (on, off))) (err_exit c.from_residual.result c.in_err-sheet.field-0.0 c.from_residual.ensures.1)
    ∙ ap (both s on off) (plan_refused s (min (length on) (length off)) (sym c.in_err-sheet.ensures.value))

pub returns-then-min-many : goal.returns-then-min-many
unfolding warm_chart charted
returns-then-min-many c =
    let s = c.args.bytes.now in
    let on = c.args.on.now in
    let off = c.args.off.now in
    ap (both s on off) (plan_short s (min (length on) (length off)) (sym c.in_ok-sheet.ensures.value) (omega (arith, c.min.ensures, c.if-min-many.true)))

pub returns : goal.returns
unfolding warm_chart charted
returns c =
    let s = c.args.bytes.now in
    let on = c.args.on.now in
    let off = c.args.off.now in
    c.chart_read.ensures
    ∙ ap (λ t. both t on off (unless (bound_causes t) (Given (support_on t)))) c.in_ok-sheet.ensures.same_bytes
    ∙ ap (both s on off) (plan_open s (min (length on) (length off)) (sym c.in_ok-sheet.ensures.value) (omega (arith, c.min.ensures, c.if-min-many.false)))
