-- `judging::steps::steps_reply` meets its contract: each way out has passed the causes before its own.
use Rattle.std.proofs.Common.{sym, ap, ◌∙◌}
use Rattle.format.specs.Answer.{Given}
use Rattle.format.specs.Reading.{campaign_of}
use Rattle.format.proofs.Told.{told_of_exit}
use Rattle.promises.proofs.Steps.{answer_refused, answer_short, answer_given}
use Rattle.judging.proofs.steps.steps_reply.Goals as goal

pub returns-in_err-sheet-clause-value : goal.returns-in_err-sheet-clause-value
returns-in_err-sheet-clause-value c =
    told_of_exit c.from_residual.result c.in_err-sheet.field-0.0 c.from_residual.ensures.1 _
    ∙ answer_refused c.args.bytes.now c.args.places (sym c.in_err-sheet.ensures.value)

pub returns-then-places-many-clause-value : goal.returns-then-places-many-clause-value
returns-then-places-many-clause-value c =
    answer_short c.args.bytes.now c.args.places (sym c.in_ok-sheet.ensures.value) c.if-places-many.true

pub returns-clause-value : goal.returns-clause-value
returns-clause-value c =
    ap (λ s. Given (campaign_of s)) c.in_ok-sheet.ensures.same_bytes
    ∙ answer_given c.args.bytes.now c.args.places (sym c.in_ok-sheet.ensures.value) c.if-places-many.false
