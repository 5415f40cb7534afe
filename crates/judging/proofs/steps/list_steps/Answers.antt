-- `judging::steps::list_steps` meets its contract: the reply is that of `steps_reply`, and the list is filled where it
-- is a sheet's.
use Rattle.std.proofs.Common.{◌≡◌, ℕ, List, Ok, refl, sym, ap, ap₂, ◌∙◌}
use Rattle.format.specs.declared.ChamberStep.{ChamberStep}
use Rattle.format.specs.declared.Summary.{Summary}
use Rattle.format.specs.Answer.{Answer, Given}
use Rattle.format.specs.Reading.{Campaign, steps_of, campaign_of}
use Rattle.format.specs.Stages.{summary_of}
use Rattle.format.proofs.Told.{err_exit}
use Rattle.promises.specs.Common.{written}
use Rattle.promises.specs.Replies.{summary_reply}
use Rattle.promises.specs.Steps.{steps_reply, steps_written, warm_steps}
use Rattle.promises.specs.declared.StepsReply.{StepsReply}
use Rattle.promises.proofs.Read.{was_opened}
use Rattle.judging.proofs.steps.list_steps.Goals as goal

-- the reply and the list, from the answer
abbrev both : List ChamberStep → Answer Campaign → StepsReply × List ChamberStep
both out a = (steps_reply a, steps_written a out)

pub returns-in_err-sheet : goal.returns-in_err-sheet
unfolding warm_steps steps_reply steps_written
returns-in_err-sheet c =
    let out = c.args.list.now in
    ap (λ r. (summary_reply r, out)) (err_exit c.from_residual.result c.in_err-sheet.field-0.0 c.from_residual.ensures.1)
    ∙ ap (both out) c.in_err-sheet.ensures.value

-- a reply with a sheet's summary
replied : (s : List ℕ) (x : Summary) → summary_of s ≡ x → summary_reply (Ok x) ≡ steps_reply (Given (campaign_of s))
unfolding steps_reply campaign_of
replied s x e = ap (λ (y : Summary). summary_reply (Ok y)) (sym e)

-- a list with a sheet's steps
listed : (s : List ℕ) (out : List ChamberStep) → written (steps_of s) out ≡ steps_written (Given (campaign_of s)) out
unfolding steps_written campaign_of
listed s out = refl

pub returns : goal.returns
unfolding warm_steps
returns c =
    let sheet = c.in_ok-sheet.sheet in
    let s = sheet.bytes.now in
    let out = c.args.list.now in
    ap₂ {C = StepsReply × List ChamberStep} (λ r l. (r, l)) (replied s _ (was_opened s sheet.passed).summary)
    (c.put_steps.ensures ∙ listed s out)
    ∙ ap (both out) c.in_ok-sheet.ensures.value
