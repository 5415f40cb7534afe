-- `sheet::decode::decode_by` meets its contract.
use Rattle.std.proofs.Common.{◌≡◌, ap, ◌∙◌, refl, arith, List}
use Rattle.std.proofs.lemmas.List.Edits.{sets}
use Rattle.format.specs.declared.ChamberStep.{ChamberStep}
use Rattle.format.specs.Chain.{steps_from}
use Rattle.sheet.proofs.Filling.{asked, fill_on, fill_done}
use Rattle.sheet.proofs.Onward.{steps_long}
use Rattle.sheet.proofs.decode.decode_by.Goals.{After-into_iter-i-iterator}
use Rattle.sheet.proofs.decode.decode_by.Goals as goal

-- the steps that the loop goes over
over : (c : After-into_iter-i-iterator) → c.into_iter-i-iterator.result.iter ≡ steps_from c.args.records.bytes.now 0 c.args.n
over c = ap (λ it. it.iter) c.into_iter-i-iterator.ensures.into_iter_gives ∙ c.enumerate-i-items.ensures.source ∙ c.of.ensures

pub loop-i-init : goal.loop-i-init
loop-i-init c =
    let none = ap (λ it. it.count) c.into_iter-i-iterator.ensures.into_iter_gives ∙ c.enumerate-i-items.ensures.count in
    rw (over c, none) (record { many = omega (arith, steps_long c.args.records.bytes.now 0 c.args.n); same_long = refl; ends = refl })

pub loop-i-preserved : goal.loop-i-preserved
loop-i-preserved c =
    let turn = c.in-Some.ensures.steps in
    fill_on c.loop-i.invariant turn.0 c.sized_part.ensures turn.1 turn.2

pub returns : goal.returns
returns c =
    fill_done c.loop-i.invariant c.in-None.ensures.steps.0.0
    ∙ ap (λ (all : List ChamberStep). sets c.args.steps.now 0 (asked c.args.chamber all)) (over (goal.at.returns c).After-into_iter-i-iterator)
