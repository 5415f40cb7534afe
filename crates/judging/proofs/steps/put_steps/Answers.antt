-- `judging::steps::put_steps` meets its contract.
use Rattle.std.proofs.Common.{◌≡◌, ap, ◌∙◌, refl, arith, length}
use Rattle.std.proofs.lemmas.List.Edits.{sets}
use Rattle.plans.proofs.Laid.{sets_first}
use Rattle.format.specs.Reading.{steps_of}
use Rattle.promises.proofs.Read.{many_steps}
use Rattle.judging.proofs.Listing.{list_on, list_done}
use Rattle.judging.proofs.steps.put_steps.Goals.{After-into_iter-i-iterator}
use Rattle.judging.proofs.steps.put_steps.Goals as goal

-- the steps that the loop goes over
over : (c : After-into_iter-i-iterator) → c.into_iter-i-iterator.result.iter ≡ steps_of c.args.sheet.bytes.now
over c = ap (λ it. it.iter) c.into_iter-i-iterator.ensures.into_iter_gives ∙ c.enumerate-i-items.ensures.source ∙ c.steps.ensures

pub loop-i-init : goal.loop-i-init
loop-i-init c =
    let none = ap (λ it. it.count) c.into_iter-i-iterator.ensures.into_iter_gives ∙ c.enumerate-i-items.ensures.count in
    let s = c.args.sheet.bytes.now in
    rw none
    (record {
      many = omega arith;
      room = omega (arith, ap length (over c), many_steps s c.args.sheet.passed, c.requires);
      same_long = refl;
      ends = refl;
    })

pub loop-i-preserved : goal.loop-i-preserved
loop-i-preserved c =
    let turn = c.in-Some.ensures.steps in
    list_on c.loop-i.invariant turn.0 turn.1 turn.2

pub returns : goal.returns
returns c =
    let s = c.args.sheet.bytes.now in
    list_done c.loop-i.invariant c.in-None.ensures.steps.0.0
    ∙ ap (sets c.args.list.now 0) (over (goal.at.returns c).After-into_iter-i-iterator)
    ∙ sets_first (steps_of s) c.args.list.now (omega (arith, many_steps s c.args.sheet.passed, c.requires))
