-- `sheet::steps::search_by` meets its contract.
use Rattle.std.proofs.Common.{◌≡◌, sym, ap, ap₂, ◌∙◌, List, refl, arith}
use Rattle.chambers.specs.Chambers.{dealt, numbered, chambers_of}
use Rattle.format.specs.declared.ChamberSizes.{ChamberSizes}
use Rattle.format.specs.declared.ChamberStep.{ChamberStep}
use Rattle.format.specs.Chain.{steps_from}
use Rattle.format.specs.Format.{sizes_list}
use Rattle.format.proofs.Told.{told_exit}
use Rattle.sheet.proofs.Onward.{steps_long}
use Rattle.sheet.proofs.Searches.{said, all_alone, all_sound, faulty, sound}
use Rattle.sheet.proofs.steps.search_by.Goals.{After-into_iter-i-iterator}
use Rattle.sheet.proofs.steps.search_by.Goals as goal

-- the steps that the loop goes over
over : (c : After-into_iter-i-iterator) → c.into_iter-i-iterator.result.iter ≡ steps_from c.args.records.bytes.now 0 c.args.x.steps
over c = ap (λ it. it.iter) c.into_iter-i-iterator.ensures.into_iter_gives ∙ c.enumerate-i-items.ensures.source ∙ c.of.ensures

-- what they say, by the chambers that were dealt out
all_said : (c : After-into_iter-i-iterator)
    → said (numbered 0 c.deal-chambers.result.units) c.args.x.header.units 1 c.into_iter-i-iterator.result.iter
    ≡ said (chambers_of (sizes_list c.args.x.header.sizes)) c.args.x.header.units 1 (steps_from c.args.records.bytes.now 0 c.args.x.steps)
all_said c =
    ap₂ (λ us (all : List ChamberStep). said (numbered 0 us) c.args.x.header.units 1 all) c.deal-chambers.ensures (over c)

pub loop-i-init : goal.loop-i-init
loop-i-init c =
    let s = c.args.records.bytes.now in
    let us = c.deal-chambers.ensures ∙ ap (λ (z : ChamberSizes). dealt 0 (sizes_list z)) c.requires.sizes_value in
    let none = ap (λ it. it.count) c.into_iter-i-iterator.ensures.into_iter_gives ∙ c.enumerate-i-items.ensures.count in
    rw (over c, none)
    (record {
      many = omega (arith, steps_long s 0 c.args.x.steps);
      alone = λ e. all_alone s 0 c.args.x.steps us (sym c.args.records.edition ∙ e);
      decides = refl;
    })

pub returns-in_err-check_step : goal.returns-in_err-check_step
returns-in_err-check_step c =
    let turn = c.in-Some.ensures.steps in
    told_exit c.from_residual.result c.in_err-check_step.field-0.0 c.from_residual.ensures.1
    ∙ faulty c.loop-i.invariant turn.0 (rw (← turn.1) c.in_err-check_step.ensures)
    ∙ all_said (goal.at.returns-in_err-check_step c).After-into_iter-i-iterator

pub loop-i-preserved : goal.loop-i-preserved
loop-i-preserved c =
    let turn = c.in-Some.ensures.steps in
    sound c.loop-i.invariant turn.0 (rw (← turn.1) c.in_ok-check_step.ensures) turn.2

pub returns : goal.returns
returns c =
    all_sound c.loop-i.invariant c.in-None.ensures.steps.0.0 ∙ all_said (goal.at.returns c).After-into_iter-i-iterator
