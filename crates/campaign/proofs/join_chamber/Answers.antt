-- `campaign::join_chamber` meets its contract: an empty chamber has nothing to join, and what is decoded of another
-- are its steps.
use Rattle.campaign.proofs.Decoded.{few_numbers, own_units, empty_plan, part_long, many_parts, few_parts, parts_satisfiable, decoded}
use Rattle.campaign.proofs.Planned.{none_added}
use Rattle.campaign.specs.Benches.{chamber_on}
use Rattle.chambers.specs.Chambers.{parts_of}
use Rattle.chambers.specs.Parts.{plan_of}
use Rattle.chambers.proofs.Joining.{joined_first}
use Rattle.format.specs.Format.{start_of}
use Rattle.plans.proofs.Sized.{sized_support}
use Rattle.plans.specs.Plans.{joined}
use Rattle.promises.proofs.Read.{start_is}
use Rattle.promises.specs.Common.{limits_on}
use Rattle.units.specs.Sets.{intersection}
use lib.ListN.{take}
use lib.Seq.{sets}
use mathlib.Core.Path.{sym, ap, ap₂, ◌∙◌}
use native.Mathlib.Omega.{arith}
use Rattle.campaign.proofs.join_chamber.Goals as goal

pub returns-then-units-eq0 : goal.returns-then-units-eq0
returns-then-units-eq0 c =
    let a = c.args in
    let p = c.requires in
    let s = a.sheet.bytes.now in
    let few = few_numbers c.chamber.view_is c.chamber.invariant in
    let none = sym (own_units s c.chamber.view_is p.chamber_of_sheet) ∙ c.if-units-eq0.true in
    let (words, many) = empty_plan s a.sheet.passed a.chamber.number few none in record {
      decoded_in = λ some. absurd (some none);
      out_after = none_added a.sheet.summary.steps a.out.now p.room_in_out ∙ ap (λ w. sets a.out.now 0 (joined w (take a.sheet.summary.steps a.out.now))) (sym words);
      value = sym many;
    }

pub plan-requires : goal.plan-requires
plan-requires c =
    let a = c.args in
    let p = c.requires in
    let s = a.sheet.bytes.now in
    let few = few_numbers c.chamber.view_is c.chamber.invariant in
    let is = decoded s a.sheet.passed a.chamber.number few p.chamber_of_sheet a.steps.now c.decode.ensures p.room_in_steps in record {
      few = rw is (few_parts s a.sheet.passed a.chamber.number few);
      satisfiable = rw is (parts_satisfiable s a.sheet.passed a.chamber.number few);
      room = rw is (omega (arith, many_parts s a.sheet.passed a.chamber.number few, p.room_in_out));
    }

pub returns : goal.returns
returns c =
    let a = c.args in
    let p = c.requires in
    let s = a.sheet.bytes.now in
    let few = few_numbers c.chamber.view_is c.chamber.invariant in
    let is = decoded s a.sheet.passed a.chamber.number few p.chamber_of_sheet a.steps.now c.decode.ensures p.room_in_steps in
    let begun = c.intersection.ensures ∙ ap₂ intersection (start_is s a.sheet.passed) (own_units s c.chamber.view_is p.chamber_of_sheet) in
    let made = rw (is, begun, sized_support (intersection (start_of s) (chamber_on s a.chamber.number).units) (parts_of (chamber_on s a.chamber.number) (limits_on s))) at c.plan.ensures in record {
      decoded_in = λ some. is;
      out_after = made.out_after ∙ ap (sets a.out.now 0) (joined_first (plan_of (chamber_on s a.chamber.number) (start_of s) (limits_on s)) a.out.now a.sheet.summary.steps (omega (arith, part_long s a.sheet.passed a.chamber.number few)));
      value = made.value;
    }
