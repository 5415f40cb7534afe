use Rattle.std.proofs.Common.{◌≡◌, ◌≤◌, sym, ap, ap₂, ◌∙◌, true, false, length, take, arith}
use Rattle.std.proofs.Math.Seq.{sets}
use Rattle.units.specs.Sets.{intersection}
use Rattle.campaign.specs.Benches.{chamber_on, plan_on}
use Rattle.campaign.proofs.Decoded.{few_numbers, own_units, many_parts, few_parts, part_long}
use Rattle.promises.specs.Common.{sized_in}
use Rattle.promises.proofs.Read.{start_is, was_opened}
use Rattle.drawing.proofs.Chambers.{lent_part, drawn_words, none_drawn}
use Rattle.drawing.proofs.Planned.draw_decoded.Goals.{After-intersection}
use Rattle.drawing.proofs.Planned.draw_decoded.Goals as goal

pub returns-then-units-eq0 : goal.returns-then-units-eq0
returns-then-units-eq0 c =
    let p = c.requires in
    let planned = c.args.self.now in
    let few = few_numbers c.chamber.view_is c.chamber.invariant in
    let none = sym (own_units planned.sheet.bytes.now c.chamber.view_is p.chamber_of_sheet) ∙ c.if-units-eq0.true in
    record {
      on_after = none_drawn planned.sheet.bytes.now planned.sheet.passed c.args.chamber.number few planned.slack true none c.args.on.now p.room_in_on;
      off_after = none_drawn planned.sheet.bytes.now planned.sheet.passed c.args.chamber.number few planned.slack false none c.args.off.now p.room_in_off;
    }

pub cut_words-requires-clause-room_in_to : goal.cut_words-requires-clause-room_in_to
cut_words-requires-clause-room_in_to c = omega (arith, (was_opened c.args.self.now.sheet.bytes.now c.args.self.now.sheet.passed).few)

pub shared_ref_as_front-run : goal.shared_ref_as_front-run
shared_ref_as_front-run c = omega (arith, (was_opened c.args.self.now.sheet.bytes.now c.args.self.now.sheet.passed).few)

-- the first places of `steps` have the chamber's steps, and those of `part` its plan
steps-lent : (c : After-intersection)
    → take c.args.self.now.sheet.summary.steps c.args.steps.now ≡ sized_in c.args.self.now.sheet.bytes.now (chamber_on c.args.self.now.sheet.bytes.now c.args.chamber.number)
steps-lent c = c.requires.decoded_in (λ none. c.if-units-eq0.false (own_units c.args.self.now.sheet.bytes.now c.chamber.view_is c.requires.chamber_of_sheet ∙ none))

plan-lent : (c : After-intersection) → take c.args.self.now.sheet.summary.steps c.cut_words.new.to ≡ plan_on c.args.self.now.sheet.bytes.now c.args.chamber.number
plan-lent c =
    let planned = c.args.self.now in
    let few = (was_opened planned.sheet.bytes.now planned.sheet.passed).few in
    lent_part planned.sheet.bytes.now planned.sheet.passed c.args.chamber.number (few_numbers c.chamber.view_is c.chamber.invariant) c.chamber.inside.units (own_units planned.sheet.bytes.now c.chamber.view_is c.requires.chamber_of_sheet) planned.plan.now
    c.args.part.now c.cut_words.new.to planned.whole c.cut_words.ensures (omega (arith, few, c.told-part))

pub invariant_of-run-clause-planned : goal.invariant_of-run-clause-planned
invariant_of-run-clause-planned c =
    let planned = c.args.self.now in
    let s = planned.sheet.bytes.now in
    let long : length (take planned.sheet.summary.steps c.cut_words.new.to) ≡ length (take planned.sheet.summary.steps c.args.steps.now) =
    ap length (plan-lent c) ∙ part_long s planned.sheet.passed c.args.chamber.number (few_numbers c.chamber.view_is c.chamber.invariant)
    ∙ sym (many_parts s planned.sheet.passed c.args.chamber.number (few_numbers c.chamber.view_is c.chamber.invariant)) ∙ sym (ap length (steps-lent c)) in
    long

pub invariant_of-run-clause-few : goal.invariant_of-run-clause-few
invariant_of-run-clause-few c =
    let planned = c.args.self.now in
    let few : length (take planned.sheet.summary.steps c.args.steps.now) ≤ 256 =
    rw (steps-lent c) (few_parts planned.sheet.bytes.now planned.sheet.passed c.args.chamber.number (few_numbers c.chamber.view_is c.chamber.invariant)) in
    few

pub returns : goal.returns
returns c =
    let p = c.requires in
    let planned = c.args.self.now in
    let s = planned.sheet.bytes.now in
    let e = planned.sheet.passed in
    let here = (goal.at.returns c).After-intersection in
    let few = few_numbers c.chamber.view_is c.chamber.invariant in
    let units = own_units s c.chamber.view_is p.chamber_of_sheet in
    let begun = c.intersection.ensures ∙ ap₂ intersection (start_is s e) units in
    let drawn =
    rw (steps-lent here, plan-lent here, begun, units, many_parts s e c.args.chamber.number few) at c.draw_chart.ensures in record {
      on_after = drawn.on_after ∙ ap (sets c.args.on.now 0) (drawn_words s e c.args.chamber.number few planned.slack true c.args.on.now p.room_in_on);
      off_after = drawn.off_after ∙ ap (sets c.args.off.now 0) (drawn_words s e c.args.chamber.number few planned.slack false c.args.off.now p.room_in_off);
    }
