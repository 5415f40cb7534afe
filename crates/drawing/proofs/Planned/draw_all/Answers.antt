use Rattle.std.proofs.Common.{ap, ◌∙◌, true, false, ◌≤◌, arith}
use Rattle.campaign.proofs.Decoded.{units_dealt, few_dealt, own_chamber}
use Rattle.format.specs.Format.{chamber_count}
use Rattle.promises.proofs.Read.{bound_is}
use Rattle.promises.specs.Chart.{on_words, off_words}
use Rattle.drawing.proofs.Chambers.{drawn_begun, drawn_on, drawn_done}
use Rattle.drawing.proofs.Planned.draw_all.Goals as goal

pub deal-chambers-requires : goal.deal-chambers-requires
deal-chambers-requires c = few_dealt c.args.self.now.sheet.bytes.now c.args.self.now.sheet.passed

pub draw_decoded-requires-clause-chamber_of_sheet : goal.draw_decoded-requires-clause-chamber_of_sheet
draw_decoded-requires-clause-chamber_of_sheet c =
    let planned = c.args.self.now in
    own_chamber planned.sheet.bytes.now 0 (c.deal-chambers.ensures ∙ units_dealt planned.sheet.bytes.now planned.sheet.passed) c.at.ensures

pub draw_decoded-requires-clause-decoded_in : goal.draw_decoded-requires-clause-decoded_in
draw_decoded-requires-clause-decoded_in c = rw (ap (λ d. d.number) c.at.ensures) c.requires.decoded_in

pub loop-c-init : goal.loop-c-init
loop-c-init c =
    let s = c.args.self.now.sheet.bytes.now in
    let e = c.args.self.now.sheet.passed in
    let slack = c.args.self.now.slack in
    let drawn = rw (ap (λ d. d.number) c.at.ensures) at c.draw_decoded.ensures in
    let p = c.requires in (
      drawn_on s e true slack c.args.on.now p.room_in_on (drawn_begun s e true slack c.args.on.now p.room_in_on c.clear.ensures) (omega arith) drawn.on_after,
      drawn_on s e false slack c.args.off.now p.room_in_off (drawn_begun s e false slack c.args.off.now p.room_in_off c.clear-2.ensures) (omega arith) drawn.off_after,
    )

pub draw_chamber-requires-clause-chamber_of_sheet : goal.draw_chamber-requires-clause-chamber_of_sheet
draw_chamber-requires-clause-chamber_of_sheet c =
    let planned = c.args.self.now in
    own_chamber planned.sheet.bytes.now c.loop-c.c (c.deal-chambers.ensures ∙ units_dealt planned.sheet.bytes.now planned.sheet.passed) c.at-in-loop-c.ensures

pub loop-c-preserved : goal.loop-c-preserved
loop-c-preserved c =
    let s = c.args.self.now.sheet.bytes.now in
    let e = c.args.self.now.sheet.passed in
    let slack = c.args.self.now.slack in
    let drawn = rw (ap (λ d. d.number) c.at-in-loop-c.ensures) at c.draw_chamber.ensures in
    let all = c.loop-c.invariant in (
      drawn_on s e true slack c.args.on.now c.requires.room_in_on all.0 c.loop-c-test.true drawn.on_after,
      drawn_on s e false slack c.args.off.now c.requires.room_in_off all.1 c.loop-c-test.true drawn.off_after,
    )

pub returns : goal.returns
unfolding on_words off_words
returns c =
    let planned = c.args.self.now in
    let s = planned.sheet.bytes.now in
    let e = planned.sheet.passed in
    let last : chamber_count ≤ c.loop-c.c = omega (arith, c.loop-c-test.false) in
    let left = planned.left ∙ bound_is s e in
    let all = c.loop-c.invariant in record {
      on_after = drawn_done s e true planned.slack c.args.on.now c.requires.room_in_on all.0 last left;
      off_after = drawn_done s e false planned.slack c.args.off.now c.requires.room_in_off all.1 last left;
    }
