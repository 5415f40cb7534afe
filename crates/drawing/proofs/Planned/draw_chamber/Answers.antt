use Rattle.std.proofs.Common.{sym, ◌∙◌, true, false}
use Rattle.campaign.proofs.Decoded.{few_numbers, own_units, decoded}
use Rattle.drawing.proofs.Chambers.{none_drawn}
use Rattle.drawing.proofs.Planned.draw_chamber.Goals as goal

pub returns-then-chamber-eq0 : goal.returns-then-chamber-eq0
returns-then-chamber-eq0 c =
    let p = c.requires in
    let planned = c.args.self.now in
    let few = few_numbers c.chamber.view_is c.chamber.invariant in
    let none = sym (own_units planned.sheet.bytes.now c.chamber.view_is p.chamber_of_sheet) ∙ c.if-chamber-eq0.true in
    record {
      on_after = none_drawn planned.sheet.bytes.now planned.sheet.passed c.args.chamber.number few planned.slack true none c.args.on.now p.room_in_on;
      off_after = none_drawn planned.sheet.bytes.now planned.sheet.passed c.args.chamber.number few planned.slack false none c.args.off.now p.room_in_off;
    }

pub draw_decoded-requires-clause-decoded_in : goal.draw_decoded-requires-clause-decoded_in
draw_decoded-requires-clause-decoded_in c =
    let p = c.requires in
    let planned = c.args.self.now in
    λ some. decoded planned.sheet.bytes.now planned.sheet.passed c.args.chamber.number (few_numbers c.chamber.view_is c.chamber.invariant) p.chamber_of_sheet c.args.steps.now c.decode.ensures p.room_in_steps
