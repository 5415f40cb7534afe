-- `writer::write` meets its contract: the refusal of a sheet that has not begun, or its records after its header.
use Rattle.std.proofs.Common.{ap, ◌∙◌, ◌-◌, length, drop, arith}
use Rattle.std.proofs.lemmas.List.{length-drop, length-take}
use Rattle.format.proofs.Told.{err_exit}
use Rattle.promises.specs.Replies.{bytes_reply}
use Rattle.writer.proofs.Beginning.{refused, within, room_left, records_put}
use Rattle.writer.proofs.write.Goals as goal

pub returns-in_err-length : goal.returns-in_err-length
returns-in_err-length c =
    ap (λ r. (bytes_reply r, c.begin_sheet.new.out)) (err_exit c.from_residual.result c.in_err-length.field-0.0 c.from_residual.ensures.1)
    ∙ refused _ _ _ _ _ c.begin_sheet.ensures c.in_err-length.was

pub slice_bounds-put_records-count : goal.slice_bounds-put_records-count
slice_bounds-put_records-count c = omega (arith, room_left _ _ _ _ _ c.begin_sheet.ensures c.in_ok-length.was)

pub slice_bounds-put_records-start : goal.slice_bounds-put_records-start
slice_bounds-put_records-start c = omega (arith, room_left _ _ _ _ _ c.begin_sheet.ensures c.in_ok-length.was)

pub put_records-requires-clause-few : goal.put_records-requires-clause-few
put_records-requires-clause-few c = (within _ _ _ _ _ c.begin_sheet.ensures c.in_ok-length.was).few

pub put_records-requires-clause-room : goal.put_records-requires-clause-room
put_records-requires-clause-room c =
    let new = c.begin_sheet.new.out in
    omega (arith, room_left _ _ _ _ _ c.begin_sheet.ensures c.in_ok-length.was, length-take (length new - 24) (drop 24 new), length-drop 24 new)

pub returns : goal.returns
returns c = rw c.put_records.ensures (records_put _ _ _ _ _ c.begin_sheet.ensures c.in_ok-length.was)
