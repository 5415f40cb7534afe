-- `writer::records::record` meets its contract: each field is the bytes of its number, at its place.
use Rattle.std.proofs.Common.{◌≡◌, ◌∙◌}
use Rattle.format.specs.Numbers.{bytes_of}
use Rattle.format.specs.Writing.{record_bytes}
use Rattle.writer.proofs.Fields.{bytes_of_u16, bytes_of_u32, bytes_of_u64}
use Rattle.writer.proofs.records.record.Goals as goal

pub returns : goal.returns
unfolding record_bytes bytes_of
returns c =
    let x = c.args.x in
    let lower : c.copy_from_slice.new.self ≡ bytes_of 8 x.lower = c.copy_from_slice.ensures.after ∙ c.to_le_bytes.ensures ∙ bytes_of_u64 x.lower in
    let upper : c.copy_from_slice-2.new.self ≡ bytes_of 8 x.upper = c.copy_from_slice-2.ensures.after ∙ c.to_le_bytes-2.ensures ∙ bytes_of_u64 x.upper in
    let next : c.copy_from_slice-3.new.self ≡ bytes_of 2 c.link_in.result = c.copy_from_slice-3.ensures.after ∙ c.to_le_bytes-3.ensures ∙ bytes_of_u16 _ in
    let tag : c.copy_from_slice-4.new.self ≡ bytes_of 4 x.tag = c.copy_from_slice-4.ensures.after ∙ c.to_le_bytes-4.ensures ∙ bytes_of_u32 x.tag in
    rw (lower, upper, next, tag, c.link_in.ensures)
