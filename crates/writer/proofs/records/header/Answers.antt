-- `writer::records::header` meets its contract: each field is the bytes of its number, at its place.
use Rattle.std.proofs.Common.{◌≡◌, ◌∙◌}
use Rattle.format.specs.Numbers.{bytes_of}
use Rattle.format.specs.Writing.{header_bytes}
use Rattle.writer.proofs.Fields.{bytes_of_u16, bytes_of_u64}
use Rattle.writer.proofs.records.header.Goals as goal

pub returns : goal.returns
unfolding header_bytes bytes_of
returns c =
    let a = c.args in
    let letters = c.copy_from_slice.ensures.after in
    let records : c.copy_from_slice-2.new.self ≡ bytes_of 2 a.n = c.copy_from_slice-2.ensures.after ∙ c.to_le_bytes.ensures ∙ bytes_of_u16 a.n in
    let first : c.copy_from_slice-3.new.self ≡ bytes_of 2 c.link_in.result = c.copy_from_slice-3.ensures.after ∙ c.to_le_bytes-2.ensures ∙ bytes_of_u16 _ in
    let bound : c.copy_from_slice-4.new.self ≡ bytes_of 2 a.bound = c.copy_from_slice-4.ensures.after ∙ c.to_le_bytes-3.ensures ∙ bytes_of_u16 a.bound in
    let start : c.copy_from_slice-5.new.self ≡ bytes_of 8 a.start = c.copy_from_slice-5.ensures.after ∙ c.to_le_bytes-4.ensures ∙ bytes_of_u64 a.start in
    rw (letters, records, first, bound, start, c.link_in.ensures)
