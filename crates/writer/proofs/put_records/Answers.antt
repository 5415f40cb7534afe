-- `writer::put_records` meets its contract: one record is put after the other.
use Rattle.std.proofs.Common.{◌≡◌, refl, ◌+◌, ◌-◌, ◌*◌, get_or, ◌∙◌, length, arith}
use Rattle.format.specs.Writing.{record_bytes, records_after, link_in}
use Rattle.writer.proofs.Sheets.{no_step, record_put}
use Rattle.writer.proofs.put_records.Goals as goal

pub loop-i-init : goal.loop-i-init
unfolding records_after
loop-i-init c = refl

pub loop-i-preserved : goal.loop-i-preserved
loop-i-preserved c =
    let a = c.args in
    let i = c.loop-i.i in
    let n = length a.steps.now in
    let bytes : c.copy_from_slice.new.self ≡ record_bytes (get_or a.steps.now i no_step) (link_in (i + 1) n) = c.copy_from_slice.ensures.after ∙ c.record.ensures in
    rw (bytes, c.loop-i.invariant) (record_put a.steps.now i (24 * i + 24 - 24 * i) a.out.now c.loop-i-test.true (omega arith) (omega (arith, c.requires)))
