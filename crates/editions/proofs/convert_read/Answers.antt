-- `editions::convert_read` meets its contract: each way out passes the causes before its own.
use Rattle.std.proofs.Common.{◌≡◌, ◌<◌, ◌^◌, sym, ap, ap₂, ◌∙◌, ℕ, List, length, arith}
use Rattle.format.specs.declared.Summary.{Summary}
use Rattle.format.specs.Format.{sheet_length, is_first, records_of}
use Rattle.promises.specs.declared.Written.{Written}
use Rattle.promises.specs.Common.{full_written, wrote}
use Rattle.format.proofs.Records.{length_most}
use Rattle.promises.proofs.Converts.{converted_length, convert_outside, convert_short, convert_given}
use Rattle.promises.proofs.Read.{was_opened}
use Rattle.editions.proofs.convert_read.Goals.{After-sheet_length-length}
use Rattle.editions.proofs.convert_read.Goals as goal

pub returns-then-leaves_out : goal.returns-then-leaves_out
unfolding wrote
returns-then-leaves_out c =
    let out = c.args.out.now in
    rw c.at.ensures (ap (wrote out) (convert_outside c.args.first c.args.sheet.bytes.now (length out) c.args.sheet.passed (sym c.if-leaves_out.ensures)))

-- the converted sheet is at the most as long as the longest, and so is one with a record for each step alone
few_bytes : (c : After-sheet_length-length) → c.sheet_length-length.result < 2 ^ 32
few_bytes c =
    let x = c.args.sheet.summary in
    let o = was_opened c.args.sheet.bytes.now c.args.sheet.passed in
    omega (arith, c.sheet_length-length.ensures, length_most c.args.first x.header.records o.sound.few_records, length_most c.args.first x.steps o.few)

pub at-requires-then-out-length : goal.at-requires-then-out-length
at-requires-then-out-length c =
    omega (arith, few_bytes (goal.at.at-requires-then-out-length c).After-sheet_length-length, (was_opened c.args.sheet.bytes.now c.args.sheet.passed).sound.few_records)

pub returns-then-out-length : goal.returns-then-out-length
unfolding wrote
returns-then-out-length c =
    let out = c.args.out.now in
    rw (c.at-then-out-length.ensures, c.sheet_length-length.ensures)
    (ap (wrote out) (convert_short c.args.first c.args.sheet.bytes.now (length out) c.args.sheet.passed (sym c.if-leaves_out.ensures) (omega (arith, c.sheet_length-length.ensures))))

pub put_sheet-requires : goal.put_sheet-requires
put_sheet-requires c =
    let s = c.args.sheet.bytes.now in
    let o = was_opened s c.args.sheet.passed in
    let records : records_of s ≡ c.args.sheet.summary.header.records = ap (λ (y : Summary). y.header.records) o.summary in record {
      few = omega (arith, records, o.sound.few_records);
      whole = o.sound.whole ∙ ap (sheet_length (is_first s)) (sym records);
      room = omega (arith, c.sheet_length-length.ensures, ap (sheet_length c.args.first) records, c.if-out-length.false);
    }

pub overflow_cast-result : goal.overflow_cast-result
overflow_cast-result c = record { fits = few_bytes (goal.at.overflow_cast-result c).After-sheet_length-length }

pub returns : goal.returns
unfolding wrote
returns c =
    let s = c.args.sheet.bytes.now in
    let out = c.args.out.now in
    let first = c.args.first in
    let long = c.sheet_length-length.ensures in
    ap₂ {C = Written × List ℕ} (λ r l. (r, l)) (ap full_written (long ∙ sym (converted_length first s c.args.sheet.passed))) c.put_sheet.ensures
    ∙ ap (wrote out) (convert_given first s (length out) c.args.sheet.passed (sym c.if-leaves_out.ensures) (omega (arith, long)))
