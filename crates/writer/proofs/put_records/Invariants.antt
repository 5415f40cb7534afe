-- `writer::put_records`: the first i records stand in the output.
use Rattle.std.proofs.Common.{◌≡◌}
use Rattle.promises.specs.Common.{written}
use Rattle.writer.proofs.Sheets.{so_far}
use Rattle.writer.proofs.put_records.Given as goal

abbrev pub invariant-loop-i : goal.invariant-loop-i
invariant-loop-i l = l.out ≡ written (so_far l.steps l.i) l.fn.out
