-- `editions::remake::put_remade`: the header and the first i records stand in the output, and the others are left.
use Rattle.std.proofs.Common.{◌≡◌, not}
use Rattle.std.specs.Slice.Iter.{chunks_exact_rest, chunks_exact_size}
use Rattle.format.specs.Format.{record_size, records_of}
use Rattle.editions.proofs.Remaking.{Remaking}
use Rattle.editions.proofs.remake.put_remade.Given as goal

abbrev pub invariant-loop-i : goal.invariant-loop-i
invariant-loop-i l =
    let items = l.i-iterator.iter in
    (chunks_exact_size items ≡ record_size (not l.first))
    × Remaking l.first l.s (records_of l.s) l.fn.out l.i-iterator.count (chunks_exact_rest items) l.out
