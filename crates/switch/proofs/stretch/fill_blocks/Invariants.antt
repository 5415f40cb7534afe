-- `switch::stretch::fill_blocks` meets its contract. The loop's invariant is `Filled`: the blocks that were gone over
-- are there.
use mathlib.Core.Path.{◌≡◌}
use Rattle.std.specs.Iterator.Adapters.{enumerate_source, enumerate_count}
use Rattle.std.specs.Slice.Iter.{chunks_rest, chunks_size}
use Rattle.switch.specs.Stretches.{block_size}
use Rattle.switch.proofs.Joining.{Filled}
use Rattle.switch.proofs.stretch.fill_blocks.Given as goal

abbrev pub invariant-loop-q : goal.invariant-loop-q
invariant-loop-q l =
    let left = enumerate_source l.q-iterator in
    (chunks_size left ≡ block_size) × Filled l.steps l.blocks (enumerate_count l.q-iterator) (chunks_rest left)
