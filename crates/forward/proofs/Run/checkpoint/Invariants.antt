-- The loop's invariant: the arrays are as long as they were, and the rows stand before each block up to the one at
-- hand.
use Rattle.std.proofs.Common.{◌≡◌, length}
use Rattle.forward.proofs.Blocks.{CheckpointsTo}
use Rattle.forward.proofs.Run.checkpoint.Given as goal

abbrev pub invariant-loop-k : goal.invariant-loop-k
invariant-loop-k l =
    (length l.tables ≡ 17) × (length l.checkpoints ≡ 16) × CheckpointsTo l.self l.k l.checkpoints
