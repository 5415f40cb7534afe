-- The loop's invariant: what is still to come before the block at hand, and the words of the steps from it on.
use Rattle.std.proofs.Common.{◌≡◌, ◌*◌, length, min}
use Rattle.forward.specs.Kept.{block_size}
use Rattle.chart.proofs.Backing.{Backed}
use Rattle.chart.proofs.scarce.scarce.Given as goal

abbrev pub invariant-loop-k : goal.invariant-loop-k
invariant-loop-k l =
    Backed l.run l.tight l.us 0 l.n (min l.n (block_size * l.k)) l.later l.initial.on l.on l.initial.off l.off
    × (length l.tables ≡ 17)
