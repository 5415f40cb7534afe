-- `editions::remake::copy`: the first i bytes are copied.
use Rattle.std.proofs.Common.{◌≡◌, take, drop, ◌++◌}
use Rattle.editions.proofs.remake.copy.Given as goal

abbrev pub invariant-loop-i : goal.invariant-loop-i
invariant-loop-i l = l.out ≡ take l.i l.s ++ drop l.i l.fn.out
