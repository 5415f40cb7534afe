-- `sheet::chain::walk_chain` meets its contract. The loop's invariant is `Walked`: the state says what the definition
-- has met so far, and what the definition still has to look at is the whole chain. The measure is the number of
-- records not yet met, and one.
use Prim.Native.Nat.{suc, ◌-◌}
use Rattle.sheet.proofs.Walks.{Walked}
use Rattle.sheet.proofs.chain.walk_chain.Given as goal

abbrev pub invariant-walk : goal.invariant-walk
invariant-walk l = Walked l.records.bytes.now l.count l.walk

abbrev pub decreases-walk : goal.decreases-walk
decreases-walk l = suc l.count - l.walk.steps
