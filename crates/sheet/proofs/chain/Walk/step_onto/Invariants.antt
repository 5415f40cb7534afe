-- `sheet::chain::Walk::step_onto` meets its contract. The code writes all four words, and the definition one: up to
-- that word the marks are as they were, and from then on they are those that are wanted.
use Rattle.std.proofs.Common.{◌≡◌, ◌≤◌, ◌<◌, get_or, set}
use Rattle.units.specs.Sets.{insert}
use Rattle.sheet.proofs.chain.Walk.step_onto.Given as goal

abbrev pub invariant-loop-k : goal.invariant-loop-k
invariant-loop-k l =
    (l.k ≤ l.word → l.marks ≡ l.initial.marks) × (l.word < l.k → l.marks ≡ set l.initial.marks l.word (insert (get_or l.initial.marks l.word 0) l.bit))
