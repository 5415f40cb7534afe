-- `sheet::decode::decode_by` meets its contract. The loop's invariant: the steps so far, with those that are left, are
-- all.
use Rattle.sheet.proofs.Filling.{Filling}
use Rattle.sheet.proofs.decode.decode_by.Given as goal

abbrev pub invariant-loop-i : goal.invariant-loop-i
invariant-loop-i l =
    Filling l.chamber l.n l.initial.i-iterator.iter l.i-iterator.iter l.fn.steps l.steps l.i-iterator.count
