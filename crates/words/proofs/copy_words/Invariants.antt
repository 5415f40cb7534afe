-- `words::copy_words` meets its contract. The loop's invariant is `Filling`.
use lib.ListN.{take}
use Rattle.words.proofs.Filling.{Filling}
use Rattle.words.proofs.copy_words.Given as goal

abbrev pub invariant-loop-i : goal.invariant-loop-i
invariant-loop-i l = Filling (take l.n l.from) l.initial.to l.to l.i
