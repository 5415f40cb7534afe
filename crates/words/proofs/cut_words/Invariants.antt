-- `words::cut_words` meets its contract. The loop's invariant is `Filling`.
use lib.ListN.{take}
use Rattle.chambers.specs.Parts.{cut}
use Rattle.words.proofs.Filling.{Filling}
use Rattle.words.proofs.cut_words.Given as goal

abbrev pub invariant-loop-i : goal.invariant-loop-i
invariant-loop-i l = Filling (cut l.units (take l.n l.from)) l.initial.to l.to l.i
