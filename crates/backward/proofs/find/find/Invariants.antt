-- `backward::find::find` meets its contract. The loop's invariant is `Finding`, whatever the rows and the test are.
use mathlib.Core.Path.{◌≡◌}
use mathlib.Core.Bool.{Bool}
use Prim.Native.Nat.{ℕ, ◌<◌}
use Rattle.tables.specs.Tables.{row_count}
use Rattle.backward.proofs.Finding.{Finding}
use Rattle.backward.proofs.find.find.Given as goal

abbrev pub invariant-loop-b : goal.invariant-loop-b
invariant-loop-b g l =
    (rows : ℕ → ℕ) (test : ℕ → Bool) → ((b : ℕ) (r : ℕ × Bool) → b < row_count → goal.F-post g l.look b r → r ≡ (rows b, test b))
    → Finding rows test l.set l.joined l.passed l.b-iterator
