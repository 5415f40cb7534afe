-- A table and its rule: one test over the whole table, and the law that its entry at k is then the rule's value at k.
use mathlib.Core.Path.{◌≡◌}
use mathlib.Core.Bool.{Bool, true, ◌&&◌, and-eq-true_iff}
use mathlib.Core.List.{List, [], ◌∷◌}
use Prim.Native.Nat.{ℕ, zero, suc, ◌<◌}
use native.Mathlib.Omega.{arith}
use lib.Dec.{eqb}
use lib.ListN.{length, get_or}
use borrow.Author.Tests.{eqb-true}

-- whether the entries of a table are the values of a rule at 0, 1, 2 and so on
abbrev pub follows : (ℕ → ℕ) → List ℕ → Bool
follows rule [] = true
follows rule (x ∷ xs) = eqb x (rule 0) && follows (λ k. rule (suc k)) xs

-- a table that passes the test has the rule's value at each place
pub entry_at : (rule : ℕ → ℕ) (xs : List ℕ) → follows rule xs ≡ true → (k : ℕ) → k < length xs → get_or xs k 0 ≡ rule k
entry_at rule [] t k h = absurd (omega (arith, h))
entry_at rule (x ∷ xs) t zero h = eqb-true x (rule 0) ((and-eq-true_iff (eqb x (rule 0)) _).0 t).0
entry_at rule (x ∷ xs) t (suc k) h = entry_at (λ j. rule (suc j)) xs ((and-eq-true_iff (eqb x (rule 0)) _).0 t).1 k (omega (arith, h))
