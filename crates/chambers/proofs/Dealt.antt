-- Chambers that are dealt out in order have no common unit (`dealt_apart`), and from their first unit on all units, as
-- many as they have together (`dealt_all`): from unit 0 on, all units below d (`dealt_whole`).
use mathlib.Core.Path.{◌≡◌, sym, ap, ◌∙◌}
use mathlib.Core.List.{List, [], ◌∷◌}
use Prim.Native.Nat.{ℕ, ◌+◌, ◌-◌, ◌^◌, ◌≤◌}
use native.Mathlib.Nat.{add_assoc, add-zero}
use native.Mathlib.Omega.{arith}
use lib.Pow.{pow_mono, pow_pos}
use Rattle.units.specs.Sets.{bit, union, Subset}
use Rattle.units.proofs.Sets.{bit_difference, bit_empty, bit_le, bit_union, set_ext, subset_full}
use Rattle.chambers.specs.Chambers.{units_from, dealt, numbered, sum}
use Rattle.chambers.proofs.Parts.{all, Apart}

-- the units below k have those below j, where j is at the most k
full_mono : (j k : ℕ) → j ≤ k → Subset (2 ^ j - 1) (2 ^ k - 1)
full_mono j k h = subset_full k (2 ^ j - 1) (omega (arith, pow_mono h, pow_pos j))

-- the k units from `first` on, and the m units after them: they have none in common, and together they are the k + m
-- units from `first` on
module _ (first k m u : ℕ) where
  apart_from : bit (units_from first k) u + bit (units_from (first + k) m) u ≤ 1
  apart_from =
      omega (
        arith,
        bit_difference (2 ^ (first + k) - 1) (2 ^ first - 1) u,
        bit_difference (2 ^ (first + k + m) - 1) (2 ^ (first + k) - 1) u,
        full_mono first (first + k) (omega arith) u,
        full_mono (first + k) (first + k + m) (omega arith) u,
        bit_le (2 ^ (first + k + m) - 1) u,
      )

joined_from : (first k m : ℕ) → union (units_from first k) (units_from (first + k) m) ≡ units_from first (k + m)
joined_from first k m =
    set_ext (union (units_from first k) (units_from (first + k) m)) (units_from first (k + m))
    (λ u.
    omega (
      arith,
      bit_union (units_from first k) (units_from (first + k) m) u,
      bit_difference (2 ^ (first + k) - 1) (2 ^ first - 1) u,
      bit_difference (2 ^ (first + k + m) - 1) (2 ^ (first + k) - 1) u,
      bit_difference (2 ^ (first + (k + m)) - 1) (2 ^ first - 1) u,
      ap (λ (j : ℕ). bit (2 ^ j - 1) u) (add_assoc first k m),
      full_mono first (first + k) (omega arith) u,
      full_mono (first + k) (first + k + m) (omega arith) u,
      bit_le (2 ^ (first + k + m) - 1) u,
    ))

-- no units
pub none_from : (first : ℕ) → units_from first 0 ≡ 0
none_from first =
    set_ext (units_from first 0) 0
    (λ u. omega (arith, bit_difference (2 ^ (first + 0) - 1) (2 ^ first - 1) u, ap (λ (j : ℕ). bit (2 ^ j - 1) u) (add-zero first), bit_empty u))

-- the units from 0 on
pub first_units : (d : ℕ) → units_from 0 d ≡ 2 ^ d - 1
first_units d =
    let same : 0 + d ≡ d = omega arith in
    set_ext (units_from 0 d) (2 ^ d - 1)
    (λ u. omega (arith, bit_difference (2 ^ (0 + d) - 1) (2 ^ 0 - 1) u, ap (λ (j : ℕ). bit (2 ^ j - 1) u) same, bit_empty u))

-- all units that are dealt out
pub dealt_all : (number first : ℕ) (ks : List ℕ) → all (numbered number (dealt first ks)) ≡ units_from first (sum ks)
unfolding numbered dealt all sum
dealt_all number first [] = sym (none_from first)
dealt_all number first (k ∷ ks) = ap (union (units_from first k)) (dealt_all (number + 1) (first + k) ks) ∙ joined_from first k (sum ks)

-- and no chamber has a unit of another
pub dealt_apart : (number first : ℕ) (ks : List ℕ) → Apart (numbered number (dealt first ks))
unfolding numbered dealt
dealt_apart number first [] = tt
dealt_apart number first (k ∷ ks) = (
  λ u. omega (arith, ap (λ (x : ℕ). bit x u) (dealt_all (number + 1) (first + k) ks), apart_from first k (sum ks) u),
  dealt_apart (number + 1) (first + k) ks,
)

-- dealt from unit 0 on, they have all units below d, if d is how many they have together
pub dealt_whole : (d : ℕ) (ks : List ℕ) → sum ks ≡ d → all (numbered 0 (dealt 0 ks)) ≡ 2 ^ d - 1
dealt_whole d ks e = dealt_all 0 0 ks ∙ ap (units_from 0) e ∙ first_units d
