-- Rankings that differ in how high one unit stands, and what is compared under them: classes of units in a step, near
-- sets, and runs in which the unit has taken the place of another.
use mathlib.Core.Path.{◌≡◌}
use mathlib.Core.Logic.{◌⊎◌}
use mathlib.Core.Bool.{Bool, true}
use Prim.Native.Nat.{ℕ, ◌-◌, ◌≤◌}
use Rattle.units.specs.Sets.{bit, difference, insert, remove, size}
use Rattle.plans.specs.declared.Limits.{Limits}

-- the class of a unit in a step: 0 if it is required, 1 if it is free, 2 if it is forbidden
unfoldable pub class : Limits → ℕ → ℕ
class s u = 2 - bit s.lower u - bit s.upper u

-- unit u stands in the ranking r' as high as in r, or higher, and all others as they did
pub record Raised (u : ℕ) (r r' : ℕ → ℕ → Bool) : Type 0 where
  pub others : (v w : ℕ) → (v ≡ u → ⊥) → (w ≡ u → ⊥) → r v w ≡ r' v w
  pub up : (w : ℕ) → r u w ≡ true → r' u w ≡ true

-- each of two sets has one unit at the most that the other lacks
abbrev pub Near : ℕ → ℕ → Type 0
Near x y = (size (difference x y) ≤ 1) × (size (difference y x) ≤ 1)

-- p' has unit u in place of b: b ranks before u in r, and u before b in r'
pub record Swapped (r r' : ℕ → ℕ → Bool) (u p p' b : ℕ) : Type 0 where
  pub lacks : bit p u ≡ 0
  pub has : bit p b ≡ 1
  pub swapped : p' ≡ insert (remove p b) u
  pub first : r b u ≡ true
  pub then : r' u b ≡ true

-- two runs are at the same set, or the second has u in place of another unit
abbrev pub Led : (ℕ → ℕ → Bool) → (ℕ → ℕ → Bool) → ℕ → ℕ → ℕ → Type 0
Led r r' u p p' = (p' ≡ p) ⊎ ((b : ℕ) × Swapped r r' u p p' b)
