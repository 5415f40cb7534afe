-- What one unit more does to the switches of a step (`switches_insert`, `switches_from`) and to those of a plan
-- (`total_from`).
use mathlib.Core.Path.{◌≡◌, refl}
use mathlib.Core.List.{List, [], ◌∷◌}
use Prim.Native.Nat.{ℕ, ◌+◌, ◌-◌, ◌≤◌}
use native.Mathlib.Omega.{arith}
use Rattle.units.specs.Sets.{bit, difference, insert}
use Rattle.units.proofs.Sets.{bit_difference, bit_insert, bit_insert_other, bit_le, size_except}
use Rattle.plans.specs.Switch.{switches, total}

-- ---- switches

-- the switches from b to x and from c to y, where b and c, and x and y, differ in unit v alone
switches_except : (b c x y v : ℕ) → ((u : ℕ) → (u ≡ v → ⊥) → bit b u ≡ bit c u) → ((u : ℕ) → (u ≡ v → ⊥) → bit x u ≡ bit y u)
    → switches b x + (bit y v - bit c v) ≡ switches c y + (bit x v - bit b v)
unfolding switches
switches_except b c x y v p q =
    omega (
      arith,
      size_except (difference x b) (difference y c) v (λ u n. omega (arith, bit_difference x b u, bit_difference y c u, p u n, q u n)),
      bit_difference x b v,
      bit_difference y c v,
    )

-- a unit more costs a switch unless it was on before
pub switches_insert : (b x v : ℕ) → bit x v ≡ 0 → switches b (insert x v) + bit b v ≡ switches b x + 1
switches_insert b x v e =
    omega (arith, switches_except b b (insert x v) x v (λ u n. refl) (bit_insert_other x v), bit_insert x v, bit_le b v)

-- a unit more before spares a switch if it is to be on and was off
pub switches_from : (b x v : ℕ) → switches (insert b v) x + (bit x v - bit b v) ≡ switches b x
switches_from b x v = omega (arith, switches_except (insert b v) b x x v (bit_insert_other b v) (λ u n. refl), bit_insert b v, bit_le x v)

-- a unit more before and after changes nothing
pub switches_both : (b x v : ℕ) → bit x v ≡ 0 → switches (insert b v) (insert x v) ≡ switches b x
switches_both b x v e = omega (arith, switches_insert (insert b v) x v e, bit_insert b v, switches_from b x v)

-- ---- plans

-- a unit more before costs a plan nothing and spares it one switch at the most
pub total_from : (b v : ℕ) (P : List ℕ) → (total (insert b v) P ≤ total b P) × (total b P ≤ total (insert b v) P + 1)
unfolding total
total_from b v [] = omega arith
total_from b v (x ∷ P) = omega (arith, switches_from b x v, bit_le x v)
