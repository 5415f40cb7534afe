-- Where the bound leaves two switches or more to spare, a unit can be on, or off, in a step exactly if the step allows
-- a set that has it so (`slack`). For then the step allows a set that has it so and differs from the step's set in
-- FindSupport's plan by one unit more and one unit less at the most (`nearby`), and so costs two switches more at the
-- most (`total_set`).
use mathlib.Core.Path.{◌≡◌, refl}
use mathlib.Core.Logic.{◌⊎◌, inl, inr, ◌↔◌}
use mathlib.Core.Bool.{Bool, true, false}
use mathlib.Core.List.{List, [], ◌∷◌}
use Prim.Native.Nat.{ℕ, zero, suc, ◌+◌, ◌≤◌, ◌<◌}
use native.Mathlib.Decide.{dec_lt}
use native.Mathlib.Omega.{arith}
use lib.ListN.{length, get_or, set}
use lib.Seq.{get_or-set_same}
use Rattle.units.specs.Sets.{bit, intersection, difference, Subset, insert, remove, size}
use Rattle.units.proofs.Sets.{bit_le, bit_cases, bit_intersection, bit_difference, bit_insert, bit_remove, subset_insert, remove_subset, size_difference, size_split, size_mono, size_insert, size_remove, other_unit}
use Rattle.plans.specs.declared.Limits.{Limits}
use Rattle.plans.specs.Switch.{Allows, FeasiblePlan, switches, total, Satisfiable}
use Rattle.plans.specs.Support.{find_support}
use Rattle.plans.proofs.AllPlans.{Shows, SomePlan, plan_length, allows_at}
use Rattle.plans.proofs.Greedy.{plan_greedy}
use Rattle.plans.proofs.Optimal.{optimal}
use Rattle.plans.proofs.Orders.{tie_ordered}
use Rattle.tables.proofs.Changed.{lacks_old, allows_more, allows_less, allows_swap}

-- ---- a plan with another set in one step

-- by way of another set there are no fewer switches
switches_triangle : (a b c : ℕ) → switches a c ≤ switches a b + switches b c
unfolding switches
switches_triangle a b c =
    omega (
      arith,
      size_split (difference c a) b,
      size_mono (intersection (difference c a) b) (difference b a)
          (λ u. omega (arith, bit_intersection (difference c a) b u, bit_difference c a u, bit_difference b a u, bit_le c u)),
      size_mono (difference (difference c a) b) (difference c b)
          (λ u. omega (arith, bit_difference (difference c a) b u, bit_difference c a u, bit_difference c b u)),
    )

-- from y in place of x a plan makes at the most the switches from y to x more
total_from_other : (x y : ℕ) (p : List ℕ) → total y p ≤ total x p + switches y x
unfolding total
total_from_other x y [] = omega arith
total_from_other x y (z ∷ p) = omega (arith, switches_triangle y x z)

-- with y for its set in step i it makes at the most the switches between the two sets more
total_set : (start : ℕ) (p : List ℕ) (i y : ℕ) → total start (set p i y) ≤ total start p + (switches (get_or p i 0) y + switches y (get_or p i 0))
unfolding total
total_set start [] i y = omega arith
total_set start (x ∷ p) zero y = omega (arith, switches_triangle start x y, total_from_other x y p)
total_set start (x ∷ p) (suc i) y = omega (arith, total_set x p i y)

-- and it is feasible still, if the step allows y
feasible_set : (ss : List Limits) (p : List ℕ) (i : ℕ) (s₀ : Limits) (y : ℕ) → FeasiblePlan ss p → Allows (get_or ss i s₀) y → FeasiblePlan ss (set p i y)
feasible_set [] [] i s₀ y f a = tt
feasible_set [] (x ∷ p) i s₀ y f a = absurd f
feasible_set (s ∷ ss) [] i s₀ y f a = absurd f
feasible_set (s ∷ ss) (x ∷ p) zero s₀ y f a = (a, f.1)
feasible_set (s ∷ ss) (x ∷ p) (suc i) s₀ y f a = (f.0, feasible_set ss p i s₀ y f.1 a)

-- ---- a set nearby

-- between two sets that each have all units of r, and one more at the most, there are two switches at the most
close_over : (r x y : ℕ) → Subset r x → Subset r y → size x ≤ size r + 1 → size y ≤ size r + 1 → switches x y + switches y x ≤ 2
unfolding switches
close_over r x y p q m n = omega (arith, one x y p q n, one y x q p m)
  where
    one : (x y : ℕ) → Subset r x → Subset r y → size y ≤ size r + 1 → switches x y ≤ 1
    one x y p q n =
        omega (
          arith,
          size_difference y r q,
          size_mono (difference y x) (difference y r) (λ u. omega (arith, bit_difference y x u, bit_difference y r u, p u)),
        )

module _ (s : Limits) (p x : ℕ) (a : Allows s p) (b : Allows s x) where
  -- the step allows y, and between p and y there are two switches at the most
  abbrev Nearby : ℕ → Type 0
  Nearby y = Allows s y × (switches p y + switches y p ≤ 2)

  -- p itself
  stay : Nearby p
  stay = (a, close_over p p p (λ v. omega arith) (λ v. omega arith) (omega arith) (omega arith))

  -- a unit v of x joins p
  join : (v : ℕ) → bit p v ≡ 0 → bit x v ≡ 1 → size p < s.greatest → Nearby (insert p v)
  join v pv xv h = (
    allows_more s p a v pv (omega (arith, b.within v, bit_le s.upper v)) h,
    close_over p p (insert p v) (λ w. omega arith) (subset_insert p v) (omega arith) (omega (arith, size_insert p v pv)),
  )

  -- a unit w that x lacks leaves p
  leave : (w : ℕ) → bit p w ≡ 1 → bit x w ≡ 0 → s.least < size p → Nearby (remove p w)
  leave w pw xw h = (
    allows_less s p a w pw (omega (arith, b.includes w)) h,
    close_over (remove p w) p (remove p w) (remove_subset p w) (λ v. omega arith) (omega (arith, size_remove p w pw)) (omega arith),
  )

  -- the one takes the place of the other
  swap : (v w : ℕ) → bit p v ≡ 0 → bit x v ≡ 1 → bit p w ≡ 1 → bit x w ≡ 0 → Nearby (insert (remove p w) v)
  swap v w pv xv pw xw =
      let r = remove p w in (
        allows_swap s p a w v pw pv (omega (arith, b.includes w)) (omega (arith, b.within v, bit_le s.upper v)),
        close_over r p (insert r v) (remove_subset p w) (subset_insert r v) (omega (arith, size_remove p w pw))
            (omega (arith, size_insert r v (omega (arith, remove_subset p w v)))),
      )

  -- There is a set nearby with unit u on, or off, if x has it so. Where p has it otherwise, u joins p or leaves it;
  -- and if p has the greatest number, or the least, u takes the place of a unit that x lacks, or a unit of x that p
  -- lacks takes its place.
  nearby : (on : Bool) (u : ℕ) → Shows on u x → (y : ℕ) × (Nearby y × Shows on u y)
  nearby true u xu = go (bit_cases p u) (dec_lt (size p) s.greatest)
    where
      go : (bit p u ≡ 0) ⊎ (bit p u ≡ 1) → Dec (size p < s.greatest) → (y : ℕ) × (Nearby y × (bit y u ≡ 1))
      go (inr pu) d = (p, (stay, pu))
      go (inl pu) (yes h) = (insert p u, (join u pu xu h, bit_insert p u))
      go (inl pu) (no n) =
          let (w, (pw, xw)) = other_unit x p u xu pu (omega arith) in
          (insert (remove p w) u, (swap u w pu xu pw xw, bit_insert (remove p w) u))
  nearby false u xu = go (bit_cases p u) (dec_lt s.least (size p))
    where
      go : (bit p u ≡ 0) ⊎ (bit p u ≡ 1) → Dec (s.least < size p) → (y : ℕ) × (Nearby y × (bit y u ≡ 0))
      go (inl pu) d = (p, (stay, pu))
      go (inr pu) (yes h) = (remove p u, (leave u pu xu h, bit_remove p u))
      go (inr pu) (no n) =
          let (v, (xv, pv)) = other_unit p x u pu xu (omega arith) in
          (insert (remove p u) v, (swap v u pv xv pu xu, lacks_old p (insert (remove p u) v) u v pu pv refl))

-- ---- the plans

-- with two switches to spare, a unit can be on, or off, in step i exactly if the step allows a set in which it is
pub slack : (on : Bool) (u : ℕ) (s₀ : Limits) (bound start : ℕ) (ss : List Limits) (i : ℕ) → i < length ss → Satisfiable ss
    → total start (find_support start ss) + 2 ≤ bound
    → SomePlan bound start ss i (Shows on u) ↔ ((x : ℕ) × (Allows (get_or ss i s₀) x × Shows on u x))
slack on u s₀ bound start ss i l f h = (
  λ (p, (g, (k, e))). (get_or p i 0, (allows_at ss p i s₀ l g, e)),
  λ (x, (b, e)).
      let p = find_support start ss in
      let g = (optimal start ss p (plan_greedy (λ k. tie_ordered) start ss f)).0 in
      let (y, ((c, n), o)) = nearby (get_or ss i s₀) (get_or p i 0) x (allows_at ss p i s₀ l g) b on u e in
      (set p i y, (feasible_set ss p i s₀ y g c, (omega (arith, total_set start p i y), rw (get_or-set_same p i y 0 (omega (arith, plan_length ss p g))) o))),
)
