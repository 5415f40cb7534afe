-- What is used of a ranking, and of the set that FindSupport takes in a step.
use mathlib.Core.Path.{◌≡◌}
use mathlib.Core.Bool.{Bool, true}
use mathlib.Core.List.{List, [], ◌∷◌}
use Prim.Native.Nat.{ℕ}
use Rattle.units.specs.Sets.{bit, size}
use Rattle.plans.specs.declared.Limits.{Limits}
use Rattle.plans.specs.Switch.{Allows}

-- Unit v stands for unit w over some steps: wherever a plan has w on and v off, it may have v on and w off instead,
-- until v is required or w is forbidden.
unfoldable pub StandsFor : List Limits → ℕ → ℕ → Type 0
StandsFor [] v w = Unit {0}
StandsFor (s ∷ ss) v w = bit s.lower v ≡ 0 → bit s.upper w ≡ 1 → (bit s.lower w ≡ 0) × ((bit s.upper v ≡ 1) × StandsFor ss v w)

-- g is a greedy set of step s, where `before` was on and `Ahead` says which unit may go ahead of which. It is
-- feasible. A unit that was on and may be on leaves only where g has the greatest number, and then every unit of g
-- that is not required was on before and is ahead of it. A unit that was off and is not required joins only where g
-- has the least number, and then it is ahead of every unit that may be on and is not.
pub record GreedyBy (Ahead : ℕ → ℕ → Type 0) (s : Limits) (before g : ℕ) : Type 0 where
  pub allowed : Allows s g
  pub leaves : (w : ℕ) → bit before w ≡ 1 → bit s.upper w ≡ 1 → bit g w ≡ 0
      → (size g ≡ s.greatest) × ((v : ℕ) → bit g v ≡ 1 → bit s.lower v ≡ 0 → (bit before v ≡ 1) × Ahead v w)
  pub joins : (v : ℕ) → bit g v ≡ 1 → bit before v ≡ 0 → bit s.lower v ≡ 0
      → (size g ≡ s.least) × ((w : ℕ) → bit s.upper w ≡ 1 → bit g w ≡ 0 → Ahead v w)

-- greedy with the steps ss in view, which follow: a unit is ahead of those that it stands for
abbrev pub Greedy : Limits → List Limits → ℕ → ℕ → Type 0
Greedy s ss before g = GreedyBy (StandsFor ss) s before g

-- greedy by a ranking
abbrev pub GreedyIn : (ℕ → ℕ → Bool) → Limits → ℕ → ℕ → Type 0
GreedyIn ranks s before g = GreedyBy (λ v w. ranks v w ≡ true) s before g

-- a plan of greedy sets
unfoldable pub GreedyPlan : ℕ → List Limits → List ℕ → Type 0
GreedyPlan before [] [] = Unit {0}
GreedyPlan before [] (x ∷ xs) = ⊥
GreedyPlan before (s ∷ ss) [] = ⊥
GreedyPlan before (s ∷ ss) (x ∷ xs) = Greedy s ss before x × GreedyPlan x ss xs
