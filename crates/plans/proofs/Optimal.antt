-- A plan of greedy sets is feasible and makes the fewest switches of all feasible plans.
use mathlib.Core.List.{List, [], ◌∷◌}
use Prim.Native.Nat.{ℕ, ◌+◌, ◌≤◌}
use native.Mathlib.Omega.{arith}
use Rattle.plans.specs.declared.Limits.{Limits}
use Rattle.plans.specs.Switch.{FeasiblePlan, switches, total}
use Rattle.plans.proofs.Stands.{GreedyPlan}
use Rattle.plans.proofs.Improve.{improve}

-- Of a plan that begins with p, `improve` makes one that begins with the greedy set x and is as good, and by induction
-- no rest is better than the greedy one.
pub optimal : (before : ℕ) (ss : List Limits) (plan : List ℕ) → GreedyPlan before ss plan
    → FeasiblePlan ss plan × ((P : List ℕ) → FeasiblePlan ss P → total before plan ≤ total before P)
unfolding GreedyPlan total
optimal before [] [] g = (tt, λ P f. omega arith)
optimal before [] (x ∷ plan) g = absurd g
optimal before (s ∷ ss) [] g = absurd g
optimal before (s ∷ ss) (x ∷ plan) (g, gs) = let rest = optimal x ss plan gs in ((g.allowed, rest.0), best rest.1)
  where
    best : ((P : List ℕ) → FeasiblePlan ss P → total x plan ≤ total x P)
        → (P : List ℕ) → FeasiblePlan (s ∷ ss) P → switches before x + total x plan ≤ total before P
    best ih [] f = absurd f
    best ih (p ∷ P) (a, f) = let r = improve ss g p a P f in omega (arith, ih r.0 r.1.0)
