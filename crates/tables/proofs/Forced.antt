-- A step in which a unit is forced, on or off. It allows those sets of the step that have the unit so
-- (`allows_forced`). So the feasible plans of steps of which one is forced are those that have the unit so there
-- anyway (`feasible_forced`).
use mathlib.Core.Path.{◌≡◌}
use mathlib.Core.Logic.{◌↔◌}
use mathlib.Core.Bool.{Bool, true, false}
use mathlib.Core.List.{List, [], ◌∷◌}
use Prim.Native.Nat.{ℕ, zero, suc, ◌<◌}
use native.Mathlib.Omega.{arith}
use lib.ListN.{length, get_or, set}
use Rattle.units.specs.Limits.{has_feasible}
use Rattle.units.specs.Sets.{insert, remove}
use Rattle.units.proofs.Limits.{some_feasible}
use Rattle.units.proofs.Sets.{bit_le, bit_insert, bit_remove, insert_subset, subset_insert, remove_subset, subset_remove}
use Rattle.plans.specs.declared.Limits.{Limits}
use Rattle.plans.specs.Switch.{Allows, FeasiblePlan, Satisfiable}
use Rattle.plans.proofs.AllPlans.{Shows}

-- ---- one step

-- the step with unit u required, or with unit u forbidden
abbrev pub forced : Bool → ℕ → Limits → Limits
forced true u s = record { lower = insert s.lower u; upper = s.upper; least = s.least; greatest = s.greatest }
forced false u s = record { lower = s.lower; upper = remove s.upper u; least = s.least; greatest = s.greatest }

-- the test that a step has a feasible set
abbrev pub some_set : Limits → Bool
some_set s = has_feasible s.lower s.upper s.least s.greatest

-- the forced step allows those sets of the step that have the unit so
pub allows_forced : (on : Bool) (u : ℕ) (s : Limits) (x : ℕ) → Allows (forced on u s) x ↔ (Allows s x × Shows on u x)
allows_forced true u s x = (
  λ a. (
    record { includes = λ v. omega (arith, subset_insert s.lower u v, a.includes v); within = a.within; enough = a.enough; few = a.few },
    omega (arith, a.includes u, bit_insert s.lower u, bit_le x u),
  ),
  λ (a, e). record { includes = insert_subset s.lower x u a.includes e; within = a.within; enough = a.enough; few = a.few },
)
allows_forced false u s x = (
  λ a. (
    record { includes = a.includes; within = λ v. omega (arith, remove_subset s.upper u v, a.within v); enough = a.enough; few = a.few },
    omega (arith, a.within u, bit_remove s.upper u),
  ),
  λ (a, e). record { includes = a.includes; within = subset_remove x s.upper u a.within e; enough = a.enough; few = a.few },
)

-- so it has a feasible set exactly if the step has one with the unit so
pub some_forced : (on : Bool) (u : ℕ) (s : Limits) → some_set (forced on u s) ≡ true ↔ ((x : ℕ) × (Allows s x × Shows on u x))
some_forced on u s =
    let f = forced on u s in
    let some = some_feasible f.lower f.upper f.least f.greatest in
    (λ t. let r = some.0 t in (r.0, (allows_forced on u s r.0).0 r.1), λ r. some.1 (r.0, (allows_forced on u s r.0).1 r.1))

-- ---- a step of a plan

-- all steps have a feasible set still, if the one that takes the place of step i has
pub satisfiable_set : (ss : List Limits) (i : ℕ) (s : Limits) → Satisfiable ss → some_set s ≡ true → Satisfiable (set ss i s)
satisfiable_set [] i s f t = tt
satisfiable_set (r ∷ ss) zero s f t = (t, f.1)
satisfiable_set (r ∷ ss) (suc i) s f t = (f.0, satisfiable_set ss i s f.1 t)

-- the feasible plans of steps with the unit forced in step i are those that have the unit so there anyway
pub feasible_forced : (on : Bool) (u : ℕ) (s₀ : Limits) (ss : List Limits) (i : ℕ) (p : List ℕ) → i < length ss
    → FeasiblePlan (set ss i (forced on u (get_or ss i s₀))) p ↔ (FeasiblePlan ss p × Shows on u (get_or p i 0))
feasible_forced on u s₀ [] i p l = absurd (omega arith)
feasible_forced on u s₀ (s ∷ ss) zero [] l = (λ f. absurd f, λ f. absurd f.0)
feasible_forced on u s₀ (s ∷ ss) zero (x ∷ p) l = (
  λ (a, f). let r = (allows_forced on u s x).0 a in ((r.0, f), r.1),
  λ ((a, f), e). ((allows_forced on u s x).1 (a, e), f),
)
feasible_forced on u s₀ (s ∷ ss) (suc i) [] l = (λ f. absurd f, λ f. absurd f.0)
feasible_forced on u s₀ (s ∷ ss) (suc i) (x ∷ p) l =
    let ih = feasible_forced on u s₀ ss i p (omega arith) in
    (λ (a, f). let r = ih.0 f in ((a, r.0), r.1), λ ((a, f), e). (a, ih.1 (f, e)))
