-- `fewest` is the total of each feasible plan that no other undercuts (`fewest_of`), and so that of FindSupport's
-- plan, whatever orders break its ties (`support_fewest`).
use mathlib.Core.Path.{◌≡◌, refl, sym, ap}
use mathlib.Core.Logic.{⊎_elim, ◌↔◌}
use mathlib.Core.Bool.{Bool, true}
use mathlib.Core.List.Memᴰ
use mathlib.Core.List.{List, [], ◌∷◌, map, Memᴰ}
use Prim.Native.Nat.{ℕ, suc, ◌+◌, ◌≤◌}
use native.Mathlib.Omega.{arith}
use lib.ListN.{length}
use Rattle.plans.specs.declared.Limits.{Limits}
use Rattle.plans.specs.Switch.{Allows, Throughout, FeasiblePlan, total, Satisfiable}
use Rattle.plans.specs.Support.{Ordered, support_from, find_support_by}
use Rattle.plans.specs.Plans.{allows, Below, plans_of, least_of, fewest}
use Rattle.plans.proofs.AllPlans.{Low, below_low, allows_exactly, listed_feasible, feasible_listed}
use Rattle.plans.proofs.Greedy.{plan_greedy}
use Rattle.plans.proofs.Optimal.{optimal}

-- the least number of a list is at the most each of its numbers, and one that each of them reaches
least_le : (x : ℕ) (l : List ℕ) → Memᴰ x l → least_of l ≤ x
unfolding least_of
least_le x [] m = omega arith
least_le x (y ∷ []) m = omega (arith, Memᴰ.eq_of_singleton m)
least_le x (y ∷ z ∷ l) m = ⊎_elim (λ e. omega arith) (λ m'. omega (arith, least_le x (z ∷ l) m')) (Memᴰ.cases_cons m)

le_least : (x y : ℕ) (l : List ℕ) → ((z : ℕ) → Memᴰ z (y ∷ l) → x ≤ z) → x ≤ least_of (y ∷ l)
unfolding least_of
le_least x y [] h = h y (Memᴰ.head refl)
le_least x y (z ∷ l) h = omega (arith, h y (Memᴰ.head refl), le_least x z l (λ v m. h v (Memᴰ.tail m)))

-- so it is the number of the list that none undercuts
least_of_lem : (x : ℕ) (l : List ℕ) → Memᴰ x l → ((z : ℕ) → Memᴰ z l → x ≤ z) → least_of l ≡ x
least_of_lem x [] m h = absurd (Memᴰ.not-nil m)
least_of_lem x (y ∷ l) m h = omega (arith, least_le x (y ∷ l) m, le_least x y l h)

-- fewest is the total of each feasible plan that no feasible plan undercuts, for steps of any kind
pub fewest_of : {S : Type 0} (test : S → ℕ → Bool) (A : S → ℕ → Type 0) (exact : (s : S) (x : ℕ) → test s x ≡ true ↔ A s x)
    (d start : ℕ) (ss : List S) (p : List ℕ) → Low A d ss → Throughout A ss p
    → ((q : List ℕ) → Throughout A ss q → total start p ≤ total start q) → fewest test d start ss ≡ total start p
unfolding fewest
fewest_of test A exact d start ss p b f best =
    least_of_lem (total start p) (map (total start) (plans_of test d ss)) (Memᴰ.map (total start) (feasible_listed test A exact d ss p b f))
    (λ z m. let r = Memᴰ.of_map (total start) (plans_of test d ss) m in omega (arith, best r.0 (listed_feasible test A exact d ss r.0 r.1), r.2))

-- FindSupport's plan is feasible and makes the fewest switches, which no feasible plan undercuts.
pub support_fewest : {ties : ℕ → ℕ → ℕ → Bool} → ((i : ℕ) → Ordered (ties i)) → (d start : ℕ) (ss : List Limits) → Below d ss → Satisfiable ss
    → FeasiblePlan ss (find_support_by ties start ss)
    × ((total start (find_support_by ties start ss) ≡ fewest allows d start ss) × ((q : List ℕ) → FeasiblePlan ss q → fewest allows d start ss ≤ total start q))
support_fewest {ties} o d start ss b f =
    let plan = find_support_by ties start ss in
    let best = optimal start ss plan (plan_greedy o start ss f) in
    let e = fewest_of allows Allows allows_exactly d start ss plan (below_low d ss b) best.0 best.1 in
    (best.0, (sym e, λ q g. omega (arith, best.1 q g)))

-- it has a set for each step
pub support_from_length : (ties : ℕ → ℕ → ℕ → Bool) (n i before : ℕ) (ss : List Limits) → length (support_from ties n i before ss) ≡ length ss
unfolding support_from
support_from_length ties n i before [] = refl
support_from_length ties n i before (s ∷ ss) = ap suc (support_from_length ties n (i + 1) _ ss)
