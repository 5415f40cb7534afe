-- The run of greedy sets for any tie order, and its switches. They are the fewest of all feasible plans
-- (`value_least`); so they are known by what each first set leads to (`value_step`, `value_by`) and change by one at
-- the most with a unit more before (`value_more`). It is FindSupport's plan with that tie order at every step
-- (`run_support`).
use mathlib.Core.Path.{◌≡◌, refl, ap}
use mathlib.Core.Bool.{Bool}
use mathlib.Core.List.{List, [], ◌∷◌}
use Prim.Native.Nat.{ℕ, ◌+◌, ◌≤◌}
use native.Mathlib.Omega.{arith}
use lib.ListN.{length}
use Rattle.units.specs.Sets.{insert}
use Rattle.units.proofs.Limits.{some_feasible}
use Rattle.plans.specs.declared.Limits.{Limits}
use Rattle.plans.specs.Switch.{Allows, FeasiblePlan, Satisfiable, switches, total}
use Rattle.plans.specs.Support.{support_set, support_from, find_support_by}
use Rattle.plans.proofs.Greedy.{support_in_lem, support_greedy}
use Rattle.plans.proofs.Optimal.{optimal}
use Rattle.plans.proofs.Orders.{Ordered}
use Rattle.plans.proofs.Stands.{GreedyIn, GreedyPlan}
use Rattle.plans.proofs.Totals.{total_from}
use Rattle.tables.proofs.Ranking.{rank, rank_ordered, rank_refines, ranks_are}

module _ (tie : ℕ → ℕ → Bool) where
  -- the set of step s after p, where the steps ss follow
  unfoldable pub next : Limits → List Limits → ℕ → ℕ
  next s ss p = support_set (rank tie (s ∷ ss)) s p

  -- the sets of all steps after p
  unfoldable pub run : ℕ → List Limits → List ℕ
  run p [] = []
  run p (s ∷ ss) = let t = next s ss p in t ∷ run t ss

  -- the switches of the run
  unfoldable pub value : List Limits → ℕ → ℕ
  value ss p = total p (run p ss)

  -- without steps there are none
  pub value_end : (p : ℕ) → value [] p ≡ 0
  unfolding value run total
  value_end p = refl

  -- and else those of the first step and of the rest
  pub value_step : (s : Limits) (ss : List Limits) (p : ℕ) → value (s ∷ ss) p ≡ switches p (next s ss p) + value ss (next s ss p)
  unfolding value run total
  value_step s ss p = refl

-- a feasible set of the first step
some_set_lem : (s : Limits) (ss : List Limits) → Satisfiable (s ∷ ss) → (x : ℕ) × Allows s x
some_set_lem s ss f = (some_feasible s.lower s.upper s.least s.greatest).0 f.0

module _ {tie : ℕ → ℕ → Bool} (o : Ordered tie) where
  -- each set of the run is greedy by the ranking
  pub next_greedy : (s : Limits) (ss : List Limits) → Satisfiable (s ∷ ss) → (p : ℕ) → GreedyIn (rank tie (s ∷ ss)) s p (next tie s ss p)
  unfolding next
  next_greedy s ss f p = let (x, a) = some_set_lem s ss f in support_in_lem (rank tie (s ∷ ss)) s p (rank_ordered o (s ∷ ss)) x a

  -- and with the steps in view
  run_greedy : (ss : List Limits) → Satisfiable ss → (p : ℕ) → GreedyPlan p ss (run tie p ss)
  unfolding GreedyPlan run next
  run_greedy [] f p = tt
  run_greedy (s ∷ ss) f p =
      let (x, a) = some_set_lem s ss f in
      (support_greedy (rank tie (s ∷ ss)) s p ss (rank_refines o (s ∷ ss)) x a, run_greedy ss f.1 (next tie s ss p))

  -- so the run is a feasible plan
  pub run_feasible : (ss : List Limits) → Satisfiable ss → (p : ℕ) → FeasiblePlan ss (run tie p ss)
  run_feasible ss f p = (optimal p ss (run tie p ss) (run_greedy ss f p)).0

  -- and makes the fewest switches of them all
  pub value_least : (ss : List Limits) → Satisfiable ss → (p : ℕ) (P : List ℕ) → FeasiblePlan ss P → value tie ss p ≤ total p P
  unfolding value
  value_least ss f p = (optimal p ss (run tie p ss) (run_greedy ss f p)).1

  -- no fewer are made from any feasible first set on
  pub value_by : (s : Limits) (ss : List Limits) → Satisfiable (s ∷ ss) → (p X : ℕ) → Allows s X
      → value tie (s ∷ ss) p ≤ switches p X + value tie ss X
  unfolding value total
  value_by s ss f p X a = value_least (s ∷ ss) f p (X ∷ run tie X ss) (a, run_feasible ss f.1 X)

  -- a unit more before costs nothing and spares one switch at the most
  pub value_more : (ss : List Limits) → Satisfiable ss → (p a : ℕ)
      → (value tie ss (insert p a) ≤ value tie ss p) × (value tie ss p ≤ value tie ss (insert p a) + 1)
  unfolding value
  value_more ss f p a =
      let q = insert p a in
      omega (
        arith,
        value_least ss f q (run tie p ss) (run_feasible ss f p),
        value_least ss f p (run tie q ss) (run_feasible ss f q),
        total_from p a (run tie p ss),
        total_from p a (run tie q ss),
      )

  -- ---- FindSupport's plan

  -- each set of the run is FindSupport's with that order at every step
  run_from : (n i p : ℕ) (ss : List Limits) → Satisfiable ss → i + length ss ≡ n + 1 → run tie p ss ≡ support_from (λ j. tie) n i p ss
  unfolding run next support_from
  run_from n i p [] f h = refl
  run_from n i p (s ∷ ss) f h =
      let x = next tie s ss p in
      rw (ranks_are o n i (s ∷ ss) f h) (ap (λ (xs : List ℕ). x ∷ xs) (run_from n (i + 1) x ss f.1 (omega arith)))

  -- and so the run is its plan
  pub run_support : (start : ℕ) (ss : List Limits) → Satisfiable ss → run tie start ss ≡ find_support_by (λ j. tie) start ss
  unfolding find_support_by
  run_support start ss f = run_from (length ss) 1 start ss f (omega arith)
