-- The steps that are done, as functions of those that follow. Of the steps ss the first i are done, and the steps R
-- follow, which may be others than those of ss. FindSupport looks ahead, so what it has done depends on R: the set
-- that it is at (`where_at`) and the switches so far (`spent_at`). Where R is the rest of ss, this is its plan
-- (`set_at_lem`, `rest_of_plan`), else its plan for the steps `whole_at` (`sums`). Last, `Reach` says of a set that
-- the first i steps can end in it within a number of switches.
use mathlib.Core.Path.{◌≡◌, refl, sym, ap, ◌∙◌, subst}
use mathlib.Core.Bool.{Bool}
use mathlib.Core.List.{List, [], ◌∷◌, ◌++◌}
use Prim.Native.Nat.{ℕ, zero, suc, ◌+◌, ◌≤◌, ◌<◌}
use native.Mathlib.Omega.{arith}
use lib.ListN.{length, get_or, take, drop, set, take-append-drop}
use lib.Seq.{take-suc, append_snoc, set_split}
use Rattle.plans.specs.declared.Limits.{Limits}
use Rattle.plans.specs.Steps.{step_at}
use Rattle.plans.specs.Switch.{Allows, FeasiblePlan, Satisfiable, switches, total}
use Rattle.plans.proofs.Laid.{steps_from_lem, satisfiable_at}
use Rattle.plans.proofs.Orders.{Ordered}
use Rattle.tables.specs.Tables.{set_at}
use Rattle.tables.proofs.Runs.{next, run, value, value_step, next_greedy}

-- a list from i on: its head and the rest
from_i : (l : List ℕ) (i : ℕ) → (get_or l i 0 ≡ get_or (drop i l) 0 0) × (drop (suc i) l ≡ drop 1 (drop i l))
from_i l zero = (refl, refl)
from_i [] (suc i) = (refl, refl)
from_i (x ∷ l) (suc i) = from_i l i

module _ (tie : ℕ → ℕ → Bool) (start : ℕ) (ss : List Limits) where
  -- ---- the steps that are done

  -- the set after i steps, where R follow
  unfoldable pub where_at : ℕ → List Limits → ℕ
  where_at zero R = start
  where_at (suc i) R = next tie (step_at ss i) R (where_at i (step_at ss i ∷ R))

  -- the switches so far
  unfoldable pub spent_at : ℕ → List Limits → ℕ
  spent_at zero R = 0
  spent_at (suc i) R = spent_at i (step_at ss i ∷ R) + switches (where_at i (step_at ss i ∷ R)) (where_at (suc i) R)

  -- all steps, those done and those that follow
  unfoldable pub whole_at : ℕ → List Limits → List Limits
  whole_at zero R = R
  whole_at (suc i) R = whole_at i (step_at ss i ∷ R)

  -- the switches of all steps are those so far and those of the steps that follow
  pub sums : (i : ℕ) (R : List Limits) → total start (run tie start (whole_at i R)) ≡ spent_at i R + value tie R (where_at i R)
  unfolding where_at spent_at whole_at value
  sums zero R = omega arith
  sums (suc i) R = omega (arith, sums i (step_at ss i ∷ R), value_step tie (step_at ss i) R (where_at i (step_at ss i ∷ R)))

  -- they are the first i steps of ss, and R
  whole_take : (i : ℕ) (R : List Limits) → i ≤ length ss → whole_at i R ≡ take i ss ++ R
  unfolding whole_at step_at
  whole_take zero R l = refl
  whole_take (suc i) R l =
      let s = step_at ss i in
      whole_take i (s ∷ R) (omega arith) ∙ sym (append_snoc (take i ss) s R) ∙ ap (λ (l : List Limits). l ++ R) (sym (take-suc ss i _ (omega arith)))

  -- with the rest of ss, they are ss
  pub whole_drop : (i : ℕ) → i ≤ length ss → whole_at i (drop i ss) ≡ ss
  whole_drop i l = whole_take i (drop i ss) l ∙ take-append-drop i ss

  -- and with another step at i, they are ss with this step set
  pub whole_set : (i : ℕ) (f : Limits) → i < length ss → whole_at i (f ∷ drop (suc i) ss) ≡ set ss i f
  whole_set i f l = whole_take i (f ∷ drop (suc i) ss) (omega arith) ∙ sym (set_split ss i f l)

  -- the plan from the set after i steps on
  plan_from : (i : ℕ) (R : List Limits) → drop i (start ∷ run tie start (whole_at i R)) ≡ where_at i R ∷ run tie (where_at i R) R
  unfolding where_at whole_at run
  plan_from zero R = refl
  plan_from (suc i) R =
      let s = step_at ss i in
      let P = start ∷ run tie start (whole_at i (s ∷ R)) in
      (from_i P i).1 ∙ ap (drop 1) (plan_from i (s ∷ R))

  module _ (i : ℕ) (l : i ≤ length ss) where
    from_here : drop i (start ∷ run tie start ss) ≡ where_at i (drop i ss) ∷ run tie (where_at i (drop i ss)) (drop i ss)
    from_here = ap (λ (x : List Limits). drop i (start ∷ run tie start x)) (sym (whole_drop i l)) ∙ plan_from i (drop i ss)

    -- the plan's set after i steps
    pub set_at_lem : set_at start (run tie start ss) i ≡ where_at i (drop i ss)
    unfolding set_at
    set_at_lem = (from_i (start ∷ run tie start ss) i).0 ∙ ap (λ (x : List ℕ). get_or x 0 0) from_here

    -- and its sets in the steps that follow
    pub rest_of_plan : drop i (run tie start ss) ≡ run tie (where_at i (drop i ss)) (drop i ss)
    rest_of_plan = (from_i (start ∷ run tie start ss) i).1 ∙ ap (drop 1) from_here

  -- ---- sets that can be reached

  -- The first i steps can end in the set X within c switches, whatever follows: of every feasible plan of the steps
  -- that follow there is a feasible plan of all steps which goes on with its sets and makes c switches at the most
  -- more than that makes from X.
  abbrev pub Reach : ℕ → ℕ → ℕ → Type 0
  Reach i X c = (R : List Limits) (Q : List ℕ) → FeasiblePlan R Q
      → (P : List ℕ) × (FeasiblePlan (whole_at i R) P × ((total start P ≤ c + total X Q) × ((j : ℕ) → get_or P (i + j) 0 ≡ get_or Q j 0)))

  -- before the first step there is the start
  pub reach_start : Reach 0 start 0
  unfolding whole_at
  reach_start R Q f = (Q, (f, (omega arith, λ j. ap (λ (k : ℕ). get_or Q k 0) (omega arith))))

  -- one step on
  pub reach_on : (i X Y c : ℕ) → Reach i Y c → Allows (step_at ss i) X → Reach (suc i) X (c + switches Y X)
  unfolding whole_at total
  reach_on i X Y c r a R Q f =
      let (P, (g, (h, e))) = r (step_at ss i ∷ R) (X ∷ Q) (a, f) in
      (P, (g, (omega arith, λ j. ap (λ (k : ℕ). get_or P k 0) (omega arith) ∙ e (suc j))))

  -- within more switches
  pub reach_le : (i X c c' : ℕ) → c ≤ c' → Reach i X c → Reach i X c'
  reach_le i X c c' l r R Q f = let (P, (g, (h, e))) = r R Q f in (P, (g, (omega arith, e)))

  -- the plan's own set
  pub reach_plan : Ordered tie → Satisfiable ss → (i : ℕ) → i ≤ length ss → Reach i (where_at i (drop i ss)) (spent_at i (drop i ss))
  unfolding where_at spent_at
  reach_plan o f zero l = reach_start
  reach_plan o f (suc i) l =
      let s = step_at ss i in
      let R = drop (suc i) ss in
      let p = where_at i (s ∷ R) in
      let before = subst (λ (x : List Limits). Reach i (where_at i x) (spent_at i x)) (steps_from_lem ss i l) (reach_plan o f i (omega arith)) in
      reach_on i (next tie s R p) p (spent_at i (s ∷ R)) before (next_greedy o s R (satisfiable_at ss i l f) p).allowed
