-- The words `on_by_slack` and `off_by_slack` are the chart (`on_charted`, `off_charted`): unit by unit they say what
-- `cell` says of all plans. With no switch to spare, or with one, that is `Exact`, and with two or more it is `Ample`.
-- Of fewer units than all below d, `off_by_slack` has what the chart has of them (`off_charted_in`).
use mathlib.Core.Path.{◌≡◌, ap, subst, ◌∙◌}
use mathlib.Core.Logic.{⊎_elim, ◌↔◌}
use mathlib.Core.Bool.{Bool, true, false, cond, not, ◌&&◌, ◌||◌}
use mathlib.Core.List.{List, [], ◌∷◌}
use Prim.Native.Nat.{ℕ, zero, suc, ◌+◌, ◌-◌, ◌^◌, ◌≤◌, ◌<◌}
use native.Mathlib.Decide.{dec_lt}
use native.Mathlib.Omega.{arith}
use borrow.Author.Tests.{lt-ltb}
use lib.Dec.{eqb, ltb}
use lib.ListN.{length, get_or}
use lib.Pow.{pow_mono, pow_pos}
use Rattle.units.specs.Sets.{bit, union, intersection, difference, Subset, contains, meets, size}
use Rattle.units.proofs.Sets.{bit_above, bit_cases, bit_difference, bit_full, bit_intersection, bit_le, bit_union, set_ext}
use Rattle.plans.specs.Plans.{Below, allows, can_be_on, can_be_off}
use Rattle.plans.specs.Steps.{step_at}
use Rattle.plans.specs.Support.{find_support, tie_order}
use Rattle.plans.specs.declared.Limits.{Limits}
use Rattle.plans.specs.Switch.{Satisfiable, total}
use Rattle.plans.proofs.AllPlans.{Shows, SomePlan, plan_below}
use Rattle.plans.proofs.Cells.{cell, cell_on, cell_beyond}
use Rattle.plans.proofs.Orders.{tie_ordered}
use Rattle.tables.specs.Tables.{row_count, passing, free, held, less, set_at, rows_at, in_place, off_word, ample_on, ample_off, later_at, on_at, off_at, on_by_slack, off_by_slack}
use Rattle.tables.proofs.Exact.{on_exact, off_exact}
use Rattle.tables.proofs.Gathering.{equal_units}
use Rattle.tables.proofs.Runs.{run, run_feasible, run_support}
use Rattle.tables.proofs.Ample.{ample_on_lem, ample_off_lem, ample_beyond}
use Rattle.tables.proofs.Words.{bit_passing, in_union, in_difference}

-- ---- the words

-- a word is the chart's if it has the units that some plan within the bound has on in the step, or those below d that
-- some has off, and none from d up
module _ (d bound start : ℕ) (ss : List Limits) (low : Below d ss) (i : ℕ) (l : i < length ss) (x : ℕ) where
  on_is : ((u : ℕ) → (bit x u ≡ 1) ↔ SomePlan bound start ss i (Shows true u)) → x ≡ get_or (can_be_on allows d bound start ss) i 0
  on_is exact =
      equal_units x _ (λ u e. (cell_on d bound start ss i u l low).1 ((exact u).0 e)) (λ u e. (exact u).1 ((cell_on d bound start ss i u l low).0 e))

  off_is : ((u : ℕ) → u < d → (bit x u ≡ 1) ↔ SomePlan bound start ss i (Shows false u)) → ((u : ℕ) → d ≤ u → bit x u ≡ 1 → ⊥)
      → x ≡ get_or (can_be_off allows d bound start ss) i 0
  off_is exact beyond = equal_units x _ (λ u e. forth u e (dec_lt u d)) (λ u e. back u e (dec_lt u d))
    where
      forth : (u : ℕ) → bit x u ≡ 1 → Dec (u < d) → bit (get_or (can_be_off allows d bound start ss) i 0) u ≡ 1
      forth u e (yes h) = (cell d bound start ss i u l low false h).1 ((exact u h).0 e)
      forth u e (no n) = absurd (beyond u (omega arith) e)

      back : (u : ℕ) → bit (get_or (can_be_off allows d bound start ss) i 0) u ≡ 1 → Dec (u < d) → bit x u ≡ 1
      back u e (yes h) = (exact u h).1 ((cell d bound start ss i u l low false h).0 e)
      back u e (no n) = absurd (omega (arith, cell_beyond d bound start ss i u l low false (omega arith)))

-- units below d are units below 64
below_more : (d : ℕ) (ss : List Limits) → d ≤ 64 → Below d ss → Below 64 ss
below_more d [] h b = tt
below_more d (s ∷ ss) h b = (omega (arith, b.0, pow_mono h), below_more d ss h b.1)

module _ (d bound start : ℕ) (ss : List Limits) (sat : Satisfiable ss) (low : Below d ss) (few : d ≤ 64) (tight : Bool)
    (slack : bound ≡ total start (find_support start ss) + cond tight 0 1) (i : ℕ) (l : i < length ss) where
  -- the plan by its recursive ranking
  plan_is : run tie_order start ss ≡ find_support start ss
  plan_is = run_support tie_ordered start ss sat

  -- a unit is in the words exactly if some plan within the bound has it so
  on_some : (u : ℕ) → (bit (on_at tight start ss (find_support start ss) i) u ≡ 1) ↔ SomePlan bound start ss i (Shows true u)
  unfolding on_at later_at
  on_some u =
      subst (λ plan. (bit (on_at tight start ss plan i) u ≡ 1) ↔ SomePlan bound start ss i (Shows true u)) plan_is
      (on_exact tie_ordered start ss sat (below_more d ss few low) i l tight bound (rw plan_is slack) u)

  off_some : (u : ℕ) → u < d → (bit (off_at tight (2 ^ d - 1) start ss (find_support start ss) i) u ≡ 1) ↔ SomePlan bound start ss i (Shows false u)
  unfolding off_at later_at
  off_some u h =
      subst (λ plan. (bit (off_at tight (2 ^ d - 1) start ss plan i) u ≡ 1) ↔ SomePlan bound start ss i (Shows false u)) plan_is
      (off_exact tie_ordered start ss sat (below_more d ss few low) i l tight bound (rw plan_is slack) (2 ^ d - 1) u (bit_full d u h))

  -- none of the units from d up is among those that can be off
  off_beyond : (u : ℕ) → d ≤ u → bit (off_at tight (2 ^ d - 1) start ss (find_support start ss) i) u ≡ 1 → ⊥
  unfolding off_at off_word held set_at
  off_beyond u h e =
      let t = get_or (find_support start ss) i 0 in
      let none : bit t u ≡ 0 =
      bit_above d t u (rw plan_is at (plan_below d ss (run tie_order start ss) i l low (run_feasible tie_ordered ss sat start))) h in
      ⊎_elim (λ k. omega (arith, (in_difference (2 ^ d - 1) t u).0 k, bit_above d (2 ^ d - 1) u (omega (arith, pow_pos d)) h))
      (λ k. let (a, (b, c)) = (bit_passing row_count _ _ u).0 k in omega (arith, (in_difference _ _ u).0 b)) ((in_union _ _ u).0 e)

-- ---- the chart

module _ (d slack start : ℕ) (ss : List Limits) (sat : Satisfiable ss) (low : Below d ss) (few : d ≤ 64) (i : ℕ) (l : i < length ss) where
  -- FindSupport's plan, and the bound that leaves so many switches to spare
  abbrev plan : List ℕ
  plan = find_support start ss

  abbrev bound : ℕ → ℕ
  bound k = total start plan + k

  -- the words of the step at i are the chart's
  pub on_charted : on_by_slack slack start ss plan i ≡ get_or (can_be_on allows d (bound slack) start ss) i 0
  unfolding on_by_slack
  on_charted = go slack
    where
      go : (k : ℕ) → on_by_slack k start ss plan i ≡ get_or (can_be_on allows d (bound k) start ss) i 0
      go zero = on_is d (bound 0) start ss low i l (on_at true start ss plan i) (on_some d (bound 0) start ss sat low few true (omega arith) i l)
      go (suc zero) = on_is d (bound 1) start ss low i l (on_at false start ss plan i) (on_some d (bound 1) start ss sat low few false (omega arith) i l)
      go (suc (suc k)) =
          rw (lt-ltb 1 (suc (suc k)) (omega arith))
          (on_is d (bound (suc (suc k))) start ss low i l (ample_on (step_at ss i)) (ample_on_lem (bound (suc (suc k))) start ss sat (omega arith) i l))

  pub off_charted : off_by_slack (2 ^ d - 1) slack start ss plan i ≡ get_or (can_be_off allows d (bound slack) start ss) i 0
  unfolding off_by_slack
  off_charted = go slack
    where
      go : (k : ℕ) → off_by_slack (2 ^ d - 1) k start ss plan i ≡ get_or (can_be_off allows d (bound k) start ss) i 0
      go zero =
          off_is d (bound 0) start ss low i l (off_at true (2 ^ d - 1) start ss plan i) (off_some d (bound 0) start ss sat low few true (omega arith) i l)
          (off_beyond d (bound 0) start ss sat low few true (omega arith) i l)
      go (suc zero) =
          off_is d (bound 1) start ss low i l (off_at false (2 ^ d - 1) start ss plan i) (off_some d (bound 1) start ss sat low few false (omega arith) i l)
          (off_beyond d (bound 1) start ss sat low few false (omega arith) i l)
      go (suc (suc k)) =
          rw (lt-ltb 1 (suc (suc k)) (omega arith))
          (off_is d (bound (suc (suc k))) start ss low i l (ample_off (2 ^ d - 1) (step_at ss i)) (ample_off_lem (bound (suc (suc k))) start ss sat (omega arith) i l d)
          (λ u h e. omega (arith, ample_beyond d u (step_at ss i) h)))

  -- of fewer units than all below d, among them those on in the step, the word has what it has of all
  off_in : (us : ℕ) → Subset us (2 ^ d - 1) → Subset (get_or plan i 0) us
      → off_by_slack us slack start ss plan i ≡ intersection (off_by_slack (2 ^ d - 1) slack start ss plan i) us
  unfolding off_by_slack off_at off_word ample_off held set_at
  off_in us h k = go (ltb 1 slack)
    where
      t : ℕ
      t = get_or plan i 0

      test : ℕ → Bool
      test b =
          (less (step_at ss i) t && (not (eqb slack 0) || contains (later_at start ss plan (suc i)).dispensable b))
          || meets (in_place (eqb slack 0) (rows_at start ss plan (suc i)) (later_at start ss plan (suc i)) b) (free (step_at ss i) t)

      off : ℕ
      off = passing row_count (difference t (step_at ss i).lower) test

      on_before : (u : ℕ) → bit off u ≤ bit t u
      on_before u =
          ⊎_elim (λ e. omega arith) (λ e. let (a, (b, c)) = (bit_passing row_count _ test u).0 e in omega (arith, (in_difference _ _ u).0 b)) (bit_cases off u)

      few_left : ℕ
      few_left = cond (ltb (step_at ss i).least (size (step_at ss i).upper)) (step_at ss i).lower (step_at ss i).upper

      go : (many : Bool) → cond many (difference us few_left) (union (difference us t) off)
          ≡ intersection (cond many (difference (2 ^ d - 1) few_left) (union (difference (2 ^ d - 1) t) off)) us
      go true =
          set_ext (difference us few_left) (intersection (difference (2 ^ d - 1) few_left) us)
          (λ u.
          omega (
            arith,
            h u,
            bit_le (2 ^ d - 1) u,
            bit_difference us few_left u,
            bit_difference (2 ^ d - 1) few_left u,
            bit_intersection (difference (2 ^ d - 1) few_left) us u,
          ))
      go false =
          set_ext (union (difference us t) off) (intersection (union (difference (2 ^ d - 1) t) off) us)
          (λ u.
          omega (
            arith,
            h u,
            k u,
            on_before u,
            bit_le (2 ^ d - 1) u,
            bit_difference us t u,
            bit_union (difference us t) off u,
            bit_difference (2 ^ d - 1) t u,
            bit_union (difference (2 ^ d - 1) t) off u,
            bit_intersection (union (difference (2 ^ d - 1) t) off) us u,
          ))

  -- so of these it has what the chart has of them
  pub off_charted_in : (us : ℕ) → Subset us (2 ^ d - 1) → Subset (get_or plan i 0) us
      → off_by_slack us slack start ss plan i ≡ intersection (get_or (can_be_off allows d (bound slack) start ss) i 0) us
  off_charted_in us h k = off_in us h k ∙ ap (λ (x : ℕ). intersection x us) off_charted
