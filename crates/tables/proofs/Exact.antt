-- The words of the chart are exact: with no switch to spare, or with one, a unit is in the word of a step exactly if
-- some feasible plan within so many switches has it on there, or off (`on_exact`, `off_exact`). A set that the words
-- speak of is reached, and the run goes on from it (`some_by`). And if some plan has the unit so, then the run for the
-- steps in which it is forced is one, and its set in the step is near the plan's (`cost`, `near`).
use mathlib.Core.Path.{◌≡◌, sym, ap, subst, ◌∙◌}
use mathlib.Core.Logic.{◌⊎◌, ⊎_map, ◌↔◌}
use mathlib.Core.Bool.{Bool, true, false, cond}
use mathlib.Core.List.{List, ◌∷◌}
use Prim.Native.Nat.{ℕ, suc, ◌+◌, ◌≤◌, ◌<◌}
use native.Mathlib.Omega.{arith}
use lib.ListN.{length, get_or, drop, set}
use Rattle.units.specs.Sets.{bit, insert, size}
use Rattle.units.proofs.Sets.{bit_le}
use Rattle.plans.specs.Plans.{Below}
use Rattle.plans.specs.declared.Limits.{Limits}
use Rattle.plans.specs.Steps.{limits, step_at}
use Rattle.plans.specs.Switch.{Allows, FeasiblePlan, Satisfiable, switches, total}
use Rattle.plans.proofs.AllPlans.{Shows, SomePlan, allows_at}
use Rattle.plans.proofs.Laid.{satisfiable_drop, steps_from_lem, below_drop}
use Rattle.plans.proofs.Orders.{Ordered}
use Rattle.plans.proofs.Stands.{GreedyIn}
use Rattle.tables.specs.Tables.{Later, set_at, held_at, rows_at, later_from, on_word, off_word}
use Rattle.tables.proofs.Backward.{Right, later_right}
use Rattle.tables.proofs.Before.{led_drops, led_few}
use Rattle.tables.proofs.Complete.{Beside, no_fewer, one_dearer, on_complete, off_complete}
use Rattle.tables.proofs.Forced.{forced, some_set, allows_forced, some_forced, satisfiable_set, feasible_forced}
use Rattle.tables.proofs.Forward.{Moved, RaisedTo, SwappedTo, ByRow, swapped_units, greedy_at, spent_on, kept_on, kept_below, row_off, rows_sound, by_row_moved, rows_complete}
use Rattle.tables.proofs.Prefix.{where_at, spent_at, whole_at, sums, whole_drop, whole_set, set_at_lem, rest_of_plan}
use Rattle.tables.proofs.Raised.{class, Near, Led}
use Rattle.tables.proofs.Ranking.{rank, rank_ordered, rank_classes, raised_on, raised_off}
use Rattle.tables.proofs.Runs.{next, run, value, value_step, value_least, value_more, next_greedy, run_feasible}
use Rattle.tables.proofs.Sound.{Stage, Good, on_word_lem, off_word_lem, on_sound, off_sound}
use Rattle.tables.proofs.Stable.{stable, wider_on, wider_off}

-- ---- a forced step

module _ {tie : ℕ → ℕ → Bool} (o : Ordered tie) (u : ℕ) (s : Limits) (R : List Limits) where
  -- a unit forced on ranks higher, and forced off lower
  raised_forced : (on : Bool) → RaisedTo on u (rank tie (s ∷ R)) (rank tie (forced on u s ∷ R))
  raised_forced true = raised_on tie u s R
  raised_forced false = raised_off tie u s R

  module _ (p q t x : ℕ) where
    -- so from one set, or from one with the unit in place of another, or with another in its place, the set of the
    -- forced step is near
    near_forced : (on : Bool) → (q ≡ p) ⊎ ((y : ℕ) × SwappedTo on (rank tie (s ∷ R)) (rank tie (forced on u s ∷ R)) u p q y)
        → GreedyIn (rank tie (s ∷ R)) s p t → GreedyIn (rank tie (forced on u s ∷ R)) (forced on u s) q x → Near t x
    near_forced true led G G' =
        let r = rank tie (s ∷ R) in
        let r' = rank tie (forced true u s ∷ R) in
        stable u s (forced true u s) r r' p q t x (rank_ordered o (forced true u s ∷ R)) (raised_on tie u s R) (wider_on u s)
        (led_drops r r' u p q led) G G' (led_few r r' u p q led)
    near_forced false led G G' =
        let r = rank tie (forced false u s ∷ R) in
        let r' = rank tie (s ∷ R) in
        let back : Led r r' u q p = ⊎_map sym (λ w. w) led in
        let (a, b) = stable u (forced false u s) s r r' q p x t (rank_ordered o (s ∷ R)) (raised_off tie u s R) (wider_off u s)
        (led_drops r r' u q p back) G' G (led_few r r' u q p back) in
        (b, a)

    -- the unit that is out ranks before the one that is in; so it may be on, and the other is not required, if u is
    -- free
    swapped_class : (on : Bool) (r' : ℕ → ℕ → Bool) (y : ℕ) → SwappedTo on (rank tie (s ∷ R)) r' u p q y → class s u ≡ 1
        → (class s (cond on y u) ≤ 1) × (1 ≤ class s (cond on u y))
    swapped_class true r' y w c = omega (arith, rank_classes tie s R y u w.first)
    swapped_class false r' y w c = omega (arith, rank_classes tie s R u y w.then)

-- ---- the plan

module _ {tie : ℕ → ℕ → Bool} (o : Ordered tie) (start : ℕ) (ss : List Limits) (sat : Satisfiable ss) (low : Below 64 ss) (i : ℕ)
    (l : i < length ss) where
  -- the plan, the step at i and those after it, the plan's sets before and after the step, the units held before it
  -- and their rows, the switches up to there, and those still to come, with their tables
  abbrev plan : List ℕ
  plan = run tie start ss

  abbrev s : Limits
  s = step_at ss i

  abbrev R : List Limits
  R = drop (suc i) ss

  abbrev p : ℕ
  p = set_at start plan i

  abbrev t : ℕ
  t = set_at start plan (suc i)

  abbrev h : ℕ
  h = held_at ss plan i

  abbrev f : ℕ → ℕ
  f = rows_at start ss plan i

  abbrev spent : ℕ
  spent = spent_at tie start ss i (drop i ss)

  abbrev due : ℕ → ℕ
  due = value tie R

  abbrev w : Later
  w = later_from t R (drop (suc i) plan)

  rest_sat : Satisfiable R
  rest_sat = satisfiable_drop (suc i) ss sat

  greedy : GreedyIn (rank tie (s ∷ R)) s p t
  greedy = greedy_at o start ss sat low i l

  -- the plan's total
  plan_total : total start plan ≡ spent + switches p t + due t
  plan_total =
      omega (
        arith,
        sums tie start ss (suc i) R,
        ap (λ (S : List Limits). total start (run tie start S)) (whole_drop tie start ss (suc i) (omega arith)),
        spent_on o start ss sat low i l,
        ap due (set_at_lem tie start ss (suc i) (omega arith)),
      )

  -- what the other files say of this step
  stage : Stage s p t h f w due
  stage = record {
    word = (subst (Below 64) (steps_from_lem ss i l) (below_drop 64 ss i low)).0;
    allowed = greedy.allowed;
    right = subst (λ (P : List ℕ). Right due t (later_from t R P)) (sym rest) (later_right o R rest_sat (below_drop 64 ss (suc i) low) t);
    one_more = value_more o R rest_sat;
    kept = kept_below o start ss sat low i (omega arith);
    held_on = kept_on o start ss sat low i;
    row_off = row_off o start ss sat low i (omega arith);
  }
    where
      rest : drop (suc i) plan ≡ run tie t R
      rest = rest_of_plan tie start ss (suc i) (omega arith) ∙ ap (λ (x : ℕ). run tie x R) (sym (set_at_lem tie start ss (suc i) (omega arith)))

  module _ (tight : Bool) (bound : ℕ) (slack : bound ≡ total start plan + cond tight 0 1) where
    -- so there is a plan with the good set, in which the run goes on from it
    some_by : (on : Bool) (u x : ℕ) → Good tight stage x → Shows on u x → SomePlan bound start ss i (Shows on u)
    unfolding value total
    some_by on u x (a, (q, (from, cost))) shows =
        let (P, (fits, (c, e))) = rows_sound o start ss sat low i (omega arith) q from (s ∷ R) (x ∷ run tie x R) (a, run_feasible o R rest_sat x) in
        let here : get_or P i 0 ≡ x = ap (λ (j : ℕ). get_or P j 0) (omega arith) ∙ e 0 in
        (P, (subst (λ (S : List Limits). FeasiblePlan S P) whole fits, (omega (arith, plan_total), ap (λ (y : ℕ). bit y u) here ∙ shows)))
      where
        whole : whole_at tie start ss i (s ∷ R) ≡ ss
        whole = ap (whole_at tie start ss i) (sym (steps_from_lem ss i l)) ∙ whole_drop tie start ss i (omega arith)

    -- ---- the run for the forced steps

    module _ (on : Bool) (u : ℕ) (some : SomePlan bound start ss i (Shows on u)) where
      abbrev F : Limits
      F = forced on u s

      abbrev q : ℕ
      q = where_at tie start ss i (F ∷ R)

      abbrev x : ℕ
      x = next tie F R q

      has_set_lem : some_set F ≡ true
      unfolding step_at
      has_set_lem = let (P, (fits, (c, e))) = some in (some_forced on u s).1 (get_or P i 0, (allows_at ss P i (limits 0 0 0 0) l fits, e))

      forced_greedy : GreedyIn (rank tie (F ∷ R)) F q x
      forced_greedy = next_greedy o F R (has_set_lem, rest_sat) q

      fits : Allows s x × Shows on u x
      fits = (allows_forced on u s x).0 forced_greedy.allowed

      -- it is at the plan's set before the step, or at one by a row, at the plan's switches
      by_row : ByRow o start ss sat low on i (s ∷ R) (F ∷ R) u
      by_row =
          subst (λ (S : List Limits). RaisedTo on u (rank tie S) (rank tie (F ∷ R)) → ByRow o start ss sat low on i S (F ∷ R) u) (steps_from_lem ss i l)
          (rows_complete o start ss sat low on i (omega arith) (F ∷ R) u) (raised_forced o u s R on)

      origin : (q ≡ p) ⊎ ((y : ℕ) × Moved h f p q (cond on y u) (cond on u y))
      origin = by_row_moved o start ss sat low on i (s ∷ R) (F ∷ R) u by_row

      near : Near t x
      near = near_forced o u s R p q t x on (⊎_map (λ e. e) (λ (y, k). (y, k.0)) by_row.1) greedy forced_greedy

      -- and makes the fewest switches
      cost : switches q x + due x ≤ switches p t + due t + cond tight 0 1
      unfolding value step_at
      cost =
          let (P, (feasible, (c, e))) = some in
          let ts = set ss i F in
          omega (
            arith,
            plan_total,
            value_least o ts (satisfiable_set ss i F sat has_set_lem) start P ((feasible_forced on u (limits 0 0 0 0) ss i P l).1 (feasible, e)),
            ap (λ (S : List Limits). total start (run tie start S)) (whole_set tie start ss i F l),
            sums tie start ss i (F ∷ R),
            value_step tie F R q,
            by_row.0,
          )

      beside : bit s.lower u ≡ 0 → bit s.upper u ≡ 1 → Beside (rank tie (s ∷ R)) s p t greedy q
      unfolding class
      beside lu uu =
          ⊎_map (λ e. e) (λ (y, (k, row)).
          let (has, (lacks, is)) = swapped_units on (rank tie (s ∷ R)) (rank tie (F ∷ R)) u p q y k in
          (cond on y u, cond on u y, (has, (lacks, (is, swapped_class o u s R p q t x on (rank tie (F ∷ R)) y k (omega arith)))))) by_row.1

      far : bit s.lower u ≡ 0 → bit s.upper u ≡ 1 → switches p t ≤ switches q x
      far lu uu = no_fewer (rank tie (s ∷ R)) s p t greedy q x fits.0 (beside lu uu)

      dear : bit t u ≡ 0 → bit s.lower u ≡ 0 → bit s.upper u ≡ 1 → size t < s.greatest → switches p t + 1 ≤ switches q (insert t u)
      dear tu lu uu room = one_dearer (rank tie (s ∷ R)) s p t greedy q u tu uu room (beside lu uu)

    -- ---- the words

    -- the word of the units that can be on in the step is exact
    pub on_exact : (u : ℕ)
        → (bit (on_word tight s t (rows_at start ss plan (suc i)) w) u ≡ 1) ↔ SomePlan bound start ss i (Shows true u)
    unfolding rows_at
    on_exact u = (
      λ k. let (x, (good, e)) = on_sound tight stage u ((on_word_lem tight stage u).0 k) in some_by true u x good e,
      λ k.
          let (a, e) = fits true u k in
          let may : bit t u ≡ 0 → (bit s.lower u ≡ 0) × (bit s.upper u ≡ 1) =
          λ tu. (omega (arith, greedy.allowed.includes u), omega (arith, a.within u, bit_le s.upper u)) in
          (on_word_lem tight stage u).1 (on_complete tight stage (q true u k) (x true u k) a (near true u k) (cost true u k) u e
          (λ tu. far true u k (may tu).0 (may tu).1) (λ tu room. dear true u k tu (may tu).0 (may tu).1 room) (origin true u k)),
    )

    -- and so is that of the units that can be off
    pub off_exact : (us u : ℕ) → bit us u ≡ 1
        → (bit (off_word tight us s t (rows_at start ss plan (suc i)) w) u ≡ 1) ↔ SomePlan bound start ss i (Shows false u)
    unfolding rows_at
    off_exact us u m = (
      λ k. let (x, (good, e)) = off_sound tight stage u ((off_word_lem tight stage us u m).0 k) in some_by false u x good e,
      λ k.
          let (a, e) = fits false u k in
          (off_word_lem tight stage us u m).1 (off_complete tight stage (q false u k) (x false u k) a (near false u k) (cost false u k) u e
          (λ tu. far false u k (omega (arith, a.includes u)) (omega (arith, greedy.allowed.within u, bit_le s.upper u))) (origin false u k)),
    )
