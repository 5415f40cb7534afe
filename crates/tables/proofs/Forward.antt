-- The rows of the plan are exact. What a row says of the step before it is `Turns` (`in_turned`). If unit a is in the
-- row of unit b after i steps, then the plan's set there with a in place of b can be reached at no more switches
-- (`rows_sound`). And if other steps follow, which rank one unit higher, or lower, then the run for them is at the
-- plan's set, or at one that a row gives, after as many switches (`rows_complete`).
use mathlib.Core.Path.{◌≡◌, refl, sym, ap, ap₂, ◌∙◌, subst}
use mathlib.Core.Logic.{◌⊎◌, inl, inr, ⊎_elim, ⊎_map, ◌↔◌}
use mathlib.Core.Bool.{Bool, true, false, cond, not, ◌&&◌, false≢true}
use mathlib.Core.List.{List, [], ◌∷◌}
use Prim.Native.Nat.{ℕ, zero, suc, ◌+◌, ◌^◌, ◌≤◌, ◌<◌}
use native.Mathlib.Decide.{ℕ_discrete}
use native.Mathlib.Omega.{arith}
use lib.ListN.{length, get_or, drop}
use Rattle.units.specs.Sets.{bit, union, intersection, difference, Subset, meets, contains, insert, remove}
use Rattle.units.proofs.Limits.{some_feasible}
use Rattle.units.proofs.Sets.{bit_cases, bit_empty, bit_le, bit_difference, bit_insert, bit_insert_other, bit_remove, bit_remove_other, by_unit, set_ext, outside, unit_below, subset_below}
use Rattle.plans.specs.Plans.{Below}
use Rattle.plans.specs.declared.Limits.{Limits}
use Rattle.plans.specs.Steps.{step_at}
use Rattle.plans.specs.Switch.{Allows, Satisfiable, switches}
use Rattle.plans.proofs.Greedy.{support_in_lem}
use Rattle.plans.proofs.Laid.{steps_from_lem, feasible_at}
use Rattle.plans.proofs.Orders.{Ordered}
use Rattle.plans.proofs.Stands.{GreedyIn}
use Rattle.tables.specs.Tables.{row_count, gathered, free, held, new, come, row_before, turned, turned_row, set_at, held_at, rows_at}
use Rattle.tables.proofs.Before.{before_step}
use Rattle.tables.proofs.Changed.{lacks_old, has_new, same_else, switches_to, switches_on, allows_swap}
use Rattle.tables.proofs.Prefix.{where_at, spent_at, set_at_lem, Reach, reach_on, reach_le, reach_plan}
use Rattle.tables.proofs.Raised.{Raised, Swapped, Led}
use Rattle.tables.proofs.Ranking.{rank, rank_ordered, rank_classes, rank_free, raised_same}
use Rattle.tables.proofs.Runs.{next, run}
use Rattle.tables.proofs.Words.{in_union, in_intersection, in_difference, in_free, in_held, in_new, in_cond, contains_bit, meets_some, bit_gathered}

-- ---- what a row says

-- unit b was held before, and its row has a
abbrev pub Row : ℕ → (ℕ → ℕ) → ℕ → ℕ → Type 0
Row h f b a = (bit h b ≡ 1) × (bit (f b) a ≡ 1)

module _ (p t h : ℕ) (f : ℕ → ℕ) where
  -- unit a was on before, or it is in the row of a unit that leaves
  abbrev pub Comes : ℕ → Type 0
  Comes a = (bit p a ≡ 1) ⊎ ((b : ℕ) × (Row h f b a × (bit t b ≡ 0)))

  -- unit b was off before, or its row has a unit that is switched on, or a comes, or the row of b has it
  abbrev pub Turns : ℕ → ℕ → Type 0
  Turns b a = (bit p b ≡ 0) ⊎ (((c : ℕ) × (Row h f b c × ((bit t c ≡ 1) × (bit p c ≡ 0)))) ⊎ (Comes a ⊎ Row h f b a))

  -- the units of `come`
  pub in_come : h < 2 ^ 64 → (a : ℕ) → bit (come p t h f) a ≡ 1 ↔ Comes a
  unfolding come
  in_come l a =
      let left = difference h t in
      let (to, from) = in_union p (gathered row_count left f) a in
      let (some, row) = bit_gathered row_count left f a in (
        λ e. ⊎_map (λ x. x) (λ x. let (b, (m, (k, r))) = some x in let (u, v) = (in_difference h t b).0 k in (b, ((u, r), v))) (to e),
        λ c. from (⊎_map (λ x. x) (λ (b, ((u, r), v)). row (b, (unit_below 64 h b l u, ((in_difference h t b).1 (u, v), r)))) c),
      )

  -- those of a unit's row
  in_row : (b a : ℕ) → bit (row_before h f b) a ≡ 1 ↔ Row h f b a
  unfolding row_before
  in_row b a =
      let (to, from) = in_cond (contains h b) (f b) a in
      let (is, has) = contains_bit h b in
      (λ e. let (x, y) = to e in (is x, y), λ (x, y). from (has x, y))

  module _ (s : Limits) where
    -- unit a may be on and is not
    abbrev Free : ℕ → Type 0
    Free a = (bit s.upper a ≡ 1) × (bit t a ≡ 0)

    -- those of the row that is made of them
    pub in_turned : h < 2 ^ 64 → (b a : ℕ) → bit (turned s p t h f b) a ≡ 1 ↔ (Free a × Turns b a)
    unfolding turned turned_row
    in_turned l b a = go (contains p b) (meets row (new p t)) refl refl
      where
        row : ℕ
        row = row_before h f b

        meet : meets row (new p t) ≡ true ↔ ((c : ℕ) × (Row h f b c × ((bit t c ≡ 1) × (bit p c ≡ 0))))
        meet =
            let (to, from) = meets_some row (new p t) in (
              λ e. let (c, (x, y)) = to e in (c, ((in_row b c).0 x, (in_new p t c).0 y)),
              λ (c, (x, y)). from (c, ((in_row b c).1 x, (in_new p t c).1 y)),
            )

        go : (x y : Bool) → contains p b ≡ x → meets row (new p t) ≡ y
            → bit (cond (x && not y) (intersection (free s t) (union (come p t h f) row)) (free s t)) a ≡ 1 ↔ (Free a × Turns b a)
        go false y d e = (λ k. ((in_free s t a).0 k, inl (outside p b d)), λ w. (in_free s t a).1 w.0)
        go true true d e = (λ k. ((in_free s t a).0 k, inr (inl (meet.0 e))), λ w. (in_free s t a).1 w.0)
        go true false d e =
            let both = in_intersection (free s t) (union (come p t h f) row) a in
            let either = in_union (come p t h f) row a in (
              λ k. let (x, y) = both.0 k in ((in_free s t a).0 x, inr (inr (⊎_map (in_come l a).0 (in_row b a).0 (either.0 y)))),
              λ (x, w). both.1 ((in_free s t a).1 x, either.1 (last w)),
            )
          where
            last : Turns b a → (bit (come p t h f) a ≡ 1) ⊎ (bit row a ≡ 1)
            last (inl z) = absurd (omega (arith, (contains_bit p b).0 d))
            last (inr (inl c)) = absurd (false≢true (sym e ∙ meet.1 c))
            last (inr (inr w)) = ⊎_map (in_come l a).1 (in_row b a).1 w

-- ---- rows and switches

-- q is the set p with a in place of b, by a row
pub record Moved (h : ℕ) (f : ℕ → ℕ) (p q b a : ℕ) : Type 0 where
  pub row : Row h f b a
  pub has : bit p b ≡ 1
  pub lacks : bit p a ≡ 0
  pub swapped : q ≡ insert (remove p b) a

module _ (p t h : ℕ) (f : ℕ → ℕ) where
  -- from p, or from a set by a row, there are c switches at the most to x
  abbrev From : ℕ → ℕ → Type 0
  From x c = (q : ℕ) × (((q ≡ p) ⊎ ((b : ℕ) × (a : ℕ) × Moved h f p q b a)) × (switches q x ≤ c))

  -- What the rows say is so, if the units held were on before and those in their rows were off: one of these sets is
  -- no farther from t with w in place of v than p from t.
  module _ (held_on : (b : ℕ) → bit h b ≡ 1 → bit p b ≡ 1) (row_off : (b a : ℕ) → Row h f b a → bit p a ≡ 0) where
    by_row : (x b a c : ℕ) → Row h f b a → switches p x + bit x b ≤ c + bit x a → From x c
    by_row x b a c r l =
        let on = held_on b r.0 in
        let off = row_off b a r in
        let q = insert (remove p b) a in
        (q, (inr (b, a, record { row = r; has = on; lacks = off; swapped = refl }), omega (arith, switches_on p q b a on off refl x)))

    -- here x has w, and else no unit that t lacks
    come_from : (x w c : ℕ) → bit x w ≡ 1 → ((u : ℕ) → (u ≡ w → ⊥) → bit x u ≤ bit t u) → switches p x + bit p w ≤ c + 1 → Comes p t h f w
        → From x c
    come_from x w c xw else l (inl e) = (p, (inl refl, omega arith))
    come_from x w c xw else l (inr (b, (r, tb))) =
        by_row x b w c r (omega (arith, else b (λ e. omega (arith, held_on b r.0, row_off b w r, ap (bit p) e))))

    pub turn_to : (x v w : ℕ) → bit t v ≡ 1 → bit t w ≡ 0 → x ≡ insert (remove t v) w → Turns p t h f v w → From x (switches p t)
    turn_to x v w tv tw is = go
      where
        less : switches p x + bit p w ≤ switches p t + 1
        less = omega (arith, switches_to t x v w tv tw is p, bit_le p v)

        xv : bit x v ≡ 0
        xv = lacks_old t x v w tv tw is

        xw : bit x w ≡ 1
        xw = has_new t x v w tv tw is

        go : Turns p t h f v w → From x (switches p t)
        go (inl e) = (p, (inl refl, omega (arith, switches_to t x v w tv tw is p)))
        go (inr (inl (c, (r, (tc, pc))))) =
            let m : c ≡ v → ⊥ = λ e. omega (arith, held_on v r.0, ap (bit p) e) in
            let n : c ≡ w → ⊥ = λ e. omega (arith, ap (bit t) e) in
            by_row x v c (switches p t) r (omega (arith, less, xv, same_else t x v w tv tw is c m n))
        go (inr (inr (inl k))) =
            let else : (u : ℕ) → (u ≡ w → ⊥) → bit x u ≤ bit t u =
            by_unit v (λ u. (u ≡ w → ⊥) → bit x u ≤ bit t u) (λ n. omega (arith, xv))
            (λ u m n. omega (arith, same_else t x v w tv tw is u m n)) in
            come_from x w (switches p t) xw else less k
        go (inr (inr (inr r))) = by_row x v w (switches p t) r (omega (arith, less, xv, xw))

  -- Conversely, let x be t with w in place of v, and let q be no farther from x than p from t, where q is p, or p with
  -- a in place of b by a row, and a is w or b is v. If v was on before and w was off, then p itself is farther from x
  -- by one, so that q is by a row, and x has a and lacks b. Then a is w or is switched on, and b is v or leaves.
  pub row_member : (q x v w : ℕ) → bit t v ≡ 1 → bit t w ≡ 0 → x ≡ insert (remove t v) w
      → (q ≡ p) ⊎ ((b : ℕ) × (a : ℕ) × (Moved h f p q b a × ((a ≡ w) ⊎ (b ≡ v)))) → switches q x ≤ switches p t → Turns p t h f v w
  row_member q x v w tv tw is from l = go from (bit_cases p v) (bit_cases p w)
    where
      else : (u : ℕ) → (u ≡ v → ⊥) → (u ≡ w → ⊥) → bit x u ≡ bit t u
      else = same_else t x v w tv tw is

      far : switches p t + bit p v ≡ switches p x + bit p w
      far = switches_to t x v w tv tw is p

      moved : (b a : ℕ) → Moved h f p q b a → (a ≡ w) ⊎ (b ≡ v) → bit x a ≡ 1 → bit x b ≡ 0 → bit p v ≡ 1 → bit p w ≡ 0
          → Dec (a ≡ w) → Dec (b ≡ v) → Turns p t h f v w
      moved b a m one xa xb pv pw (yes i) (yes j) = inr (inr (inr (rw (i, j) at m.row)))
      moved b a m one xa xb pv pw (yes i) (no n) =
          inr (inr (inl (inr (b, (rw i at m.row, sym (else b n (λ k. omega (arith, m.has, ap (bit p) k))) ∙ xb)))))
      moved b a m one xa xb pv pw (no n) (yes j) =
          inr (inl (a, (rw j at m.row, (sym (else a (λ k. omega (arith, m.lacks, ap (bit p) k)) n) ∙ xa, m.lacks))))
      moved b a m one xa xb pv pw (no n) (no k) = absurd (⊎_elim n k one)

      go : (q ≡ p) ⊎ ((b : ℕ) × (a : ℕ) × (Moved h f p q b a × ((a ≡ w) ⊎ (b ≡ v)))) → (bit p v ≡ 0) ⊎ (bit p v ≡ 1)
          → (bit p w ≡ 0) ⊎ (bit p w ≡ 1) → Turns p t h f v w
      go k (inl pv) d = inl pv
      go k (inr pv) (inr pw) = inr (inr (inl (inl pw)))
      go (inl k) (inr pv) (inl pw) = absurd (omega (arith, far, ap (λ (y : ℕ). switches y x) k))
      go (inr (b, a, (m, one))) (inr pv) (inl pw) =
          let near = switches_on p q b a m.has m.lacks m.swapped x in
          moved b a m one (omega (arith, far, bit_le x a)) (omega (arith, far, bit_le x a)) pv pw (ℕ_discrete a w) (ℕ_discrete b v)

-- ---- two runs

-- unit u stands in r' as high as in r, or higher; or else as high, or lower
abbrev pub RaisedTo : Bool → ℕ → (ℕ → ℕ → Bool) → (ℕ → ℕ → Bool) → Type 0
RaisedTo true u r r' = Raised u r r'
RaisedTo false u r r' = Raised u r' r

-- p' has u in place of x, or x in place of u
abbrev pub SwappedTo : Bool → (ℕ → ℕ → Bool) → (ℕ → ℕ → Bool) → ℕ → ℕ → ℕ → ℕ → Type 0
SwappedTo true r r' u p p' x = Swapped r r' u p p' x
SwappedTo false r r' u p p' x = Swapped r' r u p' p x

-- put back, the unit that went gives the set as it was
back : (t x e c : ℕ) → bit t e ≡ 1 → bit t c ≡ 0 → x ≡ insert (remove t e) c → t ≡ insert (remove x c) e
back t x e c te tc is =
    let r = remove x c in
    set_ext t (insert r e) (by_unit e (λ u. bit t u ≡ bit (insert r e) u) (omega (arith, bit_insert r e))
    (by_unit c (λ u. (u ≡ e → ⊥) → bit t u ≡ bit (insert r e) u) (λ m. omega (arith, bit_insert_other r e c m, bit_remove x c))
    (λ u n m. omega (arith, bit_insert_other r e u m, bit_remove_other x c u n, same_else t x e c te tc is u m n))))

-- the one goes and the other comes
pub swapped_units : (on : Bool) (r r' : ℕ → ℕ → Bool) (u p p' x : ℕ) → SwappedTo on r r' u p p' x
    → (bit p (cond on x u) ≡ 1) × ((bit p (cond on u x) ≡ 0) × (p' ≡ insert (remove p (cond on x u)) (cond on u x)))
swapped_units true r r' u p p' x w = (w.has, (w.lacks, w.swapped))
swapped_units false r r' u p p' x w =
    let h = w.has in
    let l = w.lacks in
    let is = w.swapped in
    (has_new p' p x u h l is, (lacks_old p' p x u h l is, back p' p x u h l is))

-- in two such pairs, what comes is the same, or what goes
same_unit : (on : Bool) (u x y : ℕ) → (cond on u y ≡ cond on u x) ⊎ (cond on y u ≡ cond on x u)
same_unit true u x y = inl refl
same_unit false u x y = inr refl

-- the same step before both
raised_step : (on : Bool) (tie : ℕ → ℕ → Bool) (u : ℕ) (s : Limits) (R R' : List Limits) → RaisedTo on u (rank tie R) (rank tie R')
    → RaisedTo on u (rank tie (s ∷ R)) (rank tie (s ∷ R'))
raised_step true tie u s R R' up = raised_same tie u s R R' up
raised_step false tie u s R R' up = raised_same tie u s R' R up

-- and what it does to two runs
module _ {tie : ℕ → ℕ → Bool} (o : Ordered tie) (u : ℕ) (s : Limits) where
  led_up : (R R' : List Limits) → Raised u (rank tie (s ∷ R)) (rank tie (s ∷ R')) → (p p' g g' : ℕ)
      → GreedyIn (rank tie (s ∷ R)) s p g → GreedyIn (rank tie (s ∷ R')) s p' g' → Led (rank tie (s ∷ R)) (rank tie (s ∷ R')) u p p'
      → Led (rank tie R) (rank tie R') u g g' × (switches p g ≡ switches p' g')
  led_up R R' up =
      before_step u s (rank tie (s ∷ R)) (rank tie (s ∷ R')) (rank tie R) (rank tie R') (rank_ordered o (s ∷ R)) (rank_ordered o (s ∷ R')) up
      (rank_classes tie s R) (rank_classes tie s R') (rank_free tie s R) (rank_free tie s R')

  led_step : (on : Bool) (R R' : List Limits) → RaisedTo on u (rank tie (s ∷ R)) (rank tie (s ∷ R')) → (p p' g g' : ℕ)
      → GreedyIn (rank tie (s ∷ R)) s p g → GreedyIn (rank tie (s ∷ R')) s p' g'
      → (p' ≡ p) ⊎ ((x : ℕ) × SwappedTo on (rank tie (s ∷ R)) (rank tie (s ∷ R')) u p p' x)
      → ((g' ≡ g) ⊎ ((x : ℕ) × SwappedTo on (rank tie R) (rank tie R') u g g' x)) × (switches p g ≡ switches p' g')
  led_step true R R' up p p' g g' G G' led = led_up R R' up p p' g g' G G' led
  led_step false R R' up p p' g g' G G' led =
      let (after, alike) = led_up R' R up p' p g' g G' G (⊎_map sym (λ w. w) led) in
      (⊎_map sym (λ w. w) after, sym alike)

-- ---- the plan

-- the units that a step allows are below d, if those of all steps are
upper_below : (d : ℕ) (ss : List Limits) (i : ℕ) → i < length ss → Below d ss → (step_at ss i).upper < 2 ^ d
unfolding step_at
upper_below d [] i l b = absurd (omega arith)
upper_below d (s ∷ ss) zero l b = b.0
upper_below d (s ∷ ss) (suc i) l b = upper_below d ss i (omega arith) b.1

module _ {tie : ℕ → ℕ → Bool} (o : Ordered tie) (start : ℕ) (ss : List Limits) (sat : Satisfiable ss) (low : Below 64 ss) where
  -- the plan, its set after i steps, the units held in it, their rows, and the switches so far
  abbrev plan : List ℕ
  plan = run tie start ss

  abbrev at : ℕ → ℕ
  at i = set_at start plan i

  abbrev kept : ℕ → ℕ
  kept i = held_at ss plan i

  abbrev rows : ℕ → ℕ → ℕ
  rows i = rows_at start ss plan i

  abbrev spent : ℕ → ℕ
  spent i = spent_at tie start ss i (drop i ss)

  -- the set after i steps in the run where R follow
  abbrev at_with : ℕ → List Limits → ℕ
  at_with i R = where_at tie start ss i R

  -- it is greedy, for every R
  pub greedy_on : (i : ℕ) (R : List Limits) → i < length ss
      → GreedyIn (rank tie (step_at ss i ∷ R)) (step_at ss i) (at_with i (step_at ss i ∷ R)) (at_with (suc i) R)
  unfolding where_at next
  greedy_on i R l =
      let s = step_at ss i in
      let x = (some_feasible s.lower s.upper s.least s.greatest).0 (feasible_at ss i l sat) in
      support_in_lem (rank tie (s ∷ R)) s (at_with i (s ∷ R)) (rank_ordered o (s ∷ R)) x.0 x.1

  -- so is the plan's
  before_is : (i : ℕ) → i < length ss → at_with i (step_at ss i ∷ drop (suc i) ss) ≡ at i
  before_is i l = ap (at_with i) (sym (steps_from_lem ss i l)) ∙ sym (set_at_lem tie start ss i (omega arith))

  pub greedy_at : (i : ℕ) → i < length ss → GreedyIn (rank tie (step_at ss i ∷ drop (suc i) ss)) (step_at ss i) (at i) (at (suc i))
  greedy_at i l = rw (before_is i l, sym (set_at_lem tie start ss (suc i) l)) at (greedy_on i (drop (suc i) ss) l)

  -- one step more
  pub spent_on : (i : ℕ) → i < length ss → spent (suc i) ≡ spent i + switches (at i) (at (suc i))
  unfolding spent_at
  spent_on i l =
      ap₂ (λ (x y : ℕ). x + y) (ap (spent_at tie start ss i) (sym (steps_from_lem ss i l)))
      (ap₂ switches (before_is i l) (sym (set_at_lem tie start ss (suc i) l)))

  -- the units held are those on and not required
  pub in_kept : (i b : ℕ) → bit (kept (suc i)) b ≡ 1 ↔ ((bit (at (suc i)) b ≡ 1) × (bit (step_at ss i).lower b ≡ 0))
  unfolding held_at set_at
  in_kept i b = in_held (step_at ss i) (get_or plan i 0) b

  -- so they are on, and below 64
  kept_within : (i : ℕ) → Subset (kept i) (at i)
  unfolding held_at held set_at
  kept_within zero b = omega (arith, bit_empty b)
  kept_within (suc i) b = omega (arith, bit_difference (get_or plan i 0) (step_at ss i).lower b)

  pub kept_on : (i b : ℕ) → bit (kept i) b ≡ 1 → bit (at i) b ≡ 1
  kept_on i b e = omega (arith, kept_within i b, bit_le (at i) b)

  pub kept_below : (i : ℕ) → i ≤ length ss → kept i < 2 ^ 64
  unfolding held_at
  kept_below zero l = omega arith
  kept_below (suc i) l =
      subset_below 64 (kept (suc i)) (step_at ss i).upper
      (λ b. omega (arith, kept_within (suc i) b, (greedy_at i l).allowed.within b)) (upper_below 64 ss i l low)

  -- the units in their rows are those of `Turns`, and are off
  pub in_rows : (i : ℕ) → i < length ss → (b a : ℕ) → bit (rows (suc i) b) a ≡ 1
      ↔ (((bit (step_at ss i).upper a ≡ 1) × (bit (at (suc i)) a ≡ 0)) × Turns (at i) (at (suc i)) (kept i) (rows i) b a)
  unfolding rows_at
  in_rows i l b a = in_turned (at i) (at (suc i)) (kept i) (rows i) (step_at ss i) (kept_below i (omega arith)) b a

  pub row_off : (i : ℕ) → i ≤ length ss → (b a : ℕ) → Row (kept i) (rows i) b a → bit (at i) a ≡ 0
  unfolding held_at
  row_off zero l b a r = absurd (omega (arith, bit_empty b, r.0))
  row_off (suc i) l b a r = ((in_rows i l b a).0 r.1).0.1

  -- ---- what the rows say can be reached

  -- the plan's set after i steps can be reached within the plan's switches
  reach_same : (i : ℕ) → i ≤ length ss → (q : ℕ) → q ≡ at i → Reach tie start ss i q (spent i)
  reach_same i l q e =
      subst (λ (x : ℕ). Reach tie start ss i x (spent i)) (sym (e ∙ set_at_lem tie start ss i l)) (reach_plan tie start ss o sat i l)

  -- and so can each set by a row
  pub rows_sound : (i : ℕ) → i ≤ length ss → (q : ℕ) → (q ≡ at i) ⊎ ((b : ℕ) × (a : ℕ) × Moved (kept i) (rows i) (at i) q b a)
      → Reach tie start ss i q (spent i)
  unfolding held_at
  rows_sound zero l q (inl e) = reach_same zero l q e
  rows_sound zero l q (inr (b, a, m)) = absurd (omega (arith, bit_empty b, m.row.0))
  rows_sound (suc i) l q (inl e) = reach_same (suc i) l q e
  rows_sound (suc i) l q (inr (b, a, m)) =
      let s = step_at ss i in
      let t = at (suc i) in
      let (tb, lb) = (in_kept i b).0 m.row.0 in
      let ((ua, ta), turns) = (in_rows i l b a).0 m.row.1 in
      let fits = allows_swap s t (greedy_at i l).allowed b a tb ta lb ua in
      let (r, (from, c)) = turn_to (at i) t (kept i) (rows i) (kept_on i) (row_off i (omega arith)) q b a tb ta m.swapped turns in
      reach_le tie start ss (suc i) q (spent i + switches r q) (spent (suc i)) (omega (arith, spent_on i l))
      (reach_on tie start ss i q r (spent i) (rows_sound i (omega arith) r from) (subst (Allows s) (sym m.swapped) fits))

  -- ---- what is reached, the rows say

  -- the plan's next set with w in place of v, if the step allows it
  pub row_next : (i : ℕ) → i < length ss → (q x v w : ℕ) → bit (at (suc i)) v ≡ 1 → bit (at (suc i)) w ≡ 0
      → x ≡ insert (remove (at (suc i)) v) w → Allows (step_at ss i) x
      → (q ≡ at i) ⊎ ((b : ℕ) × (a : ℕ) × (Moved (kept i) (rows i) (at i) q b a × ((a ≡ w) ⊎ (b ≡ v))))
      → switches q x ≤ switches (at i) (at (suc i)) → Row (kept (suc i)) (rows (suc i)) v w
  row_next i l q x v w tv tw is a from c =
      let s = step_at ss i in
      let t = at (suc i) in
      let lv : bit s.lower v ≡ 0 = omega (arith, a.includes v, lacks_old t x v w tv tw is) in
      let uw : bit s.upper w ≡ 1 = omega (arith, a.within w, has_new t x v w tv tw is, bit_le s.upper w) in
      ((in_kept i v).1 (tv, lv), (in_rows i l v w).1 ((uw, tw), row_member (at i) t (kept i) (rows i) q x v w tv tw is from c))

  -- After i steps the run where R follow has made as many switches as the plan, and is at the plan's set, or at one
  -- that a row gives: it has u in place of another unit, or another in place of u.
  abbrev pub ByRow : Bool → ℕ → List Limits → List Limits → ℕ → Type 0
  ByRow on i S R u =
      (spent_at tie start ss i R ≡ spent i) × ((at_with i R ≡ at i) ⊎ ((x : ℕ)
      × (SwappedTo on (rank tie S) (rank tie R) u (at i) (at_with i R) x × Row (kept i) (rows i) (cond on x u) (cond on u x))))

  -- the same, in terms of `row_next`
  pub by_row_moved : (on : Bool) (i : ℕ) (S R : List Limits) (u : ℕ) → ByRow on i S R u
      → (at_with i R ≡ at i) ⊎ ((x : ℕ) × Moved (kept i) (rows i) (at i) (at_with i R) (cond on x u) (cond on u x))
  by_row_moved on i S R u (same, by) =
      ⊎_map (λ e. e) (λ (x, (w, k)).
      let (has, (lacks, is)) = swapped_units on (rank tie S) (rank tie R) u (at i) (at_with i R) x w in
      (x, record { row = k; has = has; lacks = lacks; swapped = is })) by

  -- one step on: what `before_step` says of the sets, with the row of the step
  by_row_on : (on : Bool) (i : ℕ) → i < length ss → (R : List Limits) (u : ℕ)
      → RaisedTo on u (rank tie (step_at ss i ∷ drop (suc i) ss)) (rank tie (step_at ss i ∷ R))
      → ByRow on i (step_at ss i ∷ drop (suc i) ss) (step_at ss i ∷ R) u → ByRow on (suc i) (drop (suc i) ss) R u
  unfolding spent_at
  by_row_on on i l R u up by =
      let (after, alike) = led_step o u s on D R up (at i) q (at (suc i)) t (greedy_at i l) (greedy_on i R l)
      (⊎_map (λ e. e) (λ (x, w). (x, w.0)) by.1) in
      (omega (arith, by.0, spent_on i l), ⊎_map (λ e. e) (λ (x, w). (x, (w, row x w alike))) after)
    where
      s : Limits
      s = step_at ss i

      D : List Limits
      D = drop (suc i) ss

      q : ℕ
      q = at_with i (s ∷ R)

      t : ℕ
      t = at_with (suc i) R

      row : (x : ℕ) → SwappedTo on (rank tie D) (rank tie R) u (at (suc i)) t x → switches (at i) (at (suc i)) ≡ switches q t
          → Row (kept (suc i)) (rows (suc i)) (cond on x u) (cond on u x)
      row x w alike =
          let (has, (lacks, is)) = swapped_units on (rank tie D) (rank tie R) u (at (suc i)) t x w in
          row_next i l q t (cond on x u) (cond on u x) has lacks is (greedy_on i R l).allowed
          (⊎_map (λ e. e) (λ (y, m). (cond on y u, cond on u y, (m, same_unit on u x y))) (by_row_moved on i (s ∷ D) (s ∷ R) u by)) (omega arith)

  -- so it is, if R ranks u higher than the rest of the plan's steps does, or lower, and all other units alike
  pub rows_complete : (on : Bool) (i : ℕ) → i ≤ length ss → (R : List Limits) (u : ℕ) → RaisedTo on u (rank tie (drop i ss)) (rank tie R)
      → ByRow on i (drop i ss) R u
  unfolding spent_at where_at set_at
  rows_complete on zero l R u up = (refl, inl refl)
  rows_complete on (suc i) l R u up =
      let s = step_at ss i in
      let lifted = raised_step on tie u s (drop (suc i) ss) R up in
      by_row_on on i l R u lifted
      (subst (λ (S : List Limits). RaisedTo on u (rank tie S) (rank tie (s ∷ R)) → ByRow on i S (s ∷ R) u) (steps_from_lem ss i l)
      (rows_complete on i (omega arith) (s ∷ R) u) lifted)
