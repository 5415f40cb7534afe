-- The tables of the switches still to come are exact: they say of each neighbour of the plan's set whether the steps
-- that follow need fewer switches from it, or no more (`Right`). A step hands this on from the set t after it to the
-- set p before it, if t is a best set from p and from each neighbour of p some best set is near t (`right_step`); in a
-- run of greedy sets that is so in each step (`later_right`).
use mathlib.Core.Path.{◌≡◌, refl, sym, ap, subst}
use mathlib.Core.Logic.{◌⊎◌, inl, inr, ⊎_elim, ◌↔◌}
use mathlib.Core.Bool.{Bool, true, cond, ◌&&◌, and-eq-true_iff}
use mathlib.Core.List.{List, [], ◌∷◌}
use Prim.Native.Nat.{ℕ, ◌+◌, ◌^◌, ◌≤◌, ◌<◌}
use native.Mathlib.Omega.{arith}
use Rattle.units.specs.Sets.{bit, union, intersection, difference, meets, all, contains, insert, remove, size}
use Rattle.units.proofs.Sets.{bit_cases, bit_empty, bit_insert, bit_insert_other, bit_le, bit_remove, bit_remove_other, remove_subset, size_insert, size_remove, subset_insert, unit_below}
use Rattle.plans.specs.Plans.{Below}
use Rattle.plans.specs.declared.Limits.{Limits}
use Rattle.plans.specs.Switch.{Allows, Satisfiable, switches}
use Rattle.plans.proofs.Orders.{Ordered}
use Rattle.plans.proofs.Totals.{switches_insert}
use Rattle.tables.specs.Tables.{row_count, gathered, free, held, new, more, less, Later, ended, saves_before, dispensable_before, even_row, gain_row, even_before, gain_before, stepped, later_from}
use Rattle.tables.proofs.Changed.{from_more, from_less, to_less, lacks_old, has_new, switches_to, switches_on, allows_more, allows_less, allows_swap}
use Rattle.tables.proofs.Raised.{Raised, Near}
use Rattle.tables.proofs.Ranking.{rank, rank_ordered}
use Rattle.tables.proofs.Runs.{next, run, value, value_end, value_step, value_by, next_greedy}
use Rattle.tables.proofs.Stable.{near_swap, near_in, near_out, one_at_most, stable, wider_same}
use Rattle.tables.proofs.Words.{or_true₃, contains_bit, more_true, less_true, in_union, in_union₃, in_intersection, in_difference, in_free, in_held, in_new, in_cond, in_given, in_lacking, bit_all, meets_some, bit_gathered, bit_passing}

-- x with a in place of b
abbrev swap : ℕ → ℕ → ℕ → ℕ
swap x b a = insert (remove x b) a

-- ---- exact tables

-- The tables w are exact for `due`, the switches still to come from a set, around the set p. They are fewer from p
-- with a exactly if a is in `saves`, and no more from p without b exactly if b is in `dispensable`. From p with a in
-- place of b they are no more exactly if a is in row b of `even`, and fewer exactly if it is in row b of `gain`.
pub record Right (due : ℕ → ℕ) (p : ℕ) (w : Later) : Type 0 where
  pub saves : (a : ℕ) → a < 64 → bit p a ≡ 0 → (bit w.saves a ≡ 1) ↔ (due (insert p a) + 1 ≤ due p)
  pub dispensable : (b : ℕ) → b < 64 → bit p b ≡ 1 → (bit w.dispensable b ≡ 1) ↔ (due (remove p b) ≤ due p)
  pub even : (b a : ℕ) → b < 64 → a < 64 → bit p b ≡ 1 → bit p a ≡ 0 → (bit (w.even b) a ≡ 1) ↔ (due (insert (remove p b) a) ≤ due p)
  pub gain : (b a : ℕ) → b < 64 → a < 64 → bit p b ≡ 1 → bit p a ≡ 0 → (bit (w.gain b) a ≡ 1) ↔ (due (insert (remove p b) a) + 1 ≤ due p)

-- after the last step no switch is to come
pub right_ended : (due : ℕ → ℕ) → ((x : ℕ) → due x ≡ 0) → (p : ℕ) → Right due p ended
unfolding ended
right_ended due none p = record {
  saves = λ a l pa. omega (arith, bit_empty a, none p);
  dispensable = λ b l pb. omega (arith, bit_all b l, none (remove p b));
  even = λ b a l m pb pa. omega (arith, bit_all a m, none (insert (remove p b) a));
  gain = λ b a l m pb pa. omega (arith, bit_empty a, none p);
}

-- ---- a step

-- Let a step go from p to t, and let due₀ and due₁ be the switches still to come before and after it. Let t be a best
-- set from p, and let there be from each neighbour of p a best set near t. Then the tables of p are exact if those of
-- t are. From p with a, a set that has a costs one switch less than from p, and the others cost the same. So a is in
-- `saves` exactly if some best set from p has it, and then one near t does: t itself, t with a, or t with a in place
-- of another unit. In the same way, b is in `dispensable` exactly if some best set from p lacks it. From p with a in
-- place of b, a set that has a costs one less, and a set that has b one more. So for a switch less, a best set must
-- have a and lack b. For no more, a best set must have a or lack b, or one that costs one more than these must have a
-- and lack b.
module _ (s : Limits) (due₀ due₁ : ℕ → ℕ) (p t : ℕ) (within : s.upper < 2 ^ 64) (allowed : Allows s t) (attained : due₀ p ≡ switches p t + due₁ t)
    (least : (q x : ℕ) → Allows s x → due₀ q ≤ switches q x + due₁ x)
    (near : (u q : ℕ) → ((v : ℕ) → (v ≡ u → ⊥) → bit q v ≤ bit p v) → size (difference p q) ≤ 1
    → (x : ℕ) × (Allows s x × ((due₀ q ≡ switches q x + due₁ x) × Near t x)))
    (w : Later) (right : Right due₁ t w) where
  -- x is feasible, and with it k switches more than the fewest come from p at the most
  record Best (k x : ℕ) : Type 0 where
    fits : Allows s x
    cost : switches p x + due₁ x ≤ due₀ p + k

  best_same : Best 0 t
  best_same = record { fits = allowed; cost = omega arith }

  -- a best set from q, near t
  abbrev NearBest : ℕ → Type 0
  NearBest q = (x : ℕ) × (Allows s x × ((due₀ q ≡ switches q x + due₁ x) × Near t x))

  -- there is one if q is p but for a unit a that it may have, and a unit b that it may lack
  near_best : (q a b : ℕ) → ((v : ℕ) → (v ≡ a → ⊥) → bit q v ≤ bit p v) → ((v : ℕ) → (v ≡ b → ⊥) → bit p v ≤ bit q v) → NearBest q
  near_best q a b h k = near a q h (one_at_most p q b k)

  -- units that may be on are units of a word
  low : (u : ℕ) → bit s.upper u ≡ 1 → u < 64
  low u = unit_below 64 s.upper u within

  low_on : (u : ℕ) → bit t u ≡ 1 → u < 64
  low_on u e = low u (omega (arith, allowed.within u, bit_le s.upper u))

  -- which neighbours of t are among the best: with one unit more,
  best_more : (c : ℕ) → bit t c ≡ 0
      → Best 0 (insert t c) ↔ ((more s t ≡ true) × ((bit (free s t) c ≡ 1) × (due₁ (insert t c) + 1 ≤ bit p c + due₁ t)))
  best_more c tc = (
    λ b.
        let uc : bit s.upper c ≡ 1 = omega (arith, b.fits.within c, bit_insert t c, bit_le s.upper c) in
        ((more_true s t).1 (omega (arith, b.fits.few, grown)), ((in_free s t c).1 (uc, tc), omega (arith, b.cost, paid))),
    λ (m, (fc, h)). record {
      fits = allows_more s t allowed c tc ((in_free s t c).0 fc).0 ((more_true s t).0 m);
      cost = omega (arith, paid);
    },
  )
    where
      grown : size (insert t c) ≡ size t + 1
      grown = size_insert t c tc

      paid : switches p (insert t c) + bit p c ≡ switches p t + 1
      paid = switches_insert p t c tc

  -- with one less,
  best_less : (e : ℕ) → bit t e ≡ 1
      → Best 0 (remove t e) ↔ ((less s t ≡ true) × ((bit (held s t) e ≡ 1) × (bit p e + due₁ (remove t e) ≤ due₁ t + 1)))
  best_less e te = (
    λ b.
        let le : bit s.lower e ≡ 0 = omega (arith, b.fits.includes e, bit_remove t e) in
        ((less_true s t).1 (omega (arith, b.fits.enough, shrunk)), ((in_held s t e).1 (te, le), omega (arith, b.cost, to_less p t e te))),
    λ (m, (he, h)). record {
      fits = allows_less s t allowed e te ((in_held s t e).0 he).1 ((less_true s t).0 m);
      cost = omega (arith, to_less p t e te);
    },
  )
    where
      shrunk : size t ≡ size (remove t e) + 1
      shrunk = size_remove t e te

  -- and with one in place of another
  best_swap : (k e c : ℕ) → bit t e ≡ 1 → bit t c ≡ 0
      → Best k (swap t e c) ↔ ((bit (held s t) e ≡ 1) × ((bit (free s t) c ≡ 1) × (bit p e + due₁ (swap t e c) ≤ bit p c + due₁ t + k)))
  best_swap k e c te tc = (
    λ b.
        let le : bit s.lower e ≡ 0 = omega (arith, b.fits.includes e, lacks_old t (swap t e c) e c te tc refl) in
        let uc : bit s.upper c ≡ 1 = omega (arith, b.fits.within c, has_new t (swap t e c) e c te tc refl, bit_le s.upper c) in
        ((in_held s t e).1 (te, le), ((in_free s t c).1 (uc, tc), omega (arith, b.cost, switches_to t (swap t e c) e c te tc refl p))),
    λ (he, (fc, h)). record {
      fits = allows_swap s t allowed e c te tc ((in_held s t e).0 he).1 ((in_free s t c).0 fc).0;
      cost = omega (arith, switches_to t (swap t e c) e c te tc refl p);
    },
  )

  -- a best set that has a, and else no unit that t lacks
  abbrev Gets : ℕ → Type 0
  Gets a = (x : ℕ) × (Best 0 x × ((bit x a ≡ 1) × ((v : ℕ) → (v ≡ a → ⊥) → bit x v ≤ bit t v)))

  -- a best set that lacks b, and else no unit that t has
  abbrev Lacks : ℕ → Type 0
  Lacks b = (x : ℕ) × (Best 0 x × ((bit x b ≡ 0) × ((v : ℕ) → (v ≡ b → ⊥) → bit t v ≤ bit x v)))

  -- `saves_before` has a unit that was off exactly if some best set has it
  module _ (a : ℕ) (la : a < 64) (pa : bit p a ≡ 0) where
    saves_sound : bit (saves_before s p t w) a ≡ 1 → Gets a
    unfolding saves_before
    saves_sound h =
        ⊎_elim (λ n. (t, (best_same, (((in_new p t a).0 n).0, λ v m. omega arith))))
        (λ r. let (f, o) = (in_intersection _ _ _).0 r in ⊎_elim (by_more f) (⊎_elim (by_even f) (by_gain f)) ((in_union₃ _ _ _ _).0 o))
        ((in_union _ _ _).0 h)
      where
        by_more : bit (free s t) a ≡ 1 → bit (cond (more s t) w.saves 0) a ≡ 1 → Gets a
        by_more fa m =
            let ta = ((in_free s t a).0 fa).1 in
            let (c, h) = (in_cond (more s t) w.saves a).0 m in
            let b = (best_more a ta).1 (c, (fa, omega (arith, (right.saves a la ta).0 h))) in
            (insert t a, (b, (bit_insert t a, λ v n. omega (arith, bit_insert_other t a v n))))

        by_swap : bit (free s t) a ≡ 1 → (e : ℕ) → bit (held s t) e ≡ 1
            → (bit t e ≡ 1 → bit t a ≡ 0 → bit p e + due₁ (swap t e a) ≤ due₁ t) → Gets a
        by_swap fa e he h =
            let te = ((in_held s t e).0 he).0 in
            let ta = ((in_free s t a).0 fa).1 in
            let b = (best_swap 0 e a te ta).1 (he, (fa, omega (arith, h te ta))) in
            (swap t e a, (b, (bit_insert (remove t e) a, λ v n. omega (arith, bit_insert_other (remove t e) a v n, remove_subset t e v))))

        by_even : bit (free s t) a ≡ 1 → bit (gathered row_count (difference (held s t) p) w.even) a ≡ 1 → Gets a
        by_even f m =
            let (e, (l, (d, h))) = (bit_gathered _ _ _ _).0 m in
            let (he, pe) = (in_difference _ _ _).0 d in
            by_swap f e he (λ te ta. omega (arith, (right.even e a l la te ta).0 h))

        by_gain : bit (free s t) a ≡ 1 → bit (gathered row_count (held s t) w.gain) a ≡ 1 → Gets a
        by_gain f m =
            let (e, (l, (he, h))) = (bit_gathered _ _ _ _).0 m in
            by_swap f e he (λ te ta. omega (arith, (right.gain e a l la te ta).0 h, bit_le p e))

    saves_new : bit t a ≡ 1 → bit (saves_before s p t w) a ≡ 1
    unfolding saves_before
    saves_new ta = (in_union _ _ _).1 (inl ((in_new p t a).1 (ta, pa)))

    saves_complete : (x : ℕ) → Best 0 x → Near t x → bit x a ≡ 1 → bit (saves_before s p t w) a ≡ 1
    unfolding saves_before
    saves_complete x b n xa = ⊎_elim (λ ta. (in_union _ _ _).1 (inr (off ta (near_in t x n a xa ta)))) saves_new (bit_cases t a)
      where
        ways : ℕ
        ways = union (cond (more s t) w.saves 0) (union (gathered row_count (difference (held s t) p) w.even) (gathered row_count (held s t) w.gain))

        off : bit t a ≡ 0 → (x ≡ insert t a) ⊎ ((e : ℕ) × ((bit t e ≡ 1) × (x ≡ swap t e a))) → bit (intersection (free s t) ways) a ≡ 1
        off ta (inl q) =
            let (m, (fa, h)) = (best_more a ta).0 (subst (Best 0) q b) in
            let way = (in_cond (more s t) w.saves a).1 (m, (right.saves a la ta).1 (omega arith)) in
            (in_intersection _ _ _).1 (fa, (in_union₃ _ _ _ _).1 (inl way))
        off ta (inr (e, (te, q))) =
            let (he, (fa, h)) = (best_swap 0 e a te ta).0 (subst (Best 0) q b) in
            let l = low_on e te in
            let way = ⊎_elim
            (λ pe. inl ((bit_gathered _ _ _ _).1 (e, (l, ((in_difference _ _ _).1 (he, pe), (right.even e a l la te ta).1 (omega arith))))))
            (λ pe. inr ((bit_gathered _ _ _ _).1 (e, (l, (he, (right.gain e a l la te ta).1 (omega arith)))))) (bit_cases p e) in
            (in_intersection _ _ _).1 (fa, (in_union₃ _ _ _ _).1 (inr way))

  -- `dispensable_before` has a unit that was on exactly if some best set lacks it
  module _ (b : ℕ) (lb : b < 64) (pb : bit p b ≡ 1) where
    dispensable_sound : bit (dispensable_before s p t w) b ≡ 1 → Lacks b
    unfolding dispensable_before
    dispensable_sound h =
        ⊎_elim (λ d. (t, (best_same, (((in_difference p t b).0 d).1, λ v n. omega arith))))
        (λ r. let (l, (hb, o)) = (bit_passing _ _ _ _).0 r in ⊎_elim (by_less hb) (⊎_elim (by_even hb) (by_gain hb)) ((or_true₃ _ _ _).0 o))
        ((in_union _ _ _).0 h)
      where
        by_less : bit (held s t) b ≡ 1 → less s t && contains w.dispensable b ≡ true → Lacks b
        by_less hb h =
            let tb = ((in_held s t b).0 hb).0 in
            let (l, c) = (and-eq-true_iff (less s t) (contains w.dispensable b)).0 h in
            let best = (best_less b tb).1 (l, (hb, omega (arith, (right.dispensable b lb tb).0 ((contains_bit w.dispensable b).0 c)))) in
            (remove t b, (best, (bit_remove t b, λ v n. omega (arith, bit_remove_other t b v n))))

        by_swap : bit (held s t) b ≡ 1 → (c : ℕ) → bit (free s t) c ≡ 1
            → (c < 64 → bit t b ≡ 1 → bit t c ≡ 0 → due₁ (swap t b c) + 1 ≤ bit p c + due₁ t) → Lacks b
        by_swap hb c fc h =
            let tb = ((in_held s t b).0 hb).0 in
            let (uc, tc) = (in_free s t c).0 fc in
            let best = (best_swap 0 b c tb tc).1 (hb, (fc, omega (arith, h (low c uc) tb tc))) in
            (swap t b c, (best, (lacks_old t (swap t b c) b c tb tc refl, λ v n. omega (arith, bit_remove_other t b v n, subset_insert (remove t b) c v))))

        by_even : bit (held s t) b ≡ 1 → meets (w.even b) (intersection (free s t) p) ≡ true → Lacks b
        by_even hb m =
            let (c, (h, i)) = (meets_some _ _).0 m in
            let (fc, pc) = (in_intersection _ _ _).0 i in
            by_swap hb c fc (λ l tb tc. omega (arith, (right.even b c lb l tb tc).0 h))

        by_gain : bit (held s t) b ≡ 1 → meets (w.gain b) (free s t) ≡ true → Lacks b
        by_gain hb m =
            let (c, (h, fc)) = (meets_some _ _).0 m in
            by_swap hb c fc (λ l tb tc. omega (arith, (right.gain b c lb l tb tc).0 h))

    dispensable_gone : bit t b ≡ 0 → bit (dispensable_before s p t w) b ≡ 1
    unfolding dispensable_before
    dispensable_gone tb = (in_union _ _ _).1 (inl ((in_difference p t b).1 (pb, tb)))

    dispensable_complete : (x : ℕ) → Best 0 x → Near t x → bit x b ≡ 0 → bit (dispensable_before s p t w) b ≡ 1
    unfolding dispensable_before
    dispensable_complete x best n xb =
        ⊎_elim dispensable_gone
        (λ tb.
        let (hb, o) = on tb (near_out t x n b tb xb) in
        (in_union _ _ _).1 (inr ((bit_passing _ _ _ _).1 (lb, (hb, (or_true₃ without evenly better).1 o)))))
        (bit_cases t b)
      where
        without : Bool
        without = less s t && contains w.dispensable b

        evenly : Bool
        evenly = meets (w.even b) (intersection (free s t) p)

        better : Bool
        better = meets (w.gain b) (free s t)

        on : bit t b ≡ 1 → (x ≡ remove t b) ⊎ ((c : ℕ) × ((bit t c ≡ 0) × (x ≡ swap t b c)))
            → (bit (held s t) b ≡ 1) × ((without ≡ true) ⊎ ((evenly ≡ true) ⊎ (better ≡ true)))
        on tb (inl q) =
            let (l, (hb, h)) = (best_less b tb).0 (subst (Best 0) q best) in
            let c = (contains_bit w.dispensable b).1 ((right.dispensable b lb tb).1 (omega arith)) in
            (hb, inl ((and-eq-true_iff (less s t) (contains w.dispensable b)).1 (l, c)))
        on tb (inr (c, (tc, q))) =
            let (hb, (fc, h)) = (best_swap 0 b c tb tc).0 (subst (Best 0) q best) in
            let l = low c ((in_free s t c).0 fc).0 in
            let way = ⊎_elim
            (λ pc. inr ((meets_some _ _).1 (c, ((right.gain b c lb l tb tc).1 (omega arith), fc))))
            (λ pc. inl ((meets_some _ _).1 (c, ((right.even b c lb l tb tc).1 (omega arith), (in_intersection _ _ _).1 (fc, pc))))) (bit_cases p c) in
            (hb, inr way)

  -- the rows: a unit a that was off in place of a unit b that was on
  module _ (b a : ℕ) (lb : b < 64) (la : a < 64) (pb : bit p b ≡ 1) (pa : bit p a ≡ 0) where
    other : b ≡ a → ⊥
    other q = omega (arith, ap (bit p) q)

    -- the switches to come from there, by a set of the step
    from_best : (k x : ℕ) → Best k x → due₀ (swap p b a) + bit x a ≤ due₀ p + k + bit x b
    from_best k x best = omega (arith, least (swap p b a) x best.fits, switches_on p (swap p b a) b a pb pa refl x)

    -- a best set from there
    near_swapped : NearBest (swap p b a)
    near_swapped =
        near_best (swap p b a) a b (λ v n. omega (arith, bit_insert_other (remove p b) a v n, remove_subset p b v))
        (λ v n. omega (arith, bit_remove_other p b v n, subset_insert (remove p b) a v))

    -- the clause of a that takes the place of b in t: in `even_before` k is 1, in `gain_before` it is 0
    abbrev in_turn : ℕ → ℕ
    in_turn row = cond (contains (held s t) b) (intersection row (free s t)) 0

    turn_sound : (k row : ℕ) → (bit t b ≡ 1 → bit t a ≡ 0 → bit row a ≡ 1 → due₁ (swap t b a) + 1 ≤ due₁ t + k) → bit (in_turn row) a ≡ 1
        → due₀ (swap p b a) + 1 ≤ due₀ p + k
    turn_sound k row h m =
        let (hb, i) = (in_given (held s t) b (intersection row (free s t)) a).0 m in
        let (r, fa) = (in_intersection row (free s t) a).0 i in
        let tb = ((in_held s t b).0 hb).0 in
        let ta = ((in_free s t a).0 fa).1 in
        let best = (best_swap k b a tb ta).1 (hb, (fa, omega (arith, h tb ta r))) in
        omega (arith, from_best k (swap t b a) best, has_new t (swap t b a) b a tb ta refl, lacks_old t (swap t b a) b a tb ta refl)

    turn_complete : (k row x : ℕ) → Best k x → Near t x → bit x b ≡ 0 → bit x a ≡ 1 → bit t b ≡ 1 → bit t a ≡ 0
        → (due₁ (swap t b a) + 1 ≤ due₁ t + k → bit row a ≡ 1) → bit (in_turn row) a ≡ 1
    turn_complete k row x best n xb xa tb ta h =
        let (hb, (fa, l)) = (best_swap k b a tb ta).0 (subst (Best k) (near_swap t x n b a tb xb xa ta) best) in
        (in_given (held s t) b (intersection row (free s t)) a).1 (hb, (in_intersection _ _ _).1 (h (omega arith), fa))

    even_sound : bit (even_before s p t w b) a ≡ 1 → due₀ (swap p b a) ≤ due₀ p
    unfolding even_before even_row
    even_sound h =
        ⊎_elim (λ m. let (x, (best, (xa, sub))) = saves_sound a la pa m in omega (arith, from_best 0 x best, bit_le x b))
        (⊎_elim by_dispensable
        (λ m. omega (arith, turn_sound 1 (w.even b) (λ tb ta r. omega (arith, (right.even b a lb la tb ta).0 r)) m)))
        ((in_union₃ _ _ _ _).0 h)
      where
        by_dispensable : bit (cond (contains (dispensable_before s p t w) b) all 0) a ≡ 1 → due₀ (swap p b a) ≤ due₀ p
        by_dispensable m =
            let (x, (best, (xb, sup))) = dispensable_sound b lb pb ((in_given (dispensable_before s p t w) b all a).0 m).0 in
            omega (arith, from_best 0 x best)

    even_complete : due₀ (swap p b a) ≤ due₀ p → bit (even_before s p t w b) a ≡ 1
    unfolding even_before even_row
    even_complete h = (in_union₃ _ _ _ _).1 (way near_swapped)
      where
        dispensable : bit (dispensable_before s p t w) b ≡ 1 → bit (cond (contains (dispensable_before s p t w) b) all 0) a ≡ 1
        dispensable m = (in_given (dispensable_before s p t w) b all a).1 (m, bit_all a la)

        way : NearBest (swap p b a) → (bit (saves_before s p t w) a ≡ 1)
            ⊎ ((bit (cond (contains (dispensable_before s p t w) b) all 0) a ≡ 1) ⊎ (bit (in_turn (w.even b)) a ≡ 1))
        way (x, (f, (e, n))) = go (bit_cases x a) (bit_cases x b) (bit_cases t a) (bit_cases t b)
          where
            best : (k : ℕ) → bit x a ≤ bit x b + k → Best k x
            best k l = record { fits = f; cost = omega (arith, switches_on p (swap p b a) b a pb pa refl x) }

            go : (bit x a ≡ 0) ⊎ (bit x a ≡ 1) → (bit x b ≡ 0) ⊎ (bit x b ≡ 1) → (bit t a ≡ 0) ⊎ (bit t a ≡ 1) → (bit t b ≡ 0) ⊎ (bit t b ≡ 1)
                → (bit (saves_before s p t w) a ≡ 1)
                ⊎ ((bit (cond (contains (dispensable_before s p t w) b) all 0) a ≡ 1) ⊎ (bit (in_turn (w.even b)) a ≡ 1))
            go (inl xa) (inr xb) c d = absurd (omega (arith, least p x f, switches_on p (swap p b a) b a pb pa refl x))
            go (inl xa) (inl xb) c d = inr (inl (dispensable (dispensable_complete b lb pb x (best 0 (omega arith)) n xb)))
            go (inr xa) (inr xb) c d = inl (saves_complete a la pa x (best 0 (omega arith)) n xa)
            go (inr xa) (inl xb) (inr ta) d = inl (saves_new a la pa ta)
            go (inr xa) (inl xb) (inl ta) (inl tb) = inr (inl (dispensable (dispensable_gone b lb pb tb)))
            go (inr xa) (inl xb) (inl ta) (inr tb) =
                inr (inr (turn_complete 1 (w.even b) x (best 1 (omega arith)) n xb xa tb ta (λ l. (right.even b a lb la tb ta).1 (omega arith))))

    gain_sound : bit (gain_before s p t w b) a ≡ 1 → due₀ (swap p b a) + 1 ≤ due₀ p
    unfolding gain_before gain_row
    gain_sound h =
        ⊎_elim by_saves
        (⊎_elim by_dispensable
        (λ m. omega (arith, turn_sound 0 (w.gain b) (λ tb ta r. omega (arith, (right.gain b a lb la tb ta).0 r)) m)))
        ((in_union₃ _ _ _ _).0 h)
      where
        by_saves : bit (cond (contains t b) 0 (saves_before s p t w)) a ≡ 1 → due₀ (swap p b a) + 1 ≤ due₀ p
        by_saves m =
            let (tb, v) = (in_lacking t b (saves_before s p t w) a).0 m in
            let (x, (best, (xa, sub))) = saves_sound a la pa v in
            omega (arith, from_best 0 x best, sub b other)

        by_dispensable : bit (cond (contains (dispensable_before s p t w) b) (new p t) 0) a ≡ 1 → due₀ (swap p b a) + 1 ≤ due₀ p
        by_dispensable m =
            let (v, c) = (in_given (dispensable_before s p t w) b (new p t) a).0 m in
            let (x, (best, (xb, sup))) = dispensable_sound b lb pb v in
            omega (arith, from_best 0 x best, sup a (λ q. other (sym q)), (in_new p t a).0 c)

    gain_complete : due₀ (swap p b a) + 1 ≤ due₀ p → bit (gain_before s p t w b) a ≡ 1
    unfolding gain_before gain_row
    gain_complete h = (in_union₃ _ _ _ _).1 (way near_swapped)
      where
        way : NearBest (swap p b a) → (bit (cond (contains t b) 0 (saves_before s p t w)) a ≡ 1)
            ⊎ ((bit (cond (contains (dispensable_before s p t w) b) (new p t) 0) a ≡ 1) ⊎ (bit (in_turn (w.gain b)) a ≡ 1))
        way (x, (f, (e, n))) =
            let paid = switches_on p (swap p b a) b a pb pa refl x in
            let xa : bit x a ≡ 1 = omega (arith, least p x f, bit_le x a) in
            let xb : bit x b ≡ 0 = omega (arith, least p x f) in
            go xa xb (record { fits = f; cost = omega arith }) (bit_cases t a) (bit_cases t b)
          where
            go : bit x a ≡ 1 → bit x b ≡ 0 → Best 0 x → (bit t a ≡ 0) ⊎ (bit t a ≡ 1) → (bit t b ≡ 0) ⊎ (bit t b ≡ 1)
                → (bit (cond (contains t b) 0 (saves_before s p t w)) a ≡ 1)
                ⊎ ((bit (cond (contains (dispensable_before s p t w) b) (new p t) 0) a ≡ 1) ⊎ (bit (in_turn (w.gain b)) a ≡ 1))
            go xa xb best c (inl tb) = inl ((in_lacking t b (saves_before s p t w) a).1 (tb, saves_complete a la pa x best n xa))
            go xa xb best (inr ta) (inr tb) =
                inr (inl ((in_given (dispensable_before s p t w) b (new p t) a).1 (dispensable_complete b lb pb x best n xb, (in_new p t a).1 (ta, pa))))
            go xa xb best (inl ta) (inr tb) =
                inr (inr (turn_complete 0 (w.gain b) x best n xb xa tb ta (λ l. (right.gain b a lb la tb ta).1 (omega arith))))

  -- the tables of p are exact
  pub right_step : Right due₀ p (stepped s p t w)
  unfolding stepped
  right_step = record {
    saves = λ a l pa. (
      λ h. let (x, (best, (xa, sub))) = saves_sound a l pa h in omega (arith, least (insert p a) x best.fits, best.cost, from_more p a x pa),
      λ h.
          let (x, (f, (e, n))) = near_best (insert p a) a a (λ v n. omega (arith, bit_insert_other p a v n)) (λ v n. subset_insert p a v) in
          let paid = from_more p a x pa in
          let xa : bit x a ≡ 1 = omega (arith, least p x f, bit_le x a) in
          saves_complete a l pa x (record { fits = f; cost = omega arith }) n xa,
    );
    dispensable = λ b l pb. (
      λ h. let (x, (best, (xb, sup))) = dispensable_sound b l pb h in omega (arith, least (remove p b) x best.fits, best.cost, from_less p b x pb),
      λ h.
          let (x, (f, (e, n))) = near_best (remove p b) b b (λ v n. remove_subset p b v) (λ v n. omega (arith, bit_remove_other p b v n)) in
          let paid = from_less p b x pb in
          let xb : bit x b ≡ 0 = omega (arith, least p x f) in
          dispensable_complete b l pb x (record { fits = f; cost = omega arith }) n xb,
    );
    even = λ b a l m pb pa. (even_sound b a l m pb pa, even_complete b a l m pb pa);
    gain = λ b a l m pb pa. (gain_sound b a l m pb pa, gain_complete b a l m pb pa);
  }

-- ---- all steps

-- from a set that is p but for one unit more and one less, at the most, a run takes a set near the one that it takes
-- from p: both are greedy by one ranking
near_next : {tie : ℕ → ℕ → Bool} → Ordered tie → (s : Limits) (ss : List Limits) → Satisfiable (s ∷ ss) → (p u q : ℕ)
    → ((v : ℕ) → (v ≡ u → ⊥) → bit q v ≤ bit p v) → size (difference p q) ≤ 1 → Near (next tie s ss p) (next tie s ss q)
near_next {tie} o s ss f p u q drops =
    let r = rank tie (s ∷ ss) in
    let greedy = next_greedy o s ss f in
    let same : Raised u r r = record { others = λ v w n m. refl; up = λ w h. h } in
    stable u s s r r p q (next tie s ss p) (next tie s ss q) (rank_ordered o (s ∷ ss)) same (wider_same u s) drops (greedy p) (greedy q)

-- So the tables along a run are exact: its set is a best one in each step, and so is the one that it would take from a
-- neighbour of p.
pub later_right : {tie : ℕ → ℕ → Bool} → Ordered tie → (ss : List Limits) → Satisfiable ss → Below 64 ss → (p : ℕ)
    → Right (value tie ss) p (later_from p ss (run tie p ss))
unfolding later_from run
later_right {tie} o [] f b p = right_ended (value tie []) (value_end tie) p
later_right {tie} o (s ∷ ss) f b p =
    let t = next tie s ss p in
    let greedy = next_greedy o s ss f in
    let step = value_step tie s ss in
    right_step s (value tie (s ∷ ss)) (value tie ss) p t b.0 (greedy p).allowed (step p) (value_by o s ss f)
    (λ u q drops few. (next tie s ss q, ((greedy q).allowed, (step q, near_next o s ss f p u q drops few)))) (later_from t ss (run tie t ss))
    (later_right o ss f.1 b.1 t)
