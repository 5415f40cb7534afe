-- One chamber among others: what a plan of all does in it (`down`), and how a plan of it goes on to all (`up`), with
-- the plans that are handed out in the others. So what a chamber leaves of a bound is what the whole leaves of it.
-- What a chamber has of the plan that is handed out for all is FindSupport's plan of it (`support_cut`). At the end,
-- chambers by their numbers.
use mathlib.Core.Path.{◌≡◌, refl, sym, ap, ap₂, ◌∙◌, subst}
use mathlib.Core.Logic.{⊎_elim}
use mathlib.Core.Bool.{Bool}
use mathlib.Core.List.Memᴰ
use mathlib.Core.List.{List, [], ◌∷◌, map, Memᴰ}
use Prim.Native.Nat.{ℕ, zero, suc, ◌+◌, ◌≤◌, ◌<◌}
use native.Mathlib.Nat.{add-zero}
use native.Mathlib.Omega.{arith}
use lib.ListN.{length, get_or}
use Rattle.units.specs.Sets.{bit, intersection, Subset}
use Rattle.units.proofs.Sets.{bit_le, bit_cases, bit_empty, bit_intersection, set_ext}
use Rattle.plans.specs.Plans.{joined, joined_all}
use Rattle.plans.specs.Support.{Ordered}
use Rattle.plans.specs.Switch.{Throughout, FeasiblePlan}
use Rattle.plans.proofs.Orders.{tie_ordered}
use Rattle.chambers.specs.Chambers.{Chamber, ChamberLimits, numbered, parts_of, support_of, support_in_by, support_in}
use Rattle.chambers.specs.Parts.{cut, plan_of, total_of, sum_of}
use Rattle.chambers.proofs.Parts.{all, bit_all, Apart, FitsIn, total_in}
use Rattle.chambers.proofs.Whole.{first_plan, rest_plan, both_plans, in_parts, first_part, rest_part, put_together, Satisfied, part_best, sum_least, support_fits, support_sum}

-- a chamber's units are among those of all
pub among : (c : Chamber) (cs : List Chamber) → Memᴰ c cs → Subset c.units (all cs)
among c [] m u = absurd (Memᴰ.not-nil m)
among c (d ∷ cs) m u =
    ⊎_elim (λ e. omega (arith, ap (λ (x : Chamber). bit x.units u) e, bit_all d cs u)) (λ n. omega (arith, among c cs n u, bit_all d cs u))
    (Memᴰ.cases_cons m)

-- and each unit of all is one of some chamber
pub in_some : (cs : List Chamber) (u : ℕ) → bit (all cs) u ≡ 1 → (c : Chamber) × (Memᴰ c cs × (bit c.units u ≡ 1))
unfolding all
in_some [] u e = absurd (omega (arith, bit_empty u))
in_some (c ∷ cs) u e =
    ⊎_elim (λ z. let (d, (m, h)) = in_some cs u (omega (arith, bit_all c cs u, bit_le (all cs) u)) in (d, (Memᴰ.tail m, h)))
    (λ h. (c, (Memᴰ.head refl, h))) (bit_cases c.units u)

-- what a plan has of a smaller set, it has of a larger one
cut_cut : (m n : ℕ) → Subset m n → (q : List ℕ) → cut m (cut n q) ≡ cut m q
cut_cut m n h [] = refl
cut_cut m n h (x ∷ q) =
    ap₂ ◌∷◌
    (set_ext (intersection (intersection x n) m) (intersection x m)
    (λ u. omega (arith, bit_intersection (intersection x n) m u, bit_intersection x n u, bit_intersection x m u, h u)))
    (cut_cut m n h q)

-- ---- a chamber and the others

module _ (start : ℕ) (ss : List ChamberLimits) where
  -- the fewest switches in a chamber are among those in all
  pub sum_part : (c : Chamber) (cs : List Chamber) → Memᴰ c cs → total_of c start ss ≤ sum_of cs start ss
  unfolding sum_of
  sum_part c [] m = absurd (Memᴰ.not-nil m)
  sum_part c (d ∷ cs) m = ⊎_elim (λ e. omega (arith, ap (λ x. total_of x start ss) e)) (λ n. omega (arith, sum_part c cs n)) (Memᴰ.cases_cons m)

  -- a plan q of all chambers is feasible in one of them, and makes there at the most what the others leave of its
  -- switches
  abbrev Down : List Chamber → List ℕ → Chamber → Type 0
  Down cs q c = FeasiblePlan (parts_of c ss) (cut c.units q)
      × (total_in c.units start (cut c.units q) + sum_of cs start ss ≤ total_in (all cs) start q + total_of c start ss)

  -- so it is: of the first chamber and the rest, the plan makes in each at least what is handed out there
  pub down : (c : Chamber) (cs : List Chamber) → Memᴰ c cs → Apart cs → Satisfied cs ss → (q : List ℕ) → Throughout (FitsIn cs) ss q → Down cs q c
  unfolding sum_of
  down c [] m a f q g = absurd (Memᴰ.not-nil m)
  down c (d ∷ cs) m a f q g =
      ⊎_elim here (λ n. there n (down c cs n a.1 others (cut (all cs) q) rest)) (Memᴰ.cases_cons m)
    where
      others : Satisfied cs ss
      others e n = f e (Memᴰ.tail n)

      rest : Throughout (FitsIn cs) ss (cut (all cs) q)
      rest = rest_plan d cs ss q g

      split : total_in (all (d ∷ cs)) start q ≡ total_in d.units start (cut d.units q) + total_in (all cs) start (cut (all cs) q)
      split = in_parts d cs a.0 start ss q g

      here : c ≡ d → Down (d ∷ cs) q c
      here e = subst (Down (d ∷ cs) q) (sym e) (first_plan d cs ss q g, omega (arith, split, sum_least start ss cs a.1 others (cut (all cs) q) rest))

      there : Memᴰ c cs → Down cs (cut (all cs) q) c → Down (d ∷ cs) q c
      there n (p, t) =
          let same = cut_cut c.units (all cs) (among c cs n) q in
          let least = (part_best (λ i. tie_ordered) start ss d (f d (Memᴰ.head refl))).1 (cut d.units q) (first_plan d cs ss q g) in
          (subst (FeasiblePlan (parts_of c ss)) same p, omega (arith, split, ap (total_in c.units start) same, t, least))

  -- a plan p of one chamber goes on to a plan of all, which makes what is handed out in the others
  abbrev Up : List Chamber → List ℕ → Chamber → Type 0
  Up cs p c = (q : List ℕ) × (Throughout (FitsIn cs) ss q
      × ((cut c.units q ≡ p) × (total_in (all cs) start q + total_of c start ss ≡ total_in c.units start p + sum_of cs start ss)))

  -- so it does: it is joined to what is handed out in the others
  pub up : (c : Chamber) (cs : List Chamber) → Memᴰ c cs → Apart cs → Satisfied cs ss → (p : List ℕ) → FeasiblePlan (parts_of c ss) p → Up cs p c
  unfolding sum_of
  up c [] m a f p g = absurd (Memᴰ.not-nil m)
  up c (d ∷ cs) m a f p g =
      ⊎_elim (λ e. subst (λ (x : Chamber). FeasiblePlan (parts_of x ss) p → Up (d ∷ cs) p x) (sym e) here g) (λ n. there n (up c cs n a.1 others p g))
      (Memᴰ.cases_cons m)
    where
      others : Satisfied cs ss
      others e n = f e (Memᴰ.tail n)

      here : FeasiblePlan (parts_of d ss) p → Up (d ∷ cs) p d
      here h =
          let o = support_in cs start ss in
          let k = support_fits (λ i. tie_ordered) start ss cs a.1 others in (
            joined p o,
            (
              both_plans d cs a.0 ss p o h k,
              (
                first_part d cs a.0 start ss p o h k,
                omega (arith, put_together d cs a.0 start ss p o h k, support_sum (λ i. tie_ordered) start ss cs a.1 others),
              ),
            ),
          )

      there : Memᴰ c cs → Up cs p c → Up (d ∷ cs) p c
      there n (o, (k, (e, t))) =
          let r = plan_of d start ss in
          let h = (part_best (λ i. tie_ordered) start ss d (f d (Memᴰ.head refl))).0 in (
            joined r o,
            (
              both_plans d cs a.0 ss r o h k,
              (
                sym (cut_cut c.units (all cs) (among c cs n) (joined r o)) ∙ ap (cut c.units) (rest_part d cs a.0 start ss r o h k) ∙ e,
                omega (arith, put_together d cs a.0 start ss r o h k, t),
              ),
            ),
          )

-- of the plan of all chambers, a chamber has FindSupport's plan of it
pub support_cut : {ties : ℕ → ℕ → ℕ → Bool} → ((i : ℕ) → Ordered (ties i)) → (start : ℕ) (ss : List ChamberLimits) (c : Chamber) (cs : List Chamber)
    → Memᴰ c cs → Apart cs → Satisfied cs ss → cut c.units (support_in_by ties cs start ss) ≡ support_of ties c start ss
unfolding support_in_by joined_all
support_cut o start ss c [] m a f = absurd (Memᴰ.not-nil m)
support_cut {ties} o start ss c (d ∷ cs) m a f = ⊎_elim here (λ n. there n (support_cut o start ss c cs n a.1 others)) (Memᴰ.cases_cons m)
  where
    others : Satisfied cs ss
    others e n = f e (Memᴰ.tail n)

    r : List ℕ
    r = support_of ties d start ss

    q : List ℕ
    q = support_in_by ties cs start ss

    h : FeasiblePlan (parts_of d ss) r
    h = (part_best o start ss d (f d (Memᴰ.head refl))).0

    k : Throughout (FitsIn cs) ss q
    k = support_fits o start ss cs a.1 others

    here : c ≡ d → cut c.units (joined r q) ≡ support_of ties c start ss
    here e = subst (λ (x : Chamber). cut x.units (joined r q) ≡ support_of ties x start ss) (sym e) (first_part d cs a.0 start ss r q h k)

    there : Memᴰ c cs → cut c.units q ≡ support_of ties c start ss → cut c.units (joined r q) ≡ support_of ties c start ss
    there n e = sym (cut_cut c.units (all cs) (among c cs n) (joined r q)) ∙ ap (cut c.units) (rest_part d cs a.0 start ss r q h k) ∙ e

-- ---- the chambers by their numbers

-- the chamber with a number
pub chamber_at : (us : List ℕ) (c : ℕ) → c < length us → Memᴰ (record { number = c; units = get_or us c 0 }) (numbered 0 us)
unfolding numbered
chamber_at us c l = subst (λ (n : ℕ). Memᴰ (record { number = n; units = get_or us c 0 }) (numbered 0 us)) (omega arith) (go 0 us c l)
  where
    go : (k : ℕ) (us : List ℕ) (c : ℕ) → c < length us → Memᴰ (record { number = k + c; units = get_or us c 0 }) (numbered k us)
    go k [] c l = absurd (omega arith)
    go k (u ∷ us) zero l = Memᴰ.head (λ i. record { number = add-zero k i; units = u })
    go k (u ∷ us) (suc c) l =
        Memᴰ.tail
        (subst (λ (n : ℕ). Memᴰ (record { number = n; units = get_or us c 0 }) (numbered (k + 1) us)) (omega arith) (go (k + 1) us c (omega arith)))

-- what is made of each chamber, by its number
pub numbered_at : {A : Type 0} (f : Chamber → A) (us : List ℕ) (c : ℕ) (a : A) → c < length us
    → get_or (map f (numbered 0 us)) c a ≡ f (record { number = c; units = get_or us c 0 })
unfolding numbered
numbered_at {A} f us c a l = go 0 us c l ∙ ap (λ (n : ℕ). f (record { number = n; units = get_or us c 0 })) (omega arith)
  where
    go : (k : ℕ) (us : List ℕ) (c : ℕ) → c < length us → get_or (map f (numbered k us)) c a ≡ f (record { number = k + c; units = get_or us c 0 })
    go k [] c l = absurd (omega arith)
    go k (u ∷ us) zero l = ap (λ (n : ℕ). f (record { number = n; units = u })) (sym (add-zero k))
    go k (u ∷ us) (suc c) l = go (k + 1) us c (omega arith) ∙ ap (λ (n : ℕ). f (record { number = n; units = get_or us c 0 })) (omega arith)

-- they are as many as there are chambers
pub numbered_long : {A : Type 0} (f : Chamber → A) (k : ℕ) (us : List ℕ) → length (map f (numbered k us)) ≡ length us
unfolding numbered
numbered_long f k [] = refl
numbered_long f k (u ∷ us) = ap suc (numbered_long f (k + 1) us)
