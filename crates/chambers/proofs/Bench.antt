-- A bench whose chambers have all units below d, each in one of them, and steps that each have a feasible set
-- (`Bench`): FindSupport on each chamber, put together, is a feasible plan, its total is the sum over the chambers,
-- and that is the fewest switches of any feasible plan (`bench_fewest`), whatever orders break ties.
use mathlib.Core.Path.{◌≡◌, refl, sym, ap, subst, ◌∙◌}
use mathlib.Core.Logic.{◌↔◌, ⊎_elim}
use mathlib.Core.Bool.{Bool, true, and-eq-true_iff}
use mathlib.Core.List.Memᴰ
use mathlib.Core.List.{List, [], ◌∷◌, Memᴰ}
use Prim.Native.Nat.{ℕ, ◌+◌, ◌-◌, ◌^◌, ◌≤◌, ◌<◌}
use native.Mathlib.Omega.{arith}
use borrow.Author.Tests.{leb-true, le-leb}
use lib.Pow.{pow_pos}
use Rattle.units.specs.Sets.{bit, intersection, difference, Subset, size}
use Rattle.units.proofs.Limits.{some_feasible}
use Rattle.units.proofs.Sets.{bit_difference, bit_full, bit_intersection, bit_le, set_ext, subset_below, subset_full, subset_holds, subset_test, unit_below}
use Rattle.plans.specs.Plans.{Below, fewest}
use Rattle.plans.specs.Support.{Ordered}
use Rattle.plans.specs.Switch.{Throughout, Satisfiable, switches, total}
use Rattle.plans.proofs.AllPlans.{Low}
use Rattle.plans.proofs.Fewest.{fewest_of}
use Rattle.chambers.specs.Chambers.{Chamber, ChamberLimits, Counted, Fits, counts, fits, part_of, parts_of, some_fits, support_in_by}
use Rattle.chambers.specs.Parts.{sum_of}
use Rattle.chambers.proofs.Parts.{all, Apart, FitsIn, fits_in, in_fits, Inside, total_in}
use Rattle.chambers.proofs.Sizes.{some_fits_lem, part_allowed}
use Rattle.chambers.proofs.Whole.{plan_inside, Satisfied, sum_least, support_fits, support_sum}

-- ---- the tests

-- a set passes the test of the counts exactly if it is so counted
counts_exactly : (cs : List Chamber) (s : ChamberLimits) (x : ℕ) → counts cs s x ≡ true ↔ Counted cs s x
unfolding counts
counts_exactly [] s x = (λ h. tt, λ h. refl)
counts_exactly (c ∷ cs) s x = (
  λ h.
      let a = (and-eq-true_iff _ _).0 h in
      let b = (and-eq-true_iff _ _).0 a.0 in
      (leb-true _ _ b.0, (leb-true _ _ b.1, (counts_exactly cs s x).0 a.1)),
  λ (l, (g, k)). (and-eq-true_iff _ _).1 ((and-eq-true_iff _ _).1 (le-leb _ _ l, le-leb _ _ g), (counts_exactly cs s x).1 k),
)

-- a set passes the test exactly if it is feasible
pub fits_exactly : (cs : List Chamber) (s : ChamberLimits) (x : ℕ) → fits cs s x ≡ true ↔ Fits cs s x
unfolding fits
fits_exactly cs s x = (
  λ h.
      let a = (and-eq-true_iff _ _).0 h in
      let b = (and-eq-true_iff _ _).0 a.0 in
      record { includes = subset_holds s.lower x b.0; within = subset_holds x s.upper b.1; counted = (counts_exactly cs s x).0 a.1 },
  λ f.
      (and-eq-true_iff _ _).1
      ((and-eq-true_iff _ _).1 (subset_test s.lower x f.includes, subset_test x s.upper f.within), (counts_exactly cs s x).1 f.counted),
)

-- ---- a bench and its steps

-- each step has units below d alone and passes the test that some set is feasible
abbrev pub Sound : List Chamber → ℕ → List ChamberLimits → Type 0
Sound cs d [] = Unit {0}
Sound cs d (s ∷ ss) = ((s.upper < 2 ^ d) × (some_fits cs s ≡ true)) × Sound cs d ss

-- that is so of each of them
pub sound_at : (cs : List Chamber) (d : ℕ) (ss : List ChamberLimits) → Sound cs d ss → (s : ChamberLimits) → Memᴰ s ss
    → (s.upper < 2 ^ d) × (some_fits cs s ≡ true)
sound_at cs d [] k s m = absurd (Memᴰ.not-nil m)
sound_at cs d (t ∷ ss) k s m =
    ⊎_elim (λ e. subst (λ (x : ChamberLimits). (x.upper < 2 ^ d) × (some_fits cs x ≡ true)) (sym e) k.0) (sound_at cs d ss k.1 s) (Memᴰ.cases_cons m)

-- no two chambers have a common unit, together they have all units below d, and the steps are sound
pub record Bench (d : ℕ) (cs : List Chamber) (ss : List ChamberLimits) : Type 0 where
  pub apart : Apart cs
  pub whole : all cs ≡ 2 ^ d - 1
  pub sound : Sound cs d ss

-- so each step has a feasible set in each chamber
pub chambers_satisfied : {d : ℕ} {cs : List Chamber} {ss : List ChamberLimits} → Bench d cs ss → Satisfied cs ss
chambers_satisfied {d} {cs} {ss} g c m = go ss g.sound
  where
    go : (ss : List ChamberLimits) → Sound cs d ss → Satisfiable (parts_of c ss)
    go [] k = tt
    go (s ∷ ss) k =
        let (x, f) = (some_fits_lem cs s g.apart).0 k.0.1 in
        let here = part_of c s in
        ((some_feasible here.lower here.upper here.least here.greatest).1 (intersection x c.units, part_allowed cs s c m x f), go ss k.1)

-- the sets of a step have units below d alone, and so has its part in a chamber
pub bench_low : (cs : List Chamber) (d : ℕ) (ss : List ChamberLimits) → Sound cs d ss → Low (Fits cs) d ss
bench_low cs d [] k = tt
bench_low cs d (s ∷ ss) k = (λ x f. subset_below d x s.upper f.within k.0.0, bench_low cs d ss k.1)

pub part_below : (c : Chamber) (cs : List Chamber) (d : ℕ) (ss : List ChamberLimits) → Sound cs d ss → Below d (parts_of c ss)
part_below c cs d [] k = tt
part_below c cs d (s ∷ ss) k = (
  subset_below d (intersection s.upper c.units) s.upper (λ u. omega (arith, bit_intersection s.upper c.units u)) k.0.0,
  part_below c cs d ss k.1,
)

-- ---- feasible sets

module _ (d : ℕ) (cs : List Chamber) (whole : all cs ≡ 2 ^ d - 1) where
  -- a unit is below d exactly if it is one of the chambers'
  pub unit_in : (u : ℕ) → u < d → bit (all cs) u ≡ 1
  unit_in u l = ap (λ (x : ℕ). bit x u) whole ∙ bit_full d u l

  pub in_unit : (u : ℕ) → bit (all cs) u ≡ 1 → u < d
  in_unit u e = unit_below d (2 ^ d - 1) u (omega (arith, pow_pos d)) (sym (ap (λ (x : ℕ). bit x u) whole) ∙ e)

  -- so a set of units below d is one of units of theirs
  pub below_in : (x : ℕ) → x < 2 ^ d → Subset x (all cs)
  below_in x l u = omega (arith, ap (λ (y : ℕ). bit y u) whole, subset_full d x l u)

-- and a plan is feasible exactly if it fits in all of them
module _ (d : ℕ) (cs : List Chamber) (apart : Apart cs) (whole : all cs ≡ 2 ^ d - 1) where
  pub plan_fits_in : (ss : List ChamberLimits) (q : List ℕ) → Sound cs d ss → Throughout (Fits cs) ss q → Throughout (FitsIn cs) ss q
  plan_fits_in [] [] k f = tt
  plan_fits_in [] (x ∷ q) k f = absurd f
  plan_fits_in (s ∷ ss) [] k f = absurd f
  plan_fits_in (s ∷ ss) (x ∷ q) k f = (fits_in cs s (below_in d cs whole s.upper k.0.0) x f.0, plan_fits_in ss q k.1 f.1)

  pub plan_in_fits : (ss : List ChamberLimits) (q : List ℕ) → Sound cs d ss → Throughout (FitsIn cs) ss q → Throughout (Fits cs) ss q
  plan_in_fits [] [] k f = tt
  plan_in_fits [] (x ∷ q) k f = absurd f
  plan_in_fits (s ∷ ss) [] k f = absurd f
  plan_in_fits (s ∷ ss) (x ∷ q) k f =
      let (y, g) = (some_fits_lem cs s apart).0 k.0.1 in
      (in_fits cs s (below_in d cs whole s.upper k.0.0) x (λ u. omega (arith, g.includes u, g.within u)) f.0, plan_in_fits ss q k.1 f.1)

-- ---- the plan

-- a plan of units of m makes no switch of another unit
total_inside : (m b : ℕ) (q : List ℕ) → Inside m q → total_in m b q ≡ total b q
unfolding total switches
total_inside m b [] h = refl
total_inside m b (x ∷ q) h =
    ap (λ (y : ℕ). size y + total x q)
    (set_ext (difference x (intersection b m)) (difference x b)
    (λ u. omega (arith, bit_difference x (intersection b m) u, bit_intersection b m u, bit_difference x b u, h.0 u, bit_le b u)))

module _ {d : ℕ} {cs : List Chamber} {ss : List ChamberLimits} (g : Bench d cs ss) (start : ℕ) where
  -- the switches of a feasible plan are all among the units of the chambers
  pub total_in_lem : (q : List ℕ) → Throughout (FitsIn cs) ss q → total_in (all cs) start q ≡ total start q
  total_in_lem q f = total_inside (all cs) start q (plan_inside cs ss q f)

  -- no feasible plan has fewer than the sum over the chambers
  pub bench_least : (q : List ℕ) → Throughout (Fits cs) ss q → sum_of cs start ss ≤ total start q
  bench_least q f =
      let h = plan_fits_in d cs g.apart g.whole ss q g.sound f in
      omega (arith, total_in_lem q h, sum_least start ss cs g.apart (chambers_satisfied g) q h)

  -- FindSupport's plans, put together, are a feasible plan with so many, and that is the fewest
  pub bench_fewest : {ties : ℕ → ℕ → ℕ → Bool} → ((i : ℕ) → Ordered (ties i))
      → Throughout (Fits cs) ss (support_in_by ties cs start ss)
      × ((total start (support_in_by ties cs start ss) ≡ sum_of cs start ss) × (fewest (fits cs) d start ss ≡ sum_of cs start ss))
  bench_fewest {ties} o =
      let plan = support_in_by ties cs start ss in
      let best = support_fits o start ss cs g.apart (chambers_satisfied g) in
      let feasible = plan_in_fits d cs g.apart g.whole ss plan g.sound best in
      let sum = sym (total_in_lem plan best) ∙ support_sum o start ss cs g.apart (chambers_satisfied g) in
      let low = bench_low cs d ss g.sound in
      (feasible, (sum, fewest_of (fits cs) (Fits cs) (fits_exactly cs) d start ss plan low feasible (λ q f. omega (arith, sum, bench_least q f)) ∙ sum))
