-- A bench with one chamber, and three empty ones, is the case of steps without chambers: the same sets are feasible
-- (`one_fits`), and so the feasible plans, the fewest switches, the chart and the sizes of the steps are the same
-- (`one_plan_fits`, `one_fewest`, `one_chart`, `one_sizes_all`), and so is the plan that is handed out (`one_plan`).
-- What a step says of the empty chambers plays no part: it asks for none of their units, or no set would be feasible,
-- and none is on, whatever the greatest number.
use mathlib.Core.Path.{◌≡◌, refl, sym, ap, ap₂, ◌∙◌, subst}
use mathlib.Core.Logic.{◌↔◌}
use mathlib.Core.Bool.{Bool, true, false, cond}
use mathlib.Core.List.Memᴰ
use mathlib.Core.List.{List, [], ◌∷◌, ◌++◌, map}
use Prim.Native.Nat.{ℕ, zero, suc, ◌+◌, ◌-◌, ◌^◌, ◌≤◌, ◌<◌}
use native.Mathlib.Omega.{arith}
use lib.ListN.{get_or, length-map}
use Rattle.units.specs.Sets.{intersection, Subset, size}
use Rattle.units.proofs.Limits.{same_test, sizes_exact, sizes_ordered}
use Rattle.units.proofs.Sets.{bit_empty, bit_intersection, set_ext, size_empty, subset_below, subset_full}
use Rattle.plans.specs.Plans.{allows, select, below, prefixed, plans_of, least_of, fewest, plans_within, can_be_on, can_be_off, can_be}
use Rattle.plans.specs.Support.{find_support}
use Rattle.plans.specs.Switch.{Allows, Throughout, FeasiblePlan, sizes_of, total}
use Rattle.plans.proofs.AllPlans.{allows_exactly}
use Rattle.plans.proofs.Orders.{tie_ordered}
use Rattle.chambers.specs.Chambers.{Chamber, ChamberLimits, units_from, dealt, numbered, sum, Fits, fits, parts_of, sizes_in, some_fits, support_in}
use Rattle.chambers.specs.Parts.{one_chamber, without_chambers, widened}
use Rattle.chambers.proofs.Among.{support_cut}
use Rattle.chambers.proofs.Bench.{fits_exactly, Sound, chambers_satisfied}
use Rattle.chambers.proofs.Dealt.{none_from, first_units, dealt_apart, dealt_whole}
use Rattle.chambers.proofs.Parts.{all, Apart, Inside, inside_cut, inside_whole}
use Rattle.chambers.proofs.Sizes.{same_sizes, sizes_in_exact, sizes_in_ordered, some_fits_lem}
use Rattle.chambers.proofs.Whole.{plan_inside, support_fits}

-- ---- feasible sets

-- a set of units below d has all of them in the first chamber, and none in an empty one
own : (d x : ℕ) → x < 2 ^ d → intersection x (units_from 0 d) ≡ x
own d x l = inside_whole (units_from 0 d) x (subst (Subset x) (sym (first_units d)) (subset_full d x l))

none : (first x : ℕ) → size (intersection x (units_from first 0)) ≡ 0
none first x =
    ap (λ (m : ℕ). size (intersection x m)) (none_from first)
    ∙ ap size (set_ext (intersection x 0) 0 (λ u. omega (arith, bit_intersection x 0 u, bit_empty u))) ∙ size_empty

-- a step that asks for no unit of the empty chambers
record Idle (s : ChamberLimits) : Type 0 where
  second : get_or s.least 1 0 ≡ 0
  third : get_or s.least 2 0 ≡ 0
  fourth : get_or s.least 3 0 ≡ 0

module _ (d : ℕ) (s : ChamberLimits) (y : ℕ) where
  -- a step with a feasible set is such a step
  fits_idle : Fits (one_chamber d) s y → Idle s
  unfolding dealt numbered
  fits_idle f =
      record {
        second = omega (arith, f.counted.1.1.0, none (0 + d) y);
        third = omega (arith, f.counted.1.1.1.1.0, none (0 + d + 0) y);
        fourth = omega (arith, f.counted.1.1.1.1.1.1.0, none (0 + d + 0 + 0) y);
      }

  -- a feasible set is one that the step allows without chambers
  fits_allowed : y < 2 ^ d → Fits (one_chamber d) s y → Allows (without_chambers s) y
  unfolding dealt numbered
  fits_allowed l f =
      record {
        includes = f.includes;
        within = f.within;
        enough = subst (λ (z : ℕ). get_or s.least 0 0 ≤ size z) (own d y l) f.counted.0;
        few = subst (λ (z : ℕ). size z ≤ get_or s.greatest 0 0) (own d y l) f.counted.1.0;
      }

  -- and the other way round: of an empty chamber no unit is on, whatever its greatest number is
  allowed_fits : y < 2 ^ d → Idle s → Allows (without_chambers s) y → Fits (one_chamber d) s y
  unfolding dealt numbered
  allowed_fits l k a =
      let no-unit : (first most : ℕ) → size (intersection y (units_from first 0)) ≤ most = λ first most. omega (arith, none first y) in
      record {
        includes = a.includes;
        within = a.within;
        counted = (
          subst (λ (z : ℕ). get_or s.least 0 0 ≤ size z) (sym (own d y l)) a.enough,
          (
            subst (λ (z : ℕ). size z ≤ get_or s.greatest 0 0) (sym (own d y l)) a.few,
            (
              omega (arith, k.second),
              (no-unit (0 + d) _, (omega (arith, k.third), (no-unit (0 + d + 0) _, (omega (arith, k.fourth), (no-unit (0 + d + 0 + 0) _, tt))))),
            ),
          ),
        );
      }

-- it is a bench, with all d units
one_apart : (d : ℕ) → Apart (one_chamber d)
one_apart d = dealt_apart 0 0 (d ∷ 0 ∷ 0 ∷ 0 ∷ [])

one_whole : (d : ℕ) → all (one_chamber d) ≡ 2 ^ d - 1
unfolding sum
one_whole d = dealt_whole d (d ∷ 0 ∷ 0 ∷ 0 ∷ []) (omega arith)

-- a step that has units below d alone and passes the test that some set is feasible
module _ (d : ℕ) (s : ChamberLimits) (low : s.upper < 2 ^ d) (k : some_fits (one_chamber d) s ≡ true) where
  some_set_lem : (y : ℕ) × Fits (one_chamber d) s y
  some_set_lem = (some_fits_lem (one_chamber d) s (one_apart d)).0 k

  idle : Idle s
  idle = fits_idle d s some_set_lem.0 some_set_lem.1

  -- a set is feasible exactly if the step allows it without chambers
  pub one_fits : (y : ℕ) → Fits (one_chamber d) s y ↔ Allows (without_chambers s) y
  one_fits y = (
    λ f. fits_allowed d s y (subset_below d y s.upper f.within low) f,
    λ a. allowed_fits d s y (subset_below d y s.upper a.within low) idle a,
  )

  -- with zeros for the empty chambers it passes that test too
  pub widened_fits : some_fits (one_chamber d) (widened (without_chambers s)) ≡ true
  widened_fits =
      let (y, f) = some_set_lem in
      (some_fits_lem (one_chamber d) (widened (without_chambers s)) (one_apart d)).1
      (y, allowed_fits d (widened (without_chambers s)) y (subset_below d y s.upper f.within low) (record { second = refl; third = refl; fourth = refl }) ((one_fits y).0 f))

  -- the tests agree on sets of units below d
  one_test : (y : ℕ) → y < 2 ^ d → fits (one_chamber d) s y ≡ allows (without_chambers s) y
  one_test y l =
      let new = fits_exactly (one_chamber d) s y in
      let old = allows_exactly (without_chambers s) y in
      let same = one_fits y in
      same_test (fits (one_chamber d) s y) (allows (without_chambers s) y) (λ e. old.1 (same.0 (new.0 e))) (λ e. new.1 (same.1 (old.0 e)))

  -- and the sizes are the same
  one_sizes : sizes_in (one_chamber d) s ≡ sizes_of (without_chambers s)
  one_sizes =
      let x = without_chambers s in
      same_sizes (sizes_in (one_chamber d) s) (sizes_of x)
      (sizes_in_ordered (one_chamber d) s) (sizes_ordered x.lower x.upper x.least x.greatest)
      (λ n.
      let new = sizes_in_exact (one_chamber d) s (one_apart d) (subst (Subset s.upper) (sym (one_whole d)) (subset_full d s.upper low)) n in
      let old = sizes_exact x.lower x.upper x.least x.greatest n in (
        λ h. let (y, (f, is)) = new.1 h in old.0 (y, ((one_fits y).0 f, is)),
        λ h. let (y, (a, is)) = old.1 h in new.0 (y, ((one_fits y).1 a, is)),
      ))

-- ---- what is said of all plans

-- what a test selects of two lists, one after the other
select_append : {A : Type 0} (test : A → Bool) (l r : List A) → select test (l ++ r) ≡ select test l ++ select test r
unfolding select
select_append test [] r = refl
select_append {A} test (a ∷ l) r = go (test a) (select_append test l r)
  where
    go : (t : Bool) {kept : List A} → kept ≡ select test l ++ select test r → cond t (a ∷ kept) kept ≡ cond t (a ∷ select test l) (select test l) ++ select test r
    go true e = ap (λ k. a ∷ k) e
    go false e = e

-- tests that agree on the numbers below k select the same of them
select_same : (one two : ℕ → Bool) (k : ℕ) → ((x : ℕ) → x < k → one x ≡ two x) → select one (below k) ≡ select two (below k)
unfolding below select
select_same one two zero h = refl
select_same one two (suc k) h =
    select_append one (below k) (k ∷ [])
    ∙ ap₂ (λ l t. l ++ cond t (k ∷ []) []) (select_same one two k (λ x l. h x (omega arith))) (h k (omega arith))
    ∙ sym (select_append two (below k) (k ∷ []))

module _ (d : ℕ) where
  -- the same plans are feasible
  one_plans : (ss : List ChamberLimits) → Sound (one_chamber d) d ss → plans_of (fits (one_chamber d)) d ss ≡ plans_of allows d (map without_chambers ss)
  unfolding plans_of
  one_plans [] k = refl
  one_plans (s ∷ ss) k =
      ap₂ prefixed (select_same (fits (one_chamber d) s) (allows (without_chambers s)) (2 ^ d) (one_test d s k.0.0 k.0.1)) (one_plans ss k.1)

  pub one_plan_fits : (ss : List ChamberLimits) (plan : List ℕ) → Sound (one_chamber d) d ss → Throughout (Fits (one_chamber d)) ss plan ↔ FeasiblePlan (map without_chambers ss) plan
  one_plan_fits [] [] k = (λ f. tt, λ f. tt)
  one_plan_fits [] (y ∷ plan) k = (λ f. f, λ f. f)
  one_plan_fits (s ∷ ss) [] k = (λ f. f, λ f. f)
  one_plan_fits (s ∷ ss) (y ∷ plan) k =
      let here = one_fits d s k.0.0 k.0.1 y in
      let rest = one_plan_fits ss plan k.1 in
      (λ f. (here.0 f.0, rest.0 f.1), λ f. (here.1 f.0, rest.1 f.1))

  -- so they have the same fewest switches
  pub one_fewest : (start : ℕ) (ss : List ChamberLimits) → Sound (one_chamber d) d ss → fewest (fits (one_chamber d)) d start ss ≡ fewest allows d start (map without_chambers ss)
  unfolding fewest
  one_fewest start ss k = ap (λ ps. least_of (map (total start) ps)) (one_plans ss k)

  -- the same chart
  pub one_chart : (on : Bool) (bound start : ℕ) (ss : List ChamberLimits) → Sound (one_chamber d) d ss
      → can_be (fits (one_chamber d)) on d bound start ss ≡ can_be allows on d bound start (map without_chambers ss)
  unfolding plans_within can_be_on can_be_off
  one_chart true bound start ss k = rw (length-map ss without_chambers, one_plans ss k)
  one_chart false bound start ss k = rw (length-map ss without_chambers, one_plans ss k)

  -- and the same sizes of each step
  pub one_sizes_all : (ss : List ChamberLimits) → Sound (one_chamber d) d ss → map (sizes_in (one_chamber d)) ss ≡ map sizes_of (map without_chambers ss)
  one_sizes_all [] k = refl
  one_sizes_all (s ∷ ss) k = ap₂ ◌∷◌ (one_sizes d s k.0.0 k.0.1) (one_sizes_all ss k.1)

-- ---- the plan that is handed out

module _ (d start : ℕ) (ss : List ChamberLimits) (l : start < 2 ^ d) (k : Sound (one_chamber d) d ss) where
  -- the first chamber
  abbrev first : Chamber
  first = record { number = 0; units = units_from 0 d }

  -- its steps are the steps
  first_parts : (ss : List ChamberLimits) → Sound (one_chamber d) d ss → parts_of first ss ≡ map without_chambers ss
  first_parts [] k = refl
  first_parts (s ∷ ss) k =
      let (y, f) = some_set_lem d s k.0.0 k.0.1 in
      let small = subset_below d s.lower s.upper (λ u. omega (arith, f.includes u, f.within u)) k.0.0 in
      ap₂ ◌∷◌
      (λ i. record { lower = own d s.lower small i; upper = own d s.upper k.0.0 i; least = get_or s.least 0 0; greatest = get_or s.greatest 0 0 })
      (first_parts ss k.1)

  -- the plan of all chambers has units of the first alone, and is what FindSupport makes of it
  pub one_plan : support_in (one_chamber d) start ss ≡ find_support start (map without_chambers ss)
  unfolding dealt numbered
  one_plan =
      let cs = one_chamber d in
      let plan = support_in cs start ss in
      let sat = chambers_satisfied {ss = ss} (record { apart = one_apart d; whole = one_whole d; sound = k }) in
      let inside = plan_inside cs ss plan (support_fits (λ i. tie_ordered) start ss cs (one_apart d) sat) in
      sym (inside_cut (units_from 0 d) plan (subst (λ (m : ℕ). Inside m plan) (one_whole d ∙ sym (first_units d)) inside))
      ∙ support_cut (λ i. tie_ordered) start ss first cs (Memᴰ.head refl) (one_apart d) sat
      ∙ ap₂ find_support (own d start l) (first_parts ss k)
