-- The check of a plan: what a step asks of a chamber, by the sizes of its part (`counted_by`), and of all four
-- (`four_counts`), and the loop along the chain (`Checking`).
use mathlib.Core.Path.{◌≡◌, refl, sym, ap, ap₂, ◌∙◌}
use mathlib.Core.Logic.{◌↔◌}
use mathlib.Core.Bool.{Bool, true, false, ◌&&◌, and-true, and_assoc, and-eq-true_iff, false≢true}
use mathlib.Core.List.{List, [], ◌∷◌, map}
use Prim.Native.Nat.{ℕ, ◌+◌, ◌*◌, ◌≤◌}
use native.Mathlib.Omega.{arith}
use borrow.Author.Tests.{le-leb, leb-true}
use lib.Dec.{leb}
use lib.ListN.{length, get_or}
use Rattle.std.specs.Prelude.{Option, Some, None}
use Rattle.units.specs.Limits.{HasSize}
use Rattle.units.specs.Sets.{bit, is_subset, difference, intersection, size}
use Rattle.units.specs.declared.Sizes.{Sizes}
use Rattle.units.proofs.Limits.{same_test, counted_by_sizes}
use Rattle.units.proofs.Sets.{bit_empty, bit_intersection, set_ext, size_empty, subset_holds}
use Rattle.chambers.specs.Chambers.{Chamber, chamber, numbered, ChamberLimits, least_in, greatest_in, size_in, part_of, count_fits, counts, fits}
use Rattle.plans.specs.Plans.{is_feasible}
use Rattle.plans.specs.Switch.{sizes_of, switches, total}
use Rattle.plans.specs.declared.Limits.{Limits}
use Rattle.format.specs.declared.ChamberStep.{ChamberStep}
use Rattle.format.specs.Format.{chamber_count, limits_of}

-- ---- one chamber

-- a set has no unit of an empty chamber
pub none_counted : (set units : ℕ) → units ≡ 0 → 0 ≡ size (intersection set units)
none_counted set units e =
    let empty : intersection set units ≡ 0 =
    set_ext (intersection set units) 0 (λ u. omega (arith, bit_intersection set units u, ap (λ (x : ℕ). bit x u) e, bit_empty u)) in
    sym (ap size empty ∙ size_empty)

-- the test that a number is one of the sizes
abbrev pub is_size : Option Sizes → ℕ → Bool
is_size (Some z) k = leb z.few k && leb k z.many
is_size None k = false

-- the tests hold exactly if what they test is so
from_to : (a k b : ℕ) → (leb a k && leb k b) ≡ true ↔ ((a ≤ k) × (k ≤ b))
from_to a k b = (
  λ e. let (l, m) = (and-eq-true_iff (leb a k) (leb k b)).0 e in (leb-true a k l, leb-true k b m),
  λ (l, m). (and-eq-true_iff (leb a k) (leb k b)).1 (le-leb a k l, le-leb k b m),
)

is_size_lem : (z : Option Sizes) (k : ℕ) → is_size z k ≡ true ↔ HasSize z k
is_size_lem (Some z) k = from_to z.few k z.many
is_size_lem None k = (λ e. absurd (false≢true e), λ h. absurd h)

-- Of a set between the lower and the upper set of a step, the count in a chamber fits exactly if it is one of the
-- sizes of the chamber's part, as they were found.
pub counted_by : (c : Chamber) (s : ChamberLimits) (set : ℕ) {k : ℕ} {z : Option Sizes} → is_subset s.lower set ≡ true → is_subset set s.upper ≡ true
    → k ≡ size_in c set → z ≡ sizes_of (part_of c s) → is_size z k ≡ count_fits c s set
counted_by c s set includes within p e =
    ap₂ is_size e p ∙ same_test (is_size (sizes_of (part_of c s)) (size_in c set)) (count_fits c s set)
    (λ t. fits.1 (same.0 (is.0 t))) (λ t. is.1 (same.1 (fits.0 t)))
  where
    part : Limits
    part = part_of c s

    same : HasSize (sizes_of part) (size_in c set) ↔ ((least_in c s ≤ size_in c set) × (size_in c set ≤ greatest_in c s))
    same =
        counted_by_sizes part.lower part.upper part.least part.greatest (intersection set c.units)
        (λ u. omega (arith, bit_intersection s.lower c.units u, bit_intersection set c.units u, subset_holds s.lower set includes u))
        (λ u. omega (arith, bit_intersection s.upper c.units u, bit_intersection set c.units u, subset_holds set s.upper within u))

    is : is_size (sizes_of part) (size_in c set) ≡ true ↔ HasSize (sizes_of part) (size_in c set)
    is = is_size_lem (sizes_of part) (size_in c set)

    fits : count_fits c s set ≡ true ↔ ((least_in c s ≤ size_in c set) × (size_in c set ≤ greatest_in c s))
    fits = from_to (least_in c s) (size_in c set) (greatest_in c s)

-- ---- all four

-- the counts of all four chambers, from the tests of each
pub four_counts : (us : List ℕ) (s : ChamberLimits) (set : ℕ) → length us ≡ chamber_count
    → (count_fits (chamber 0 (get_or us 0 0)) s set && count_fits (chamber 1 (get_or us 1 0)) s set && count_fits (chamber 2 (get_or us 2 0)) s set && count_fits (chamber 3 (get_or us 3 0)) s set)
    ≡ counts (numbered 0 us) s set
unfolding numbered counts
four_counts [] s set h = absurd (omega arith)
four_counts (a ∷ []) s set h = absurd (omega arith)
four_counts (a ∷ b ∷ []) s set h = absurd (omega arith)
four_counts (a ∷ b ∷ c ∷ []) s set h = absurd (omega arith)
four_counts (a ∷ b ∷ c ∷ d ∷ []) s set h = simp (and-true, and_assoc)
four_counts (a ∷ b ∷ c ∷ d ∷ e ∷ us) s set h = absurd (omega arith)

-- ---- the loop
-- ---- the loop

-- what was found, with what is still to be found of the steps and sets that are left, is all
pub record Checking (cs : List Chamber) (all : List ChamberStep) (start : ℕ) (plan : List ℕ) (left : List ChamberStep) (rest : List ℕ) (before : ℕ) (feasible : Bool) (sum : ℕ) : Type 0 where
  pub paired : length left ≡ length rest
  pub tested : (feasible && is_feasible (fits cs) (map limits_of left) rest) ≡ is_feasible (fits cs) (map limits_of all) plan
  pub counted : sum + total before rest ≡ total start plan
  pub small : sum + 64 * length rest ≤ 64 * length plan

module _ {cs : List Chamber} {all : List ChamberStep} {start : ℕ} {plan : List ℕ} {left : List ChamberStep} {rest : List ℕ} {before : ℕ} {feasible : Bool} {sum : ℕ}
    (g : Checking cs all start plan left rest before feasible sum) where
  pub check_on : {x : ChamberStep} {later : List ChamberStep} {set : ℕ} {sets : List ℕ} → left ≡ x ∷ later → rest ≡ set ∷ sets
      → size (difference set before) ≤ 64
      → Checking cs all start plan later sets set (feasible && fits cs (limits_of x) set) (sum + size (difference set before))
  unfolding is_feasible total switches
  check_on {x} {later} {set} {sets} e f few =
      record {
        paired = omega (arith, g.paired, ap length e, ap length f);
        tested =
            and_assoc feasible (fits cs (limits_of x) set) (is_feasible (fits cs) (map limits_of later) sets)
            ∙ ap₂ (λ xs p. feasible && is_feasible (fits cs) (map limits_of xs) p) (sym e) (sym f)
            ∙ g.tested;
        counted = omega (arith, ap (total before) f, g.counted);
        small = omega (arith, g.small, ap length f);
      }

  pub check_done : length rest ≡ 0 → (feasible ≡ is_feasible (fits cs) (map limits_of all) plan) × (sum ≡ total start plan)
  unfolding is_feasible total
  check_done h =
      let e = none left (omega (arith, g.paired)) in
      let f = none rest h in (
        sym (and-true feasible) ∙ ap₂ (λ xs p. feasible && is_feasible (fits cs) (map limits_of xs) p) (sym e) (sym f) ∙ g.tested,
        omega (arith, ap (total before) f, g.counted),
      )
    where
      none : {A : Type 0} (xs : List A) → length xs ≡ 0 → xs ≡ []
      none [] z = refl
      none (x ∷ xs) z = absurd (omega arith)
