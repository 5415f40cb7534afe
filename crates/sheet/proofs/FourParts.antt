-- Laws on what a step asks of the chambers of a sheet: of an empty one (`empty_asked`), of all four together
-- (`four_sums`), and of the first alone (`alone_sums`), as in the first edition (`first_alone`).
use mathlib.Core.Path.{◌≡◌, refl, sym, ap, ap₂, ◌∙◌, subst}
use mathlib.Core.Bool.{Bool, true, false, cond, false≢true}
use mathlib.Core.List.{List, [], ◌∷◌}
use Prim.Native.Nat.{ℕ, ◌+◌, ◌^◌, ◌≤◌, ◌<◌}
use native.Mathlib.Omega.{arith}
use lib.ListN.{length, get_or}
use borrow.Author.Tests.{eq-eqb, eqb-true}
use Rattle.std.specs.Bool.{then_some}
use Rattle.std.specs.Prelude.{Option, Some, None, eqb}
use Rattle.units.specs.Limits.{between, feasible_sizes}
use Rattle.units.specs.Sets.{intersection}
use Rattle.units.specs.declared.Sizes.{Sizes}
use Rattle.units.proofs.Limits.{either_way}
use Rattle.units.proofs.Sets.{bit_empty, bit_intersection, set_ext, size_empty, size_below}
use Rattle.plans.specs.declared.Limits.{Limits}
use Rattle.plans.specs.Switch.{sizes_of}
use Rattle.chambers.specs.Chambers.{Chamber, chamber, units_from, dealt, numbered, ChamberLimits, part_of, plus, part_sizes}
use Rattle.chambers.proofs.Dealt.{none_from}
use Rattle.format.specs.declared.ChamberSizes.{ChamberSizes}
use Rattle.format.specs.declared.ChamberStep.{ChamberStep}
use Rattle.format.specs.Format.{chamber_count, record_offset, is_first, units_of, one_size, four_sizes, sizes, sizes_list, step_in, step_of, limits_of}
use Rattle.sheet.specs.Few.{AtMost, Unasked, Alone}

-- ---- the chambers

-- the units of each chamber, from its first unit on
pub dealt_four : (z : ChamberSizes) {a b c d : ℕ} → a ≡ units_from 0 z.first → b ≡ units_from z.first z.second → c ≡ units_from (z.first + z.second) z.third
    → d ≡ units_from (z.first + z.second + z.third) z.fourth → a ∷ b ∷ c ∷ d ∷ [] ≡ dealt 0 (sizes_list z)
unfolding dealt
dealt_four z p q r s =
    let none : z.first ≡ 0 + z.first = omega arith in
    (λ i. p i ∷ q i ∷ r i ∷ s i ∷ [])
    ∙ ap (λ (k : ℕ). units_from 0 z.first ∷ units_from k z.second ∷ units_from (k + z.second) z.third ∷ units_from (k + z.second + z.third) z.fourth ∷ []) none

-- the sizes in a chamber are those in the same one
pub same_sizes : (s : ChamberLimits) {c d : Chamber} → c ≡ d → {z : Option Sizes} → z ≡ sizes_of (part_of c s) → z ≡ sizes_of (part_of d s)
same_sizes s e is = is ∙ ap (λ c. sizes_of (part_of c s)) e

-- ---- an empty chamber

none_left : (a : ℕ) → intersection a 0 ≡ 0
none_left a = set_ext (intersection a 0) 0 (λ u. omega (arith, bit_intersection a 0 u, bit_empty u))

module _ (lower upper least greatest : ℕ) where
  -- the sizes in a chamber without units
  abbrev empty : Option Sizes
  empty = feasible_sizes (intersection lower 0) (intersection upper 0) least greatest

  emptied : feasible_sizes 0 0 least greatest ≡ empty
  emptied = sym (ap₂ (λ (l u : ℕ). feasible_sizes l u least greatest) (none_left lower) (none_left upper))

  -- asked for none, it has the empty set
  none_asked : least ≡ 0 → between 0 0 ≡ empty
  none_asked e =
      either_way 0 0 least greatest (λ z. between 0 0 ≡ z)
      (λ h o. ap₂ between (omega (arith, size_empty)) (omega (arith, size_empty)))
      (λ none. absurd (none 0 (record { includes = λ u. omega arith; within = λ u. omega arith; enough = omega (arith, size_empty); few = omega (arith, size_empty) })))
      ∙ emptied

  -- asked for some, it has no set
  some_asked : (least ≡ 0 → ⊥) → None ≡ empty
  some_asked n = either_way 0 0 least greatest (λ z. None ≡ z) (λ h o. absurd (n (omega (arith, size_empty)))) (λ none. refl) ∙ emptied

  -- one test tells which
  pub empty_asked : then_some (eqb least 0) (record { few = 0; many = 0 }) ≡ empty
  empty_asked = go (eqb least 0) refl
    where
      go : (t : Bool) → eqb least 0 ≡ t → then_some t (record { few = 0; many = 0 }) ≡ empty
      go true e = none_asked (eqb-true least 0 e)
      go false e = some_asked (λ z. false≢true (sym e ∙ eq-eqb least 0 z))

-- ---- all chambers together

-- an empty part adds nothing
adds_none : (z : Option Sizes) → z ≡ plus z (between 0 0)
adds_none (Some z) = ap₂ between (omega arith) (omega arith)
adds_none None = refl

-- the sums over four chambers, from the sizes of each
pub four_sums : (us : List ℕ) (s : ChamberLimits) → length us ≡ chamber_count → {w x y z : Option Sizes}
    → w ≡ sizes_of (part_of (chamber 0 (get_or us 0 0)) s) → x ≡ sizes_of (part_of (chamber 1 (get_or us 1 0)) s)
    → y ≡ sizes_of (part_of (chamber 2 (get_or us 2 0)) s) → z ≡ sizes_of (part_of (chamber 3 (get_or us 3 0)) s)
    → plus w (plus x (plus y z)) ≡ part_sizes (numbered 0 us) s
unfolding numbered part_sizes
four_sums [] s h i j k l = absurd (omega arith)
four_sums (a ∷ []) s h i j k l = absurd (omega arith)
four_sums (a ∷ b ∷ []) s h i j k l = absurd (omega arith)
four_sums (a ∷ b ∷ c ∷ []) s h i j k l = absurd (omega arith)
four_sums (a ∷ b ∷ c ∷ d ∷ []) s h {z = z} i j k l =
    (λ t. plus (i t) (plus (j t) (plus (k t) (adds_none z t)))) ∙ ap (λ r. plus (sizes_of (part_of (chamber 0 a) s)) (plus (sizes_of (part_of (chamber 1 b) s)) (plus (sizes_of (part_of (chamber 2 c) s)) (plus r (between 0 0))))) l
four_sums (a ∷ b ∷ c ∷ d ∷ e ∷ us) s h i j k l = absurd (omega arith)

-- no set of units has more than 64
pub part_at_most : (s : Limits) → s.upper < 2 ^ 64 → AtMost 64 (sizes_of s)
part_at_most s h =
    either_way s.lower s.upper s.least s.greatest (AtMost 64)
    (λ within o. (omega (arith, size_below 64 s.upper h), omega (arith, size_below 64 s.upper h))) (λ none. tt)

pub at_most_mono : (i j : ℕ) (z : Option Sizes) → i ≤ j → AtMost i z → AtMost j z
at_most_mono i j (Some z) h m = (omega (arith, m.0), omega (arith, m.1))
at_most_mono i j None h m = tt

pub plus_at_most : (i j : ℕ) (a b : Option Sizes) → AtMost i a → AtMost j b → AtMost (i + j) (plus a b)
plus_at_most i j None b m n = tt
plus_at_most i j (Some z) None m n = tt
plus_at_most i j (Some z) (Some w) m n = (omega (arith, m.0, n.0), omega (arith, m.1, n.1))

-- ---- one chamber alone

-- where the others are empty and asked for none, its sizes are those of all
pub alone_sums : (us : List ℕ) (x : ChamberStep) → length us ≡ chamber_count → Alone us x
    → sizes_of (part_of (chamber 0 (get_or us 0 0)) (limits_of x)) ≡ part_sizes (numbered 0 us) (limits_of x)
alone_sums us x four a =
    let s = limits_of x in
    let nothing : (c : ℕ) → Unasked us x c → between 0 0 ≡ sizes_of (part_of (chamber c (get_or us c 0)) s) =
    λ c u. none_asked x.lower x.upper (get_or x.least c 0) (get_or x.greatest c 0) u.1
    ∙ ap (λ (units : ℕ). sizes_of (part_of (chamber c units) s)) (sym u.0) in
    adds_none (sizes_of (part_of (chamber 0 (get_or us 0 0)) s)) ∙ four_sums us s four refl (nothing 1 a.0) (nothing 2 a.1.0) (nothing 3 a.1.1)

-- so it is in the first edition
pub first_alone : (s : List ℕ) (j : ℕ) {us : List ℕ} → us ≡ dealt 0 (sizes_list (sizes s)) → is_first s ≡ true → Alone us (step_of s j)
unfolding dealt sizes step_of step_in
first_alone s j e f =
    subst (λ (us : List ℕ). Alone us (step_of s j)) (sym e)
    (subst (λ (first : Bool). Alone (dealt 0 (sizes_list (cond first (one_size (units_of s)) (four_sizes s)))) (step_in first s (record_offset (is_first s) j))) (sym f)
    ((none_from _, refl), ((none_from _, refl), (none_from _, refl))))
