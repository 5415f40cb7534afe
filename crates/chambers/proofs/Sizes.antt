-- The test of a step gives the sizes of its feasible sets, and no other (`sizes_in_exact`), and passes exactly if
-- there is one (`some_fits_lem`), which comes to four simple tests (`four_tests_in`). A size of a set of all chambers
-- is the sum of the sizes of its parts; and of a sum that lies between the sums of the ends, each part has its share
-- between its own ends.
use mathlib.Core.Path.{◌≡◌, refl, sym, ap, ap₂, ◌∙◌, subst}
use mathlib.Core.Logic.{⊎_elim, ◌↔◌}
use mathlib.Core.Bool.{Bool, true, false, cond, false≢true}
use mathlib.Core.List.Memᴰ
use mathlib.Core.List.{List, [], ◌∷◌, Memᴰ}
use Prim.Native.Nat.{ℕ, ◌+◌, ◌-◌, ◌≤◌, max}
use native.Mathlib.Omega.{arith}
use Rattle.std.specs.Prelude.{Option, Some, None, is_some}
use Rattle.units.specs.Limits.{between, HasSize, InOrder, has_feasible}
use Rattle.units.specs.Sets.{union, intersection, Subset, is_subset, size}
use Rattle.units.specs.declared.Sizes.{Sizes}
use Rattle.units.proofs.Limits.{sizes_exact, sizes_ordered, some_feasible, four_tests}
use Rattle.units.proofs.Sets.{bit_empty, bit_intersection, bit_union, size_empty, size_union, set_ext, subset_holds, subset_test}
use Rattle.plans.specs.Switch.{Allows, sizes_of}
use Rattle.chambers.specs.Chambers.{Chamber, ChamberLimits, least_in, greatest_in, size_in, Counted, Fits, part_of, plus, part_sizes, sizes_in, some_fits, HasRoom}
use Rattle.chambers.proofs.Parts.{all, Apart, FitsIn, same_counted, cut_counted, fits_inside, fits_in, in_fits, first_fits, rest_fits, both_fit, size_parts, inside_whole}

-- ---- sizes

-- sizes in order that are the same numbers are the same
pub same_sizes : (z w : Option Sizes) → InOrder z → InOrder w → ((k : ℕ) → HasSize z k ↔ HasSize w k) → z ≡ w
same_sizes (Some z) (Some w) h k same =
    let (p, q) = (same z.few).0 (omega arith, omega arith) in
    let (r, s) = (same z.many).0 (omega arith, omega arith) in
    let (t, u) = (same w.few).1 (omega arith, omega arith) in
    let (v, x) = (same w.many).1 (omega arith, omega arith) in
    ap₂ between (omega arith) (omega arith)
same_sizes (Some z) None h k same = absurd ((same z.few).0 (omega arith, h))
same_sizes None (Some w) h k same = absurd ((same w.few).1 (omega arith, k))
same_sizes None None h k same = refl

-- ---- two parts

-- a size of each part makes one of both
plus_has : (z w : Option Sizes) (j k : ℕ) → HasSize z j → HasSize w k → HasSize (plus z w) (j + k)
plus_has (Some z) (Some w) j k (l, m) (p, q) = (omega arith, omega arith)
plus_has (Some z) None j k h e = absurd e
plus_has None w j k h e = absurd h

-- and one of both is made of one of each
has_plus : (z w : Option Sizes) → InOrder z → InOrder w → (k : ℕ) → HasSize (plus z w) k → (i : ℕ) × ((j : ℕ) × (HasSize z i × (HasSize w j × (i + j ≡ k))))
has_plus (Some z) (Some w) h e k (l, m) =
    let i = max z.few (k - w.many) in
    (i, (k - i, ((omega arith, omega arith), ((omega arith, omega arith), omega arith))))
has_plus (Some z) None h e k f = absurd f
has_plus None w h e k f = absurd f

-- where each part has one, so have both
plus_some : (z w : Option Sizes) → is_some z ≡ true → is_some w ≡ true → is_some (plus z w) ≡ true
plus_some (Some z) (Some w) h k = refl
plus_some (Some z) None h k = k
plus_some None w h k = h

-- sums of sizes in order are in order
plus_order : (z w : Option Sizes) → InOrder z → InOrder w → InOrder (plus z w)
plus_order (Some z) (Some w) h k = omega arith
plus_order (Some z) None h k = tt
plus_order None w h k = tt

-- ---- some chambers

-- the sizes of one chamber are in order, and so are those of some
part_order : (c : Chamber) (s : ChamberLimits) → InOrder (sizes_of (part_of c s))
part_order c s =
    let here = part_of c s in
    sizes_ordered here.lower here.upper here.least here.greatest

parts_order : (cs : List Chamber) (s : ChamberLimits) → InOrder (part_sizes cs s)
unfolding part_sizes
parts_order [] s = omega arith
parts_order (c ∷ cs) s = plus_order (sizes_of (part_of c s)) (part_sizes cs s) (part_order c s) (parts_order cs s)

-- a number is the size of a set that fits in them exactly if it is one of their sizes
parts_exact : (cs : List Chamber) (s : ChamberLimits) → Apart cs → (k : ℕ) → ((x : ℕ) × (FitsIn cs s x × (size x ≡ k))) ↔ HasSize (part_sizes cs s) k
unfolding part_sizes all
parts_exact [] s a k = (
  λ (x, (f, is)).
      let none : size x ≡ 0 = ap size (set_ext x 0 (λ u. omega (arith, f.within u, bit_intersection s.upper 0 u, bit_empty u))) ∙ size_empty in
      (omega arith, omega arith),
  λ (l, m). (
    0,
    (
      record { includes = λ u. omega (arith, bit_intersection s.lower 0 u, bit_empty u); within = λ u. omega (arith, bit_empty u); counted = tt },
      omega (arith, size_empty),
    ),
  ),
)
parts_exact (c ∷ cs) s a k =
    let here = part_of c s in
    let first = sizes_exact here.lower here.upper here.least here.greatest in
    let rest = parts_exact cs s a.1 in (
      λ (x, (f, is)).
          let x₁ = intersection x c.units in
          let x₂ = intersection x (all cs) in
          let both = ap size (sym (inside_whole (all (c ∷ cs)) x (fits_inside (c ∷ cs) s x f))) ∙ size_parts c.units (all cs) a.0 x in
          let p = (first (size x₁)).0 (x₁, (first_fits c cs s x f, refl)) in
          let q = (rest (size x₂)).0 (x₂, (rest_fits c cs s x f, refl)) in
          subst (HasSize (plus (sizes_of here) (part_sizes cs s))) (sym both ∙ is) (plus_has (sizes_of here) (part_sizes cs s) (size x₁) (size x₂) p q),
      λ h.
          let (i, (j, (p, (q, e)))) = has_plus (sizes_of here) (part_sizes cs s) (part_order c s) (parts_order cs s) k h in
          let (x, (f, is)) = (first i).1 p in
          let (y, (g, are)) = (rest j).1 q in (
            union x y,
            (
              both_fit c cs s a.0 x y f g,
              size_union x y (λ u. omega (arith, f.within u, bit_intersection s.upper c.units u, fits_inside cs s y g u, a.0 u)) ∙ ap₂ ◌+◌ is are ∙ e,
            ),
          ),
    )

-- there are some if there are some in each
parts_some : (cs : List Chamber) (s : ChamberLimits) → ((c : Chamber) → Memᴰ c cs → is_some (sizes_of (part_of c s)) ≡ true) → is_some (part_sizes cs s) ≡ true
unfolding part_sizes
parts_some [] s h = refl
parts_some (c ∷ cs) s h = plus_some (sizes_of (part_of c s)) (part_sizes cs s) (h c (Memᴰ.head refl)) (parts_some cs s (λ d m. h d (Memᴰ.tail m)))

-- ---- the step

-- what a feasible set has in the chambers fits in them
fits_part : (cs : List Chamber) (s : ChamberLimits) (x : ℕ) → Fits cs s x → FitsIn cs s (intersection x (all cs))
fits_part cs s x f =
    record {
      includes = λ u. omega (arith, bit_intersection s.lower (all cs) u, bit_intersection x (all cs) u, f.includes u);
      within = λ u. omega (arith, bit_intersection s.upper (all cs) u, bit_intersection x (all cs) u, f.within u);
      counted = cut_counted cs s x f.counted;
    }

-- and a set that fits in them is feasible, with the rest of the lower set
part_fits : (cs : List Chamber) (s : ChamberLimits) (x : ℕ) → Subset s.lower s.upper → FitsIn cs s x → Fits cs s (union x s.lower)
part_fits cs s x sub f =
    record {
      includes = λ u. omega (arith, bit_union x s.lower u);
      within = λ u. omega (arith, bit_union x s.lower u, f.within u, bit_intersection s.upper (all cs) u, sub u);
      counted =
          same_counted cs s x (union x s.lower)
          (λ u. omega (arith, bit_union x s.lower u, f.includes u, bit_intersection s.lower (all cs) u)) f.counted;
    }

module _ (cs : List Chamber) (s : ChamberLimits) where
  -- What holds of the sums over the chambers, where the lower set is within the upper one, and of `None`, where no set
  -- is feasible, holds of what the test gives.
  either_in : (P : Option Sizes → Type 0) → (Subset s.lower s.upper → P (part_sizes cs s)) → (((x : ℕ) → Fits cs s x → ⊥) → P None) → P (sizes_in cs s)
  unfolding sizes_in
  either_in P some none = go (is_subset s.lower s.upper) refl
    where
      go : (t : Bool) → is_subset s.lower s.upper ≡ t → P (cond t (part_sizes cs s) None)
      go true e = some (subset_holds s.lower s.upper e)
      go false e = none (λ x f. false≢true (sym e ∙ subset_test s.lower s.upper (λ u. omega (arith, f.includes u, f.within u))))

  -- the least is at the most the greatest
  pub sizes_in_ordered : InOrder (sizes_in cs s)
  sizes_in_ordered = either_in InOrder (λ sub. parts_order cs s) (λ none. tt)

  -- a number is the size of some feasible set exactly if it is one of the sizes
  pub sizes_in_exact : Apart cs → Subset s.upper (all cs) → (k : ℕ) → ((x : ℕ) × (Fits cs s x × (size x ≡ k))) ↔ HasSize (sizes_in cs s) k
  sizes_in_exact a own k =
      either_in (λ z. ((x : ℕ) × (Fits cs s x × (size x ≡ k))) ↔ HasSize z k)
      (λ sub. (
        λ (x, (f, is)). (parts_exact cs s a k).0 (x, (fits_in cs s own x f, is)),
        λ h. let (x, (f, is)) = (parts_exact cs s a k).1 h in (x, (in_fits cs s own x sub f, is)),
      ))
      (λ none. (λ (x, (f, is)). none x f, λ z. absurd z))

  -- there is a feasible set exactly if the step passes the test
  pub some_fits_lem : Apart cs → some_fits cs s ≡ true ↔ ((x : ℕ) × Fits cs s x)
  unfolding some_fits
  some_fits_lem a =
      either_in (λ z. is_some z ≡ true ↔ ((x : ℕ) × Fits cs s x))
      (λ sub. (
        λ t. let (x, f) = least (part_sizes cs s) (parts_order cs s) (parts_exact cs s a) t in (union x s.lower, part_fits cs s x sub f),
        λ (x, f). has_some (part_sizes cs s) _ ((parts_exact cs s a _).0 (intersection x (all cs), (fits_part cs s x f, refl))),
      ))
      (λ none. (λ t. absurd (false≢true t), λ (x, f). absurd (none x f)))
    where
      has_some : (z : Option Sizes) (k : ℕ) → HasSize z k → is_some z ≡ true
      has_some (Some w) k h = refl
      has_some None k h = absurd h

      -- a set of the least size
      least : (z : Option Sizes) → InOrder z → ((k : ℕ) → ((x : ℕ) × (FitsIn cs s x × (size x ≡ k))) ↔ HasSize z k) → is_some z ≡ true → (x : ℕ) × FitsIn cs s x
      least (Some z) o exact t = let (x, (f, is)) = (exact z.few).1 (omega arith, o) in (x, f)
      least None o exact t = absurd (false≢true t)

  -- and then there are sizes
  pub some_sizes_in : some_fits cs s ≡ true → (z : Sizes) × (sizes_in cs s ≡ Some z)
  unfolding some_fits
  some_sizes_in t = the_value (sizes_in cs s) t
    where
      the_value : (z : Option Sizes) → is_some z ≡ true → (w : Sizes) × (z ≡ Some w)
      the_value (Some w) t = (w, refl)
      the_value None t = absurd (false≢true t)

  -- what a feasible set has in a chamber is feasible there
  pub part_allowed : (c : Chamber) → Memᴰ c cs → (x : ℕ) → Fits cs s x → Allows (part_of c s) (intersection x c.units)
  part_allowed c m x f =
      let (l, g) = counted_at cs f.counted m in
      record {
        includes = λ u. omega (arith, f.includes u, bit_intersection s.lower c.units u, bit_intersection x c.units u);
        within = λ u. omega (arith, f.within u, bit_intersection s.upper c.units u, bit_intersection x c.units u);
        enough = l;
        few = g;
      }
    where
      counted_at : (ds : List Chamber) → Counted ds s x → Memᴰ c ds → (least_in c s ≤ size_in c x) × (size_in c x ≤ greatest_in c s)
      counted_at [] k n = absurd (Memᴰ.not-nil n)
      counted_at (d ∷ ds) (l, (g, k)) n =
          ⊎_elim (λ e. subst (λ (b : Chamber). (least_in b s ≤ size_in b x) × (size_in b x ≤ greatest_in b s)) (sym e) (l, g)) (λ o. counted_at ds k o)
          (Memᴰ.cases_cons n)

  -- there is a feasible set exactly if the lower set is within the upper one and three tests hold of each chamber's
  -- numbers
  pub four_tests_in : Apart cs → ((x : ℕ) × Fits cs s x) ↔ (Subset s.lower s.upper × ((c : Chamber) → Memᴰ c cs → HasRoom c s))
  unfolding some_fits sizes_in has_feasible
  four_tests_in a = (
    λ (x, f). ((λ u. omega (arith, f.includes u, f.within u)), λ c m. ((tests c).0 (intersection x c.units, part_allowed c m x f)).1),
    λ (sub, room).
        (some_fits_lem a).0
        (ap (λ t. is_some (cond t (part_sizes cs s) None)) (subset_test s.lower s.upper sub) ∙ parts_some cs s (λ c m. part c sub (room c m))),
  )
    where
      tests : (c : Chamber) → ((x : ℕ) × Allows (part_of c s) x) ↔ (Subset (part_of c s).lower (part_of c s).upper × HasRoom c s)
      tests c = four_tests (part_of c s).lower (part_of c s).upper (least_in c s) (greatest_in c s)

      part : (c : Chamber) → Subset s.lower s.upper → HasRoom c s → is_some (sizes_of (part_of c s)) ≡ true
      part c sub room =
          (some_feasible (part_of c s).lower (part_of c s).upper (least_in c s) (greatest_in c s)).1
          ((tests c).1 ((λ u. omega (arith, sub u, bit_intersection s.lower c.units u, bit_intersection s.upper c.units u)), room))
