-- FindSupport on each chamber, put together, is the best plan of all chambers, whatever orders break its ties: it is
-- feasible (`support_fits`), its total is the sum over the chambers (`support_sum`), and no feasible plan has a
-- smaller one (`sum_least`). For the switches of a plan are those of its part in the first chamber and of its part in
-- the rest, each part is feasible there, and feasible parts put together are a feasible plan.
use mathlib.Core.Path.{◌≡◌, refl, sym, ap, ap₂, ◌∙◌, subst}
use mathlib.Core.Bool.{Bool}
use mathlib.Core.List.{List, [], ◌∷◌, Memᴰ}
use Prim.Native.Nat.{ℕ, zero, suc, ◌+◌, ◌*◌, ◌^◌, ◌≤◌, ◌<◌}
use native.Mathlib.Omega.{arith}
use lib.ListN.{length, length-map, replicate}
use Rattle.units.specs.Sets.{intersection, difference, size}
use Rattle.units.proofs.Sets.{bit_empty, bit_intersection, bit_difference, set_ext, size_below, size_empty, subset_below}
use Rattle.plans.specs.Plans.{joined, joined_all}
use Rattle.plans.specs.Support.{Ordered, find_support_by}
use Rattle.plans.specs.Switch.{Throughout, FeasiblePlan, Satisfiable, switches, total}
use Rattle.plans.proofs.AllPlans.{any_length, plan_length}
use Rattle.plans.proofs.Fewest.{support_from_length}
use Rattle.plans.proofs.Greedy.{plan_greedy}
use Rattle.plans.proofs.Optimal.{optimal}
use Rattle.plans.proofs.Orders.{tie_ordered}
use Rattle.chambers.specs.Chambers.{Chamber, ChamberLimits, part_of, parts_of, support_in_by, support_of}
use Rattle.chambers.specs.Parts.{cut, plan_of, total_of, sum_of}
use Rattle.chambers.proofs.Parts.{all, Disjoint, Apart, FitsIn, fits_inside, first_fits, rest_fits, both_fit, Inside, inside_cut, total_in, total_split, joined_left, joined_right}

-- ---- a plan in parts

module _ (c : Chamber) (cs : List Chamber) where
  -- the part in the first chamber, and the part in the rest
  pub first_plan : (ss : List ChamberLimits) (q : List ℕ) → Throughout (FitsIn (c ∷ cs)) ss q → FeasiblePlan (parts_of c ss) (cut c.units q)
  first_plan [] [] f = tt
  first_plan [] (x ∷ q) f = absurd f
  first_plan (s ∷ ss) [] f = absurd f
  first_plan (s ∷ ss) (x ∷ q) f = (first_fits c cs s x f.0, first_plan ss q f.1)

  pub rest_plan : (ss : List ChamberLimits) (q : List ℕ) → Throughout (FitsIn (c ∷ cs)) ss q → Throughout (FitsIn cs) ss (cut (all cs) q)
  rest_plan [] [] f = tt
  rest_plan [] (x ∷ q) f = absurd f
  rest_plan (s ∷ ss) [] f = absurd f
  rest_plan (s ∷ ss) (x ∷ q) f = (rest_fits c cs s x f.0, rest_plan ss q f.1)

  -- two such plans put together
  pub both_plans : Disjoint c.units (all cs) → (ss : List ChamberLimits) (p q : List ℕ) → FeasiblePlan (parts_of c ss) p → Throughout (FitsIn cs) ss q
      → Throughout (FitsIn (c ∷ cs)) ss (joined p q)
  unfolding joined
  both_plans apart [] [] [] f g = tt
  both_plans apart [] [] (y ∷ q) f g = absurd g
  both_plans apart [] (x ∷ p) q f g = absurd f
  both_plans apart (s ∷ ss) [] q f g = absurd f
  both_plans apart (s ∷ ss) (x ∷ p) [] f g = absurd g
  both_plans apart (s ∷ ss) (x ∷ p) (y ∷ q) f g = (both_fit c cs s apart x y f.0 g.0, both_plans apart ss p q f.1 g.1)

-- each part has units of its chambers alone
pub part_inside : (c : Chamber) (ss : List ChamberLimits) (p : List ℕ) → FeasiblePlan (parts_of c ss) p → Inside c.units p
part_inside c [] [] f = tt
part_inside c [] (x ∷ p) f = absurd f
part_inside c (s ∷ ss) [] f = absurd f
part_inside c (s ∷ ss) (x ∷ p) f = (λ u. omega (arith, f.0.within u, bit_intersection s.upper c.units u), part_inside c ss p f.1)

pub plan_inside : (cs : List Chamber) (ss : List ChamberLimits) (q : List ℕ) → Throughout (FitsIn cs) ss q → Inside (all cs) q
plan_inside cs [] [] f = tt
plan_inside cs [] (x ∷ q) f = absurd f
plan_inside cs (s ∷ ss) [] f = absurd f
plan_inside cs (s ∷ ss) (x ∷ q) f = (fits_inside cs s x f.0, plan_inside cs ss q f.1)

module _ (c : Chamber) (cs : List Chamber) (apart : Disjoint c.units (all cs)) (start : ℕ) (ss : List ChamberLimits) where
  -- the switches of a plan are those of its parts
  pub in_parts : (q : List ℕ) → Throughout (FitsIn (c ∷ cs)) ss q
      → total_in (all (c ∷ cs)) start q ≡ total_in c.units start (cut c.units q) + total_in (all cs) start (cut (all cs) q)
  unfolding all
  in_parts q f =
      ap (total_in (all (c ∷ cs)) start) (sym (inside_cut (all (c ∷ cs)) q (plan_inside (c ∷ cs) ss q f))) ∙ total_split c.units (all cs) apart start q

  module _ (p q : List ℕ) (f : FeasiblePlan (parts_of c ss) p) (g : Throughout (FitsIn cs) ss q) where
    same_long : length p ≡ length q
    same_long = plan_length (parts_of c ss) p f ∙ length-map ss (part_of c) ∙ sym (any_length (FitsIn cs) ss q g)

    -- parts put together have each part as it was
    pub first_part : cut c.units (joined p q) ≡ p
    first_part = joined_left c.units (all cs) apart p q same_long (part_inside c ss p f) (plan_inside cs ss q g)

    pub rest_part : cut (all cs) (joined p q) ≡ q
    rest_part = joined_right c.units (all cs) apart p q same_long (part_inside c ss p f) (plan_inside cs ss q g)

    -- and make the switches of both
    pub put_together : total_in (all (c ∷ cs)) start (joined p q) ≡ total_in c.units start p + total_in (all cs) start q
    put_together =
        in_parts (joined p q) (both_plans c cs apart ss p q f g)
        ∙ ap₂ (λ k l. total_in c.units start k + total_in (all cs) start l) first_part rest_part

-- ---- plans without a unit

-- such a plan is one of no chambers
none_fit : (ss : List ChamberLimits) → Throughout (FitsIn []) ss (replicate (length ss) 0)
unfolding all
none_fit [] = tt
none_fit (s ∷ ss) = (
  record { includes = λ u. omega (arith, bit_intersection s.lower 0 u, bit_empty u); within = λ u. omega (arith, bit_empty u); counted = tt },
  none_fit ss,
)

-- and makes no switch
none_switched : (b n : ℕ) → total b (replicate n 0) ≡ 0
unfolding total switches
none_switched b zero = refl
none_switched b (suc n) =
    omega (arith, ap size (set_ext (difference 0 b) 0 (λ u. omega (arith, bit_difference 0 b u, bit_empty u))), size_empty, none_switched 0 n)

-- ---- the best plan

-- each step has a feasible set in each chamber
abbrev pub Satisfied : List Chamber → List ChamberLimits → Type 0
Satisfied cs ss = (c : Chamber) → Memᴰ c cs → Satisfiable (parts_of c ss)

-- FindSupport's plan of a chamber has a set for each step
pub support_long : (ties : ℕ → ℕ → ℕ → Bool) (c : Chamber) (start : ℕ) (ss : List ChamberLimits) → length (support_of ties c start ss) ≡ length ss
unfolding find_support_by
support_long ties c start ss = support_from_length ties (length (parts_of c ss)) 1 (intersection start c.units) (parts_of c ss) ∙ length-map ss (part_of c)

-- whatever orders break ties
module _ {ties : ℕ → ℕ → ℕ → Bool} (o : (i : ℕ) → Ordered (ties i)) (start : ℕ) (ss : List ChamberLimits) where
  -- FindSupport's plan of one chamber is feasible and the best
  pub part_best : (c : Chamber) → Satisfiable (parts_of c ss)
      → FeasiblePlan (parts_of c ss) (support_of ties c start ss)
      × ((p : List ℕ) → FeasiblePlan (parts_of c ss) p → total_in c.units start (support_of ties c start ss) ≤ total_in c.units start p)
  part_best c f =
      optimal (intersection start c.units) (parts_of c ss) (support_of ties c start ss) (plan_greedy o (intersection start c.units) (parts_of c ss) f)

-- no feasible plan has a smaller total than the sum over the chambers
pub sum_least : (start : ℕ) (ss : List ChamberLimits) (cs : List Chamber) → Apart cs → Satisfied cs ss → (q : List ℕ) → Throughout (FitsIn cs) ss q
    → sum_of cs start ss ≤ total_in (all cs) start q
unfolding sum_of
sum_least start ss [] a f q g = omega arith
sum_least start ss (c ∷ cs) a f q g =
    omega (
      arith,
      in_parts c cs a.0 start ss q g,
      (part_best (λ i. tie_ordered) start ss c (f c (Memᴰ.head refl))).1 (cut c.units q) (first_plan c cs ss q g),
      sum_least start ss cs a.1 (λ d m. f d (Memᴰ.tail m)) (cut (all cs) q) (rest_plan c cs ss q g),
    )

module _ {ties : ℕ → ℕ → ℕ → Bool} (o : (i : ℕ) → Ordered (ties i)) (start : ℕ) (ss : List ChamberLimits) where
  -- the total in a chamber is the same for all ties
  pub part_total : (c : Chamber) → Satisfiable (parts_of c ss) → total_in c.units start (support_of ties c start ss) ≡ total_of c start ss
  part_total c f =
      let (fits, least) = part_best o start ss c f in
      let (house, fewest) = part_best (λ i. tie_ordered) start ss c f in
      omega (arith, least (plan_of c start ss) house, fewest (support_of ties c start ss) fits)

  -- the plans of all chambers put together are feasible
  pub support_fits : (cs : List Chamber) → Apart cs → Satisfied cs ss → Throughout (FitsIn cs) ss (support_in_by ties cs start ss)
  unfolding support_in_by joined_all
  support_fits [] a f = none_fit ss
  support_fits (c ∷ cs) a f =
      both_plans c cs a.0 ss (support_of ties c start ss) (support_in_by ties cs start ss) (part_best o start ss c (f c (Memᴰ.head refl))).0
      (support_fits cs a.1 (λ d m. f d (Memᴰ.tail m)))

  -- and their total is the sum
  pub support_sum : (cs : List Chamber) → Apart cs → Satisfied cs ss → total_in (all cs) start (support_in_by ties cs start ss) ≡ sum_of cs start ss
  unfolding support_in_by joined_all sum_of
  support_sum [] a f = none_switched (intersection start (all [])) (length ss)
  support_sum (c ∷ cs) a f =
      let here = f c (Memᴰ.head refl) in
      let there : Satisfied cs ss = λ d m. f d (Memᴰ.tail m) in
      put_together c cs a.0 start ss (support_of ties c start ss) (support_in_by ties cs start ss) (part_best o start ss c here).0 (support_fits cs a.1 there)
      ∙ ap₂ ◌+◌ (part_total c here) (support_sum cs a.1 there)

  -- ---- one chamber

  -- the plan of an empty chamber has no unit, and makes no switch
  pub empty_support : (c : Chamber) → c.units ≡ 0 → Satisfiable (parts_of c ss)
      → (support_of ties c start ss ≡ replicate (length ss) 0) × (total_in c.units start (support_of ties c start ss) ≡ 0)
  empty_support c e f =
      let p = support_of ties c start ss in
      let inside = subst (λ (m : ℕ). Inside m p) e (part_inside c ss p (part_best o start ss c f).0) in
      let none = zeros p inside ∙ ap (λ (n : ℕ). replicate n 0) (support_long ties c start ss) in
      (none, ap (total_in c.units start) none ∙ none_switched (intersection start c.units) (length ss))
    where
      zeros : (q : List ℕ) → Inside 0 q → q ≡ replicate (length q) 0
      zeros [] h = refl
      zeros (x ∷ q) h = ap₂ ◌∷◌ (set_ext x 0 (λ u. omega (arith, h.0 u, bit_empty u))) (zeros q h.1)

-- a plan of units below d makes d switches a step at the most
pub total_few : (d start : ℕ) (p : List ℕ) (m : ℕ) → m < 2 ^ d → Inside m p → total start p ≤ length p * d
unfolding total switches
total_few d start [] m l h = omega arith
total_few d start (x ∷ p) m l h =
    omega (
      arith,
      size_below d (difference x start) (subset_below d (difference x start) m (λ u. omega (arith, bit_difference x start u, h.0 u)) l),
      total_few d x p m l h.1,
    )
