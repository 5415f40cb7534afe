-- Worked campaigns of two units or four, computed from the definitions: the plan that is handed out against all plans,
-- its ties, and a chart. A definition of another planner, as one that fills early, ranks by what is past or by need
-- alone, makes a row false.
use mathlib.Core.Path.{◌≡◌, refl}
use mathlib.Core.Bool.{cond}
use mathlib.Core.List.{List, [], ◌∷◌, map}
use Prim.Native.Nat.{ℕ}
use lib.Count.{ones, ones_in}
use lib.Dec.{ltb, eqb}
use Rattle.units.specs.Sets.{bit, union, intersection, difference, contains, insert, remove, is_subset, size, units_below}
use Rattle.plans.specs.declared.Limits.{Limits}
use Rattle.plans.specs.Plans.{select, below, allows, prefixed, plans_of, least_of, fewest, plans_within, joined, joined_all, can_be_on, can_be_off}
use Rattle.plans.specs.Steps.{limits}
use Rattle.plans.specs.Support.{next_required, next_forbidden, required_first, ranks_by, first_in, taken, support_set, support_from, find_support_by, find_support}
use Rattle.plans.specs.Switch.{switches, total, later_total}

-- FindSupport's plan has the fewest switches
abbrev Best : ℕ → List Limits → Type 0
Best start ss = total start (find_support start ss) ≡ fewest allows 2 start ss

-- a step in which one unit may be on, or none, and one that asks for a lower set and allows an upper set
abbrev narrow : Limits
narrow = limits 0 3 0 1

abbrev asks : ℕ → ℕ → Limits
asks lower upper = limits lower upper 0 2

-- No unit joins that need not. Of two units the one that is needed next stays. One that is banned before its need
-- leaves, though it is needed earlier.
pub plans_best :
    Best 0 (asks 1 3 ∷ [])
    × (Best 3 (narrow ∷ asks 1 3 ∷ [])
    × Best 3 (narrow ∷ asks 0 1 ∷ asks 2 3 ∷ asks 1 3 ∷ []))
unfolding bit union intersection difference contains insert remove is_subset size units_below select below allows prefixed plans_of least_of fewest next_required next_forbidden required_first ranks_by first_in taken support_set support_from find_support_by switches total ones ones_in
plans_best = (refl, (refl, refl))

-- a step in which just one of two units must be on, 0 or 1, and one in which it is 2 or 3
abbrev low : Limits
low = limits 0 3 1 1

abbrev high : Limits
high = limits 0 12 1 1

-- Which of two tied units joins: by the house rule the higher number; else the one that the order of the step has
-- first, in step 1 the lower and then the higher.
pub ties_broken :
    (find_support 0 (low ∷ high ∷ []) ≡ 2 ∷ 8 ∷ [])
    × (find_support_by (λ i u v. cond (eqb i 1) (ltb u v) (ltb v u)) 0 (low ∷ high ∷ []) ≡ 1 ∷ 8 ∷ [])
unfolding bit union intersection difference contains insert remove size units_below next_required next_forbidden required_first ranks_by first_in taken support_set support_from find_support_by ones ones_in
ties_broken = (refl, refl)

-- with both units on before the first step, the total of FindSupport's plan is the least, over all plans, of the
-- switches from the second step on
abbrev BestLater : List Limits → Type 0
BestLater ss = total 3 (find_support 3 ss) ≡ least_of (map later_total (plans_of allows 2 ss))

-- One, where unit 0 must be on alone in the first step and unit 1 in the second. None without a step.
pub later_best : BestLater (limits 1 3 0 1 ∷ asks 2 3 ∷ []) × BestLater []
unfolding bit union intersection difference contains insert remove is_subset size units_below select below allows prefixed plans_of least_of next_required next_forbidden required_first ranks_by first_in taken support_set support_from find_support_by switches total later_total ones ones_in
later_best = (refl, refl)

-- Where just one of two units must be on, either can be on, and either can be off, and no unit beyond them.
pub either_can : (can_be_on allows 2 1 0 (limits 0 3 1 1 ∷ []) ≡ 3 ∷ []) × (can_be_off allows 2 1 0 (limits 0 3 1 1 ∷ []) ≡ 3 ∷ [])
unfolding bit union intersection difference contains is_subset size select below allows prefixed plans_of plans_within joined joined_all can_be_on can_be_off switches total ones ones_in
either_can = (refl, refl)
