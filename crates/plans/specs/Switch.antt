-- The SWITCH constraint on steps in a fixed order: which plans are feasible, and how many switches a plan makes.
use Rattle.std.specs.Prelude.{ℕ, ◌+◌, ◌≡◌, true, Option, Some, None, List, [], ◌∷◌}
use Rattle.plans.specs.declared.Limits.{Limits}
use Rattle.units.specs.Limits.{Feasible, feasible_sizes, has_feasible}
use Rattle.units.specs.declared.Sizes.{Sizes}
use Rattle.units.specs.Sets.{difference, size}

-- x is a feasible set of the step (fit, in docs/FORMAT.md)
abbrev pub Allows : Limits → ℕ → Type 0
Allows s x = Feasible s.lower s.upper s.least s.greatest x

-- the least and the greatest size of a feasible set of the step, or that there is none
abbrev pub sizes_of : Limits → Option Sizes
sizes_of s = feasible_sizes s.lower s.upper s.least s.greatest

-- the step with these two sizes in the place of its two numbers, or as it is where there is none
abbrev pub sized_by : Limits → Option Sizes → Limits
sized_by s (Some z) = record { lower = s.lower; upper = s.upper; least = z.few; greatest = z.many }
sized_by s None = s

unfoldable pub sized : Limits → Limits
sized s = sized_by s (sizes_of s)

-- a plan has one set for each step, and each is one that the step allows, whatever a step is and what it allows
abbrev pub Throughout : {S : Type 0} → (S → ℕ → Type 0) → List S → List ℕ → Type 0
Throughout A [] [] = Unit {0}
Throughout A [] (x ∷ xs) = ⊥
Throughout A (s ∷ ss) [] = ⊥
Throughout A (s ∷ ss) (x ∷ xs) = A s x × Throughout A ss xs

-- each set of the plan is feasible in its step (a fit plan, in docs/FORMAT.md)
abbrev pub FeasiblePlan : List Limits → List ℕ → Type 0
FeasiblePlan ss p = Throughout Allows ss p

-- each step has a feasible set
abbrev pub Satisfiable : List Limits → Type 0
Satisfiable [] = Unit {0}
Satisfiable (s ∷ ss) = (has_feasible s.lower s.upper s.least s.greatest ≡ true) × Satisfiable ss

-- the switches of a step (warm-ups): the units on in x and off before
unfoldable pub switches : ℕ → ℕ → ℕ
switches before x = size (difference x before)

-- those of all steps of a plan, counted from the set before the first
unfoldable pub total : ℕ → List ℕ → ℕ
total before [] = 0
total before (x ∷ xs) = switches before x + total x xs

-- those counted from the second step on, so that the loading of the first is left out; 0 if there is no step
unfoldable pub later_total : List ℕ → ℕ
later_total [] = 0
later_total (x ∷ xs) = total x xs
