-- A bench with chambers. Its units are dealt out to the chambers in order, and a step asks of each chamber for a
-- number of its units. A reader should look at `Fits`, which says what a feasible set of a step is, at `sizes_in`, the
-- test of a step, and at `support_in`, the plan that is handed out. What is said of all plans is said by the
-- definitions of `plans` for steps of any kind (`fewest`, `can_be_on`, `can_be_off`), with the test `fits`.
use Rattle.std.specs.Prelude.{ℕ, ◌+◌, ◌-◌, ◌^◌, ◌≤◌, Bool, true, cond, ◌&&◌, Option, Some, None, is_some, List, [], ◌∷◌, map, leb, length, get_or}
use Rattle.units.specs.Limits.{between}
use Rattle.units.specs.Sets.{intersection, difference, Subset, is_subset, size}
use Rattle.units.specs.declared.Sizes.{Sizes}
use Rattle.plans.specs.declared.Limits.{Limits}
use Rattle.plans.specs.Plans.{joined_all}
use Rattle.plans.specs.Steps.{limits}
use Rattle.plans.specs.Support.{tie_order, find_support_by}
use Rattle.plans.specs.Switch.{sizes_of}

-- ---- chambers

-- a chamber: its number, from 0 on, and the set of its units
pub record Chamber : Type 0 where
  pub number : ℕ
  pub units : ℕ

abbrev pub chamber : ℕ → ℕ → Chamber
chamber number units = record { number = number; units = units }

-- the k units from `first` on
abbrev pub units_from : ℕ → ℕ → ℕ
units_from first k = difference (2 ^ (first + k) - 1) (2 ^ first - 1)

-- units from `first` on, dealt out in order, so many at a time
unfoldable pub dealt : ℕ → List ℕ → List ℕ
dealt first [] = []
dealt first (k ∷ ks) = units_from first k ∷ dealt (first + k) ks

-- chambers of these units, numbered from `number` on
unfoldable pub numbered : ℕ → List ℕ → List Chamber
numbered number [] = []
numbered number (us ∷ rest) = chamber number us ∷ numbered (number + 1) rest

-- the chambers of a bench, by their numbers of units
abbrev pub chambers_of : List ℕ → List Chamber
chambers_of sizes = numbered 0 (dealt 0 sizes)

-- how many units they have together
unfoldable pub sum : List ℕ → ℕ
sum [] = 0
sum (k ∷ ks) = k + sum ks

-- ---- steps

-- what a step asks: the units that must be on, those that may be on, and the least and the greatest numbers on,
-- chamber by chamber
pub record ChamberLimits : Type 0 where
  pub lower : ℕ
  pub upper : ℕ
  pub least : List ℕ
  pub greatest : List ℕ

-- the least and the greatest number of a chamber's units that are on
abbrev pub least_in : Chamber → ChamberLimits → ℕ
least_in c s = get_or s.least c.number 0

abbrev pub greatest_in : Chamber → ChamberLimits → ℕ
greatest_in c s = get_or s.greatest c.number 0

-- how many units of a chamber a set has
abbrev pub size_in : Chamber → ℕ → ℕ
size_in c x = size (intersection x c.units)

-- the set x has in each chamber a number of units from that chamber's least to its greatest number
abbrev pub Counted : List Chamber → ChamberLimits → ℕ → Type 0
Counted [] s x = Unit {0}
Counted (c ∷ cs) s x = (least_in c s ≤ size_in c x) × ((size_in c x ≤ greatest_in c s) × Counted cs s x)

-- x is a feasible set of the step (fit, in docs/FORMAT.md): it includes the lower set, lies within the upper set, and
-- is so counted in each chamber
pub record Fits (cs : List Chamber) (s : ChamberLimits) (x : ℕ) : Type 0 where
  pub includes : Subset s.lower x
  pub within : Subset x s.upper
  pub counted : Counted cs s x

-- the tests of these
abbrev pub count_fits : Chamber → ChamberLimits → ℕ → Bool
count_fits c s x = leb (least_in c s) (size_in c x) && leb (size_in c x) (greatest_in c s)

unfoldable pub counts : List Chamber → ChamberLimits → ℕ → Bool
counts [] s x = true
counts (c ∷ cs) s x = count_fits c s x && counts cs s x

unfoldable pub fits : List Chamber → ChamberLimits → ℕ → Bool
fits cs s x = is_subset s.lower x && is_subset x s.upper && counts cs s x

-- what a step asks of one chamber: a step of that chamber alone
abbrev pub part_of : Chamber → ChamberLimits → Limits
part_of c s = limits (intersection s.lower c.units) (intersection s.upper c.units) (least_in c s) (greatest_in c s)

-- what some steps ask of one chamber
abbrev pub parts_of : Chamber → List ChamberLimits → List Limits
parts_of c ss = map (part_of c) ss

-- ---- the test of a step

-- the sizes of two parts together: the sums of both, or none where a part has none
abbrev pub plus : Option Sizes → Option Sizes → Option Sizes
plus None w = None
plus (Some z) None = None
plus (Some z) (Some w) = between (z.few + w.few) (z.many + w.many)

-- sums over chambers
unfoldable pub part_sizes : List Chamber → ChamberLimits → Option Sizes
part_sizes [] s = between 0 0
part_sizes (c ∷ cs) s = plus (sizes_of (part_of c s)) (part_sizes cs s)

-- the least and the greatest size of a feasible set of the step, which are the sums over its chambers, or that there
-- is none: then the lower set is not within the upper one, or some chamber has none
unfoldable pub sizes_in : List Chamber → ChamberLimits → Option Sizes
sizes_in cs s = cond (is_subset s.lower s.upper) (part_sizes cs s) None

-- the test that some set is feasible
unfoldable pub some_fits : List Chamber → ChamberLimits → Bool
some_fits cs s = is_some (sizes_in cs s)

-- what a chamber's numbers need for a feasible set: the least is at most the greatest, the lower set has at most the
-- greatest number of the chamber's units, and the upper set at least the least
abbrev pub HasRoom : Chamber → ChamberLimits → Type 0
HasRoom c s = (least_in c s ≤ greatest_in c s) × ((size_in c s.lower ≤ greatest_in c s) × (least_in c s ≤ size_in c s.upper))

-- ---- the plan

-- FindSupport on one chamber, with an order for the ties of each step
abbrev pub support_of : (ℕ → ℕ → ℕ → Bool) → Chamber → ℕ → List ChamberLimits → List ℕ
support_of ties c start ss = find_support_by ties (intersection start c.units) (parts_of c ss)

-- FindSupport on each chamber, put together
unfoldable pub support_in_by : (ℕ → ℕ → ℕ → Bool) → List Chamber → ℕ → List ChamberLimits → List ℕ
support_in_by ties cs start ss = joined_all (length ss) (map (λ c. support_of ties c start ss) cs)

-- with the house rule at every step: the plan that is handed out
abbrev pub support_in : List Chamber → ℕ → List ChamberLimits → List ℕ
support_in cs start ss = support_in_by (λ i. tie_order) cs start ss
