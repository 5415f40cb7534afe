-- A worked bench of three chambers, computed from the definitions: units 0 and 1 are in the first, none in the second,
-- and units 2 and 3 in the third. Its plan against all plans, its chart, and the sizes of steps. A definition that
-- counts an empty chamber out, or that plans all units as one chamber, makes a row false. And one of four chambers:
-- with the numbers of two of them exchanged, its row is false.
use mathlib.Core.Path.{◌≡◌, refl}
use mathlib.Core.Bool.{true, false}
use mathlib.Core.List.{List, [], ◌∷◌, map}
use Prim.Native.Nat.{ℕ}
use lib.Count.{ones, ones_in}
use Rattle.units.specs.Limits.{feasible_sizes}
use Rattle.units.specs.Sets.{bit, union, intersection, difference, contains, insert, remove, is_subset, size, units_below}
use Rattle.std.specs.Prelude.{None}
use Rattle.units.specs.Limits.{between}
use Rattle.plans.specs.Plans.{allows, select, below, prefixed, plans_of, least_of, fewest, plans_within, joined, joined_all, can_be_on, can_be_off, can_be}
use Rattle.plans.specs.Support.{next_required, next_forbidden, required_first, ranks_by, first_in, taken, support_set, support_from, find_support_by}
use Rattle.plans.specs.Switch.{switches, total}
use Rattle.chambers.specs.Chambers.{Chamber, ChamberLimits, dealt, numbered, chambers_of, counts, fits, part_sizes, sizes_in, support_in_by, support_in}
use Rattle.chambers.specs.Parts.{chart_of}

-- the chambers
abbrev bench : List Chamber
bench = chambers_of (2 ∷ 0 ∷ 2 ∷ [])

-- a step with a lower and an upper set, and with these numbers in the first chamber and in the third
abbrev asks : ℕ → ℕ → ℕ → ℕ → ℕ → ℕ → ChamberLimits
asks lower upper least greatest leastThird greatestThird =
    record { lower = lower; upper = upper; least = least ∷ 0 ∷ leastThird ∷ []; greatest = greatest ∷ 0 ∷ greatestThird ∷ [] }

-- one unit of each chamber, any of them; one of each, in the first chamber unit 0; and both of the first chamber with
-- one of the third
abbrev either : ChamberLimits
either = asks 0 15 1 1 1 1

abbrev zeroth : ChamberLimits
zeroth = asks 1 15 1 1 1 1

abbrev both : ChamberLimits
both = asks 3 15 2 2 1 1

-- the plan that is handed out has the fewest switches
abbrev Best : ℕ → List ChamberLimits → Type 0
Best start ss = total start (support_in bench start ss) ≡ fewest (fits bench) 4 start ss

-- Unit 0 is on from the first step, since it is needed next, and of the third chamber the unit with the higher number.
-- Where both units of the first chamber are needed next, one of them is on at first and one of the third chamber,
-- since each chamber is planned alone.
pub bench_plans :
    ((support_in bench 0 (either ∷ zeroth ∷ []) ≡ 9 ∷ 9 ∷ []) × Best 0 (either ∷ zeroth ∷ []))
    × ((support_in bench 0 (either ∷ both ∷ []) ≡ 10 ∷ 11 ∷ []) × Best 0 (either ∷ both ∷ []))
unfolding bit union intersection difference contains insert remove is_subset size units_below select below prefixed plans_of least_of fewest joined joined_all next_required next_forbidden required_first ranks_by first_in taken support_set support_from find_support_by switches total ones ones_in dealt numbered counts fits support_in_by
bench_plans = ((refl, refl), (refl, refl))

-- With no switch to spare unit 1 cannot be on. With one it can, in the first step: the first chamber then uses up what
-- there is to spare.
pub bench_chart :
    (can_be_on (fits bench) 4 2 0 (either ∷ zeroth ∷ []) ≡ 13 ∷ 13 ∷ [])
    × ((can_be_on (fits bench) 4 3 0 (either ∷ zeroth ∷ []) ≡ 15 ∷ 13 ∷ [])
    × ((can_be_off (fits bench) 4 2 0 (either ∷ zeroth ∷ []) ≡ 14 ∷ 14 ∷ [])
    × (can_be_off (fits bench) 4 3 0 (either ∷ zeroth ∷ []) ≡ 15 ∷ 14 ∷ [])))
unfolding bit union intersection difference contains is_subset size select below prefixed plans_of plans_within joined joined_all can_be_on can_be_off switches total ones ones_in dealt numbered counts fits
bench_chart = (refl, (refl, (refl, refl)))

-- It is that of each chamber, put together. Where unit 0 is needed before and after a step, unit 1 can be on in it
-- with two switches to spare and not with one. And that the plans of another chamber never have unit 0 does not let it
-- be off.
abbrev off_between : List ChamberLimits
off_between = zeroth ∷ either ∷ zeroth ∷ []

pub bench_joined :
    (can_be (fits bench) true 4 3 0 off_between ≡ 13 ∷ 13 ∷ 13 ∷ [])
    × ((joined_all 3 (map (chart_of true 4 1 0 off_between) bench) ≡ 13 ∷ 13 ∷ 13 ∷ [])
    × ((can_be (fits bench) false 4 3 0 off_between ≡ 14 ∷ 14 ∷ 14 ∷ [])
    × (joined_all 3 (map (chart_of false 4 1 0 off_between) bench) ≡ 14 ∷ 14 ∷ 14 ∷ [])))
unfolding bit union intersection difference contains insert remove is_subset size units_below allows select below prefixed plans_of plans_within joined joined_all can_be_on can_be_off next_required next_forbidden required_first ranks_by first_in taken support_set support_from find_support_by switches total ones ones_in dealt numbered counts fits
bench_joined = (refl, (refl, (refl, refl)))

-- The sizes of a step are sums over the chambers: from none to one unit in the first, and one or two in the third.
-- There is none if one chamber has none, though there are units enough in the other; or if a unit that must be on may
-- not be, though no chamber has it.
pub bench_sizes :
    (sizes_in bench (asks 4 15 0 1 0 2) ≡ between 1 3)
    × ((sizes_in bench (asks 0 13 2 2 0 2) ≡ None)
    × (sizes_in bench (asks 16 15 0 2 0 2) ≡ None))
unfolding bit intersection difference is_subset size ones ones_in dealt numbered feasible_sizes part_sizes sizes_in
bench_sizes = (refl, (refl, refl))

-- One unit in each of four chambers, of which that of the second must be on and that of the fourth may not be: each
-- chamber has numbers of its own.
abbrev each : List Chamber
each = chambers_of (1 ∷ 1 ∷ 1 ∷ 1 ∷ [])

abbrev second : ChamberLimits
second = record { lower = 0; upper = 15; least = 0 ∷ 1 ∷ 0 ∷ 0 ∷ []; greatest = 1 ∷ 1 ∷ 1 ∷ 0 ∷ [] }

pub bench_of_four : (support_in each 0 (second ∷ []) ≡ 2 ∷ []) × (sizes_in each second ≡ between 1 3)
unfolding bit union intersection difference contains insert remove is_subset size units_below joined joined_all next_required next_forbidden required_first ranks_by first_in taken support_set support_from find_support_by ones ones_in dealt numbered support_in_by feasible_sizes part_sizes sizes_in
bench_of_four = (refl, refl)
