-- The groups into which two sets, those of a step or of some steps taken as one, part the units of `rest`: those
-- required, those forbidden and those undecided. In the ranking they go in the order required, undecided, forbidden;
-- towards its last units it is the other way round. A unit of the lower set that the upper set lacks counts as
-- forbidden: of steps taken as one, some step forbids it before one requires it.
use Rattle.std.specs.Prelude.{ℕ, ◌-◌, Bool, cond, ◌&&◌, leb}
use Rattle.units.specs.Sets.{intersection, difference, size}

-- the units that may be on and need not be
abbrev pub undecided : ℕ → ℕ → ℕ → ℕ
undecided lower upper rest = difference (intersection rest upper) lower

-- those that must be on
abbrev pub required : ℕ → ℕ → ℕ → ℕ
required lower upper rest = intersection (intersection rest upper) lower

-- those that may not be on
abbrev pub forbidden : ℕ → ℕ → ℕ
forbidden upper rest = difference rest upper

-- the forbidden ones, or the required ones
abbrev pub group : Bool → ℕ → ℕ → ℕ → ℕ
group forbids lower upper rest = cond forbids (forbidden upper rest) (required lower upper rest)

-- the test that the first `left` units, or the last, are the whole group that goes first and, beyond it, only
-- undecided units
abbrev pub can_pass : Bool → ℕ → ℕ → ℕ → ℕ → Bool
can_pass last lower upper rest left = leb (size (group last lower upper rest)) left && leb (left - size (group last lower upper rest)) (size (undecided lower upper rest))
