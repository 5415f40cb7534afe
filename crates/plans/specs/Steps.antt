-- A step of its four numbers, the step at a place in a list of steps, and the ranking from a step on. (Of a step that
-- is decoded from a sheet, the two last numbers are the sizes of its feasible sets: `sized` in specs/Switch.antt.)
use Rattle.std.specs.Prelude.{ℕ, ◌+◌, Bool, List, length, get_or, drop}
use Rattle.plans.specs.Support.{ranks_before}
use Rattle.plans.specs.declared.Limits.{Limits}

-- the most steps
abbrev pub step_limit : ℕ
step_limit = 256

-- a step of these numbers
abbrev pub limits : ℕ → ℕ → ℕ → ℕ → Limits
limits l u m g = record { lower = l; upper = u; least = m; greatest = g }

-- the step at i
unfoldable pub step_at : List Limits → ℕ → Limits
step_at ss i = get_or ss i (limits 0 0 0 0)

-- the ranking of the steps from the one at `from` on
abbrev pub ranking_at : List Limits → ℕ → ℕ → ℕ → Bool
ranking_at ss from = ranks_before (length ss) (from + 1) (drop from ss)
