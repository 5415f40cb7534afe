-- How a table lies in memory, and what else the functions take of a plan.
use Rattle.std.specs.Prelude.{List, ℕ, get_or}
use Rattle.plans.specs.Steps.{step_at}
use Rattle.plans.specs.declared.Limits.{Limits}
use Rattle.tables.specs.Tables.{set_at, held_at}
use Rattle.tables.specs.declared.PlanStep.{PlanStep}

-- the rows of a table
abbrev pub rows_of : List ℕ → ℕ → ℕ
rows_of table b = get_or table b 0

-- the step at i, with the plan's sets before and after it and the units held before
abbrev pub plan_step_at : ℕ → List Limits → List ℕ → ℕ → PlanStep
plan_step_at start ss plan i = record { limits = step_at ss i; before = set_at start plan i; after = get_or plan i 0; held = held_at ss plan i }
