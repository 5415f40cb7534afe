-- Demand 3: any sheet that passes the checks, with outputs that have a place for every step. No feasible plan has
-- fewer switches than the one that is handed out, plan and chart give refusal 9 exactly if that number is above the
-- bound, and every cell of the chart is exact. `FewestAndExact` in specs/Statements.antt says it clause by clause:
-- read that. `Ties` has what it is a case of: the same for any strict order that breaks ties.
use mathlib.Core.List.{List}
use Prim.Native.Nat.{ℕ, ◌≤◌}
use lib.ListN.{length}
use Rattle.plans.specs.Support.{tie_order}
use Rattle.plans.specs.Switch.{total}
use Rattle.plans.proofs.Orders.{tie_ordered}
use Rattle.format.specs.Format.{start_of}
use Rattle.format.specs.Reading.{steps_of}
use Rattle.promises.specs.Plan.{support_on}
use Rattle.promises.specs.Statements.{Passes, FewestAndExact}
use Rattle.promises.proofs.Ties.{demand_3_any_ties}

-- the plan that is handed out has the house rule at every step
pub demand_3 : (s plan on off : List ℕ) → Passes s
    → length (steps_of s) ≤ length plan → length (steps_of s) ≤ length on → length (steps_of s) ≤ length off
    → FewestAndExact s plan on off (total (start_of s) (support_on s))
unfolding support_on
demand_3 s plan on off ok plan-room on_room off-room = (demand_3_any_ties (λ i. tie_order) (λ i. tie_ordered) s plan on off ok plan-room on_room off-room).1
