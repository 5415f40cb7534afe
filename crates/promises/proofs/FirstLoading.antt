-- Request Four: the count that leaves out the loading of the first step, as some papers do. With all units in the
-- start set, plan and chart report the least number of switches from the second step on, over all feasible plans
-- (`FewestLater` in specs/Statements.antt).
use mathlib.Core.Path.{◌≡◌, sym, subst}
use mathlib.Core.List.{List, [], map}
use Prim.Native.Nat.{ℕ, ◌-◌, ◌^◌, ◌≤◌}
use native.Mathlib.Omega.{arith}
use lib.ListN.{length}
use Rattle.plans.specs.Switch.{Throughout, total, later_total}
use Rattle.chambers.specs.Chambers.{Fits}
use Rattle.format.specs.Agreement.{AgreeButStart}
use Rattle.format.specs.Format.{start_at, limits_of, units_of, start_of, chambers_in}
use Rattle.format.specs.Reading.{steps_of}
use Rattle.format.proofs.Agreements.{agree_itself}
use Rattle.promises.specs.Common.{FeasibleOn}
use Rattle.promises.specs.Plan.{support_on}
use Rattle.promises.specs.Statements.{Passes, FewestLater}
use Rattle.promises.proofs.Demand3.{demand_3}
use Rattle.promises.proofs.Restarts.{restarted, total_restarted}

-- Take any sheet s that passes the checks, and t, which is s with its start set replaced by all d units: it has the
-- same length and the same bytes but for those of the start set (and it may differ in tags and unused records, which
-- play no part). With outputs that have a place for every step, plan and chart of t report the least, over all
-- feasible plans of s, of the switches counted from the second step on, as their total or as the place of refusal 9.
pub first_loading_left_out : (s t plan on off : List ℕ) → Passes s → AgreeButStart s t → start_of t ≡ 2 ^ units_of s - 1
    → length (steps_of s) ≤ length plan → length (steps_of s) ≤ length on → length (steps_of s) ≤ length off
    → FewestLater s t plan on off (total (start_of t) (support_on t))
unfolding later_total
first_loading_left_out s t plan on off ok g all plan-room on_room off-room =
    let r = restarted s t ok g all in
    let later = total_restarted s t ok g all in
    let best = demand_3 t plan on off r.passes (omega (arith, r.many)) (omega (arith, r.many)) (omega (arith, r.many)) in
    let feasible = (r.feasible (support_on t)).0 best.feasible in
    let fewest : (q : List ℕ) → FeasibleOn s q → total (start_of t) (support_on t) ≤ later_total q =
    λ q f. omega (arith, best.fewest q ((r.feasible q).1 f), later q f) in
    record {
      some = (support_on t, (feasible, sym (later (support_on t) feasible)));
      fewest = fewest;
      no_step = λ none. omega (arith, fewest [] (subst (λ xs. Throughout (Fits (chambers_in s)) (map limits_of xs) []) (sym none) tt));
      plan_over = λ h i. (best.plan_over (omega (arith, r.bound)) i).0;
      chart_over = λ h i. (best.chart_over (omega (arith, r.bound)) i).0;
      plan_within = λ h i. (best.plan_within (omega (arith, r.bound)) i).0;
      chart_within = λ h i. (best.chart_within (omega (arith, r.bound)) i).0;
    }

-- with t = s: so it is with a sheet whose start set holds all d units already
pub all_units_on_at_the_start : (s plan on off : List ℕ) → Passes s → start_of s ≡ 2 ^ units_of s - 1
    → length (steps_of s) ≤ length plan → length (steps_of s) ≤ length on → length (steps_of s) ≤ length off
    → FewestLater s s plan on off (total (start_of s) (support_on s))
all_units_on_at_the_start s plan on off ok = first_loading_left_out s s plan on off ok (agree_itself start_at s)
