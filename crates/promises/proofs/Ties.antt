-- Request Five: ties. What demand 3 says holds whatever strict order breaks them, even another one at each step,
-- for any sheet that passes the checks, with outputs that have a place for every step. The plan that is handed out
-- is that of the house rule (`tie_order` in specs/Support.antt of `plans`), and `Demand3` is that case.
use mathlib.Core.Path.{sym, ap, subst, ◌∙◌}
use mathlib.Core.Bool.{Bool, true, false}
use mathlib.Core.List.{List}
use Prim.Native.Nat.{ℕ, ◌≤◌, min}
use native.Mathlib.Omega.{arith}
use lib.ListN.{length}
use Rattle.plans.specs.Support.{Ordered}
use Rattle.plans.specs.Switch.{total}
use Rattle.format.specs.Answer.{Given}
use Rattle.format.specs.Format.{start_of}
use Rattle.format.specs.Reading.{steps_of, campaign_of}
use Rattle.promises.specs.Chart.{on_words, off_words, charted, warm_chart}
use Rattle.promises.specs.Common.{FeasibleOn}
use Rattle.promises.specs.Plan.{support_on, planned, warm_plan}
use Rattle.promises.specs.Statements.{Passes, support_by, FewestAndExact}
use Rattle.promises.proofs.Charts.{words_length, words_cells, no_others_lem}
use Rattle.promises.proofs.Plans.{fewest_by, plan_fewest, over_bound, in_bound, plan_open}
use Rattle.promises.proofs.Read.{passed}

-- Whatever strict order breaks the ties of each step, FindSupport's plan is feasible, and its total is the fewest, the
-- number that plan and chart report.
pub demand_3_any_ties : (ties : ℕ → ℕ → ℕ → Bool) → ((i : ℕ) → Ordered (ties i)) → (s plan on off : List ℕ) → Passes s
    → length (steps_of s) ≤ length plan → length (steps_of s) ≤ length on → length (steps_of s) ≤ length off
    → FeasibleOn s (support_by ties s) × FewestAndExact s plan on off (total (start_of s) (support_by ties s))
unfolding warm_plan planned warm_chart charted campaign_of on_words off_words
demand_3_any_ties ties o s plan on off ok plan-room on_room off-room =
    let e = passed s ok in
    let any = fewest_by s e o in
    let best = plan_fewest s e in
    let drawn = charted (start_of s) (on_words s) (off_words s) on off in
    let handed : FewestAndExact s plan on off (total (start_of s) (support_on s)) = record {
      feasible = best.0;
      fewest = λ q f. omega (arith, best.1.0, best.1.1 q f);
      plan_over = λ h. ap (planned (start_of s) plan) (sym (over_bound s e h ∙ plan_open s (length plan) e plan-room));
      chart_over = λ h. ap drawn (sym (over_bound s e h ∙ plan_open s (min (length on) (length off)) e (omega arith)));
      plan_within = λ h. ap (planned (start_of s) plan) (sym (in_bound s e h (Given (support_on s)) ∙ plan_open s (length plan) e plan-room));
      chart_within = λ h. ap drawn (sym (in_bound s e h (Given (support_on s)) ∙ plan_open s (min (length on) (length off)) e (omega arith)));
      on_length = words_length s true;
      off_length = words_length s false;
      on_cells = λ i u l. words_cells s e i u l true;
      off_cells = λ i u l. words_cells s e i u l false;
      no_others = λ i u l k. (no_others_lem s e i u l true k, no_others_lem s e i u l false k);
    } in
    (any.0, subst (FewestAndExact s plan on off) (best.1.0 ∙ sym any.1.0) handed)
