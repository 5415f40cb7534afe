-- Laws on the answer of `warm_plan`: what it is by what the reader says, by the output's places and by the bound. The
-- total that is compared with the bound is that of FindSupport's plans, put together, which no feasible plan
-- undercuts, so that it is the fewest.
use mathlib.Core.Path.{◌≡◌, sym, ap, ◌∙◌}
use mathlib.Core.Bool.{Bool}
use mathlib.Core.List.Memᴰ
use mathlib.Core.List.{List, ◌++◌, map}
use Prim.Native.Nat.{ℕ, ◌≤◌, ◌<◌}
use native.Mathlib.Omega.{arith}
use lib.ListN.{length, length-map}
use borrow.Author.Tests.{lt-ltb, le-ltb, ltb-false}
use Rattle.plans.specs.Support.{Ordered, tie_order}
use Rattle.plans.specs.Switch.{total}
use Rattle.chambers.specs.Chambers.{support_of, support_in_by}
use Rattle.chambers.proofs.Bench.{bench_least, bench_fewest}
use Rattle.chambers.proofs.Joining.{all_long}
use Rattle.chambers.proofs.Whole.{support_long}
use Rattle.plans.proofs.Orders.{tie_ordered}
use Rattle.format.specs.declared.Summary.{Summary}
use Rattle.format.specs.Answer.{Answer, Refused, Given, unless}
use Rattle.format.specs.Format.{limits_of, bound_of, start_of, chambers_in}
use Rattle.format.specs.Reading.{steps_of, read_causes}
use Rattle.format.specs.Stages.{summary_of, summary_read}
use Rattle.format.proofs.Answers.{refused_by, passed_by, none_left, unless_append, refused_whatever, passed_first, all_passed, unless_given}
use Rattle.promises.specs.Common.{limits_on, FeasibleOn, places_causes}
use Rattle.promises.specs.Plan.{fewest_on, support_on, bound_causes, plan_refusals, plan_answer}
use Rattle.promises.specs.Statements.{support_by}
use Rattle.promises.proofs.Read.{bench, was_read, short_output, long_output}

-- ---- the plan

pub plan_length_on : (s : List ℕ) → length (support_on s) ≡ length (steps_of s)
unfolding support_on support_in_by
plan_length_on s =
    let n = length (limits_on s) in
    let plans = map (λ c. support_of (λ i. tie_order) c (start_of s) (limits_on s)) (chambers_in s) in
    all_long n plans (λ p m. let (c, k, e) = Memᴰ.of_map _ (chambers_in s) m in ap length (sym e) ∙ support_long _ c (start_of s) (limits_on s))
    ∙ length-map (steps_of s) limits_of

module _ (s : List ℕ) {x : Summary} (e : summary_read s ≡ Given x) where
  -- FindSupport's plan is feasible, has the fewest switches, and no feasible plan has fewer, whatever orders break its
  -- ties
  pub fewest_by : {ties : ℕ → ℕ → ℕ → Bool} → ((i : ℕ) → Ordered (ties i)) → FeasibleOn s (support_by ties s)
      × ((total (start_of s) (support_by ties s) ≡ fewest_on s) × ((q : List ℕ) → FeasibleOn s q → fewest_on s ≤ total (start_of s) q))
  unfolding fewest_on
  fewest_by o =
      let (feasible, (total, fewest)) = bench_fewest (bench s e) (start_of s) o in
      (feasible, (total ∙ sym fewest, λ q f. omega (arith, fewest, bench_least (bench s e) (start_of s) q f)))

  -- so it is with the plan that is handed out
  pub plan_fewest : FeasibleOn s (support_on s)
      × ((total (start_of s) (support_on s) ≡ fewest_on s) × ((q : List ℕ) → FeasibleOn s q → fewest_on s ≤ total (start_of s) q))
  unfolding support_on
  plan_fewest = fewest_by (λ i. tie_ordered)

  pub over_bound : bound_of s < total (start_of s) (support_on s)
      → Refused 9 (total (start_of s) (support_on s)) ≡ unless (bound_causes s) (Given (support_on s))
  over_bound h =
      ap (Refused 9) plan_fewest.1.0 ∙ refused_by _ _ _ (lt-ltb (bound_of s) (fewest_on s) (omega (arith, plan_fewest.1.0)))

  pub in_bound : total (start_of s) (support_on s) ≤ bound_of s → {A : Type 0} (a : Answer A) → a ≡ unless (bound_causes s) a
  in_bound h a = passed_by _ _ _ (le-ltb (bound_of s) (fewest_on s) (omega (arith, plan_fewest.1.0))) (none_left a)

-- ---- the answer, by its stages

module _ (s : List ℕ) (places : ℕ) where
  pub plan_staged : plan_answer s places ≡ unless (read_causes s) (unless (places_causes s places) (unless (bound_causes s) (Given (support_on s))))
  unfolding plan_refusals
  plan_staged =
      unless_append (read_causes s ++ places_causes s places) (bound_causes s) (Given (support_on s))
      ∙ unless_append (read_causes s) (places_causes s places) (unless (bound_causes s) (Given (support_on s)))

  pub plan_refused : {n p : ℕ} → summary_read s ≡ Refused n p → Refused n p ≡ plan_answer s places
  plan_refused e = refused_whatever (read_causes s) (summary_of s) (sym e) _ ∙ sym plan_staged

  module _ {x : Summary} (e : summary_read s ≡ Given x) where
    pub plan_short : places < x.steps → Refused 8 x.steps ≡ plan_answer s places
    plan_short h = short_output s e places h _ ∙ was_read s e _ ∙ sym plan_staged

    pub plan_open : x.steps ≤ places → unless (bound_causes s) (Given (support_on s)) ≡ plan_answer s places
    plan_open h = long_output s e places h _ ∙ was_read s e _ ∙ sym plan_staged

  -- where a plan is the answer, the sheet was read, and the fewest switches are within the bound
  pub plan_given : {plan : List ℕ} → plan_answer s places ≡ Given plan → (summary_read s ≡ Given (summary_of s)) × (fewest_on s ≤ bound_of s)
  plan_given e =
      let past-reader = sym plan_staged ∙ e in
      let past-places = unless_given (places_causes s places) _ (unless_given (read_causes s) _ past-reader) in
      (all_passed (read_causes s) _ past-reader (Given (summary_of s)), ltb-false (bound_of s) (fewest_on s) (passed_first _ _ _ past-places).0)
