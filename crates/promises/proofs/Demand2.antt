-- Demand 2: a plan handed in beside a sheet that passes the checks. The verdict accepts it exactly if it meets the
-- sheet, that is, if it is feasible and within the bound (`Meets` in specs/Statements.antt). Every plan that was
-- handed out is the one that FindSupport gives, and the verdict accepts it (`HandedOut` there).
use mathlib.Core.Path.{◌≡◌, sym, ap, ◌∙◌}
use mathlib.Core.List.{List}
use Prim.Native.Nat.{ℕ}
use native.Mathlib.Omega.{arith}
use lib.ListN.{length, take, drop}
use lib.Seq.{take_at}
use Rattle.plans.specs.Switch.{total}
use Rattle.format.specs.Answer.{Given}
use Rattle.format.specs.Format.{start_of}
use Rattle.format.specs.Reading.{steps_of, campaign_of}
use Rattle.format.proofs.Answers.{none_holds}
use Rattle.promises.specs.Common.{full_reply}
use Rattle.promises.specs.Plan.{support_on, plan_refusals, warm_plan}
use Rattle.promises.specs.declared.Reply.{Reply}
use Rattle.promises.specs.Statements.{Passes, Meets, HandedOut}
use Rattle.promises.specs.Verdict.{accepts, judged, warm_verdict}
use Rattle.promises.proofs.Demand1.{not_zero_lem, demand_1_plan}
use Rattle.promises.proofs.Exactly.{no_first}
use Rattle.promises.proofs.Plans.{plan_fewest, plan_length_on, plan_given}
use Rattle.promises.proofs.Read.{passed}
use Rattle.promises.proofs.Verdicts.{verdict_given, accepts_exactly, turned_down}

-- With one set for each step it is accepted if it meets the sheet, and turned down if not. Its total is given either
-- way.
pub demand_2_verdict : (s plan : List ℕ) → Passes s → length plan ≡ length (steps_of s)
    → (warm_verdict s plan ≡ full_reply (total (start_of s) plan) (accepts s plan)) × ((Meets s plan → accepts s plan ≡ 1) × ((Meets s plan → ⊥) → accepts s plan ≡ 0))
unfolding warm_verdict judged campaign_of
demand_2_verdict s plan ok long =
    (sym (ap judged (verdict_given s plan (passed s ok) long)), ((accepts_exactly s plan).1, turned_down s plan))

-- A plan that was handed out, with a reply whose refusal is 0, is the one that FindSupport gives, and the verdict
-- accepts it.
pub demand_2_plan : (s out : List ℕ) → (warm_plan s out).0.refusal ≡ 0 → HandedOut s (warm_plan s out).0 (warm_plan s out).1
unfolding warm_verdict judged campaign_of
demand_2_plan s out handed =
    let exactly = demand_1_plan s out in
    let none = no_first exactly (λ (r : Reply × List ℕ). r.0.refusal) (λ n p number e. not_zero_lem n number e) handed in
    let reply = exactly.replies none in
    let (e, bound) = plan_given s (length out) (none_holds (plan_refusals s (length out)) (Given (support_on s)) none) in
    let best = plan_fewest s e in
    let words : take (length (steps_of s)) (warm_plan s out).1 ≡ support_on s =
    ap (λ (r : Reply × List ℕ). take (length (steps_of s)) r.1) reply ∙ take_at (support_on s) (drop (length (support_on s)) out) (length (steps_of s)) (plan_length_on s) in
    record {
      support = words;
      accepted =
          ap (warm_verdict s) words
          ∙ sym (ap judged (verdict_given s (support_on s) e (plan_length_on s)))
          ∙ ap (full_reply (total (start_of s) (support_on s))) ((accepts_exactly s (support_on s)).1 (best.0, omega (arith, best.1.0)))
          ∙ sym (ap (λ (r : Reply × List ℕ). full_reply r.0.total 1) reply);
    }
