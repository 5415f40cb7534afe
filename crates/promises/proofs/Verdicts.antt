-- Laws on the answer of `warm_verdict`, by its stages, and that it accepts a plan exactly if that meets the sheet.
use mathlib.Core.Path.{◌≡◌, refl, sym, ap, ◌∙◌}
use mathlib.Core.Logic.{◌↔◌}
use mathlib.Core.Bool.{Bool, true, false, cond, not, ◌&&◌, and-eq-true_iff}
use mathlib.Core.List.{List}
use Prim.Native.Nat.{ℕ, zero, suc, ◌≤◌}
use native.Mathlib.Omega.{arith}
use lib.Dec.{leb}
use lib.ListN.{length}
use borrow.Author.Tests.{eq-eqb, ne_eqb, leb-true, le-leb}
use Rattle.format.specs.declared.Summary.{Summary}
use Rattle.format.specs.Answer.{Refused, Given, unless}
use Rattle.format.specs.Format.{bound_of, start_of, chambers_in}
use Rattle.format.specs.Reading.{steps_of, read_causes}
use Rattle.format.specs.Stages.{summary_of, summary_read}
use Rattle.format.proofs.Answers.{refused_by, passed_by, none_left, unless_append, refused_whatever}
use Rattle.plans.specs.Plans.{is_feasible}
use Rattle.plans.specs.Switch.{total}
use Rattle.plans.proofs.AllPlans.{feasible_exactly}
use Rattle.chambers.specs.Chambers.{Fits}
use Rattle.chambers.proofs.Bench.{fits_exactly}
use Rattle.promises.specs.Common.{limits_on, fits_on, full_reply}
use Rattle.promises.specs.Verdict.{accepts, words_causes, verdict_refusals, verdict_answer}
use Rattle.promises.specs.Statements.{Meets}
use Rattle.promises.proofs.Read.{many_steps, was_read}

module _ (s plan : List ℕ) where
  pub verdict_staged : verdict_answer s plan ≡ unless (read_causes s) (unless (words_causes s (length plan)) (Given (full_reply (total (start_of s) plan) (accepts s plan))))
  unfolding verdict_refusals
  verdict_staged = unless_append (read_causes s) (words_causes s (length plan)) _

  pub verdict_refused : {n p : ℕ} → summary_read s ≡ Refused n p → Refused n p ≡ verdict_answer s plan
  verdict_refused e = refused_whatever (read_causes s) (summary_of s) (sym e) _ ∙ sym verdict_staged

  module _ {x : Summary} (e : summary_read s ≡ Given x) where
    pub verdict_misfit : (length plan ≡ x.steps → ⊥) → Refused 10 x.steps ≡ verdict_answer s plan
    verdict_misfit h =
        ap (Refused 10) (sym (many_steps s e)) ∙ refused_by _ _ _ (ap not (ne_eqb (length plan) (length (steps_of s)) (λ q. h (q ∙ many_steps s e))))
        ∙ was_read s e _ ∙ sym verdict_staged

    pub verdict_given : length plan ≡ x.steps → Given (full_reply (total (start_of s) plan) (accepts s plan)) ≡ verdict_answer s plan
    verdict_given h =
        passed_by _ _ _ (ap not (eq-eqb (length plan) (length (steps_of s)) (h ∙ sym (many_steps s e)))) (none_left _)
        ∙ was_read s e _ ∙ sym verdict_staged

-- ---- what is accepted

-- yes or no
accepts_digit : (s plan : List ℕ) → accepts s plan ≤ 1
unfolding accepts
accepts_digit s plan = go (is_feasible (fits_on s) (limits_on s) plan && leb (total (start_of s) plan) (bound_of s))
  where
    go : (t : Bool) → cond t 1 0 ≤ 1
    go true = omega arith
    go false = omega arith

-- a plan is accepted exactly if it meets the sheet
pub accepts_exactly : (s plan : List ℕ) → accepts s plan ≡ 1 ↔ Meets s plan
unfolding accepts
accepts_exactly s plan =
    let both = and-eq-true_iff (is_feasible (fits_on s) (limits_on s) plan) (leb (total (start_of s) plan) (bound_of s)) in
    let feasible = feasible_exactly (fits_on s) (Fits (chambers_in s)) (fits_exactly (chambers_in s)) (limits_on s) plan in
    (λ h. let t = both.0 (one _ h) in (feasible.0 t.0, leb-true _ _ t.1), λ m. ap chosen (both.1 (feasible.1 m.0, le-leb _ _ m.1)))
  where
    chosen : Bool → ℕ
    chosen t = cond t 1 0

    one : (t : Bool) → chosen t ≡ 1 → t ≡ true
    one true h = refl
    one false h = absurd (omega arith)

-- and else turned down
pub turned_down : (s plan : List ℕ) → (Meets s plan → ⊥) → accepts s plan ≡ 0
turned_down s plan misses = go (accepts s plan) refl (accepts_digit s plan)
  where
    go : (n : ℕ) → accepts s plan ≡ n → n ≤ 1 → accepts s plan ≡ 0
    go zero e h = e
    go (suc n) e h = absurd (misses ((accepts_exactly s plan).0 (omega arith)))

-- so sheets that the same plans meet accept the same
pub same_accepts : (s t plan : List ℕ) → Meets s plan ↔ Meets t plan → accepts s plan ≡ accepts t plan
same_accepts s t plan same = go (accepts s plan) refl (accepts_digit s plan)
  where
    go : (n : ℕ) → accepts s plan ≡ n → n ≤ 1 → accepts s plan ≡ accepts t plan
    go zero e h = e ∙ sym (turned_down t plan (λ m. omega (arith, e, (accepts_exactly s plan).1 (same.1 m))))
    go (suc n) e h = let yes : accepts s plan ≡ 1 = omega arith in yes ∙ sym ((accepts_exactly t plan).1 (same.0 ((accepts_exactly s plan).0 yes)))
