-- Laws on the answer of `warm_steps`: what it is by what the reader says, what may then be filled, and that this
-- writes what the definition says.
use mathlib.Core.Path.{◌≡◌, refl, sym, ap, ◌∙◌, subst}
use mathlib.Core.List.{List, ◌++◌}
use Prim.Native.Nat.{ℕ, ◌≤◌, ◌<◌}
use lib.ListN.{length, drop}
use borrow.Author.Tests.{ltb-false}
use Rattle.format.specs.declared.ChamberStep.{ChamberStep}
use Rattle.format.specs.declared.Summary.{Summary}
use Rattle.format.specs.Answer.{Answer, Refused, Given, unless}
use Rattle.format.specs.Chain.{steps_from}
use Rattle.format.specs.Reading.{steps_of, read_causes, Campaign, campaign_of}
use Rattle.format.specs.Stages.{summary_of, summary_read}
use Rattle.format.proofs.Answers.{none_left, unless_append, passed_first, given_same, all_passed, unless_given, refused_whatever}
use Rattle.promises.specs.Common.{places_causes, written}
use Rattle.promises.specs.Steps.{steps_refusals, steps_answer, steps_reply, steps_written}
use Rattle.promises.proofs.Read.{was_opened, was_read, short_output, long_output}

module _ (s : List ℕ) (places : ℕ) where
  pub steps_staged : steps_answer s places ≡ unless (read_causes s) (unless (places_causes s places) (Given (campaign_of s)))
  unfolding steps_refusals
  steps_staged = unless_append (read_causes s) (places_causes s places) (Given (campaign_of s))

  pub answer_refused : {n p : ℕ} → summary_read s ≡ Refused n p → Refused n p ≡ steps_answer s places
  answer_refused e = refused_whatever (read_causes s) (summary_of s) (sym e) _ ∙ sym steps_staged

  module _ {x : Summary} (e : summary_read s ≡ Given x) where
    pub answer_short : places < x.steps → Refused 8 x.steps ≡ steps_answer s places
    answer_short h = short_output s e places h _ ∙ was_read s e _ ∙ sym steps_staged

    pub answer_given : x.steps ≤ places → Given (campaign_of s) ≡ steps_answer s places
    answer_given h = long_output s e places h _ ∙ was_read s e _ ∙ sym steps_staged

  -- a campaign that is the answer was read, and has a place for each step
  given_answer : {c : Campaign} → steps_answer s places ≡ Given c
      → (summary_read s ≡ Given (summary_of s)) × ((campaign_of s ≡ c) × (length (steps_of s) ≤ places))
  given_answer e =
      let f = sym steps_staged ∙ e in
      let p = passed_first _ _ _ (unless_given (read_causes s) _ f) in
      (all_passed (read_causes s) _ f (Given (summary_of s)), (given_same (none_left _ ∙ p.1), ltb-false places (length (steps_of s)) p.0))

-- the steps after the header, as many as the reply says, are what the list then holds
pub filled : (s : List ℕ) (out : List ChamberStep)
    → steps_from s 0 (steps_reply (steps_answer s (length out))).steps ++ drop (steps_reply (steps_answer s (length out))).steps out
    ≡ steps_written (steps_answer s (length out)) out
unfolding steps_reply steps_written steps_from campaign_of
filled s out = go (steps_answer s (length out)) refl
  where
    go : (a : Answer Campaign) → steps_answer s (length out) ≡ a → steps_from s 0 (steps_reply a).steps ++ drop (steps_reply a).steps out ≡ steps_written a out
    go (Refused n p) e = refl
    go (Given c) e =
        let r = given_answer s (length out) e in
        subst (λ (d : Campaign). steps_from s 0 (length d.steps) ++ drop (length d.steps) out ≡ written d.steps out) r.1.0
        (ap (λ xs. xs ++ drop (length (steps_of s)) out) (was_opened s r.0).steps)
