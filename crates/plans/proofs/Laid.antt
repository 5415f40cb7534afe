-- Words in the first places of a list, and the steps from one of them on.
use mathlib.Core.Path.{◌≡◌, sym, ap, ◌∙◌, subst}
use mathlib.Core.Bool.{true}
use mathlib.Core.List.{List, [], ◌∷◌, ◌++◌}
use Prim.Native.Nat.{ℕ, zero, suc, ◌+◌, ◌<◌, ◌≤◌}
use native.Mathlib.Numerals.{add-one}
use native.Mathlib.Omega.{arith}
use lib.ListN.{length, drop}
use lib.Seq.{sets, sets-eq, drop-cons}
use Rattle.units.specs.Limits.{has_feasible}
use Rattle.plans.specs.Plans.{Below}
use Rattle.plans.specs.Steps.{limits, step_at}
use Rattle.plans.specs.declared.Limits.{Limits}
use Rattle.plans.specs.Switch.{Satisfiable}

-- ---- words in the first places of a list

-- the words, and then what was there
pub sets_first : {A : Type 0} (words out : List A) → length words ≤ length out → sets out 0 words ≡ words ++ drop (length words) out
sets_first words out h =
    let all : 0 + length words ≡ length words = omega arith in
    sets-eq words out 0 (omega arith) ∙ ap (λ (k : ℕ). words ++ drop k out) all

-- the same, where they are n
pub sets_placed : {A : Type 0} (words out : List A) (n : ℕ) → length words ≡ n → n ≤ length out → words ++ drop n out ≡ sets out 0 words
sets_placed words out n e h = ap (λ (k : ℕ). words ++ drop k out) (sym e) ∙ sym (sets_first words out (omega arith))

-- ---- the steps from one on

-- they are satisfiable if all are
pub satisfiable_drop : (j : ℕ) (ss : List Limits) → Satisfiable ss → Satisfiable (drop j ss)
satisfiable_drop zero ss h = h
satisfiable_drop (suc j) [] h = tt
satisfiable_drop (suc j) (s ∷ ss) h = satisfiable_drop j ss h.1

-- and their units are below d if all are
pub below_drop : (d : ℕ) (ss : List Limits) (i : ℕ) → Below d ss → Below d (drop i ss)
below_drop d ss zero b = b
below_drop d [] (suc i) b = tt
below_drop d (s ∷ ss) (suc i) b = below_drop d ss i b.1

module _ (ss : List Limits) (i : ℕ) (h : i < length ss) where
  -- the step at i, and those after it
  pub steps_from_lem : drop i ss ≡ step_at ss i ∷ drop (suc i) ss
  unfolding step_at
  steps_from_lem = drop-cons ss i (limits 0 0 0 0) h

  pub steps_at : drop i ss ≡ step_at ss i ∷ drop (i + 1) ss
  steps_at = steps_from_lem ∙ ap (λ (k : ℕ). step_at ss i ∷ drop k ss) (sym (add-one i))

  pub satisfiable_at : Satisfiable ss → Satisfiable (step_at ss i ∷ drop (suc i) ss)
  satisfiable_at f = subst Satisfiable steps_from_lem (satisfiable_drop i ss f)

  -- and it has a feasible set
  pub feasible_at : Satisfiable ss → has_feasible (step_at ss i).lower (step_at ss i).upper (step_at ss i).least (step_at ss i).greatest ≡ true
  feasible_at f = (satisfiable_at f).0
