-- `warm_verdict`: refusals 1 to 7, 10, 13 and 14, or yes or no and the plan's total.
use Rattle.std.specs.Prelude.{ℕ, cond, not, ◌&&◌, List, [], ◌∷◌, ◌++◌, leb, eqb, length}
use Rattle.plans.specs.Plans.{is_feasible}
use Rattle.plans.specs.Switch.{total}
use Rattle.format.specs.Answer.{Answer, Refused, Given, Cause, cause, unless}
use Rattle.format.specs.Format.{bound_of, start_of}
use Rattle.format.specs.Reading.{steps_of, read_causes}
use Rattle.promises.specs.declared.Reply.{Reply}
use Rattle.promises.specs.Common.{limits_on, fits_on, refused_reply, full_reply}

-- refusal 10: the plan does not have one word for each step
abbrev pub words_causes : List ℕ → ℕ → List Cause
words_causes s words = cause (not (eqb words (length (steps_of s)))) 10 (length (steps_of s)) ∷ []

-- refusals 1 to 7, 13, 14 and 10, where the plan has that many words
unfoldable pub verdict_refusals : List ℕ → ℕ → List Cause
verdict_refusals s words = read_causes s ++ words_causes s words

-- 1 if the plan meets the sheet, that is, is feasible and within the bound; else 0
unfoldable pub accepts : List ℕ → List ℕ → ℕ
accepts s plan = cond (is_feasible (fits_on s) (limits_on s) plan && leb (total (start_of s) plan) (bound_of s)) 1 0

-- one refusal, or yes or no and the plan's total
abbrev pub verdict_answer : List ℕ → List ℕ → Answer Reply
verdict_answer s plan = unless (verdict_refusals s (length plan)) (Given (full_reply (total (start_of s) plan) (accepts s plan)))

unfoldable pub judged : Answer Reply → Reply
judged (Refused n p) = refused_reply n p
judged (Given r) = r

unfoldable pub warm_verdict : List ℕ → List ℕ → Reply
warm_verdict s plan = judged (verdict_answer s plan)
