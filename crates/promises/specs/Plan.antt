-- `warm_plan`: refusals 1 to 9, 13 and 14, or the plan that FindSupport gives on each chamber, put together.
use Rattle.std.specs.Prelude.{ℕ, List, [], ◌∷◌, ◌++◌, ltb, length}
use Rattle.plans.specs.Plans.{fewest}
use Rattle.chambers.specs.Chambers.{support_in}
use Rattle.plans.specs.Switch.{total}
use Rattle.format.specs.Answer.{Answer, Refused, Given, Cause, cause, unless}
use Rattle.format.specs.Format.{units_of, bound_of, start_of, chambers_in}
use Rattle.format.specs.Reading.{read_causes}
use Rattle.promises.specs.declared.Reply.{Reply}
use Rattle.promises.specs.Common.{limits_on, fits_on, places_causes, written, refused_reply, full_reply}

-- the fewest switches of any feasible plan
unfoldable pub fewest_on : List ℕ → ℕ
fewest_on s = fewest (fits_on s) (units_of s) (start_of s) (limits_on s)

-- the plan that FindSupport gives on each chamber, put together
unfoldable pub support_on : List ℕ → List ℕ
support_on s = support_in (chambers_in s) (start_of s) (limits_on s)

-- refusal 9: the fewest switches exceed the bound
abbrev pub bound_causes : List ℕ → List Cause
bound_causes s = cause (ltb (bound_of s) (fewest_on s)) 9 (fewest_on s) ∷ []

-- refusals 1 to 9, 13 and 14, where the output has that many places
unfoldable pub plan_refusals : List ℕ → ℕ → List Cause
plan_refusals s places = read_causes s ++ places_causes s places ++ bound_causes s

-- one of these refusals, or the plan
abbrev pub plan_answer : List ℕ → ℕ → Answer (List ℕ)
plan_answer s places = unless (plan_refusals s places) (Given (support_on s))

-- the reply with the plan's total, and the output with the plan; a refusal leaves it as it was
unfoldable pub planned : ℕ → List ℕ → Answer (List ℕ) → Reply × List ℕ
planned start out (Refused n p) = (refused_reply n p, out)
planned start out (Given plan) = (full_reply (total start plan) 0, written plan out)

unfoldable pub warm_plan : List ℕ → List ℕ → Reply × List ℕ
warm_plan s out = planned (start_of s) out (plan_answer s (length out))
