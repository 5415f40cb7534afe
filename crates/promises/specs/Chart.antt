-- `warm_chart`: refusals 1 to 9, 13 and 14, or the units that can be on and those that can be off in each step.
use Rattle.std.specs.Prelude.{ℕ, min, List, length}
use Rattle.plans.specs.Plans.{can_be_on, can_be_off}
use Rattle.plans.specs.Switch.{total}
use Rattle.format.specs.Answer.{Answer, Refused, Given}
use Rattle.format.specs.Format.{units_of, bound_of, start_of}
use Rattle.promises.specs.declared.Reply.{Reply}
use Rattle.promises.specs.Common.{limits_on, fits_on, written, refused_reply, full_reply}
use Rattle.promises.specs.Plan.{plan_answer}

-- the units that can be on in each step, and those that can be off, over all plans that meet the sheet
unfoldable pub on_words : List ℕ → List ℕ
on_words s = can_be_on (fits_on s) (units_of s) (bound_of s) (start_of s) (limits_on s)

unfoldable pub off_words : List ℕ → List ℕ
off_words s = can_be_off (fits_on s) (units_of s) (bound_of s) (start_of s) (limits_on s)

-- the reply with the plan's total, and the outputs with the chart; a refusal leaves them as they were
unfoldable pub charted : ℕ → List ℕ → List ℕ → List ℕ → List ℕ → Answer (List ℕ) → Reply × (List ℕ × List ℕ)
charted start canOn canOff on off (Refused n p) = (refused_reply n p, (on, off))
charted start canOn canOff on off (Given plan) = (full_reply (total start plan) 0, (written canOn on, written canOff off))

-- refused where the plan is, for the shorter of the two outputs
unfoldable pub warm_chart : List ℕ → List ℕ → List ℕ → Reply × (List ℕ × List ℕ)
warm_chart s on off = charted (start_of s) (on_words s) (off_words s) on off (plan_answer s (min (length on) (length off)))
