-- What several entries share: the steps of a sheet without their tags, feasible plans, refusal 8, what an output
-- holds, and replies, also those of the entries that write bytes.
use Rattle.std.specs.Prelude.{ℕ, Bool, List, [], ◌∷◌, ◌++◌, map, ltb, length, drop}
use Rattle.plans.specs.declared.Limits.{Limits}
use Rattle.plans.specs.Switch.{sized, Throughout}
use Rattle.chambers.specs.Chambers.{Chamber, ChamberLimits, Fits, fits, parts_of}
use Rattle.format.specs.Answer.{Answer, Refused, Given, Cause, cause}
use Rattle.format.specs.Format.{chambers_in, limits_of}
use Rattle.format.specs.Reading.{steps_of}
use Rattle.promises.specs.declared.Reply.{Reply}
use Rattle.promises.specs.declared.Written.{Written}

-- the steps of a sheet, without their tags
abbrev pub limits_on : List ℕ → List ChamberLimits
limits_on s = map limits_of (steps_of s)

-- what they ask of one chamber, with the sizes of its feasible sets in the place of its two numbers: so they are
-- decoded
abbrev pub sized_in : List ℕ → Chamber → List Limits
sized_in s c = map sized (parts_of c (limits_on s))

-- a feasible plan of a sheet (a fit plan, in docs/FORMAT.md): each step's set includes the lower set, lies within the
-- upper set, and has in each chamber a number of units from that chamber's least to its greatest number
abbrev pub FeasibleOn : List ℕ → List ℕ → Type 0
FeasibleOn s plan = Throughout (Fits (chambers_in s)) (limits_on s) plan

-- the test of a step's set
abbrev pub fits_on : List ℕ → ChamberLimits → ℕ → Bool
fits_on s = fits (chambers_in s)

-- refusal 8: a lent output has fewer places than there are steps
abbrev pub places_causes : List ℕ → ℕ → List Cause
places_causes s places = cause (ltb places (length (steps_of s))) 8 (length (steps_of s)) ∷ []

-- the first places of an output hold the words, and the others what they held
abbrev pub written : {A : Type 0} → List A → List A → List A
written words out = words ++ drop (length words) out

-- a refusal, and a reply
abbrev pub refused_reply : ℕ → ℕ → Reply
refused_reply n p = record { refusal = n; place = p; total = 0; accepted = 0 }

abbrev pub full_reply : ℕ → ℕ → Reply
full_reply total accepted = record { refusal = 0; place = 0; total = total; accepted = accepted }

-- a refusal of an entry that writes bytes, and its reply for so many of them
abbrev pub refused_written : ℕ → ℕ → Written
refused_written n p = record { refusal = n; place = p; length = 0; reserved = 0 }

abbrev pub full_written : ℕ → Written
full_written long = record { refusal = 0; place = 0; length = long; reserved = 0 }

-- the reply with the number of bytes, and the output with the bytes; a refusal leaves it as it was
unfoldable pub wrote : List ℕ → Answer (List ℕ) → Written × List ℕ
wrote out (Refused n p) = (refused_written n p, out)
wrote out (Given bytes) = (full_written (length bytes), written bytes out)
