-- `list_plan`: refusals 1 to 7, 9, 13 and 14, or the plan that is handed out, as text. `list_sizes`: the refusals of
-- the reader, or how many units may be on in each step.
use Rattle.std.specs.Prelude.{ℕ, ◌+◌, Option, Some, None, List, [], ◌∷◌, ◌++◌, length}
use Rattle.format.specs.Answer.{Answer, Refused, Given, Cause, unless}
use Rattle.format.specs.Format.{units_of, bound_of, start_of, chambers_in}
use Rattle.format.specs.Reading.{steps_of, read_causes}
use Rattle.units.specs.declared.Sizes.{Sizes}
use Rattle.chambers.specs.Chambers.{Chamber, ChamberLimits, sizes_in}
use Rattle.plans.specs.Switch.{switches, total}
use Rattle.promises.specs.Plan.{support_on, bound_causes}
use Rattle.promises.specs.Common.{limits_on, written}
use Rattle.promises.specs.Digits.{decimal, hexadecimal}

-- ---- words

-- "units "
abbrev pub units_word : List ℕ
units_word = 117 ∷ 110 ∷ 105 ∷ 116 ∷ 115 ∷ 32 ∷ []

-- " steps "
abbrev pub steps_word : List ℕ
steps_word = 32 ∷ 115 ∷ 116 ∷ 101 ∷ 112 ∷ 115 ∷ 32 ∷ []

-- " bound "
abbrev pub bound_word : List ℕ
bound_word = 32 ∷ 98 ∷ 111 ∷ 117 ∷ 110 ∷ 100 ∷ 32 ∷ []

-- "total "
abbrev pub total_word : List ℕ
total_word = 116 ∷ 111 ∷ 116 ∷ 97 ∷ 108 ∷ 32 ∷ []

-- "refused "
abbrev pub refused_word : List ℕ
refused_word = 114 ∷ 101 ∷ 102 ∷ 117 ∷ 115 ∷ 101 ∷ 100 ∷ 32 ∷ []

abbrev pub blank : List ℕ
blank = 32 ∷ []

abbrev pub line_end : List ℕ
line_end = 10 ∷ []

-- ---- lines

-- a word and a number
abbrev pub field : List ℕ → ℕ → List ℕ
field word x = word ++ decimal x

-- "units 3 steps 4 bound 3": d, n and the bound
unfoldable pub first_line : ℕ → ℕ → ℕ → List ℕ
first_line d n bound = field units_word d ++ field steps_word n ++ field bound_word bound ++ line_end

-- "1 0000000000000001 1": the step, the set that is on in sixteen hexadecimal digits, its switches
unfoldable pub step_line : ℕ → ℕ → ℕ → List ℕ
step_line i x many = decimal i ++ blank ++ hexadecimal 16 x ++ field blank many ++ line_end

-- the lines of the steps from number i on, where `before` is on before them
unfoldable pub step_lines : ℕ → ℕ → List ℕ → List ℕ
step_lines i before [] = []
step_lines i before (x ∷ xs) = step_line i x (switches before x) ++ step_lines (i + 1) x xs

-- "total 3"
unfoldable pub total_line : ℕ → List ℕ
total_line many = field total_word many ++ line_end

-- "refused 9 3": the number and the place
unfoldable pub refused_line : ℕ → ℕ → List ℕ
refused_line n p = field refused_word n ++ field blank p ++ line_end

-- all lines of a plan: d, n, the bound, the start set, the plan and its total
unfoldable pub plan_lines : ℕ → ℕ → ℕ → ℕ → List ℕ → ℕ → List ℕ
plan_lines d n bound start plan many = first_line d n bound ++ step_lines 1 start plan ++ total_line many

-- ---- the listing of a plan

-- refusals 1 to 7, 13, 14 and 9
unfoldable pub listing_refusals : List ℕ → List Cause
listing_refusals s = read_causes s ++ bound_causes s

-- the text of a refusal, or of a plan for that sheet
unfoldable pub listed : List ℕ → Answer (List ℕ) → List ℕ
listed s (Refused n p) = refused_line n p
listed s (Given plan) = plan_lines (units_of s) (length (steps_of s)) (bound_of s) (start_of s) plan (total (start_of s) plan)

-- the listing of the plan of any bytes: one refusal, or the plan that is handed out
unfoldable pub listing : List ℕ → List ℕ
listing s = listed s (unless (listing_refusals s) (Given (support_on s)))

-- how many bytes a text has, and what an output with room for it holds afterwards
abbrev pub printed : List ℕ → List ℕ → ℕ × List ℕ
printed text out = (length text, written text out)

abbrev pub list_plan : List ℕ → List ℕ → ℕ × List ℕ
list_plan s out = printed (listing s) out

-- ---- the listing of sizes

-- "1 2 5": the step, and the least and the greatest size of a feasible set there; no line where there is none
unfoldable pub sizes_line : ℕ → Option Sizes → List ℕ
sizes_line i (Some z) = decimal i ++ field blank z.few ++ field blank z.many ++ line_end
sizes_line i None = []

-- the lines of the steps from number i on, of a bench with these chambers
unfoldable pub sizes_lines : List Chamber → ℕ → List ChamberLimits → List ℕ
sizes_lines cs i [] = []
sizes_lines cs i (s ∷ ss) = sizes_line i (sizes_in cs s) ++ sizes_lines cs (i + 1) ss

-- the text of a refusal, or of the sizes of some steps
unfoldable pub sizes_listed : List Chamber → Answer (List ChamberLimits) → List ℕ
sizes_listed cs (Refused n p) = refused_line n p
sizes_listed cs (Given ss) = sizes_lines cs 1 ss

-- the listing of the sizes of any bytes: one refusal of the reader, or those of all steps
unfoldable pub sizes_listing : List ℕ → List ℕ
sizes_listing s = sizes_listed (chambers_in s) (unless (read_causes s) (Given (limits_on s)))

abbrev pub list_sizes : List ℕ → List ℕ → ℕ × List ℕ
list_sizes s out = printed (sizes_listing s) out
