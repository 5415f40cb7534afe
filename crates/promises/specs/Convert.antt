-- `warm_to_edition_1` and `warm_to_edition_2`: refusals 1 to 8, 13 and 14, and 15 going down, or the sheet in that
-- edition. `first` is true for edition 1.
use Rattle.std.specs.Prelude.{ℕ, Bool, true, false, List, [], ◌∷◌, ◌++◌, ltb, length}
use Rattle.format.specs.Answer.{Answer, Given, Cause, cause, unless}
use Rattle.format.specs.Editions.{in_edition}
use Rattle.format.specs.Format.{chambers_at, units_of, sizes}
use Rattle.format.specs.Reading.{read_causes}
use Rattle.promises.specs.declared.Written.{Written}
use Rattle.promises.specs.Common.{wrote}

-- refusal 15, going down: a unit is outside the first chamber, which has fewer units than the sheet
abbrev pub outside_causes : Bool → List ℕ → List Cause
outside_causes true s = cause (ltb (sizes s).first (units_of s)) 15 chambers_at ∷ []
outside_causes false s = []

-- refusal 8: the output is shorter than the sheet in that edition
abbrev pub room_causes : Bool → List ℕ → ℕ → List Cause
room_causes first s places = cause (ltb places (length (in_edition first s))) 8 (length (in_edition first s)) ∷ []

-- the reader's refusals, 15 and 8, where the output has so many places
unfoldable pub convert_refusals : Bool → List ℕ → ℕ → List Cause
convert_refusals first s places = read_causes s ++ outside_causes first s ++ room_causes first s places

-- one of these refusals, or the sheet in that edition
abbrev pub convert_answer : Bool → List ℕ → ℕ → Answer (List ℕ)
convert_answer first s places = unless (convert_refusals first s places) (Given (in_edition first s))

-- the reply with its length, and the output with the sheet in its first places; a refusal leaves it as it was
unfoldable pub warm_convert : Bool → List ℕ → List ℕ → Written × List ℕ
warm_convert first s out = wrote out (convert_answer first s (length out))
