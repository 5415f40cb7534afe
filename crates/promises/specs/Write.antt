-- `warm_write`: refusals 11 and 12, or the bytes of a sheet.
use Rattle.std.specs.Prelude.{ℕ, true, List, [], ◌∷◌, ltb, eqb, length}
use Rattle.units.specs.Sets.{has_unit_from}
use Rattle.format.specs.declared.Step.{Step}
use Rattle.format.specs.Answer.{Answer, Given, Cause, cause, unless}
use Rattle.format.specs.Format.{unit_limit, record_limit, sheet_length}
use Rattle.format.specs.Writing.{sheet_of}
use Rattle.promises.specs.declared.Written.{Written}
use Rattle.promises.specs.Common.{wrote}

-- refusals 11 and 12, for d units, a start set and n steps, where the output has so many places: d, the start set or n
-- is outside the sheet's limits; the output is shorter than the sheet
unfoldable pub write_refusals : ℕ → ℕ → ℕ → ℕ → List Cause
write_refusals d start n places =
    cause (eqb d 0) 11 0
    ∷ cause (ltb unit_limit d) 11 0
    ∷ cause (has_unit_from start d) 11 0
    ∷ cause (ltb record_limit n) 11 0
    ∷ cause (ltb places (sheet_length true n)) 12 (sheet_length true n)
    ∷ []

-- one refusal of 11 and 12, or the bytes of the sheet
abbrev pub write_answer : ℕ → ℕ → ℕ → List Step → ℕ → Answer (List ℕ)
write_answer d bound start xs places = unless (write_refusals d start (length xs) places) (Given (sheet_of d bound start xs))

-- the reply with the sheet's length, and the output with the sheet; a refusal leaves it as it was
unfoldable pub warm_write : ℕ → ℕ → ℕ → List Step → List ℕ → Written × List ℕ
warm_write d bound start xs out = wrote out (write_answer d bound start xs (length out))
