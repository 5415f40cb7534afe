-- What beginning a sheet gives. It knows how many steps there are, and not the steps.
use Rattle.std.specs.Prelude.{ℕ, true, List}
use Rattle.format.specs.Answer.{Answer, Refused, Given, unless}
use Rattle.format.specs.Format.{sheet_length}
use Rattle.promises.specs.declared.Written.{Written}
use Rattle.promises.specs.Common.{written, refused_written, full_written}
use Rattle.promises.specs.Write.{write_refusals}

-- one refusal of 11 and 12, or the length of the sheet, for d units, a start set, n steps and an output of so many
-- places
abbrev pub length_answer : ℕ → ℕ → ℕ → ℕ → Answer ℕ
length_answer d start n places = unless (write_refusals d start n places) (Given (sheet_length true n))

-- the reply with the sheet's length, and the output with the header; a refusal leaves it as it was
unfoldable pub begun : List ℕ → List ℕ → Answer ℕ → Written × List ℕ
begun header out (Refused n p) = (refused_written n p, out)
begun header out (Given long) = (full_written long, written header out)
