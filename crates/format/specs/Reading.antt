-- What a sheet says: for any list of bytes, either one refusal or the campaign. `read_causes` lists every cause of the
-- reader's refusals, 1 to 7, 13 and 14, in the order in which they are checked: the header's, those of the chain link
-- by link, and those of the steps from the first on. The first that holds decides.
use Rattle.std.specs.Prelude.{ℕ, ◌+◌, ◌≤◌, ◌⊎◌, Bool, true, false, not, ◌&&◌, ◌||◌, List, [], ◌∷◌, ◌++◌, map, ltb, eqb, length}
use Rattle.units.specs.Sets.{has_unit_from}
use Rattle.chambers.specs.Chambers.{Chamber, sum, some_fits}
use Rattle.format.specs.declared.ChamberStep.{ChamberStep}
use Rattle.format.specs.Answer.{Answer, Given, Cause, cause, unless}
use Rattle.format.specs.Chain.{chain_of, link_causes}
use Rattle.format.specs.Format.{letters, first_edition, second_edition, header_size, edition_at, units_at, records_at, chambers_at, start_at, unit_limit, record_limit, sheet_length, longest, letters_of, edition_of, is_first, units_of, records_of, bound_of, reserved_of, start_of, sizes, sizes_list, chambers_in, step_of, limits_of}

-- the test that two lists of bytes are equal
unfoldable pub same : List ℕ → List ℕ → Bool
same [] [] = true
same [] (y ∷ ys) = false
same (x ∷ xs) [] = false
same (x ∷ xs) (y ∷ ys) = eqb x y && same xs ys

-- the test that there is such an edition
abbrev pub is_edition : ℕ → Bool
is_edition e = eqb e first_edition || eqb e second_edition

-- refusals 1 and 2: the length is no sheet's; the letters, the edition
abbrev pub form_causes : List ℕ → List Cause
form_causes s =
    cause (ltb (length s) header_size) 1 0
    ∷ cause (ltb longest (length s)) 1 0
    ∷ cause (not (same (letters_of s) letters)) 2 0
    ∷ cause (not (is_edition (edition_of s))) 2 edition_at
    ∷ []

-- refusals 3 and 13: the units, the records, the bytes that are zero in the first edition; the chambers, which in the
-- first edition have d units; the start set, the length
abbrev pub header_causes : List ℕ → List Cause
header_causes s =
    cause (eqb (units_of s) 0) 3 units_at
    ∷ cause (ltb unit_limit (units_of s)) 3 units_at
    ∷ cause (ltb record_limit (records_of s)) 3 records_at
    ∷ cause (is_first s && not (eqb (reserved_of s) 0)) 3 chambers_at
    ∷ cause (not (eqb (sum (sizes_list (sizes s))) (units_of s))) 13 chambers_at
    ∷ cause (has_unit_from (start_of s) (units_of s)) 3 start_at
    ∷ cause (not (eqb (length s) (sheet_length (is_first s) (records_of s)))) 3 header_size
    ∷ []

-- refusals 14, 6 and 7 of the step number i: the bytes that are zero; the upper set has a unit from d up; no set is
-- feasible
abbrev pub step_causes : List Chamber → ℕ → ℕ → ChamberStep → List Cause
step_causes cs d i x =
    cause (not (eqb x.reserved 0)) 14 i
    ∷ cause (has_unit_from x.upper d) 6 i
    ∷ cause (not (some_fits cs (limits_of x))) 7 i
    ∷ []

-- those of all steps, which are numbered from i on
unfoldable pub steps_causes : List Chamber → ℕ → ℕ → List ChamberStep → List Cause
steps_causes cs d i [] = []
steps_causes cs d i (x ∷ xs) = step_causes cs d i x ++ steps_causes cs d (i + 1) xs

-- ---- the whole sheet

-- the records on the chain; the others are unused (spare records, in docs/FORMAT.md)
abbrev pub records_on : List ℕ → List ℕ
records_on s = chain_of s (records_of s)

-- the steps that they hold, in chain order; how many they are is n, in docs/FORMAT.md
abbrev pub steps_of : List ℕ → List ChamberStep
steps_of s = map (step_of s) (records_on s)

-- refusals 1 to 5 and 13: the header's and the chain's
abbrev pub open_causes : List ℕ → List Cause
open_causes s = form_causes s ++ header_causes s ++ link_causes (records_of s) [] 0 (records_on s)

-- refusals 1 to 7, 13 and 14. Where none applies, the sheet passes the reader, in docs/FORMAT.md.
unfoldable pub read_causes : List ℕ → List Cause
read_causes s = open_causes s ++ steps_causes (chambers_in s) (units_of s) 1 (steps_of s)

-- the numbers of the reader's refusals
abbrev pub ReaderNumber : ℕ → Type 0
ReaderNumber n = ((1 ≤ n) × (n ≤ 7)) ⊎ ((13 ≤ n) × (n ≤ 14))

-- what a sheet says: its units, the bound on switches, the start set, the number of units of each chamber and the
-- steps in chain order
pub record Campaign : Type 0 where
  pub units : ℕ
  pub bound : ℕ
  pub start : ℕ
  pub chambers : List ℕ
  pub steps : List ChamberStep

unfoldable pub campaign_of : List ℕ → Campaign
campaign_of s = record { units = units_of s; bound = bound_of s; start = start_of s; chambers = sizes_list (sizes s); steps = steps_of s }

-- one refusal of the reader, or the campaign
abbrev pub campaign_read : List ℕ → Answer Campaign
campaign_read s = unless (read_causes s) (Given (campaign_of s))
