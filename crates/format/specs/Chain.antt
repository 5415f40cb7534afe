-- The chain: the records from the first on, each naming the next, and what can be wrong with its links.
use Rattle.std.specs.Prelude.{ℕ, zero, suc, ◌≤◌, ◌<◌, Bool, false, cond, ◌||◌, List, [], ◌∷◌, ◌++◌, ltb, eqb, length}
use Rattle.format.specs.declared.ChamberStep.{ChamberStep}
use Rattle.format.specs.Answer.{Cause, cause}
use Rattle.format.specs.Format.{sheet_length, is_first, next_of, step_of}

-- the records that follow one another from `holder` (a record, or 0 for the header) on, until a link is 0, at most k
-- of them
unfoldable pub following : ℕ → List ℕ → ℕ → List ℕ
following zero s holder = []
following (suc k) s holder =
    let next = next_of s holder in
    let rest = following k s next in
    cond (eqb next 0) [] (next ∷ rest)

-- The chain of a sheet of r records. At most one record more than there are is looked at: by then a link has led out
-- of the sheet or back to a record already met (`chain_is_long_enough` in proofs/Chains.antt).
unfoldable pub chain_of : List ℕ → ℕ → List ℕ
chain_of s r = following (suc r) s 0

-- the test that j is in the list
unfoldable pub is_in : ℕ → List ℕ → Bool
is_in j [] = false
is_in j (k ∷ ks) = eqb j k || is_in j ks

-- refusals 4 and 5 of each link to a record of the list: it leads out of the r records, or to one of those already
-- met. The first link is held by `holder`, and each other by the record before it.
unfoldable pub link_causes : ℕ → List ℕ → ℕ → List ℕ → List Cause
link_causes r met holder [] = []
link_causes r met holder (j ∷ js) =
    cause (ltb r j) 4 holder ∷ cause (is_in j met) 5 holder ∷ link_causes r (met ++ (j ∷ [])) j js

-- ---- for the functions that go along the chain

-- the steps of the n records after record j, or after the header where j is 0
unfoldable pub steps_from : List ℕ → ℕ → ℕ → List ChamberStep
steps_from s j zero = []
steps_from s j (suc n) = step_of s (next_of s j) ∷ steps_from s (next_of s j) n

-- record j lies whole within the sheet, or the header where j is 0
abbrev pub Within : List ℕ → ℕ → Type 0
Within s j = sheet_length (is_first s) j ≤ length s

-- record j and the n records after it do, and these are records and not the header; where n is 0, nothing is asked
unfoldable pub Inside : List ℕ → ℕ → ℕ → Type 0
Inside s j zero = Unit {0}
Inside s j (suc n) = Within s j × (((0 < next_of s j) × Within s (next_of s j)) × Inside s (next_of s j) n)
