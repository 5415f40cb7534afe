-- The bytes of a sheet of edition 1 that is written from d, a bound, a start set and some steps: a record for each
-- step, chained in the order of the steps, and no other. That the chain goes through them in this order, and what the
-- reader says of them, is `written_in_order` and `written_reads_back` in proofs/WrittenSheets.antt of `promises`.
use Rattle.std.specs.Prelude.{ℕ, zero, suc, ◌+◌, ◌^◌, ◌<◌, cond, List, [], ◌∷◌, ◌++◌, ltb, length}
use Rattle.format.specs.declared.ChamberStep.{ChamberStep}
use Rattle.format.specs.declared.Step.{Step}
use Rattle.format.specs.Format.{letters, first_edition}
use Rattle.format.specs.Numbers.{bytes_of}

-- a header of d units and r records, with the number of the first record, the bound and the start set
unfoldable pub header_bytes : ℕ → ℕ → ℕ → ℕ → ℕ → List ℕ
header_bytes d r first bound start =
    letters ++ (first_edition ∷ d ∷ []) ++ bytes_of 2 r ++ bytes_of 2 first ++ bytes_of 2 bound ++ bytes_of 4 0 ++ bytes_of 8 start

-- a record: its step, and the number of the record after it
unfoldable pub record_bytes : Step → ℕ → List ℕ
record_bytes x next = bytes_of 8 x.lower ++ bytes_of 8 x.upper ++ (x.least ∷ x.greatest ∷ []) ++ bytes_of 2 next ++ bytes_of 4 x.tag

-- the number that record j of n holds of the record after it, 0 if it is the last; the header counts as record 0
unfoldable pub link_in : ℕ → ℕ → ℕ
link_in j n = cond (ltb j n) (j + 1) 0

-- the records of some steps, which come after record j of n
unfoldable pub records_after : ℕ → ℕ → List Step → List ℕ
records_after j n [] = []
records_after j n (x ∷ xs) = record_bytes x (link_in (j + 1) n) ++ records_after (j + 1) n xs

-- the sheet of d units with a bound, a start set and some steps
unfoldable pub sheet_of : ℕ → ℕ → ℕ → List Step → List ℕ
sheet_of d bound start xs =
    let n = length xs in
    header_bytes d n (link_in 0 n) bound start ++ records_after 0 n xs

-- ---- what is said of it

-- n numbers from j on: the records of a sheet of n steps are `numbers_from 1 n`
unfoldable pub numbers_from : ℕ → ℕ → List ℕ
numbers_from j zero = []
numbers_from j (suc n) = j ∷ numbers_from (j + 1) n

-- a step as the reader gives it: its two numbers are those of the first chamber, and the others have zeros
abbrev pub widened : Step → ChamberStep
widened x =
    record { lower = x.lower; upper = x.upper; least = x.least ∷ 0 ∷ 0 ∷ 0 ∷ []; greatest = x.greatest ∷ 0 ∷ 0 ∷ 0 ∷ []; tag = x.tag; reserved = 0 }

-- each number of a step is as wide as its field
pub record Wide (x : Step) : Type 0 where
  pub lower : x.lower < 2 ^ 64
  pub upper : x.upper < 2 ^ 64
  pub least : x.least < 2 ^ 8
  pub greatest : x.greatest < 2 ^ 8
  pub tag : x.tag < 2 ^ 32

abbrev pub AllWide : List Step → Type 0
AllWide [] = Unit {0}
AllWide (x ∷ xs) = Wide x × AllWide xs
