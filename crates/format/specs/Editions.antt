-- A sheet in an edition: the bytes that a sheet is converted to. `first` says which edition is wanted, the first or
-- the second, and what is converted is of the other one. Look at `record_in` beside the table of a record in
-- docs/FORMAT.md. Every record of the sheet is converted, those off the chain too (spare records, there).
use Rattle.std.specs.Prelude.{ℕ, zero, suc, ◌+◌, ◌-◌, Bool, true, false, cond, not, List, [], ◌∷◌, ◌++◌, get_or, take, drop, replicate}
use Rattle.format.specs.declared.ChamberStep.{ChamberStep}
use Rattle.format.specs.declared.Step.{Step}
use Rattle.format.specs.Format.{first_edition, second_edition, header_size, record_size, edition_at, units_at, chambers_at, start_at, least_at, greatest_at, next_at, tag_at, record_offset, is_first, units_of, records_of}

-- the k bytes from a place on
abbrev pub part : ℕ → ℕ → List ℕ → List ℕ
part at k s = take k (drop at s)

-- k bytes that are zero
abbrev pub zeros : ℕ → List ℕ
zeros k = replicate {A = ℕ} k 0

-- The header: as it was, but for the edition and the numbers of units of the chambers. In the first edition these
-- bytes are zero, and in the second all units are in the first chamber.
unfoldable pub header_in : Bool → List ℕ → List ℕ
header_in first s =
    part 0 edition_at s
    ++ (cond first first_edition second_edition ∷ [])
    ++ part units_at (chambers_at - units_at) s
    ++ (cond first 0 (units_of s) ∷ zeros 3)
    ++ part start_at (header_size - start_at) s

-- A record: the sets, the least number and the greatest number of the first chamber, each with zeros for the other
-- chambers in the second edition, the number of the next record, two bytes that are zero in the second edition, and
-- the tag.
unfoldable pub record_in : Bool → List ℕ → List ℕ
record_in first b =
    part 0 least_at b
    ++ part least_at 1 b
    ++ cond first [] (zeros 3)
    ++ part (greatest_at (not first)) 1 b
    ++ cond first [] (zeros 3)
    ++ part (next_at (not first)) 2 b
    ++ cond first [] (zeros 2)
    ++ part (tag_at (not first)) 4 b

-- the bytes of record j
abbrev pub record_part : Bool → List ℕ → ℕ → List ℕ
record_part first s j = part (record_offset first j) (record_size first) s

-- n records of the sheet, from number j on
unfoldable pub records_in : Bool → List ℕ → ℕ → ℕ → List ℕ
records_in first s j zero = []
records_in first s j (suc n) = record_in first (record_part (not first) s j) ++ records_in first s (j + 1) n

-- a sheet of the other edition: its header, and all of its records
unfoldable pub remade : Bool → List ℕ → List ℕ
remade first s = header_in first s ++ records_in first s 1 (records_of s)

-- any sheet in that edition: itself, if it is of that edition
unfoldable pub in_edition : Bool → List ℕ → List ℕ
in_edition true s = cond (is_first s) s (remade true s)
in_edition false s = cond (is_first s) (remade false s) s

-- ---- what is said of it

-- a step as the first edition has it: with the numbers of the first chamber
abbrev pub narrowed : ChamberStep → Step
narrowed x = record { lower = x.lower; upper = x.upper; least = get_or x.least 0 0; greatest = get_or x.greatest 0 0; tag = x.tag }
