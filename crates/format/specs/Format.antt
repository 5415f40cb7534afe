-- The layout of a sheet, as docs/FORMAT.md describes it: sizes and limits, the fields of the header and of a record.
-- There are two editions, and what differs between them is said by whether it is the first.
use Rattle.std.specs.Prelude.{ℕ, zero, suc, ◌+◌, ◌-◌, ◌*◌, Bool, true, false, cond, List, [], ◌∷◌, eqb, take}
use Rattle.chambers.specs.Chambers.{Chamber, chambers_of, ChamberLimits}
use Rattle.format.specs.declared.ChamberSizes.{ChamberSizes}
use Rattle.format.specs.declared.ChamberStep.{ChamberStep}
use Rattle.format.specs.declared.Header.{Header}
use Rattle.format.specs.Numbers.{byte_at, u16_at, u32_at, u64_at}

-- ---- sizes and limits

-- the letters WARM
abbrev pub letters : List ℕ
letters = 87 ∷ 65 ∷ 82 ∷ 77 ∷ []

-- the editions: in the second, units are dealt out to chambers
abbrev pub first_edition : ℕ
first_edition = 1

abbrev pub second_edition : ℕ
second_edition = 2

abbrev pub header_size : ℕ
header_size = 24

-- the bytes of a record
abbrev pub record_size : Bool → ℕ
record_size first = cond first 24 32

abbrev pub unit_limit : ℕ
unit_limit = 64

abbrev pub record_limit : ℕ
record_limit = 256

-- how many chambers a sheet has, some of which may be empty
abbrev pub chamber_count : ℕ
chamber_count = 4

-- where the fields of the header lie
abbrev pub edition_at : ℕ
edition_at = 4

abbrev pub units_at : ℕ
units_at = 5

abbrev pub records_at : ℕ
records_at = 6

abbrev pub first_at : ℕ
first_at = 8

abbrev pub bound_at : ℕ
bound_at = 10

-- four bytes: zero in the first edition, and in the second the numbers of units of the chambers
abbrev pub chambers_at : ℕ
chambers_at = 12

abbrev pub start_at : ℕ
start_at = 16

-- and those of a record, of which the first is the lower set; the numbers of all chambers stand one after the other
abbrev pub upper_at : ℕ
upper_at = 8

abbrev pub least_at : ℕ
least_at = 16

abbrev pub greatest_at : Bool → ℕ
greatest_at first = cond first 17 20

abbrev pub next_at : Bool → ℕ
next_at first = cond first 18 24

-- two bytes that are zero, in the second edition alone
abbrev pub reserved_at : ℕ
reserved_at = 26

abbrev pub tag_at : Bool → ℕ
tag_at first = cond first 20 28

-- the length of a sheet of r records
abbrev pub sheet_length : Bool → ℕ → ℕ
sheet_length first r = header_size + record_size first * r

-- where record j lies, after the header and the records before it: at byte 24 · j, or 32 · j - 8 in the second edition
abbrev pub record_offset : Bool → ℕ → ℕ
record_offset first j = sheet_length first (j - 1)

-- the longest sheet is one of the second edition
abbrev pub longest : ℕ
longest = sheet_length false record_limit

-- ---- the header

abbrev pub letters_of : List ℕ → List ℕ
letters_of s = take 4 s

abbrev pub edition_of : List ℕ → ℕ
edition_of s = byte_at s edition_at

-- the test that it is the first edition
abbrev pub is_first : List ℕ → Bool
is_first s = eqb (edition_of s) first_edition

-- the units, d
abbrev pub units_of : List ℕ → ℕ
units_of s = byte_at s units_at

-- the records, r
abbrev pub records_of : List ℕ → ℕ
records_of s = u16_at s records_at

-- the number of the first record, 0 if there is no step
abbrev pub first_of : List ℕ → ℕ
first_of s = u16_at s first_at

-- the bound on switches
abbrev pub bound_of : List ℕ → ℕ
bound_of s = u16_at s bound_at

-- the bytes that are zero in the first edition
abbrev pub reserved_of : List ℕ → ℕ
reserved_of s = u32_at s chambers_at

-- the start set
abbrev pub start_of : List ℕ → ℕ
start_of s = u64_at s start_at

-- the numbers of units of the chambers: in the first edition, all units are in the first chamber
abbrev pub one_size : ℕ → ChamberSizes
one_size d = record { first = d; second = 0; third = 0; fourth = 0 }

abbrev pub four_sizes : List ℕ → ChamberSizes
four_sizes s = record { first = byte_at s chambers_at; second = byte_at s (chambers_at + 1); third = byte_at s (chambers_at + 2); fourth = byte_at s (chambers_at + 3) }

unfoldable pub sizes : List ℕ → ChamberSizes
sizes s = cond (is_first s) (one_size (units_of s)) (four_sizes s)

-- these as a list, and the chambers
abbrev pub sizes_list : ChamberSizes → List ℕ
sizes_list z = z.first ∷ z.second ∷ z.third ∷ z.fourth ∷ []

abbrev pub chambers_in : List ℕ → List Chamber
chambers_in s = chambers_of (sizes_list (sizes s))

abbrev pub header : List ℕ → Header
header s = record { units = units_of s; records = records_of s; bound = bound_of s; start = start_of s; sizes = sizes s }

-- ---- record j

-- the numbers of the chambers from a place on: in the first edition one, with zeros for the other chambers
abbrev pub numbers_at : Bool → List ℕ → ℕ → List ℕ
numbers_at true s at = byte_at s at ∷ 0 ∷ 0 ∷ 0 ∷ []
numbers_at false s at = byte_at s at ∷ byte_at s (at + 1) ∷ byte_at s (at + 2) ∷ byte_at s (at + 3) ∷ []

-- the step of a record that lies at a place
unfoldable pub step_in : Bool → List ℕ → ℕ → ChamberStep
step_in first s at =
    record {
      lower = u64_at s at;
      upper = u64_at s (at + upper_at);
      least = numbers_at first s (at + least_at);
      greatest = numbers_at first s (at + greatest_at first);
      tag = u32_at s (at + tag_at first);
      reserved = cond first 0 (u16_at s (at + reserved_at));
    }

-- the step that it holds
unfoldable pub step_of : List ℕ → ℕ → ChamberStep
step_of s j = step_in (is_first s) s (record_offset (is_first s) j)

-- the number that record j holds of the record after it, 0 if it is the last; for j = 0 the number of the first
-- record, which the header holds
unfoldable pub next_of : List ℕ → ℕ → ℕ
next_of s zero = first_of s
next_of s (suc j) = u16_at s (record_offset (is_first s) (suc j) + next_at (is_first s))

-- ---- a step

-- a step without its tag: what plans, and sizes, are about
abbrev pub limits_of : ChamberStep → ChamberLimits
limits_of x = record { lower = x.lower; upper = x.upper; least = x.least; greatest = x.greatest }
