-- Worked examples of the reader: sheets written out, and what the reader says of each, either one refusal with its
-- place or the campaign; and sheets in the other edition. One statement, `All` of the tables, is proved in
-- proofs/Examples.antt from the definitions alone. The theorems do not say which byte a tag begins at or which place a
-- refusal has; these rows do.
use Rattle.std.specs.Prelude.{ℕ, ◌≡◌, Bool, true, false, List, [], ◌∷◌, ◌++◌, replicate, set, take}
use Rattle.format.specs.declared.ChamberStep.{ChamberStep}
use Rattle.format.specs.declared.Step.{Step}
use Rattle.format.specs.Answer.{Answer, Refused, Given}
use Rattle.format.specs.Editions.{in_edition}
use Rattle.format.specs.Format.{letters}
use Rattle.format.specs.Numbers.{bytes_of}
use Rattle.format.specs.Reading.{Campaign, campaign_read}
use Rattle.format.specs.Writing.{header_bytes, record_bytes, sheet_of, numbers_from, widened}

-- ---- steps

-- a step: its lower and upper set, its least and greatest number and its tag, and one with tag 0
abbrev pub tagged : ℕ → ℕ → ℕ → ℕ → ℕ → Step
tagged l u m g t = record { lower = l; upper = u; least = m; greatest = g; tag = t }

abbrev pub step : ℕ → ℕ → ℕ → ℕ → Step
step l u m g = tagged l u m g 0

-- a step of edition 2: its lower and upper set, the four least and the four greatest numbers, the bytes that are zero,
-- and its tag
abbrev pub chambered : ℕ → ℕ → List ℕ → List ℕ → ℕ → ℕ → ChamberStep
chambered l u ms gs z t = record { lower = l; upper = u; least = ms; greatest = gs; tag = t; reserved = z }

-- ---- sheets

-- one unit and no step (B5)
abbrev pub no_step : List ℕ
no_step = sheet_of 1 0 0 []

-- one unit and one record, with these numbers of the first record, in the header, and of the next, in the record: with
-- 1 and 1 the record names itself (B8), and with 2 and 0 the first record is not there (B9)
abbrev pub one_record : ℕ → ℕ → List ℕ
one_record first next = header_bytes 1 1 first 0 0 ++ record_bytes (step 0 1 0 1) next

-- one unit, and chains out of record order: 2, 1, and from there out of the two records; and 2, 3, 1, and from there
-- back to 3. What refusals 4 and 5 name as their place is record 1, which holds the link.
abbrev pub out_of_order : List ℕ
out_of_order = header_bytes 1 2 2 0 0 ++ record_bytes (step 0 1 0 1) 3 ++ record_bytes (step 0 1 0 1) 1

abbrev pub back_again : List ℕ
back_again = header_bytes 1 3 2 0 0 ++ record_bytes (step 0 1 0 1) 3 ++ record_bytes (step 0 1 0 1) 3 ++ record_bytes (step 0 1 0 1) 1

-- two steps with tags, the first of them in record 2 and the last in record 1; record 3 is unused
abbrev pub tags_and_unused : List ℕ
tags_and_unused = header_bytes 3 3 2 515 5 ++ record_bytes (tagged 1 7 0 2 67305985) 0 ++ record_bytes (tagged 2 3 1 2 4294967295) 1 ++ replicate 24 255

-- two units, and two steps that allow at most one of them to be on, but for a fault that a step may have: a unit that
-- is not there, or no feasible set
abbrev sound : Step
sound = step 0 3 0 1

abbrev foreign : Step
foreign = step 0 4 0 1

abbrev infeasible : Step
infeasible = step 3 3 0 1

abbrev foreign_and_infeasible : Step
foreign_and_infeasible = step 0 4 2 2

abbrev pair : Step → Step → List ℕ
pair x y = sheet_of 2 1 0 (x ∷ y ∷ [])

-- ---- sheets of edition 2

-- a header of d units and r records, with the number of the first record, the bound, the four numbers of units and the
-- start set
unfoldable pub chamber_header : ℕ → ℕ → ℕ → ℕ → List ℕ → ℕ → List ℕ
chamber_header d r first bound sizes start =
    letters ++ (2 ∷ d ∷ []) ++ bytes_of 2 r ++ bytes_of 2 first ++ bytes_of 2 bound ++ sizes ++ bytes_of 8 start

-- a record: its step, and the number of the record after it
unfoldable pub chamber_record : ChamberStep → ℕ → List ℕ
chamber_record x next =
    bytes_of 8 x.lower ++ bytes_of 8 x.upper ++ x.least ++ x.greatest ++ bytes_of 2 next ++ bytes_of 2 x.reserved ++ bytes_of 4 x.tag

-- four numbers
abbrev pub four : ℕ → ℕ → ℕ → ℕ → List ℕ
four a b c d = a ∷ b ∷ c ∷ d ∷ []

-- no step, d units and these numbers of units
abbrev pub no_chamber_step : ℕ → List ℕ → List ℕ
no_chamber_step d sizes = chamber_header d 0 0 0 sizes 0

-- three units, the first of them in chamber 1 and the others in chamber 3, and two steps, of which the second lies in
-- record 1
abbrev pub two_chambers : ChamberStep → ChamberStep → List ℕ
two_chambers x y = chamber_header 3 3 2 515 (four 1 0 2 0) 5 ++ chamber_record y 0 ++ chamber_record x 1 ++ replicate 32 255

-- A step that asks for one unit of chamber 3, with a byte of its own in each place of its numbers that plays no part.
-- The faults that such a step may have: bytes that are not zero, a unit that is not there, a unit asked for in a
-- chamber that has none, and two units in a chamber of one.
abbrev pub one_of_third : ChamberStep
one_of_third = chambered 1 7 (four 0 0 1 0) (four 9 17 1 34) 0 67305985

abbrev pub not_zero : ChamberStep
not_zero = chambered 1 7 (four 0 0 1 0) (four 9 17 1 34) 256 0

abbrev beyond : ℕ → ChamberStep
beyond z = chambered 1 15 (four 0 0 1 0) (four 9 17 1 34) z 0

abbrev of_none : ChamberStep
of_none = chambered 1 7 (four 0 0 1 1) (four 9 17 1 34) 0 0

abbrev two_of_one : ChamberStep
two_of_one = chambered 0 7 (four 2 0 0 0) (four 3 0 2 0) 0 0

-- ---- the table

-- a sheet, and what the reader says of it
pub record Example : Type 0 where
  pub sheet : List ℕ
  pub says : Answer Campaign

-- every row of a table holds
abbrev pub All : List Example → Type 0
All [] = Unit {0}
All (x ∷ xs) = (campaign_read x.sheet ≡ x.says) × All xs

abbrev row : List ℕ → Answer Campaign → Example
row s a = record { sheet = s; says = a }

-- each refusal of the reader, with each of its places
unfoldable pub faults : List Example
faults =
    row (take 23 no_step) (Refused 1 0)
    ∷ row (replicate 8217 0) (Refused 1 0)
    ∷ row (set no_step 1 78) (Refused 2 0)
    ∷ row (set no_step 2 78) (Refused 2 0)
    ∷ row (set no_step 3 78) (Refused 2 0)
    ∷ row (set no_step 4 0) (Refused 2 4)
    ∷ row (set no_step 4 3) (Refused 2 4)
    ∷ row (set no_step 5 0) (Refused 3 5)
    ∷ row (set no_step 5 65) (Refused 3 5)
    ∷ row (header_bytes 1 257 0 0 0) (Refused 3 6)
    ∷ row (set no_step 12 1) (Refused 3 12)
    ∷ row (set no_step 15 1) (Refused 3 12)
    ∷ row (header_bytes 1 0 0 0 2) (Refused 3 16)
    ∷ row (no_step ++ (0 ∷ [])) (Refused 3 24)
    ∷ row (take 47 (one_record 1 0)) (Refused 3 24)
    ∷ row (one_record 2 0) (Refused 4 0)
    ∷ row (one_record 1 2) (Refused 4 1)
    ∷ row out_of_order (Refused 4 1)
    ∷ row (one_record 1 1) (Refused 5 1)
    ∷ row back_again (Refused 5 1)
    ∷ row (pair sound foreign) (Refused 6 2)
    ∷ row (pair sound infeasible) (Refused 7 2)
    ∷ row (no_chamber_step 2 (four 1 0 0 0)) (Refused 13 12)
    ∷ row (no_chamber_step 1 (four 255 2 0 0)) (Refused 13 12)
    ∷ row (no_chamber_step 3 (four 1 1 1 0) ++ (0 ∷ [])) (Refused 3 24)
    ∷ row (two_chambers one_of_third not_zero) (Refused 14 2)
    ∷ row (two_chambers one_of_third (beyond 0)) (Refused 6 2)
    ∷ row (two_chambers one_of_third of_none) (Refused 7 2)
    ∷ row (two_chambers one_of_third two_of_one) (Refused 7 2)
    ∷ []

-- two faults at once: the one that is checked first
unfoldable pub pairs_of_faults : List Example
pairs_of_faults =
    row (set (take 23 no_step) 0 0) (Refused 1 0)
    ∷ row (set (set no_step 0 0) 4 3) (Refused 2 0)
    ∷ row (set (set no_step 4 3) 5 0) (Refused 2 4)
    ∷ row (header_bytes 0 257 0 0 0) (Refused 3 5)
    ∷ row (set (header_bytes 1 257 0 0 0) 12 1) (Refused 3 6)
    ∷ row (set (header_bytes 1 0 0 0 2) 12 1) (Refused 3 12)
    ∷ row (header_bytes 1 0 0 0 2 ++ (0 ∷ [])) (Refused 3 16)
    ∷ row (header_bytes 1 0 2 0 0 ++ (0 ∷ [])) (Refused 3 24)
    ∷ row (header_bytes 1 1 1 0 0 ++ record_bytes foreign 2) (Refused 4 1)
    ∷ row (header_bytes 1 1 1 0 0 ++ record_bytes foreign 1) (Refused 5 1)
    ∷ row (pair foreign_and_infeasible sound) (Refused 6 1)
    ∷ row (pair infeasible foreign) (Refused 7 1)
    ∷ row (chamber_header 1 257 0 0 (four 0 0 0 0) 0) (Refused 3 6)
    ∷ row (chamber_header 1 0 0 0 (four 0 0 0 0) 2) (Refused 13 12)
    ∷ row (chamber_header 1 1 1 0 (four 1 0 0 0) 0 ++ chamber_record not_zero 2) (Refused 4 1)
    ∷ row (two_chambers (beyond 1) one_of_third) (Refused 14 1)
    ∷ row (two_chambers (beyond 0) not_zero) (Refused 6 1)
    ∷ []

-- Sheets without a fault. Of edition 1 they are read as having one chamber; two have the most units, and the most
-- records, and with a byte more the length is wrong. Of edition 2: steps with four numbers each, an unused record
-- whose bytes are not zero, and the most records.
unfoldable pub campaigns : List Example
campaigns =
    row no_step (Given (record { units = 1; bound = 0; start = 0; chambers = four 1 0 0 0; steps = [] }))
    ∷ row tags_and_unused
    (Given (record { units = 3; bound = 515; start = 5; chambers = four 3 0 0 0; steps = widened (tagged 2 3 1 2 4294967295) ∷ widened (tagged 1 7 0 2 67305985) ∷ [] }))
    ∷ row (set no_step 5 64) (Given (record { units = 64; bound = 0; start = 0; chambers = four 64 0 0 0; steps = [] }))
    ∷ row (header_bytes 1 256 0 0 0 ++ replicate 6144 0) (Given (record { units = 1; bound = 0; start = 0; chambers = four 1 0 0 0; steps = [] }))
    ∷ row (header_bytes 1 256 0 0 0 ++ replicate 6145 0) (Refused 3 24)
    ∷ row (two_chambers one_of_third (chambered 6 7 (four 0 0 1 0) (four 1 2 3 4) 0 4294967295))
    (Given (record { units = 3; bound = 515; start = 5; chambers = four 1 0 2 0; steps = one_of_third ∷ chambered 6 7 (four 0 0 1 0) (four 1 2 3 4) 0 4294967295 ∷ [] }))
    ∷ row (chamber_header 1 256 0 0 (four 0 0 0 1) 0 ++ replicate 8192 0) (Given (record { units = 1; bound = 0; start = 0; chambers = four 0 0 0 1; steps = [] }))
    ∷ []

-- ---- sheets in the other edition

-- Three units in one chamber, and three records, of which the second is the first step, the first is the second and
-- last, and the third, with a byte of its own in each place, is unused: in edition 1, and in edition 2, where the
-- steps also have greatest numbers for chambers that have no unit.
abbrev pub spare_in_first : List ℕ
spare_in_first = header_bytes 3 3 2 515 5 ++ record_bytes (tagged 1 7 0 2 67305985) 0 ++ record_bytes (tagged 2 3 1 2 4294967295) 1 ++ numbers_from 101 24

abbrev pub spare_in_second : List ℕ
spare_in_second =
    chamber_header 3 3 2 515 (four 3 0 0 0) 5 ++ chamber_record (chambered 1 7 (four 0 0 0 0) (four 2 17 34 51) 0 67305985) 0
    ++ chamber_record (chambered 2 3 (four 1 0 0 0) (four 2 0 0 255) 0 4294967295) 1 ++ numbers_from 101 32

-- and these in the other edition, byte by byte
abbrev pub spare_raised : List ℕ
spare_raised =
    87 ∷ 65 ∷ 82 ∷ 77 ∷ 2 ∷ 3 ∷ 3 ∷ 0 ∷ 2 ∷ 0 ∷ 3 ∷ 2 ∷ 3 ∷ 0 ∷ 0 ∷ 0 ∷ 5 ∷ 0 ∷ 0 ∷ 0 ∷ 0 ∷ 0 ∷ 0 ∷ 0
    ∷ 1 ∷ 0 ∷ 0 ∷ 0 ∷ 0 ∷ 0 ∷ 0 ∷ 0 ∷ 7 ∷ 0 ∷ 0 ∷ 0 ∷ 0 ∷ 0 ∷ 0 ∷ 0 ∷ 0 ∷ 0 ∷ 0 ∷ 0 ∷ 2 ∷ 0 ∷ 0 ∷ 0 ∷ 0 ∷ 0 ∷ 0 ∷ 0 ∷ 1 ∷ 2 ∷ 3 ∷ 4
    ∷ 2 ∷ 0 ∷ 0 ∷ 0 ∷ 0 ∷ 0 ∷ 0 ∷ 0 ∷ 3 ∷ 0 ∷ 0 ∷ 0 ∷ 0 ∷ 0 ∷ 0 ∷ 0 ∷ 1 ∷ 0 ∷ 0 ∷ 0 ∷ 2 ∷ 0 ∷ 0 ∷ 0 ∷ 1 ∷ 0 ∷ 0 ∷ 0 ∷ 255 ∷ 255 ∷ 255 ∷ 255
    ∷ 101 ∷ 102 ∷ 103 ∷ 104 ∷ 105 ∷ 106 ∷ 107 ∷ 108 ∷ 109 ∷ 110 ∷ 111 ∷ 112 ∷ 113 ∷ 114 ∷ 115 ∷ 116 ∷ 117 ∷ 0 ∷ 0 ∷ 0 ∷ 118 ∷ 0 ∷ 0 ∷ 0 ∷ 119 ∷ 120 ∷ 0 ∷ 0 ∷ 121 ∷ 122 ∷ 123 ∷ 124 ∷ []

abbrev pub spare_lowered : List ℕ
spare_lowered =
    87 ∷ 65 ∷ 82 ∷ 77 ∷ 1 ∷ 3 ∷ 3 ∷ 0 ∷ 2 ∷ 0 ∷ 3 ∷ 2 ∷ 0 ∷ 0 ∷ 0 ∷ 0 ∷ 5 ∷ 0 ∷ 0 ∷ 0 ∷ 0 ∷ 0 ∷ 0 ∷ 0
    ∷ 1 ∷ 0 ∷ 0 ∷ 0 ∷ 0 ∷ 0 ∷ 0 ∷ 0 ∷ 7 ∷ 0 ∷ 0 ∷ 0 ∷ 0 ∷ 0 ∷ 0 ∷ 0 ∷ 0 ∷ 2 ∷ 0 ∷ 0 ∷ 1 ∷ 2 ∷ 3 ∷ 4
    ∷ 2 ∷ 0 ∷ 0 ∷ 0 ∷ 0 ∷ 0 ∷ 0 ∷ 0 ∷ 3 ∷ 0 ∷ 0 ∷ 0 ∷ 0 ∷ 0 ∷ 0 ∷ 0 ∷ 1 ∷ 2 ∷ 1 ∷ 0 ∷ 255 ∷ 255 ∷ 255 ∷ 255
    ∷ 101 ∷ 102 ∷ 103 ∷ 104 ∷ 105 ∷ 106 ∷ 107 ∷ 108 ∷ 109 ∷ 110 ∷ 111 ∷ 112 ∷ 113 ∷ 114 ∷ 115 ∷ 116 ∷ 117 ∷ 121 ∷ 125 ∷ 126 ∷ 129 ∷ 130 ∷ 131 ∷ 132 ∷ []

-- whether the first edition is wanted, a sheet, and the sheet in that edition
pub record Conversion : Type 0 where
  pub first : Bool
  pub sheet : List ℕ
  pub gives : List ℕ

abbrev pub AllConverted : List Conversion → Type 0
AllConverted [] = Unit {0}
AllConverted (x ∷ xs) = (in_edition x.first x.sheet ≡ x.gives) × AllConverted xs

abbrev conversion : Bool → List ℕ → List ℕ → Conversion
conversion first s t = record { first = first; sheet = s; gives = t }

-- up and down; down again what was taken up; and sheets that are of the wanted edition already
unfoldable pub conversions : List Conversion
conversions =
    conversion false spare_in_first spare_raised
    ∷ conversion true spare_in_second spare_lowered
    ∷ conversion true spare_raised spare_in_first
    ∷ conversion true spare_in_first spare_in_first
    ∷ conversion false spare_in_second spare_in_second
    ∷ []
