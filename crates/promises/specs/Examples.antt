-- Worked examples: what an entry replies on a sheet and leaves in the lent memory. One statement, `Holds` of every
-- row, is proved in proofs/Examples.antt from the definitions alone. specs/Writing.antt of `format` has the bytes of a
-- sheet, and its specs/Examples.antt what the reader says of sheets with every fault.
use Rattle.std.specs.Prelude.{ℕ, ◌≡◌, Bool, true, false, List, [], ◌∷◌, ◌++◌, set, replicate}
use Rattle.format.specs.declared.ChamberStep.{ChamberStep}
use Rattle.format.specs.declared.Step.{Step}
use Rattle.format.specs.Examples.{tagged, step, chambered, no_step, one_record, tags_and_unused, chamber_header, chamber_record, four, no_chamber_step, two_chambers, one_of_third, not_zero, spare_in_first, spare_in_second, spare_raised, spare_lowered}
use Rattle.format.specs.Writing.{sheet_of, widened}
use Rattle.promises.specs.declared.Reply.{Reply}
use Rattle.promises.specs.declared.StepsReply.{StepsReply}
use Rattle.promises.specs.declared.Written.{Written}
use Rattle.promises.specs.Common.{refused_reply, full_reply, refused_written, full_written}
use Rattle.promises.specs.Convert.{warm_convert}
use Rattle.promises.specs.Steps.{warm_steps}
use Rattle.promises.specs.Plan.{warm_plan}
use Rattle.promises.specs.Chart.{warm_chart}
use Rattle.promises.specs.Verdict.{warm_verdict}
use Rattle.promises.specs.Write.{warm_write}
use Rattle.promises.specs.Listing.{sizes_listing}

-- ---- sheets

-- Four runs (B1 to B4 and B10), with a bound and a start set: of three units, 0, 1, 2 and 0 must be on in the four
-- steps, and at most two may be.
abbrev pub four_runs : ℕ → ℕ → List ℕ
four_runs bound start = sheet_of 3 bound start (step 1 7 0 2 ∷ step 2 7 0 2 ∷ step 4 7 0 2 ∷ step 1 7 0 2 ∷ [])

-- Two units, bound 1, and one step in which just k of them must be on: one (B6), or three, which is more than there
-- are (B7).
abbrev pub just_some : ℕ → List ℕ
just_some k = sheet_of 2 1 0 (step 0 3 k k ∷ [])

-- Two units, of which just one must be on in the first step. Which it is depends on the start set and on what comes
-- after.
abbrev pub one_of_two : ℕ → List Step → List ℕ
one_of_two start after = sheet_of 2 2 start (step 0 3 1 1 ∷ after)

-- a later step of two units that asks for a lower set and allows an upper set
abbrev asks : ℕ → ℕ → Step
asks lower upper = step lower upper 0 2

-- Four units in chambers 1 and 3, two in each, with a bound and a start set, and two steps in which just one of each
-- chamber must be on. The chambers without a unit ask for none and would allow seven.
abbrev pub one_of_each : ℕ → ℕ → List ℕ
one_of_each bound start = chamber_header 4 2 1 bound (four 2 0 2 0) start ++ chamber_record each 2 ++ chamber_record each 0
  where
    each : ChamberStep
    each = chambered 0 15 (four 1 0 1 0) (four 1 7 1 7) 0 0

-- Three units, two in chamber 1 and one in chamber 3, which is full in the one step: its unit must be on. At most one
-- of the others may be.
abbrev pub full_chamber : List ℕ
full_chamber = chamber_header 3 1 1 3 (four 2 0 1 0) 0 ++ chamber_record (chambered 0 7 (four 0 0 1 0) (four 1 0 1 0) 0 0) 0

-- One unit in each of four chambers, and one step: the unit of chamber 2 must be on, and that of chamber 4 may not be.
abbrev pub four_chambers : List ℕ
four_chambers = chamber_header 4 1 1 4 (four 1 1 1 1) 0 ++ chamber_record (chambered 0 15 (four 0 1 0 0) (four 1 1 1 0) 0 0) 0

-- Four runs in edition 2, with a bound.
abbrev pub raised_runs : ℕ → List ℕ
raised_runs bound = chamber_header 3 4 1 bound (four 3 0 0 0) 0 ++ run 1 2 ++ run 2 3 ++ run 4 4 ++ run 1 0
  where
    run : ℕ → ℕ → List ℕ
    run lower next = chamber_record (chambered lower 7 (four 0 0 0 0) (four 2 0 0 0) 0 0) next

-- ---- the table

-- a call of an entry on a sheet, or on what a sheet is written from, and lent memory, with its reply and what the
-- memory holds afterwards; or the sizes of a sheet as text
pub data Example : Type 0 where
  steps : List ℕ → List ChamberStep → StepsReply → List ChamberStep → Example
  plan : List ℕ → List ℕ → Reply → List ℕ → Example
  chart : List ℕ → List ℕ → List ℕ → Reply → List ℕ → List ℕ → Example
  verdict : List ℕ → List ℕ → Reply → Example
  write : ℕ → ℕ → ℕ → List Step → List ℕ → Written → List ℕ → Example
  convert : Bool → List ℕ → List ℕ → Written → List ℕ → Example
  sizes : List ℕ → List ℕ → Example

abbrev pub Holds : Example → Type 0
Holds (steps s out reply after) = warm_steps s out ≡ (reply, after)
Holds (plan s out reply after) = warm_plan s out ≡ (reply, after)
Holds (chart s on off reply on-after off-after) = warm_chart s on off ≡ (reply, (on-after, off-after))
Holds (verdict s handed reply) = warm_verdict s handed ≡ reply
Holds (write d bound start xs out reply after) = warm_write d bound start xs out ≡ (reply, after)
Holds (convert first s out reply after) = warm_convert first s out ≡ (reply, after)
Holds (sizes s text) = sizes_listing s ≡ text

-- every row of a table holds
abbrev pub All : List Example → Type 0
All [] = Unit {0}
All (x ∷ xs) = Holds x × All xs

-- a refusal
abbrev refused_steps : ℕ → ℕ → StepsReply
refused_steps n p = record { refusal = n; place = p; units = 0; steps = 0; bound = 0; reserved = 0; start = 0; chambers = four 0 0 0 0 }

-- a place of a list, with what it holds before a call, and a step to be written
abbrev nine_step : ChamberStep
nine_step = chambered 9 9 (four 9 9 9 9) (four 9 9 9 9) 9 9

abbrev written_step : Step
written_step = tagged 9 9 9 9 9

-- outputs of three and of five places
abbrev three_nines : List ℕ
three_nines = 9 ∷ 9 ∷ 9 ∷ []

abbrev nines : List ℕ
nines = 9 ∷ 9 ∷ 9 ∷ 9 ∷ 9 ∷ []

-- the benches B1 to B10
unfoldable pub benches : List Example
benches =
    plan (four_runs 3 0) nines (full_reply 3 0) (1 ∷ 3 ∷ 5 ∷ 5 ∷ 9 ∷ [])
    ∷ plan (four_runs 2 0) nines (refused_reply 9 3) nines
    ∷ chart (four_runs 3 0) nines nines (full_reply 3 0) (3 ∷ 3 ∷ 5 ∷ 5 ∷ 9 ∷ []) (6 ∷ 4 ∷ 2 ∷ 6 ∷ 9 ∷ [])
    ∷ plan (four_runs 3 2) nines (full_reply 2 0) (3 ∷ 3 ∷ 5 ∷ 5 ∷ 9 ∷ [])
    ∷ plan no_step [] (full_reply 0 0) []
    ∷ plan (just_some 1) (9 ∷ []) (full_reply 1 0) (2 ∷ [])
    ∷ steps (just_some 3) (nine_step ∷ []) (refused_steps 7 1) (nine_step ∷ [])
    ∷ steps (one_record 1 1) (nine_step ∷ []) (refused_steps 5 1) (nine_step ∷ [])
    ∷ steps (one_record 2 0) [] (refused_steps 4 0) []
    ∷ verdict (four_runs 3 0) (1 ∷ 2 ∷ 4 ∷ 1 ∷ []) (full_reply 4 0)
    ∷ verdict (four_runs 4 0) (1 ∷ 2 ∷ 4 ∷ 1 ∷ []) (full_reply 4 1)
    ∷ []

-- The refusals that no bench has: 1, 2, 3 and 6 of the reader, one from each entry, and 8 and 10. Where an output is
-- too short and the bound too low, it is 8. And the steps of a sheet with tags, a chain that goes back and a record
-- off the chain.
unfoldable pub replies : List Example
replies =
    steps [] (nine_step ∷ []) (refused_steps 1 0) (nine_step ∷ [])
    ∷ plan (set no_step 4 3) nines (refused_reply 2 4) nines
    ∷ chart (no_step ++ (0 ∷ [])) nines three_nines (refused_reply 3 24) nines three_nines
    ∷ verdict (sheet_of 2 1 0 (step 0 3 0 1 ∷ step 0 4 0 1 ∷ [])) nines (refused_reply 6 2)
    ∷ steps tags_and_unused (nine_step ∷ []) (refused_steps 8 2) (nine_step ∷ [])
    ∷ plan (four_runs 2 0) three_nines (refused_reply 8 4) three_nines
    ∷ chart (four_runs 3 0) nines three_nines (refused_reply 8 4) nines three_nines
    ∷ chart (four_runs 3 0) three_nines nines (refused_reply 8 4) three_nines nines
    ∷ verdict (four_runs 3 0) three_nines (refused_reply 10 4)
    ∷ verdict (four_runs 3 0) nines (refused_reply 10 4)
    ∷ steps tags_and_unused (nine_step ∷ nine_step ∷ nine_step ∷ []) (record { refusal = 0; place = 0; units = 3; steps = 2; bound = 515; reserved = 0; start = 5; chambers = four 3 0 0 0 })
    (widened (tagged 2 3 1 2 4294967295) ∷ widened (tagged 1 7 0 2 67305985) ∷ nine_step ∷ [])
    ∷ []

-- Which plan it is, where several have the fewest switches. Both units wanted, in one step: the higher number joins,
-- and stays; in two steps: the earlier. One wanted: that one. None wanted, both banned in one step or never: the
-- higher number; banned in two steps or one of them never: the later. A unit banned before it is needed is not wanted,
-- nor is one that is never needed. A unit needed in this very step never leaves.
unfoldable pub choices : List Example
choices =
    plan (one_of_two 0 (asks 3 3 ∷ [])) (9 ∷ 9 ∷ []) (full_reply 2 0) (2 ∷ 3 ∷ [])
    ∷ plan (one_of_two 3 (asks 3 3 ∷ [])) (9 ∷ 9 ∷ []) (full_reply 1 0) (2 ∷ 3 ∷ [])
    ∷ plan (one_of_two 3 (asks 1 3 ∷ asks 3 3 ∷ [])) (9 ∷ 9 ∷ 9 ∷ []) (full_reply 1 0) (1 ∷ 1 ∷ 3 ∷ [])
    ∷ plan (one_of_two 3 (asks 1 3 ∷ [])) (9 ∷ 9 ∷ []) (full_reply 0 0) (1 ∷ 1 ∷ [])
    ∷ plan (one_of_two 0 (asks 0 0 ∷ [])) (9 ∷ 9 ∷ []) (full_reply 1 0) (2 ∷ 0 ∷ [])
    ∷ plan (one_of_two 3 (asks 0 0 ∷ [])) (9 ∷ 9 ∷ []) (full_reply 0 0) (2 ∷ 0 ∷ [])
    ∷ plan (one_of_two 0 []) (9 ∷ []) (full_reply 1 0) (2 ∷ [])
    ∷ plan (one_of_two 3 []) (9 ∷ []) (full_reply 0 0) (2 ∷ [])
    ∷ plan (one_of_two 3 (asks 0 1 ∷ asks 0 0 ∷ [])) (9 ∷ 9 ∷ 9 ∷ []) (full_reply 0 0) (1 ∷ 1 ∷ 0 ∷ [])
    ∷ plan (one_of_two 3 (asks 0 1 ∷ [])) (9 ∷ 9 ∷ []) (full_reply 0 0) (1 ∷ 1 ∷ [])
    ∷ plan (one_of_two 3 (asks 0 1 ∷ asks 2 3 ∷ [])) (9 ∷ 9 ∷ 9 ∷ []) (full_reply 1 0) (1 ∷ 1 ∷ 3 ∷ [])
    ∷ plan (sheet_of 3 1 6 (step 1 7 0 1 ∷ [])) (9 ∷ []) (full_reply 1 0) (1 ∷ [])
    ∷ []

-- Sheets written out byte by byte: two steps, of which the first has a byte of its own in each place of its numbers,
-- into an output with one place more; and no step. Then refusals 11 and 12: no unit, a unit too many, a start set with
-- a unit from d up, a step too many, and an output that is too short, by one byte or for the longest sheet. Where both
-- apply, it is 11.
unfoldable pub writings : List Example
writings =
    write 64 515 578437695752307201 (tagged 1735880461161533969 2893323226570760737 49 50 1414746705 ∷ tagged 0 0 0 0 4294967295 ∷ []) (replicate 73 9) (full_written 72)
    (87 ∷ 65 ∷ 82 ∷ 77 ∷ 1 ∷ 64 ∷ 2 ∷ 0 ∷ 1 ∷ 0 ∷ 3 ∷ 2 ∷ 0 ∷ 0 ∷ 0 ∷ 0 ∷ 1 ∷ 2 ∷ 3 ∷ 4 ∷ 5 ∷ 6 ∷ 7 ∷ 8
    ∷ 17 ∷ 18 ∷ 19 ∷ 20 ∷ 21 ∷ 22 ∷ 23 ∷ 24 ∷ 33 ∷ 34 ∷ 35 ∷ 36 ∷ 37 ∷ 38 ∷ 39 ∷ 40 ∷ 49 ∷ 50 ∷ 2 ∷ 0 ∷ 81 ∷ 82 ∷ 83 ∷ 84
    ∷ 0 ∷ 0 ∷ 0 ∷ 0 ∷ 0 ∷ 0 ∷ 0 ∷ 0 ∷ 0 ∷ 0 ∷ 0 ∷ 0 ∷ 0 ∷ 0 ∷ 0 ∷ 0 ∷ 0 ∷ 0 ∷ 0 ∷ 0 ∷ 255 ∷ 255 ∷ 255 ∷ 255 ∷ 9 ∷ [])
    ∷ write 1 0 0 [] (replicate 24 9) (full_written 24)
    (87 ∷ 65 ∷ 82 ∷ 77 ∷ 1 ∷ 1 ∷ 0 ∷ 0 ∷ 0 ∷ 0 ∷ 0 ∷ 0 ∷ 0 ∷ 0 ∷ 0 ∷ 0 ∷ 0 ∷ 0 ∷ 0 ∷ 0 ∷ 0 ∷ 0 ∷ 0 ∷ 0 ∷ [])
    ∷ write 0 0 0 [] (replicate 24 9) (refused_written 11 0) (replicate 24 9)
    ∷ write 65 0 0 [] (replicate 24 9) (refused_written 11 0) (replicate 24 9)
    ∷ write 1 0 2 [] (replicate 24 9) (refused_written 11 0) (replicate 24 9)
    ∷ write 1 0 0 (replicate 257 written_step) nines (refused_written 11 0) nines
    ∷ write 1 0 0 (replicate 256 written_step) nines (refused_written 12 6168) nines
    ∷ write 1 0 0 [] (replicate 23 9) (refused_written 12 24) (replicate 23 9)
    ∷ []

-- The sizes of steps as text. Four runs with a bound that is too small: "1 1 2", "2 1 2", "3 1 2", "4 1 2". Sizes of
-- two digits: 10 of twelve units at least, and as many as there are. One size, and no unit: "1 1 1", "1 0 0". No step:
-- no line. A step without a feasible set: "refused 7 1".
unfoldable pub sizings : List Example
sizings =
    sizes (four_runs 2 0) (49 ∷ 32 ∷ 49 ∷ 32 ∷ 50 ∷ 10 ∷ 50 ∷ 32 ∷ 49 ∷ 32 ∷ 50 ∷ 10 ∷ 51 ∷ 32 ∷ 49 ∷ 32 ∷ 50 ∷ 10 ∷ 52 ∷ 32 ∷ 49 ∷ 32 ∷ 50 ∷ 10 ∷ [])
    ∷ sizes (sheet_of 12 0 0 (step 0 4095 10 255 ∷ [])) (49 ∷ 32 ∷ 49 ∷ 48 ∷ 32 ∷ 49 ∷ 50 ∷ 10 ∷ [])
    ∷ sizes (just_some 1) (49 ∷ 32 ∷ 49 ∷ 32 ∷ 49 ∷ 10 ∷ [])
    ∷ sizes (sheet_of 1 0 0 (step 0 0 0 255 ∷ [])) (49 ∷ 32 ∷ 48 ∷ 32 ∷ 48 ∷ 10 ∷ [])
    ∷ sizes no_step []
    ∷ sizes (just_some 255) (114 ∷ 101 ∷ 102 ∷ 117 ∷ 115 ∷ 101 ∷ 100 ∷ 32 ∷ 55 ∷ 32 ∷ 49 ∷ 10 ∷ [])
    ∷ []

-- Four runs with all units on at the start, so that loading the first step makes no switch: the plan's only switch is
-- in step 3, and with a bound of 0 plan and chart are refused for that one. Without a step there is none.
unfoldable pub loadings : List Example
loadings =
    plan (four_runs 3 7) nines (full_reply 1 0) (3 ∷ 3 ∷ 5 ∷ 5 ∷ 9 ∷ [])
    ∷ plan (four_runs 0 7) nines (refused_reply 9 1) nines
    ∷ chart (four_runs 0 7) nines nines (refused_reply 9 1) nines nines
    ∷ plan (sheet_of 3 0 7 []) nines (full_reply 0 0) nines
    ∷ []

-- Sheets of edition 2. Their steps, with four numbers each. One unit of each chamber: in each, the higher number, and
-- the whole total is bounded. With units 0 and 2 on at the start and nothing to spare, these stay; with one switch to
-- spare either chamber may use it, and so each unit can be on and off; but not both chambers, as the verdict says. Two
-- of one chamber and none of the other are not feasible. A full chamber: its unit cannot be off. Four chambers, of
-- which each has numbers of its own. The sizes of the full one: "1 1 2". Then refusals 13 and 14.
unfoldable pub chamberings : List Example
chamberings =
    steps (two_chambers one_of_third one_of_third) (nine_step ∷ nine_step ∷ nine_step ∷ [])
    (record { refusal = 0; place = 0; units = 3; steps = 2; bound = 515; reserved = 0; start = 5; chambers = four 1 0 2 0 }) (one_of_third ∷ one_of_third ∷ nine_step ∷ [])
    ∷ plan (one_of_each 2 0) three_nines (full_reply 2 0) (10 ∷ 10 ∷ 9 ∷ [])
    ∷ plan (one_of_each 1 0) three_nines (refused_reply 9 2) three_nines
    ∷ chart (one_of_each 0 5) three_nines three_nines (full_reply 0 0) (5 ∷ 5 ∷ 9 ∷ []) (10 ∷ 10 ∷ 9 ∷ [])
    ∷ chart (one_of_each 1 5) three_nines three_nines (full_reply 0 0) (15 ∷ 15 ∷ 9 ∷ []) (15 ∷ 15 ∷ 9 ∷ [])
    ∷ verdict (one_of_each 1 5) (10 ∷ 10 ∷ []) (full_reply 2 0)
    ∷ verdict (one_of_each 2 5) (10 ∷ 10 ∷ []) (full_reply 2 1)
    ∷ verdict (one_of_each 2 5) (3 ∷ 3 ∷ []) (full_reply 1 0)
    ∷ plan full_chamber (9 ∷ []) (full_reply 1 0) (4 ∷ [])
    ∷ chart full_chamber (9 ∷ []) (9 ∷ []) (full_reply 1 0) (7 ∷ []) (3 ∷ [])
    ∷ plan four_chambers (9 ∷ []) (full_reply 1 0) (2 ∷ [])
    ∷ chart four_chambers (9 ∷ []) (9 ∷ []) (full_reply 1 0) (7 ∷ []) (13 ∷ [])
    ∷ sizes full_chamber (49 ∷ 32 ∷ 49 ∷ 32 ∷ 50 ∷ 10 ∷ [])
    ∷ plan (no_chamber_step 2 (four 1 0 0 0)) nines (refused_reply 13 12) nines
    ∷ chart (two_chambers one_of_third not_zero) nines three_nines (refused_reply 14 2) nines three_nines
    ∷ []

-- Sheets in the other edition, into outputs with one place more: going up, and going down. Four runs in edition 2,
-- whatever the bound, and a sheet without a step. Sheets of the wanted edition are copied, also with units in several
-- chambers. Then refusals: of the reader, 14 before 15, 15 before 8, and 8 for outputs that are one byte too short,
-- whichever way. Plan and chart of Four runs in edition 2 are those of the benches.
unfoldable pub conversions : List Example
conversions =
    convert false spare_in_first (replicate 121 9) (full_written 120) (spare_raised ++ (9 ∷ []))
    ∷ convert true spare_in_second (replicate 97 9) (full_written 96) (spare_lowered ++ (9 ∷ []))
    ∷ convert false (four_runs 2 0) (replicate 152 9) (full_written 152) (raised_runs 2)
    ∷ convert true (raised_runs 2) (replicate 120 9) (full_written 120) (four_runs 2 0)
    ∷ convert false no_step (replicate 24 9) (full_written 24) (no_chamber_step 1 (four 1 0 0 0))
    ∷ convert true spare_in_first (replicate 96 9) (full_written 96) spare_in_first
    ∷ convert false (two_chambers one_of_third one_of_third) (replicate 120 9) (full_written 120) (two_chambers one_of_third one_of_third)
    ∷ convert false (one_record 1 1) nines (refused_written 5 1) nines
    ∷ convert true (two_chambers one_of_third not_zero) nines (refused_written 14 2) nines
    ∷ convert true (two_chambers one_of_third one_of_third) nines (refused_written 15 12) nines
    ∷ convert false spare_in_first (replicate 119 9) (refused_written 8 120) (replicate 119 9)
    ∷ convert true spare_in_second (replicate 95 9) (refused_written 8 96) (replicate 95 9)
    ∷ convert true spare_in_first (replicate 95 9) (refused_written 8 96) (replicate 95 9)
    ∷ plan (raised_runs 3) nines (full_reply 3 0) (1 ∷ 3 ∷ 5 ∷ 5 ∷ 9 ∷ [])
    ∷ plan (raised_runs 2) nines (refused_reply 9 3) nines
    ∷ chart (raised_runs 3) nines nines (full_reply 3 0) (3 ∷ 3 ∷ 5 ∷ 5 ∷ 9 ∷ []) (6 ∷ 4 ∷ 2 ∷ 6 ∷ 9 ∷ [])
    ∷ []
