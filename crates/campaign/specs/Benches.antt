-- The chambers of a sheet by their numbers, which count from 0, and what there is of each: its steps, its plan and its
-- chart.
use Rattle.std.specs.Prelude.{◌≡◌, Bool, List, ℕ, get_or, take}
use Rattle.std.proofs.lemmas.List.Edits.{sets}
use Rattle.chambers.specs.Chambers.{Chamber, chamber, dealt}
use Rattle.chambers.specs.Parts.{plan_of, total_of, chart_of}
use Rattle.format.specs.Format.{units_of, start_of, sizes, sizes_list}
use Rattle.plans.specs.Plans.{joined}
use Rattle.plans.specs.declared.Limits.{Limits}
use Rattle.promises.specs.Common.{limits_on, sized_in}

-- the units of each chamber, and the chamber number c
abbrev pub units_on : List ℕ → List ℕ
units_on s = dealt 0 (sizes_list (sizes s))

abbrev pub chamber_on : List ℕ → ℕ → Chamber
chamber_on s c = chamber c (get_or (units_on s) c 0)

-- The first n steps are those of a sheet in a chamber, unless that is empty: of an empty chamber nothing is decoded.
abbrev pub DecodedIn : List ℕ → ℕ → Chamber → List Limits → Type 0
DecodedIn s n c steps = (c.units ≡ 0 → ⊥) → take n steps ≡ sized_in s c

-- the plan of chamber number c, its total, and its chart
abbrev pub plan_on : List ℕ → ℕ → List ℕ
plan_on s c = plan_of (chamber_on s c) (start_of s) (limits_on s)

abbrev pub total_on : List ℕ → ℕ → ℕ
total_on s c = total_of (chamber_on s c) (start_of s) (limits_on s)

abbrev pub chart_on : Bool → List ℕ → ℕ → ℕ → List ℕ
chart_on on s slack c = chart_of on (units_of s) slack (start_of s) (limits_on s) (chamber_on s c)

-- an output with some words joined to its first n
abbrev pub joined_to : ℕ → List ℕ → List ℕ → List ℕ
joined_to n words out = sets out 0 (joined words (take n out))
