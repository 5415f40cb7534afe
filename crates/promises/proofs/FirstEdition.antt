-- Request Six: chambers. The definitions and theorems are on sheets of both editions, with up to four chambers. A
-- sheet of edition 1 is the case of one chamber: its feasible plans, fewest switches, plan, chart and sizes are
-- those of the definitions without chambers (`OneChamber` in specs/Statements.antt).
use mathlib.Core.Path.{◌≡◌}
use mathlib.Core.Bool.{true}
use mathlib.Core.List.{List}
use Prim.Native.Nat.{ℕ}
use Rattle.format.specs.Format.{is_first}
use Rattle.promises.specs.Statements.{Passes, OneChamber}
use Rattle.promises.proofs.Single.{first_is_single, single}

-- What is promised of a sheet with chambers is promised of a sheet of edition 1 as of one chamber: what is said of its
-- plans is what is said without chambers.
pub edition_1_is_one_chamber : (s : List ℕ) → Passes s → is_first s ≡ true → OneChamber s
edition_1_is_one_chamber s ok first = single s ok (first_is_single s first)
