-- Laws on the chart of a sheet that was read: it has a word for each step, and its cells say what plans that meet the
-- sheet do.
use mathlib.Core.Path.{◌≡◌, ◌∙◌}
use mathlib.Core.Logic.{◌↔◌}
use mathlib.Core.Bool.{Bool, cond}
use mathlib.Core.List.{List}
use Prim.Native.Nat.{ℕ, ◌≤◌, ◌<◌}
use native.Mathlib.Omega.{arith}
use lib.ListN.{length, length-map, get_or}
use Rattle.units.specs.Sets.{bit}
use Rattle.plans.specs.Plans.{can_be}
use Rattle.plans.proofs.Cells.{count, any_cell, any_beyond}
use Rattle.plans.proofs.AllPlans.{Low}
use Rattle.chambers.specs.Chambers.{Fits}
use Rattle.chambers.proofs.Bench.{fits_exactly, bench_low}
use Rattle.format.specs.declared.Summary.{Summary}
use Rattle.format.specs.Answer.{Given}
use Rattle.format.specs.Format.{limits_of, units_of, bound_of, start_of, chambers_in}
use Rattle.format.specs.Reading.{steps_of}
use Rattle.format.specs.Stages.{summary_read}
use Rattle.promises.specs.Common.{limits_on, fits_on}
use Rattle.promises.specs.Statements.{SomePlanHas}
use Rattle.promises.proofs.Read.{bench}

module _ (s : List ℕ) where
  -- the units that can be on in each step, or those that can be off
  abbrev pub words_of : Bool → List ℕ
  words_of on = can_be (fits_on s) on (units_of s) (bound_of s) (start_of s) (limits_on s)

  pub words_length : (on : Bool) → length (words_of on) ≡ length (steps_of s)
  words_length on = count (fits_on s) (Fits (chambers_in s)) (fits_exactly (chambers_in s)) (units_of s) (bound_of s) (start_of s) (limits_on s) on ∙ length-map (steps_of s) limits_of

  module _ {x : Summary} (e : summary_read s ≡ Given x) (i u : ℕ) (l : i < length (steps_of s)) (on : Bool) where
    among : i < length (limits_on s)
    among = omega (arith, length-map (steps_of s) limits_of)

    low : Low (Fits (chambers_in s)) (units_of s) (limits_on s)
    low = bench_low (chambers_in s) (units_of s) (limits_on s) (bench s e).sound

    pub words_cells : u < units_of s → (bit (get_or (words_of on) i 0) u ≡ 1) ↔ SomePlanHas s i u (cond on 1 0)
    words_cells k =
        let c = any_cell (fits_on s) (Fits (chambers_in s)) (fits_exactly (chambers_in s)) (units_of s) (bound_of s) (start_of s) (limits_on s) i u among low on k in
        (λ h. let (p, (f, (b, o))) = c.0 h in (p, ((f, b), o)), λ (p, ((f, b), o)). c.1 (p, (f, (b, o))))

    pub no_others_lem : units_of s ≤ u → bit (get_or (words_of on) i 0) u ≡ 0
    no_others_lem k = any_beyond (fits_on s) (Fits (chambers_in s)) (fits_exactly (chambers_in s)) (units_of s) (bound_of s) (start_of s) (limits_on s) i u among low on k
