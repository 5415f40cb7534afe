-- What a bench with chambers is in parts: a chamber's words of a list, its total, and its chart. And a bench with one
-- chamber, with a step of it.
use Rattle.std.specs.Prelude.{ℕ, ◌+◌, Bool, List, [], ◌∷◌, map, get_or}
use Rattle.units.specs.Sets.{intersection}
use Rattle.plans.specs.declared.Limits.{Limits}
use Rattle.plans.specs.Plans.{allows, can_be}
use Rattle.plans.specs.Steps.{limits}
use Rattle.plans.specs.Support.{tie_order}
use Rattle.plans.specs.Switch.{total}
use Rattle.chambers.specs.Chambers.{Chamber, ChamberLimits, chambers_of, parts_of, support_of}

-- ---- one chamber of a bench

-- what the words of a list have of the units of m
abbrev pub cut : ℕ → List ℕ → List ℕ
cut m p = map (λ x. intersection x m) p

-- the plan that is handed out for a chamber, and its switches
abbrev pub plan_of : Chamber → ℕ → List ChamberLimits → List ℕ
plan_of c start ss = support_of (λ i. tie_order) c start ss

abbrev pub total_of : Chamber → ℕ → List ChamberLimits → ℕ
total_of c start ss = total (intersection start c.units) (plan_of c start ss)

-- the switches in all chambers
unfoldable pub sum_of : List Chamber → ℕ → List ChamberLimits → ℕ
sum_of [] start ss = 0
sum_of (c ∷ cs) start ss = total_of c start ss + sum_of cs start ss

-- the chart of a chamber, over the plans of it that make at most `slack` switches more than the one handed out: its
-- units that can be on in each step, or those that can be off
abbrev pub chart_of : Bool → ℕ → ℕ → ℕ → List ChamberLimits → Chamber → List ℕ
chart_of on d slack start ss c =
    cut c.units (can_be allows on d (total_of c start ss + slack) (intersection start c.units) (parts_of c ss))

-- ---- a bench with one chamber

-- all d units are in the first of four chambers
abbrev pub one_chamber : ℕ → List Chamber
one_chamber d = chambers_of (d ∷ 0 ∷ 0 ∷ 0 ∷ [])

-- a step of such a bench, without chambers: its numbers are those of the first
abbrev pub without_chambers : ChamberLimits → Limits
without_chambers s = limits s.lower s.upper (get_or s.least 0 0) (get_or s.greatest 0 0)

-- and the other way round, with zeros for the other chambers
abbrev pub widened : Limits → ChamberLimits
widened s = record { lower = s.lower; upper = s.upper; least = s.least ∷ 0 ∷ 0 ∷ 0 ∷ []; greatest = s.greatest ∷ 0 ∷ 0 ∷ 0 ∷ [] }
