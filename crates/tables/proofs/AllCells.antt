-- A worked campaign, computed from the definitions: the words that the tables give, and those that all plans give.
use mathlib.Core.Path.{◌≡◌, refl}
use mathlib.Core.List.{List, [], ◌∷◌}
use Prim.Native.Nat.{ℕ, ◌+◌}
use lib.Count.{ones, ones_in}
use Rattle.units.specs.Sets.{bit, union, intersection, difference, meets, contains, insert, remove, is_subset, size, units_below}
use Rattle.plans.specs.declared.Limits.{Limits}
use Rattle.plans.specs.Plans.{select, below, allows, prefixed, plans_of, plans_within, joined, joined_all, can_be_on, can_be_off}
use Rattle.plans.specs.Steps.{limits, step_at}
use Rattle.plans.specs.Support.{next_required, next_forbidden, required_first, ranks_by, first_in, taken, support_set, support_from, find_support_by, find_support}
use Rattle.plans.specs.Switch.{switches, total}
use Rattle.tables.specs.Tables.{gathered, passing, free, held, new, more, less, come, row_before, turned_row, turned, set_at, held_at, rows_at, ended, even_row, gain_row, saves_before, dispensable_before, even_before, gain_before, stepped, later_from, in_place, on_word, off_word, ample_on, ample_off, later_at, on_at, off_at, on_by_slack, off_by_slack}

-- Of three units, unit 1 is on before. Just one must be on in step 1, units 0 and 1 in step 2, at most one in step 3
-- and just two in step 4.
abbrev steps : List Limits
steps = limits 0 7 1 1 ∷ limits 0 3 2 3 ∷ limits 0 7 0 1 ∷ limits 0 7 2 2 ∷ []

-- the plan that is handed out
abbrev plan : List ℕ
plan = find_support 2 steps

-- the words of the four steps
abbrev four : (ℕ → ℕ) → List ℕ
four word = word 0 ∷ word 1 ∷ word 2 ∷ word 3 ∷ []

-- With that many switches to spare, the units that can be on are those of `on`, and the units that can be off those of
-- `off`: by the tables, and over all plans.
abbrev Drawn : ℕ → List ℕ → List ℕ → Type 0
Drawn slack on off =
    ((four (on_by_slack slack 2 steps plan) ≡ on) × (can_be_on allows 3 (total 2 plan + slack) 2 steps ≡ on))
    × ((four (off_by_slack 7 slack 2 steps plan) ≡ off) × (can_be_off allows 3 (total 2 plan + slack) 2 steps ≡ off))

pub cells_agree :
    Drawn 0 (2 ∷ 3 ∷ 3 ∷ 7 ∷ []) (5 ∷ 4 ∷ 7 ∷ 7 ∷ [])
    × (Drawn 1 (3 ∷ 3 ∷ 7 ∷ 7 ∷ []) (7 ∷ 4 ∷ 7 ∷ 7 ∷ []) × Drawn 2 (7 ∷ 3 ∷ 7 ∷ 7 ∷ []) (7 ∷ 4 ∷ 7 ∷ 7 ∷ []))
unfolding bit union intersection difference meets contains insert remove is_subset size units_below next_required next_forbidden required_first ranks_by first_in taken support_set support_from find_support_by select below allows prefixed plans_of plans_within joined joined_all can_be_on can_be_off step_at switches total gathered passing free held new more less come row_before turned_row turned set_at held_at rows_at ended even_row gain_row saves_before dispensable_before even_before gain_before stepped later_from in_place on_word off_word ample_on ample_off later_at on_at off_at on_by_slack off_by_slack ones ones_in
cells_agree = (((refl, refl), (refl, refl)), (((refl, refl), (refl, refl)), ((refl, refl), (refl, refl))))
