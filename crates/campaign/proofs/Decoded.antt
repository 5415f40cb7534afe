-- A chamber of a sheet that was read: what is known of it, and of the steps that are decoded of it, which are lent to
-- the planner. Those have the sizes of the chamber's feasible sets in the place of its two numbers.
use mathlib.Core.Path.{◌≡◌, refl, sym, ap, ◌∙◌}
use mathlib.Core.List.{List, map, Memᴰ}
use Prim.Native.Nat.{ℕ, ◌≤◌, ◌<◌}
use native.Mathlib.Omega.{arith}
use lib.ListN.{length, get_or, length-map, replicate, take, drop}
use lib.Seq.{sets, take_at}
use Rattle.chambers.specs.Chambers.{Chamber, chamber, sum, dealt, part_of, parts_of}
use Rattle.chambers.specs.Parts.{plan_of, total_of}
use Rattle.chambers.proofs.Among.{chamber_at}
use Rattle.chambers.proofs.Bench.{chambers_satisfied}
use Rattle.chambers.proofs.Whole.{support_long, empty_support}
use Rattle.plans.specs.declared.Limits.{Limits}
use Rattle.plans.specs.Steps.{step_limit}
use Rattle.plans.specs.Switch.{Satisfiable, sized}
use Rattle.plans.proofs.Laid.{sets_first}
use Rattle.plans.proofs.Orders.{tie_ordered}
use Rattle.plans.proofs.Sized.{sized_satisfiable}
use Rattle.format.specs.declared.Header.{Header}
use Rattle.format.specs.declared.Summary.{Summary}
use Rattle.format.specs.Answer.{Given}
use Rattle.format.specs.Format.{unit_limit, chamber_count, sizes_list, chambers_in, limits_of, start_of}
use Rattle.format.specs.Reading.{steps_of}
use Rattle.format.specs.Stages.{summary_read}
use Rattle.promises.specs.Common.{limits_on, sized_in, written}
use Rattle.promises.specs.Plan.{support_on}
use Rattle.promises.proofs.Plans.{plan_length_on}
use Rattle.promises.proofs.Read.{was_opened, many_steps, bench}
use Rattle.campaign.specs.Benches.{units_on, chamber_on}

-- what was put into the first places is there
taken_again : {A : Type 0} (words : List A) (n : ℕ) → length words ≡ n → (before : List A) {made : List A} → made ≡ sets before 0 words → n ≤ length before
    → take n made ≡ words
taken_again words n long before {made} is h = ap (take n) (is ∙ sets_first words before (omega arith)) ∙ take_at words (drop (length words) before) n long

-- there are four chambers
pub four_dealt : (s : List ℕ) → length (units_on s) ≡ chamber_count
unfolding dealt
four_dealt s = refl

-- what is number c of the sheet's chambers is that chamber of the sheet
pub own_chamber : (s : List ℕ) (c : ℕ) {us : List ℕ} → us ≡ units_on s → {here : Chamber} → here ≡ chamber c (get_or us c 0) → here ≡ chamber_on s here.number
own_chamber s c dealt is =
    let own = is ∙ ap (λ us. chamber c (get_or us c 0)) dealt in
    own ∙ ap (chamber_on s) (sym (ap (λ d. d.number) own))

-- a chamber whose number and units are these has one of the four numbers, and the units of the sheet's chamber
pub few_numbers : {these here : Chamber} → these ≡ here → these.number < chamber_count → here.number < chamber_count
few_numbers e few = omega (arith, ap (λ d. d.number) e, few)

pub own_units : (s : List ℕ) {c : ℕ} {these here : Chamber} → these ≡ here → here ≡ chamber_on s c → these.units ≡ (chamber_on s c).units
own_units s e own = ap (λ d. d.units) (e ∙ own)

module _ (s : List ℕ) {x : Summary} (e : summary_read s ≡ Given x) where
  -- the chambers that are dealt out by the header are those of the sheet, and have at most 64 units
  pub units_dealt : dealt 0 (sizes_list x.header.sizes) ≡ units_on s
  units_dealt = ap (λ (h : Header). dealt 0 (sizes_list h.sizes)) (sym (was_opened s e).sound.is_header)

  pub few_dealt : sum (sizes_list x.header.sizes) ≤ unit_limit
  few_dealt = omega (arith, (was_opened s e).sound.all_dealt, (was_opened s e).sound.few_units)

  pub many_limits : length (limits_on s) ≡ x.steps
  many_limits = length-map (steps_of s) limits_of ∙ many_steps s e

  -- the plan of all chambers, as it was made, as it is lent, and as it is copied
  pub plan_long : length (support_on s) ≡ x.steps
  plan_long = plan_length_on s ∙ many_steps s e

  pub plan_taken : (before : List ℕ) {made : List ℕ} → made ≡ sets before 0 (support_on s) → x.steps ≤ length before → take x.steps made ≡ support_on s
  plan_taken = taken_again (support_on s) x.steps plan_long

  pub plan_written : (before : List ℕ) {made : List ℕ} → made ≡ sets before 0 (support_on s) → x.steps ≤ length before → (out : List ℕ) → x.steps ≤ length out
      → sets out 0 (take x.steps made) ≡ written (support_on s) out
  plan_written before is h out room =
      ap (sets out 0) (plan_taken before is h) ∙ sets_first (support_on s) out (omega (arith, plan_long))

  module _ (c : ℕ) (few : c < chamber_count) where
    -- the chamber is one of the sheet's, and each step has a feasible set in it
    pub chamber_in : Memᴰ (chamber_on s c) (chambers_in s)
    chamber_in = chamber_at (units_on s) c (omega (arith, four_dealt s))

    pub satisfiable_in : Satisfiable (parts_of (chamber_on s c) (limits_on s))
    satisfiable_in = chambers_satisfied (bench s e) (chamber_on s c) chamber_in

    -- the plan of an empty chamber
    pub empty_plan : (chamber_on s c).units ≡ 0
        → (plan_of (chamber_on s c) (start_of s) (limits_on s) ≡ replicate x.steps 0) × (total_of (chamber_on s c) (start_of s) (limits_on s) ≡ 0)
    empty_plan none =
        let (words, many) = empty_support (λ i. tie_ordered) (start_of s) (limits_on s) (chamber_on s c) none satisfiable_in in
        (words ∙ ap (λ (n : ℕ). replicate n 0) many_limits, many)

    pub part_long : length (plan_of (chamber_on s c) (start_of s) (limits_on s)) ≡ x.steps
    part_long = support_long _ (chamber_on s c) (start_of s) (limits_on s) ∙ many_limits

    -- the plan of a chamber, as it was made
    pub part_taken : (before : List ℕ) {made : List ℕ} → made ≡ sets before 0 (plan_of (chamber_on s c) (start_of s) (limits_on s)) → x.steps ≤ length before
        → take x.steps made ≡ plan_of (chamber_on s c) (start_of s) (limits_on s)
    part_taken = taken_again (plan_of (chamber_on s c) (start_of s) (limits_on s)) x.steps part_long

    -- its steps, as the planner takes them
    pub many_parts : length (sized_in s (chamber_on s c)) ≡ x.steps
    many_parts = length-map (parts_of (chamber_on s c) (limits_on s)) sized ∙ length-map (limits_on s) (part_of (chamber_on s c)) ∙ many_limits

    pub few_parts : length (sized_in s (chamber_on s c)) ≤ step_limit
    few_parts = omega (arith, many_parts, (was_opened s e).few)

    pub parts_satisfiable : Satisfiable (sized_in s (chamber_on s c))
    parts_satisfiable = sized_satisfiable (parts_of (chamber_on s c) (limits_on s)) satisfiable_in

    -- the first places hold them, where they were decoded
    pub decoded : {here : Chamber} → here ≡ chamber_on s c → (before : List Limits) {steps : List Limits}
        → steps ≡ sets before 0 (map sized (parts_of here (limits_on s))) → x.steps ≤ length before → take x.steps steps ≡ sized_in s (chamber_on s c)
    decoded own before filled room =
        taken_again (sized_in s (chamber_on s c)) x.steps many_parts before
        (filled ∙ ap (λ d. sets before 0 (map sized (parts_of d (limits_on s)))) own) room
