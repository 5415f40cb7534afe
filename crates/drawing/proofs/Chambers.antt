-- The chart of a sheet, drawn one chamber after the other (`Drawn`): the charts of the chambers that the loop has come
-- to are joined, and with those of the chambers still to come they are the chart of all.
use mathlib.Core.Path.{◌≡◌, refl, sym, ap, ◌∙◌, subst}
use mathlib.Core.Bool.{Bool, true, false}
use mathlib.Core.List.Memᴰ
use mathlib.Core.List.{List, [], ◌∷◌, map}
use Prim.Native.Nat.{ℕ, suc, ◌+◌, ◌-◌, ◌≤◌, ◌<◌}
use native.Mathlib.Numerals.{add-one}
use native.Mathlib.Omega.{arith}
use lib.ListN.{length, length-map, get_or, replicate, take, drop, drop_of_length-le}
use lib.Seq.{sets}
use Rattle.units.specs.Sets.{intersection}
use Rattle.units.proofs.Sets.{bit_empty, bit_intersection, set_ext}
use Rattle.chambers.specs.Chambers.{Chamber, parts_of}
use Rattle.chambers.specs.Parts.{cut, plan_of, total_of, sum_of, chart_of}
use Rattle.chambers.proofs.Among.{numbered_at, numbered_long, support_cut}
use Rattle.chambers.proofs.Bench.{bench_fewest, chambers_satisfied}
use Rattle.chambers.proofs.Joined.{chart_long, chart_joined}
use Rattle.chambers.proofs.Joining.{Joining, joining_begun, joining_long, joining_on, joining_done, all_from}
use Rattle.chambers.proofs.Words.{on_words_lem, off_words_lem}
use Rattle.plans.specs.Plans.{allows, joined, joined_all, can_be}
use Rattle.plans.specs.Switch.{total}
use Rattle.plans.proofs.Cells.{Long}
use Rattle.plans.proofs.Orders.{tie_ordered}
use Rattle.tables.specs.Tables.{on_by_slack, off_by_slack}
use Rattle.chart.specs.Joining.{joining}
use Rattle.chart.proofs.Joins.{joined_words}
use Rattle.format.specs.declared.Summary.{Summary}
use Rattle.format.specs.Answer.{Given}
use Rattle.format.specs.Format.{chamber_count, units_of, bound_of, start_of, chambers_in}
use Rattle.format.specs.Stages.{summary_read}
use Rattle.promises.specs.Common.{limits_on, sized_in}
use Rattle.promises.specs.Plan.{support_on}
use Rattle.promises.proofs.Charts.{words_of}
use Rattle.promises.proofs.Read.{bench, few_units}
use Rattle.campaign.specs.Benches.{units_on, chamber_on}
use Rattle.campaign.proofs.Decoded.{four_dealt, many_limits, chamber_in, part_taken}
use Rattle.campaign.proofs.Planned.{none_added}

-- nothing is left of words that are cut down to no unit
cut_none : (p : List ℕ) → cut 0 p ≡ replicate (length p) 0
cut_none [] = refl
cut_none (x ∷ p) =
    λ i. set_ext (intersection x 0) 0 (λ u. omega (arith, bit_intersection x 0 u, bit_empty u)) i ∷ cut_none p i

module _ (s : List ℕ) (on : Bool) (slack : ℕ) where
  -- the chart of a chamber, and those of all chambers, with so many switches to spare
  abbrev pub chart_in : Chamber → List ℕ
  chart_in c = chart_of on (units_of s) slack (start_of s) (limits_on s) c

  abbrev charts : List (List ℕ)
  charts = map chart_in (chambers_in s)

  long_in : (c : Chamber) → length (chart_in c) ≡ length (limits_on s)
  long_in c = chart_long on (units_of s) slack (start_of s) (limits_on s) c

  charts_long : Long (length (limits_on s)) charts
  charts_long p m = let (c, k, e) = Memᴰ.of_map chart_in (chambers_in s) m in ap length (sym e) ∙ long_in c

  -- an empty chamber has no unit in its chart
  pub empty_chart : (c : Chamber) → c.units ≡ 0 → chart_in c ≡ replicate (length (limits_on s)) 0
  empty_chart c none =
      let words = can_be allows on (units_of s) (total_of c (start_of s) (limits_on s) + slack) (intersection (start_of s) c.units) (parts_of c (limits_on s)) in
      ap (λ (m : ℕ). cut m words) none
      ∙ cut_none words
      ∙ ap (λ (n : ℕ). replicate n 0) (sym (length-map words (λ x. intersection x c.units)) ∙ long_in c)

-- ---- one chamber

module _ (s : List ℕ) {x : Summary} (e : summary_read s ≡ Given x) (c : ℕ) (few : c < chamber_count) where
  -- what a chamber has of the plan of all is its own plan
  cut_plan : (plan : List ℕ) → take x.steps plan ≡ support_on s → cut (chamber_on s c).units (take x.steps plan) ≡ plan_of (chamber_on s c) (start_of s) (limits_on s)
  unfolding support_on
  cut_plan plan is =
      let b = bench s e in
      ap (cut (chamber_on s c).units) is
      ∙ support_cut (λ i. tie_ordered) (start_of s) (limits_on s) (chamber_on s c) (chambers_in s) (chamber_in s e c few) b.apart (chambers_satisfied b)

  -- what the first places hold of it
  pub lent_part : (units : ℕ) → units ≡ (chamber_on s c).units → (plan before made : List ℕ) → take x.steps plan ≡ support_on s
      → made ≡ sets before 0 (cut units (take x.steps plan)) → x.steps ≤ length before → take x.steps made ≡ plan_of (chamber_on s c) (start_of s) (limits_on s)
  lent_part units own plan before made whole is room =
      part_taken s e c few before (is ∙ ap (sets before 0) (ap (λ (u : ℕ). cut u (take x.steps plan)) own ∙ cut_plan plan whole)) room

  module _ (slack : ℕ) where
    -- the words that are read from the tables: the units that can be on, or those of the chamber that can be off
    abbrev begun : ℕ
    begun = intersection (start_of s) (chamber_on s c).units

    abbrev plan : List ℕ
    plan = plan_of (chamber_on s c) (start_of s) (limits_on s)

    abbrev pub word_by : Bool → ℕ → ℕ
    word_by true i = on_by_slack slack begun (sized_in s (chamber_on s c)) plan i
    word_by false i = off_by_slack (chamber_on s c).units slack begun (sized_in s (chamber_on s c)) plan i

    word_is : (on : Bool) (i : ℕ) → i < x.steps → word_by on i ≡ get_or (chart_in s on slack (chamber_on s c)) i 0
    word_is true i l = on_words_lem (bench s e) (few_units s e) (chamber_on s c) (chamber_in s e c few) slack (start_of s) i (omega (arith, many_limits s e))
    word_is false i l = off_words_lem (bench s e) (few_units s e) (chamber_on s c) (chamber_in s e c few) slack (start_of s) i (omega (arith, many_limits s e))

    -- joined to an output, they are the chamber's chart joined to it
    pub drawn_words : (on : Bool) (out : List ℕ) → x.steps ≤ length out
        → joining (word_by on) out 0 x.steps ≡ joined (chart_in s on slack (chamber_on s c)) (take x.steps out)
    drawn_words on out room =
        joined_words (word_by on) (chart_in s on slack (chamber_on s c)) out x.steps (long_in s on slack (chamber_on s c) ∙ many_limits s e) room (word_is on)

    -- an empty chamber leaves an output as it was
    pub none_drawn : (on : Bool) → (chamber_on s c).units ≡ 0 → (out : List ℕ) → x.steps ≤ length out
        → out ≡ sets out 0 (joined (chart_in s on slack (chamber_on s c)) (take x.steps out))
    none_drawn on none out room =
        none_added x.steps out room
        ∙ ap (λ w. sets out 0 (joined w (take x.steps out))) (ap (λ (n : ℕ). replicate n 0) (sym (many_limits s e)) ∙ sym (empty_chart s on slack (chamber_on s c) none))

-- ---- one chamber after the other

-- before chamber number c: what the output holds, with the charts of the chambers from there on, is the chart of all
pub record Drawn (s : List ℕ) (n : ℕ) (on : Bool) (slack : ℕ) (before now : List ℕ) (c : ℕ) : Type 0 where
  pub joining : Joining n (charts s on slack) (drop c (charts s on slack)) before now

module _ (s : List ℕ) {x : Summary} (e : summary_read s ≡ Given x) (on : Bool) (slack : ℕ) (before : List ℕ) (room : x.steps ≤ length before) where
  pub drawn_begun : {cleared : List ℕ} → cleared ≡ sets before 0 (replicate x.steps 0) → Drawn s x.steps on slack before cleared 0
  drawn_begun {cleared} is =
      record { joining = joining_begun x.steps (charts s on slack) before cleared (λ p m. charts_long s on slack p m ∙ many_limits s e) room is }

  module _ {now : List ℕ} {c : ℕ} (g : Drawn s x.steps on slack before now c) where
    pub drawn_long : length now ≡ length before
    drawn_long = joining_long g.joining room

    pub drawn_on : c < chamber_count → {after : List ℕ} → after ≡ sets now 0 (joined (chart_in s on slack (chamber_on s c)) (take x.steps now))
        → Drawn s x.steps on slack before after (c + 1)
    drawn_on few {after} is =
        let at : get_or (charts s on slack) c [] ≡ chart_in s on slack (chamber_on s c) = numbered_at (chart_in s on slack) (units_on s) c [] (omega (arith, four_dealt s)) in
        let long = numbered_long (chart_in s on slack) 0 (units_on s) in
        let same = all_from x.steps (charts s on slack) c (omega (arith, long, four_dealt s)) ∙ ap (λ p. joined p (joined_all x.steps (drop (suc c) (charts s on slack)))) at in
        record {
          joining =
              subst (λ (k : ℕ). Joining x.steps (charts s on slack) (drop k (charts s on slack)) before after) (sym (add-one c))
              (joining_on g.joining room (chart_in s on slack (chamber_on s c)) (drop (suc c) (charts s on slack)) after (long_in s on slack (chamber_on s c) ∙ many_limits s e) same is);
        }

    -- after the last, it is the chart, if the slack is what the bound leaves of the plan's total
    pub drawn_done : chamber_count ≤ c → total (start_of s) (support_on s) + slack ≡ bound_of s → now ≡ sets before 0 (words_of s on)
    unfolding support_on
    drawn_done h left =
        let (feasible, (many, fewest)) = bench_fewest (bench s e) (start_of s) (λ i. tie_ordered) in
        let spare : bound_of s - sum_of (chambers_in s) (start_of s) (limits_on s) ≡ slack = omega (arith, many, left) in
        let over : length (charts s on slack) ≤ c = omega (arith, numbered_long (chart_in s on slack) 0 (units_on s), four_dealt s) in
        joining_done g.joining room (drop_of_length-le (charts s on slack) over)
        ∙ (λ i. sets before 0 (joined_all (sym (many_limits s e) i) (charts s on (sym spare i))))
        ∙ ap (sets before 0) (sym (chart_joined (bench s e) (start_of s) (bound_of s) (omega (arith, many, left)) on))
