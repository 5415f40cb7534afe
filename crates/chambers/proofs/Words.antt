-- The words of a chamber's chart, by the number of switches to spare, are those that `tables` makes of the chamber's
-- steps and of the plan that is handed out for it (`on_words_lem`, `off_words_lem`). Steps are taken with the sizes of
-- their feasible sets in the place of their two numbers (`sized`).
use mathlib.Core.Path.{◌≡◌, sym, ap, ◌∙◌, subst}
use mathlib.Core.Logic.{⊎_elim}
use mathlib.Core.Bool.{true, false}
use mathlib.Core.List.{List, [], ◌∷◌, map, Memᴰ}
use Prim.Native.Nat.{ℕ, zero, suc, ◌+◌, ◌≤◌, ◌<◌}
use native.Mathlib.Omega.{arith}
use lib.ListN.{length, length-map, get_or}
use Rattle.units.specs.Sets.{intersection, Subset}
use Rattle.units.proofs.Sets.{bit_cases}
use Rattle.plans.specs.Plans.{Below, allows, can_be_on, can_be_off}
use Rattle.plans.specs.Switch.{FeasiblePlan, Satisfiable, sized, total}
use Rattle.plans.specs.declared.Limits.{Limits}
use Rattle.plans.proofs.AllPlans.{plan_length}
use Rattle.plans.proofs.Cells.{cell_on}
use Rattle.plans.proofs.Orders.{tie_ordered}
use Rattle.plans.proofs.Sized.{sized_below, sized_chart, sized_satisfiable, sized_support}
use Rattle.tables.specs.Tables.{on_by_slack, off_by_slack}
use Rattle.tables.proofs.Charted.{on_charted, off_charted_in}
use Rattle.chambers.specs.Chambers.{Chamber, ChamberLimits, part_of, parts_of}
use Rattle.chambers.specs.Parts.{chart_of, plan_of, total_of}
use Rattle.chambers.proofs.Among.{among}
use Rattle.chambers.proofs.Bench.{Bench, chambers_satisfied, part_below}
use Rattle.chambers.proofs.Joined.{chart_at}
use Rattle.chambers.proofs.Parts.{Inside, inside_whole}
use Rattle.chambers.proofs.Whole.{part_best, part_inside}

-- a set of a plan of units of m is one of units of m
inside_at : (m : ℕ) (p : List ℕ) (i : ℕ) → i < length p → Inside m p → Subset (get_or p i 0) m
inside_at m [] i l h = absurd (omega arith)
inside_at m (x ∷ p) zero l h = h.0
inside_at m (x ∷ p) (suc i) l h = inside_at m p i (omega arith) h.1

module _ {d : ℕ} {cs : List Chamber} {ss : List ChamberLimits} (g : Bench d cs ss) (few : d ≤ 64) (c : Chamber) (m : Memᴰ c cs) (slack start i : ℕ)
    (l : i < length ss) where
  -- the chamber's units that are on before the first step, and its steps as they are laid
  abbrev begun : ℕ
  begun = intersection start c.units

  abbrev laid : List Limits
  laid = map sized (parts_of c ss)

  -- they have feasible sets, of units below d alone, and there are as many as there were
  sat : Satisfiable (parts_of c ss)
  sat = chambers_satisfied g c m

  low : Below d (parts_of c ss)
  low = part_below c cs d ss g.sound

  at_part : i < length (parts_of c ss)
  at_part = omega (arith, length-map ss (part_of c))

  at_laid : i < length laid
  at_laid = omega (arith, at_part, length-map (parts_of c ss) sized)

  -- the set of a feasible plan has units of the chamber alone
  own_set : (p : List ℕ) → FeasiblePlan (parts_of c ss) p → Subset (get_or p i 0) c.units
  own_set p f = inside_at c.units p i (omega (arith, at_part, plan_length (parts_of c ss) p f)) (part_inside c ss p f)

  -- so has the word of the units that can be on
  own_word : (bound : ℕ) → Subset (get_or (can_be_on allows d bound begun (parts_of c ss)) i 0) c.units
  own_word bound u =
      let word = get_or (can_be_on allows d bound begun (parts_of c ss)) i 0 in
      ⊎_elim (λ e. omega arith)
      (λ e. let (p, (f, (t, o))) = (cell_on d bound begun (parts_of c ss) i u at_part low).0 e in omega (arith, own_set p f u)) (bit_cases word u)

  -- The words of the step at i are the chart's: the units of the chamber that can be on, and those that can be off.
  pub on_words_lem : on_by_slack slack begun laid (plan_of c start ss) i ≡ get_or (chart_of true d slack start ss c) i 0
  on_words_lem =
      let chart = can_be_on allows d (total_of c start ss + slack) begun (parts_of c ss) in
      subst (λ p. on_by_slack slack begun laid p i ≡ get_or (can_be_on allows d (total begun p + slack) begun laid) i 0) (sized_support begun (parts_of c ss))
      (on_charted d slack begun laid (sized_satisfiable (parts_of c ss) sat) (sized_below d (parts_of c ss) low) few i at_laid)
      ∙ ap (λ w. get_or w i 0) (sized_chart d (total_of c start ss + slack) begun (parts_of c ss) true)
      ∙ sym (inside_whole c.units (get_or chart i 0) (own_word (total_of c start ss + slack)))
      ∙ sym (chart_at true d slack start ss c i l)

  pub off_words_lem : off_by_slack c.units slack begun laid (plan_of c start ss) i ≡ get_or (chart_of false d slack start ss c) i 0
  off_words_lem =
      let same = sized_support begun (parts_of c ss) in
      let own = own_set (plan_of c start ss) (part_best (λ i. tie_ordered) start ss c sat).0 in
      subst (λ p. off_by_slack c.units slack begun laid p i ≡ intersection (get_or (can_be_off allows d (total begun p + slack) begun laid) i 0) c.units) same
      (off_charted_in d slack begun laid (sized_satisfiable (parts_of c ss) sat) (sized_below d (parts_of c ss) low) few i at_laid c.units
      (subst (Subset c.units) g.whole (among c cs m)) (subst (λ p. Subset (get_or p i 0) c.units) (sym same) own))
      ∙ ap (λ w. intersection (get_or w i 0) c.units) (sized_chart d (total_of c start ss + slack) begun (parts_of c ss) false)
      ∙ sym (chart_at false d slack start ss c i l)
