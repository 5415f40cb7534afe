-- `switch::scan::Scan::step_set` meets its contract: the units that leave or join make the set of the step
-- (`supported`).
use mathlib.Core.Path.{sym, ap, ◌∙◌}
use mathlib.Core.Bool.{Bool, cond}
use Prim.Native.Nat.{ℕ}
use Rattle.units.specs.Sets.{union, difference}
use Rattle.plans.specs.Steps.{step_at}
use Rattle.plans.proofs.Laid.{feasible_at}
use Rattle.plans.proofs.Orders.{tie_ordered}
use Rattle.plans.proofs.Ranks.{ranks_ordered}
use Rattle.switch.proofs.Supporting.{supported, supported_none}
use Rattle.switch.proofs.scan.Scan.step_set.Goals as goal

pub change-change-requires : goal.change-change-requires
unfolding step_at
change-change-requires c = feasible_at c.args.self.steps.now c.args.i c.requires.i_in_bounds c.requires.satisfiable

pub returns-then-change-eq0 : goal.returns-then-change-eq0
unfolding step_at
returns-then-change-eq0 c =
    let ss = c.args.self.steps.now in
    let s = step_at ss c.args.i in
    let change = c.change-change.ensures in
    let begun = c.union-begun.ensures ∙ ap (λ (x : ℕ). union x s.lower) c.intersection.ensures in
    supported_none s (feasible_at ss c.args.i c.requires.i_in_bounds c.requires.satisfiable) c.union-begun.result (ranks_ordered tie_ordered _ _ _) c.args.before begun c.change-change.result change.found change.leaving change.joining c.if-change-eq0.true

pub returns-then-change : goal.returns-then-change
unfolding step_at
returns-then-change c =
    let ss = c.args.self.steps.now in
    let s = step_at ss c.args.i in
    let change = c.change-change.ensures in
    let begun = c.union-begun.ensures ∙ ap (λ (x : ℕ). union x s.lower) c.intersection.ensures in
    let chosen = ap (λ (b : Bool). cond b (difference c.union-begun.result c.by_rank-picked.result) (union c.union-begun.result c.by_rank-picked.result)) in
    c.difference.ensures ∙ chosen (sym c.if-change.true)
    ∙ supported s (feasible_at ss c.args.i c.requires.i_in_bounds c.requires.satisfiable) c.union-begun.result (ranks_ordered tie_ordered _ _ _) c.args.before begun c.change-change.result change.found change.leaving change.joining c.by_rank-picked.ensures

pub returns-else-change : goal.returns-else-change
unfolding step_at
returns-else-change c =
    let ss = c.args.self.steps.now in
    let s = step_at ss c.args.i in
    let change = c.change-change.ensures in
    let begun = c.union-begun.ensures ∙ ap (λ (x : ℕ). union x s.lower) c.intersection.ensures in
    let chosen = ap (λ (b : Bool). cond b (difference c.union-begun.result c.by_rank-picked.result) (union c.union-begun.result c.by_rank-picked.result)) in
    c.union.ensures ∙ chosen (sym c.if-change.false)
    ∙ supported s (feasible_at ss c.args.i c.requires.i_in_bounds c.requires.satisfiable) c.union-begun.result (ranks_ordered tie_ordered _ _ _) c.args.before begun c.change-change.result change.found change.leaving change.joining c.by_rank-picked.ensures
