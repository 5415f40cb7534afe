use Rattle.std.proofs.Common.{ap, ap₂, ◌∙◌, ℕ}
use Rattle.units.specs.Sets.{union}
use Rattle.tables.specs.Places.{rows_of}
use Rattle.tables.specs.Tables.{row_count, gathered, turned_row}
use Rattle.tables.proofs.Gathering.{none_left}
use Rattle.forward.proofs.Turning.{written_none, written_on, step_turned}
use Rattle.forward.proofs.rows.turn_step.Goals as goal

pub loop-b-init : goal.loop-b-init
loop-b-init c = written_none _ _ _ _ (c.into_iter-b-iterator.ensures.into_iter_gives ∙ c.of-b-items.ensures ∙ c.held_after.ensures) c.told-next

pub loop-b-preserved : goal.loop-b-preserved
loop-b-preserved c =
    written_on c.loop-b.invariant c.in-Some.ensures.steps c.turn_row.result
    (c.turn_row.ensures
    ∙ ap₂ (turned_row c.free-free.result c.entering-entering.result c.union-coming.result) c.contains.ensures c.row_before-row.ensures)

pub returns : goal.returns
returns c =
    let s = c.args.step in
    let rows : ℕ → ℕ = rows_of c.args.table.now in
    let coming =
    c.union-coming.ensures ∙ ap (union s.before) (c.gather.ensures ∙ ap (λ (x : ℕ). gathered row_count x rows) c.difference.ensures) in
    λ b h.
    c.loop-b.invariant.done b h (none_left c.loop-b.b-iterator b c.in-None.ensures.steps.0)
    ∙ step_turned s.limits s.before s.after s.held rows b c.free-free.ensures c.entering-entering.ensures coming
