use Rattle.std.proofs.Common.{ap, ap₂, ◌∙◌, ℕ}
use Rattle.units.specs.Sets.{union}
use Rattle.units.proofs.Sets.{union_empty_left}
use Rattle.tables.specs.Places.{rows_of}
use Rattle.tables.specs.Tables.{row_count, gathered}
use Rattle.tables.proofs.Gathering.{gather_on, gather_done}
use Rattle.forward.proofs.rows.gather.Goals as goal

pub loop-b-init : goal.loop-b-init
loop-b-init c =
    union_empty_left _
    ∙ ap (λ (x : ℕ). gathered row_count x (rows_of c.args.table.now)) (c.into_iter-b-iterator.ensures.into_iter_gives ∙ c.of-b-items.ensures)

pub loop-b-preserved : goal.loop-b-preserved
loop-b-preserved c =
    let rows : ℕ → ℕ = rows_of c.args.table.now in
    let taken = c.in-Some.ensures.steps in
    ap₂ (λ (found left : ℕ). union found (gathered row_count left rows)) c.union-found.ensures taken.2
    ∙ gather_on rows c.args.set c.loop-b.found c.loop-b.b-iterator c.in-Some.b taken.0 taken.1.has c.loop-b.invariant

pub returns : goal.returns
returns c = gather_done (rows_of c.args.table.now) c.args.set c.loop-b.found c.loop-b.b-iterator c.in-None.ensures.steps.0 c.loop-b.invariant
