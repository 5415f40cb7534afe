-- The loop's invariant: the words from i on are joined.
use Rattle.std.proofs.Common.{length}
use Rattle.plans.specs.Steps.{step_at}
use Rattle.tables.specs.Tables.{ample_on, ample_off}
use Rattle.chart.proofs.Joins.{Joined}
use Rattle.chart.proofs.ample.ample.Given as goal

abbrev pub invariant-loop-i : goal.invariant-loop-i
invariant-loop-i l =
    Joined (λ i. ample_on (step_at l.steps i)) (length l.steps) l.i l.initial.on l.on
    × Joined (λ i. ample_off l.us (step_at l.steps i)) (length l.steps) l.i l.initial.off l.off
