-- `switch::stretch::fill_blocks` meets its contract. The loop's invariant is `Filled`: the blocks that were gone over
-- are there.
use mathlib.Core.Path.{◌∙◌}
use native.Mathlib.Omega.{arith}
use Rattle.switch.proofs.Joining.{fill_on, fill_room}
use Rattle.switch.proofs.stretch.fill_blocks.Goals as goal

pub loop-q-preserved : goal.loop-q-preserved
loop-q-preserved c =
    let g = c.loop-q.invariant in
    let k = c.in-Some.ensures.steps in
    (k.0.0 ∙ g.0, rw (k.1, k.2) (fill_on g.1 c.in-Some.part.now _ k.0.1.0 (omega arith) (fill_room g.1 (omega arith) c.requires) c.of.result c.of.ensures))
