use Rattle.std.proofs.Common.{arith}
use Rattle.forward.proofs.Blocks.{block_begun, block_on}
use Rattle.forward.proofs.Run.turn_block.Goals as goal

pub loop-i-init : goal.loop-i-init
loop-i-init c =
    let run = c.args.self.now in
    block_begun run c.args.first c.args.tables.now c.requires.first_kept

pub loop-i-preserved : goal.loop-i-preserved
loop-i-preserved c =
    let run = c.args.self.now in
    let parts = c.split_at_mut-done in
    block_on run c.args.first c.loop-i.i c.loop-i.tables parts.result.0.now parts.result.1.now c.turn_step.new.next
    c.step.result (omega arith) c.loop-i.invariant parts.ensures.value parts.ensures.front_len (omega arith) c.step.ensures c.turn_step.ensures
