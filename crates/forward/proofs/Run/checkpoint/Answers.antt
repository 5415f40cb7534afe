use Rattle.std.proofs.Common.{ℕ, ◌*◌, ◌<◌, ◌∙◌, arith, length}
use Rattle.std.proofs.Math.ListN.{length-set}
use Rattle.std.specs.Int.{div_ceil}
use Rattle.forward.proofs.Blocks.{checkpoints_begun, checkpoint_copied, checkpoints_on}
use Rattle.forward.proofs.Run.checkpoint.Goals as goal

-- a block that begins within n steps is one of those that the loop counts
begins-within : (n k : ℕ) → 16 * k < n → k < div_ceil n 16
begins-within n k h = omega arith

pub loop-k-init : goal.loop-k-init
loop-k-init c =
    let run = c.args.self.now in
    (c.told-tables, c.told-checkpoints, checkpoints_begun run c.args.checkpoints.now)

pub turn_block-requires-clause-first_kept : goal.turn_block-requires-clause-first_kept
turn_block-requires-clause-first_kept c =
    let run = c.args.self.now in
    let l = c.loop-k in
    checkpoint_copied run l.k l.tables l.checkpoints l.auto.k (omega (arith, l.invariant.0)) l.invariant.2

pub loop-k-preserved : goal.loop-k-preserved
loop-k-preserved c =
    let run = c.args.self.now in
    let l = c.loop-k in (
      c.turn_block.array_long,
      length-set l.checkpoints l.k _ ∙ l.invariant.1,
      checkpoints_on run l.k _ l.checkpoints l.auto.k
          (omega (arith, l.invariant.1, c.loop-k-test.true, c.div_ceil-k-end.ensures, run.planned, run.few)) l.invariant.2
          (c.turn_block.ensures 16 (omega arith)),
    )

pub returns : goal.returns
returns c = λ k h. c.loop-k.invariant.2 k (omega (arith, begins-within (length c.args.self.now.plan.now) k h, c.div_ceil-k-end.ensures))
