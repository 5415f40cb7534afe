use Rattle.std.proofs.Common.{◌≡◌, ◌<◌, refl, ◌-◌, ◌*◌, min, arith, length, get_or, []}
use Rattle.std.proofs.Math.Seq.{get_or-set_same}
use Rattle.chart.proofs.Backing.{backed_at, blocks_begun, blocks_on}
use Rattle.chart.proofs.Joins.{joined_all_lem}
use Rattle.chart.proofs.scarce.scarce.Goals as goal

pub loop-k-init : goal.loop-k-init
loop-k-init c =
    let run = c.args.run.now in
    let n = length run.plan.now in
    let all : n ≡ min n (16 * c.div_ceil-k.result) = omega (arith, c.div_ceil-k.ensures) in
    (backed_at (blocks_begun n (omega arith) c.ended-later.ensures) all, c.checkpoint.array_long)

pub turn_block-requires-clause-first_kept : goal.turn_block-requires-clause-first_kept
turn_block-requires-clause-first_kept c =
    let l = c.loop-k in
    let table = get_or c.checkpoint.new.checkpoints (l.k - 1) [] in
    let room : 0 < length l.tables = omega (arith, l.invariant.1) in
    rw (get_or-set_same l.tables 0 table [] room) (c.checkpoint.ensures (l.k - 1) (omega (arith, c.div_ceil-k.ensures)))

pub back_block-requires-clause-ready : goal.back_block-requires-clause-ready
back_block-requires-clause-ready c =
    record {
      ordered = omega (arith, c.div_ceil-k.ensures, c.min-last.ensures);
      few = omega (arith, c.min-last.ensures);
      inside = omega (arith, c.min-last.ensures);
      kept = c.turn_block.ensures;
    }

pub back_block-requires-clause-to_come : goal.back_block-requires-clause-to_come
back_block-requires-clause-to_come c =
    let l = c.loop-k in
    let e : min (length c.args.run.now.plan.now) (16 * l.k) ≡ c.min-last.result = omega (arith, c.min-last.ensures) in
    (backed_at l.invariant.0 e).come

pub loop-k-preserved : goal.loop-k-preserved
loop-k-preserved c =
    let l = c.loop-k in
    let n = length c.args.run.now.plan.now in
    let back = c.back_block.ensures in
    let e : min n (16 * l.k) ≡ c.min-last.result = omega (arith, c.min-last.ensures) in
    let f : 16 * (l.k - 1) ≡ min n (16 * (l.k - 1)) = omega (arith, c.div_ceil-k.ensures) in (
      backed_at
          (blocks_on (backed_at l.invariant.0 e) (16 * (l.k - 1)) (omega (arith, c.div_ceil-k.ensures, c.min-last.ensures))
          back.to_come_before back.on_after back.off_after) f,
      c.turn_block.array_long,
    )

pub returns : goal.returns
returns c =
    let run = c.args.run.now in
    let none : min (length run.plan.now) (16 * c.loop-k.k) ≡ 0 = omega arith in
    let all = rw run.planned at (backed_at c.loop-k.invariant.0 none) in record {
      on_after = joined_all_lem all.ons refl;
      off_after = joined_all_lem all.offs refl;
    }
