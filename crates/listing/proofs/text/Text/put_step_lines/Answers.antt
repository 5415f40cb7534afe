-- `listing::text::Text::put_step_lines` meets its contract: `Stepping` has the laws of its loop.
use mathlib.Core.Path.{◌≡◌, sym, ap, ◌∙◌}
use Prim.Native.Nat.{◌+◌, ◌<◌}
use native.Mathlib.Omega.{arith}
use lib.ListN.{get_or}
use Rattle.units.specs.Sets.{difference, size}
use Rattle.plans.specs.Switch.{switches}
use Rattle.units.proofs.Sets.{size_below}
use Rattle.promises.specs.Listing.{step_line}
use Rattle.listing.proofs.Texts.{puts_length}
use Rattle.listing.proofs.Putting.{none_put, line_put, all_put}
use Rattle.listing.proofs.Stepping.{line_width, next_line, no_line}
use Rattle.listing.proofs.text.Text.put_step_lines.Goals.{After-size-many}
use Rattle.listing.proofs.text.Text.put_step_lines.Goals as goal

-- a set has at most 64 units
few : (c : After-size-many) → c.size-many.result < 100
few c = omega (arith, c.size-many.ensures, size_below 64 c.difference.result (omega (arith, c.difference.type_inv)))

pub loop-i-init : goal.loop-i-init
loop-i-init c = none_put _ _ (omega (arith, c.requires.room))

pub put_step_line-requires : goal.put_step_line-requires
put_step_line-requires c =
    let l = c.loop-i in
    record {
      step_bound = omega arith;
      many_bound = few (goal.at.put_step_line-requires c).After-size-many;
      room = omega (arith, l.invariant.room, l.invariant.puts.ended, puts_length l.invariant.puts);
    }

pub loop-i-preserved : goal.loop-i-preserved
unfolding switches
loop-i-preserved c =
    let l = c.loop-i in
    let h = c.loop-i-test.true in
    let many : c.size-many.result ≡ size (difference _ l.before) =
    c.size-many.ensures ∙ ap size c.difference.ensures in
    let x = get_or c.args.plan.now l.i 0 in
    let line = step_line (l.i + 1) x (size (difference x l.before)) in
    let short = line_width (l.i + 1) x _ (omega arith) (rw many at (few (goal.at.loop-i-preserved c).After-size-many)) in
    line_put l.invariant {line = line} (next_line _ l.i l.before h) short (omega arith) (rw (sym many) c.put_step_line.ensures)

pub returns : goal.returns
returns c =
    let l = c.loop-i in record {
      lines = all_put l.invariant (no_line _ l.i l.before c.loop-i-test.false);
      upper_bound = omega (arith, l.invariant.room, l.invariant.puts.ended);
    }
