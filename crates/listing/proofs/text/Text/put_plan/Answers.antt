-- `listing::text::Text::put_plan` meets its contract.
use mathlib.Core.Path.{◌≡◌}
use native.Mathlib.Omega.{arith}
use lib.ListN.{length, take}
use lib.Seq.{length-take-le}
use Rattle.promises.specs.Listing.{plan_lines}
use Rattle.listing.proofs.Texts.{puts_then, puts_length}
use Rattle.listing.proofs.text.Text.put_plan.Goals as goal

pub put_step_lines-requires : goal.put_step_lines-requires
put_step_lines-requires c =
    let n = c.args.x.steps in
    let sets = c.args.sets.now in
    let p = c.requires in
    let long : length (take n sets) ≡ n = length-take-le n sets p.all_there in
    let first = c.put_first_line.ensures in record {
      few = omega arith;
      room = omega (arith, first.upper_bound, puts_length first.line);
    }

pub put_total_line-requires : goal.put_total_line-requires
put_total_line-requires c =
    let n = c.args.x.steps in
    let sets = c.args.sets.now in
    let p = c.requires in
    let long : length (take n sets) ≡ n = length-take-le n sets p.all_there in
    let first = c.put_first_line.ensures in
    let steps = c.put_step_lines.ensures in
    omega (arith, first.upper_bound, puts_length first.line, steps.upper_bound, puts_length steps.lines)

pub returns : goal.returns
unfolding plan_lines
returns c = puts_then (puts_then c.put_first_line.ensures.line c.put_step_lines.ensures.lines) c.put_total_line.ensures
