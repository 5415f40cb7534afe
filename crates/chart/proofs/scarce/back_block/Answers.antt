use Rattle.std.proofs.Common.{ℕ, ◌≡◌, ◌-◌, arith}
use Rattle.chart.proofs.Backing.{backed_begun, backed_on}
use Rattle.chart.proofs.scarce.back_block.Goals as goal

pub loop-i-init : goal.loop-i-init
loop-i-init c = backed_begun c.args.first c.args.last c.requires.ready.ordered c.requires.to_come

pub loop-i-preserved : goal.loop-i-preserved
loop-i-preserved c =
    let words = c.read_words-words in
    backed_on c.requires.ready c.loop-i.invariant (c.loop-i.i - 1) (omega arith) (omega arith)
    c.step-step.result c.step-step.ensures words.result.on words.result.off c.union.result c.union-in-loop-i.result
    words.ensures.on_value words.ensures.off_value c.union.ensures c.union-in-loop-i.ensures c.step_back.new.self c.step_back.ensures

pub returns : goal.returns
returns c =
    let done : ◌≡◌ {A = ℕ} c.loop-i.i c.args.first = omega (arith, c.loop-i.invariant.above) in
    let all = c.loop-i.invariant in record {
      to_come_before = rw done at all.come;
      on_after = rw done at all.ons.joined;
      off_after = rw done at all.offs.joined;
    }
