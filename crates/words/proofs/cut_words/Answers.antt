-- `words::cut_words` meets its contract. The loop's invariant is `Filling`.
use mathlib.Core.Path.{◌∙◌}
use native.Mathlib.Omega.{arith}
use Rattle.words.proofs.Filling.{fill_begun, fill_on, fill_done, cut_long, cut_at}
use Rattle.words.proofs.cut_words.Goals as goal

pub loop-i-init : goal.loop-i-init
loop-i-init c = fill_begun _ c.args.to.now

pub loop-i-preserved : goal.loop-i-preserved
loop-i-preserved c =
    let a = c.args in
    let room = c.requires.room_in_from in
    let h = c.loop-i-test.true in
    fill_on c.loop-i.invariant _ (omega (arith, cut_long a.from.now a.n room a.units)) (c.intersection.ensures ∙ cut_at a.from.now a.n room a.units c.loop-i.i h)

pub returns : goal.returns
returns c =
    fill_done c.loop-i.invariant (omega (arith, c.loop-i-test.false, cut_long c.args.from.now c.args.n c.requires.room_in_from c.args.units))
