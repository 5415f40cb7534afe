-- `words::copy_words` meets its contract. The loop's invariant is `Filling`.
use mathlib.Core.Path.{sym}
use native.Mathlib.Omega.{arith}
use lib.Seq.{get_or-take}
use Rattle.words.proofs.Filling.{fill_begun, fill_on, fill_done, first_long}
use Rattle.words.proofs.copy_words.Goals as goal

pub loop-i-init : goal.loop-i-init
loop-i-init c = fill_begun _ c.args.to.now

pub loop-i-preserved : goal.loop-i-preserved
loop-i-preserved c =
    let a = c.args in
    let h = c.loop-i-test.true in
    fill_on c.loop-i.invariant _ (omega (arith, first_long a.from.now a.n c.requires.room_in_from)) (sym (get_or-take a.n a.from.now c.loop-i.i 0 h))

pub returns : goal.returns
returns c = fill_done c.loop-i.invariant (omega (arith, c.loop-i-test.false, first_long c.args.from.now c.args.n c.requires.room_in_from))
