-- `backward::find::find` meets its contract. The loop's invariant is `Finding`, whatever the rows and the test are.
use Rattle.backward.proofs.Finding.{finding_begun, finding_on, finding_done}
use Rattle.backward.proofs.find.find.Goals as goal

pub loop-b-init : goal.loop-b-init
loop-b-init g c rows test acts = rw (c.into_iter-b-iterator.ensures.into_iter_gives, c.of-b-items.ensures) (finding_begun rows test c.args.set)

pub loop-b-preserved : goal.loop-b-preserved
loop-b-preserved g c rows test acts =
    let l = c.loop-b in
    let taken = c.in-Some.ensures.steps in
    let seen = acts c.in-Some.b c.look-row.result taken.0 c.look-row.ensures in
    finding_on rows test (l.invariant rows test acts) taken
    (rw (c.union-joined.ensures, seen)) (rw (c.choose-passed.ensures, c.insert.ensures, seen))

pub returns : goal.returns
returns g c rows test acts = finding_done rows test (c.loop-b.invariant rows test acts) c.in-None.ensures.steps.0
