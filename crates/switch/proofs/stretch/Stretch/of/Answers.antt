-- `switch::stretch::Stretch::of` meets its contract. The loop's invariant is `Joined`: the sets are those of the steps
-- that were gone over, which are the last ones.
use Rattle.std.proofs.lemmas.List.{length_push}
use Rattle.std.proofs.lemmas.Iterator.Adapters.{YieldsList-from_rev_slice}
use Rattle.std.proofs.lemmas.Iterator.Consumers.{YieldsList-turn, YieldsList-end}
use Rattle.switch.proofs.Joining.{join_begun, join_on, join_done}
use Rattle.switch.proofs.stretch.Stretch.of.Goals as goal

pub loop-s-init : goal.loop-s-init
loop-s-init c = join_begun c.args.steps.now

pub loop-s-preserved : goal.loop-s-preserved
loop-s-preserved c =
    let l = c.loop-s in
    let t = YieldsList-turn (YieldsList-from_rev_slice c.args.steps.now cc) l.yielded _ l.yielded_by _ _ c.in-Some.s c.in-Some.is c.next.ensures.steps in
    let s = c.in-Some.s.now in
    rw (length_push l.yielded c.in-Some.s, c.union-lower.ensures, c.intersection-upper.ensures, c.union.ensures) (join_on l.invariant s t.0 t.1)

pub returns : goal.returns
returns c =
    let l = c.loop-s in
    let t = YieldsList-end (YieldsList-from_rev_slice c.args.steps.now cc) l.yielded _ l.yielded_by _ _ c.in-None.is c.next.ensures.steps in
    let done = join_done l.invariant t.1 in
    λ i. record { lower = done.0 i; upper = done.1 i }
