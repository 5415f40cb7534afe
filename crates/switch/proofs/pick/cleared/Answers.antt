-- `switch::pick::cleared` meets its contract. The loop's invariant is `Cleared`: what the units still to be cleared
-- leave of the rest is what is left in the end; and the rest is a word.
use mathlib.Core.Path.{◌≡◌, ap, ◌∙◌}
use Prim.Native.Nat.{◌+◌, ◌-◌}
use native.Mathlib.Omega.{arith}
use Rattle.units.specs.Sets.{remove}
use Rattle.units.proofs.Sets.{unit_below, size_pos, remove_le}
use Rattle.switch.specs.Toward.{toward}
use Rattle.plans.specs.Support.{tie_order}
use Rattle.plans.proofs.Chosen.{first_of_set}
use Rattle.switch.proofs.Picking.{tie_toward, clear_on, clear_done}
use Rattle.switch.proofs.pick.cleared.Goals as goal

pub first_by_tie-requires : goal.first_by_tie-requires
first_by_tie-requires c = size_pos c.loop.rest (omega (arith, c.loop.invariant.0.enough))

pub remove-rest-requires : goal.remove-rest-requires
remove-rest-requires c =
    let l = c.loop in
    let first = first_of_set (tie_toward c.args.last) l.rest (omega (arith, l.invariant.0.enough)) in
    unit_below 64 l.rest c.first_by_tie.result l.invariant.1 (rw c.first_by_tie.ensures first.member)

pub loop-preserved : goal.loop-preserved
loop-preserved c =
    let a = c.args in
    let l = c.loop in
    let removed = c.remove-rest.ensures ∙ ap (remove l.rest) c.first_by_tie.ensures in
    let one_less : a.k - l.counter - 1 ≡ a.k - (l.counter + 1) = omega arith in
    let on = clear_on (tie_toward a.last) a.s a.k l.rest (a.k - l.counter) (omega (arith, c.loop-test.true)) l.invariant.0 in (
      rw (removed, ← one_less) on,
      omega (arith, c.remove-rest.ensures, remove_le l.rest c.first_by_tie.result, l.invariant.1),
    )

pub returns : goal.returns
returns c =
    let a = c.args in
    clear_done (toward a.last tie_order) a.s a.k c.loop.rest (a.k - c.loop.counter) (omega (arith, c.loop-test.false)) c.loop.invariant.0
