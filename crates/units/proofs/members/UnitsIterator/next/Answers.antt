-- `units::members::Units`, as an iterator, takes the lowest unit of the set that is left, which is one of 64; the set
-- has one unit less then.
use mathlib.Core.Path.{ap, sym}
use native.Mathlib.Omega.{arith}
use Rattle.units.specs.Sets.{size}
use Rattle.units.proofs.Sets.{size_remove, unit_below}
use Rattle.units.proofs.members.UnitsIterator.next.Goals as goal

pub returns-clause-steps : goal.returns-clause-steps
returns-clause-steps c =
    let lowest = c.lowest-lowest.ensures in
    rw (sym c.self.view_is) (unit_below 64 c.self.inside.left _ c.self.invariant lowest.has, lowest, c.without_lowest-self-inside.ensures c.lowest-lowest.result lowest)

pub returns-clause-goes : goal.returns-clause-goes
returns-clause-goes c =
    let lowest = c.lowest-lowest.ensures in
    record {
      on = λ _. (tt, tt, omega (arith, c.self.view_is, size_remove _ _ lowest.has, ap size (c.without_lowest-self-inside.ensures c.lowest-lowest.result lowest), ap size c.self.view_is));
      keeps = tt;
      rests = λ _. tt;
    }
