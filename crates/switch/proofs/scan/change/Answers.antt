-- `switch::scan::change` meets its contract: there are as many units as are to leave or join.
use mathlib.Core.Path.{ap}
use native.Mathlib.Omega.{arith}
use Rattle.units.specs.Sets.{size}
use Rattle.switch.proofs.Supporting.{leave_room, join_room}
use Rattle.switch.proofs.scan.change.Goals as goal

pub invariant_of-result : goal.invariant_of-result
invariant_of-result c =
    record { enough = omega (arith, leave_room c.args.s c.requires c.args.begun, c.size-many.ensures, ap size c.difference.ensures) }

pub invariant_of-result-2 : goal.invariant_of-result-2
invariant_of-result-2 c =
    record { enough = omega (arith, join_room c.args.s c.requires c.args.begun, c.size-many.ensures, c.saturating_sub.ensures, ap size c.difference-2.ensures) }
