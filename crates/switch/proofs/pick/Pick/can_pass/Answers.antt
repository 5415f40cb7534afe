-- `switch::pick::Pick::can_pass` meets its contract: where all units are undecided, the group is empty.
use mathlib.Core.Path.{◌≡◌, sym, ap, ◌∙◌}
use Prim.Native.Nat.{◌-◌}
use native.Mathlib.Omega.{arith}
use borrow.Author.Tests.{le-leb}
use Rattle.units.specs.Sets.{size}
use Rattle.switch.specs.Groups.{undecided, group}
use Rattle.switch.proofs.Picking.{group_none}
use Rattle.switch.proofs.pick.Pick.can_pass.Goals as goal

pub returns-then-undecided-self : goal.returns-then-undecided-self
returns-then-undecided-self c =
    let p = c.args.self in
    let s = c.args.s in
    let same : undecided s.lower s.upper p.rest ≡ p.rest = sym c.undecided-undecided.ensures ∙ c.if-undecided-self.true in
    let none = group_none p.last s.lower s.upper p.rest same in
    simp (le-leb (size (group p.last s.lower s.upper p.rest)) p.left (omega arith), le-leb (p.left - size (group p.last s.lower s.upper p.rest)) (size (undecided s.lower s.upper p.rest)) (omega (arith, ap size same, p.enough)))
