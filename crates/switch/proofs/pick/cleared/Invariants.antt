-- `switch::pick::cleared` meets its contract. The loop's invariant is `Cleared`: what the units still to be cleared
-- leave of the rest is what is left in the end; and the rest is a word.
use Prim.Native.Nat.{◌-◌, ◌^◌, ◌<◌}
use Rattle.switch.specs.Toward.{toward}
use Rattle.plans.specs.Support.{tie_order}
use Rattle.switch.proofs.Picking.{Cleared}
use Rattle.switch.proofs.pick.cleared.Given as goal

abbrev pub invariant-loop : goal.invariant-loop
invariant-loop l = Cleared (toward l.last tie_order) l.s l.k l.rest (l.k - l.counter) × (l.rest < 2 ^ 64)
