-- `units::units_below` meets its contract: the set of unit d alone is 2 ^ d, and all units of a word are 2 ^ 64 - 1.
use mathlib.Core.Path.{◌≡◌, ap, ◌∙◌}
use Prim.Native.Nat.{ℕ, ◌-◌, ◌^◌}
use native.Mathlib.Omega.{arith}
use lib.Pow.{pow_pos}
use Rattle.units.specs.Sets.{insert}
use Rattle.units.proofs.Sets.{union_empty_left}
use Rattle.units.proofs.units_below.Goals.{After-insert}
use Rattle.units.proofs.units_below.Goals as goal

-- a set of one unit
one : (c : After-insert) → c.insert.result ≡ 2 ^ c.args.d
unfolding insert
one c = c.insert.ensures ∙ union_empty_left (2 ^ c.args.d)

pub overflow_sub-result : goal.overflow_sub-result
overflow_sub-result c = omega (arith, one c, pow_pos c.args.d)

pub returns-then-d-lt64 : goal.returns-then-d-lt64
returns-then-d-lt64 c = omega (arith, one c)

pub returns : goal.returns
returns c =
    let last : c.args.d ≡ 64 = omega (arith, c.requires, c.if-d-lt64.false) in
    omega (arith, ap (λ (d : ℕ). 2 ^ d - 1) last)
