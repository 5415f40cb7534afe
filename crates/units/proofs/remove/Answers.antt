-- `units::remove` meets its contract.
use mathlib.Core.Path.{◌∙◌, ap}
use Prim.Native.Nat.{ℕ, ◌-◌, ◌^◌}
use native.Mathlib.Omega.{arith}
use lib.Bits.{bit_and}
use lib.Pow.{pow-lt}
use Rattle.units.specs.Sets.{remove}
use Rattle.units.proofs.Words.{one_shifted, and_not}
use Rattle.units.proofs.remove.Goals as goal

pub returns : goal.returns
unfolding remove
returns c = ap (λ (x : ℕ). bit_and c.args.s (2 ^ 64 - 1 - x)) (one_shifted c.args.u c.requires) ∙ and_not 64 c.args.s (2 ^ c.args.u) (omega arith) (pow-lt c.requires)
