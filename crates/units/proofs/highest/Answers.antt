-- `units::highest` meets its contract.
use native.Mathlib.Omega.{arith}
use lib.Count.{leading_top}
use Rattle.units.proofs.Words.{leading_highest}
use Rattle.units.proofs.highest.Goals as goal

pub overflow_sub-result : goal.overflow_sub-result
overflow_sub-result c = omega (arith, (leading_top 64 c.args.s c.requires (omega arith)).1)

pub returns : goal.returns
returns c = leading_highest 64 c.args.s _ (omega (arith, (leading_top 64 c.args.s c.requires (omega arith)).1)) c.requires (omega arith)
