-- `units::difference` meets its contract.
use native.Mathlib.Omega.{arith}
use Rattle.units.specs.Sets.{difference}
use Rattle.units.proofs.Words.{and_not}
use Rattle.units.proofs.difference.Goals as goal

pub returns : goal.returns
unfolding difference
returns c = and_not 64 c.args.a c.args.b (omega arith) (omega arith)
