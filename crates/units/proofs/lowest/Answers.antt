-- `units::lowest` meets its contract.
use native.Mathlib.Omega.{arith}
use Rattle.units.proofs.Words.{trailing_lowest}
use Rattle.units.proofs.lowest.Goals as goal

pub returns : goal.returns
returns c = trailing_lowest 64 c.args.s c.requires (omega arith)
