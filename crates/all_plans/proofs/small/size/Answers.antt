use Rattle.std.proofs.Common.{◌%◌, arith}
use Rattle.std.proofs.lemmas.Nat.{ones-le}
use Rattle.all_plans.proofs.small.size.Goals as goal

pub returns : goal.returns
returns c = omega (arith, ones-le 4 (c.args.set % 16) (omega arith))
