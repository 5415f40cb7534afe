use Rattle.std.proofs.Common.{arith, refl, lit<}
use Rattle.all_plans.proofs.Shifts.{one_shifted}
use Rattle.all_plans.proofs.small.sets_of.Goals as goal

pub returns-clause-upper_bound : goal.returns-clause-upper_bound
returns-clause-upper_bound c = one_shifted c.min.result 4 16 (omega arith) (lit< tt) refl
