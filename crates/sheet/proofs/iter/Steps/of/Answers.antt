-- `of` of `sheet::iter::Steps` meets its contract. The invariant holds of any steps up to n.
use native.Mathlib.Omega.{arith}
use Rattle.sheet.proofs.Onward.{first_inside}
use Rattle.sheet.proofs.iter.Steps.of.Goals as goal

pub invariant_of-result : goal.invariant_of-result
invariant_of-result c = first_inside c.args.records.bytes.now 0 c.args.n _ (omega arith) c.requires.inside
