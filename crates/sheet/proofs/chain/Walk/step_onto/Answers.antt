-- `sheet::chain::Walk::step_onto` meets its contract.
use Rattle.std.proofs.Common.{◌+◌, List, ℕ, ap, arith}
use Rattle.sheet.specs.Walking.{onto}
use Rattle.sheet.proofs.chain.Walk.step_onto.Goals as goal

pub returns : goal.returns
unfolding onto
returns c =
    let a = c.args in
    ap (λ (l : List ℕ). record { marks = l; at = a.j; steps = a.self.steps + 1 }) (c.loop-k.invariant.1 (omega arith))
