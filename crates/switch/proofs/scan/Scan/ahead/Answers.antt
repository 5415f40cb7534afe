-- `switch::scan::Scan::ahead` meets its contract: a block that can be passed is looked at as a whole
-- (`stretch_ahead`), and else the step (`step_ahead`).
use mathlib.Core.Path.{◌≡◌, sym, ◌∙◌}
use Prim.Native.Nat.{◌*◌, ◌/◌}
use native.Mathlib.Omega.{arith}
use Rattle.switch.specs.Stretches.{block_size}
use Rattle.switch.proofs.Scanning.{block_ahead}
use Rattle.switch.proofs.scan.Scan.ahead.Goals as goal

pub returns-then-can_pass : goal.returns-then-can_pass
returns-then-can_pass c =
    let scan = c.args.self in
    let begins : block_size * (c.args.j / block_size) ≡ c.args.j = omega (arith, c.if-j-eq0.true) in
    block_ahead scan.steps.now scan.blocks.now scan.in_blocks c.args.j c.args.pick begins c.requires (omega arith) c.min.ensures (sym c.can_pass.ensures ∙ c.if-can_pass.true)
