-- `switch::scan::Scan::by_rank` meets its contract. The loop's invariant is `Scanned`: the units of the pick by the
-- ranking from the step at j on are those to be found.
use mathlib.Core.Path.{◌∙◌}
use native.Mathlib.Omega.{arith}
use Rattle.switch.proofs.Scanning.{scan_ended, scan_found}
use Rattle.switch.proofs.scan.Scan.by_rank.Goals as goal

pub returns-then-j-self : goal.returns-then-j-self
returns-then-j-self c =
    c.by_tie.ensures ∙ scan_ended c.args.self.steps.now c.args.from c.args.pick c.loop-pick.invariant c.if-j-self.true

pub returns : goal.returns
returns c = scan_found c.args.self.steps.now c.args.from c.args.pick c.loop-pick.invariant (omega arith)
