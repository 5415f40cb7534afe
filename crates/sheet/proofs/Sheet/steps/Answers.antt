-- `sheet::Sheet::steps` meets its contract: the steps of a sheet that passed lie within it.
use Rattle.std.proofs.Common.{ap, ◌∙◌, List, ℕ}
use Rattle.format.specs.Chain.{steps_from}
use Rattle.format.proofs.Readings.{opened, read_opens}
use Rattle.sheet.proofs.Sheet.steps.Goals as goal

pub of-requires-2 : goal.of-requires-2
of-requires-2 c =
    let s = c.args.self.bytes.now in
    rw c.of.ensures (record { inside = (opened s (read_opens s c.args.self.passed)).inside })

pub returns : goal.returns
returns c =
    let s = c.args.self.bytes.now in
    c.of-2.ensures ∙ ap (λ (b : List ℕ). steps_from b 0 c.args.self.summary.steps) c.of.ensures
    ∙ (opened s (read_opens s c.args.self.passed)).steps
