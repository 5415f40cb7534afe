-- `sheet::decode::decode` meets its contract: the steps of a sheet that passed lie within it.
use Rattle.std.proofs.Common.{ap, ◌∙◌}
use Rattle.std.proofs.lemmas.List.Edits.{sets}
use Rattle.format.proofs.Readings.{opened, read_opens}
use Rattle.sheet.proofs.Filling.{asked}
use Rattle.sheet.proofs.decode.decode.Goals as goal

pub decode_first-requires-clause-inside : goal.decode_first-requires-clause-inside
decode_first-requires-clause-inside c = (opened c.args.sheet.bytes.now (read_opens c.args.sheet.bytes.now c.args.sheet.passed)).inside

pub returns : goal.returns
returns c =
    let s = c.args.sheet.bytes.now in
    c.decode_first.ensures ∙ ap (λ xs. sets c.args.steps.now 0 (asked c.args.chamber xs)) (opened s (read_opens s c.args.sheet.passed)).steps
