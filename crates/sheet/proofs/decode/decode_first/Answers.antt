-- `sheet::decode::decode_first` meets its contract: the bytes are the same, of a known edition.
use Rattle.std.proofs.Common.{◌≡◌, ap, ◌∙◌, List, ℕ}
use Rattle.std.proofs.lemmas.List.Edits.{sets}
use Rattle.format.specs.Chain.{steps_from}
use Rattle.sheet.proofs.Filling.{asked}
use Rattle.sheet.proofs.decode.decode_first.Goals.{Start}
use Rattle.sheet.proofs.decode.decode_first.Goals as goal

of_bytes : (c : Start) (bytes : List ℕ) → bytes ≡ c.args.bytes.now
    → sets c.args.steps.now 0 (asked c.args.chamber (steps_from bytes 0 c.args.n))
    ≡ sets c.args.steps.now 0 (asked c.args.chamber (steps_from c.args.bytes.now 0 c.args.n))
of_bytes c bytes e = ap (λ (s : List ℕ). sets c.args.steps.now 0 (asked c.args.chamber (steps_from s 0 c.args.n))) e

pub decode_by-requires-clause-inside : goal.decode_by-requires-clause-inside
decode_by-requires-clause-inside c = rw (c.of_edition.ensures ∙ c.of-records.ensures) c.requires.inside

pub decode_by-requires-else-records-clause-inside : goal.decode_by-requires-else-records-clause-inside
decode_by-requires-else-records-clause-inside c = rw (c.of_edition-else-records.ensures ∙ c.of-records.ensures) c.requires.inside

pub returns-then-records : goal.returns-then-records
returns-then-records c =
    c.decode_by.ensures ∙ of_bytes (goal.at.returns-then-records c).Start _ (c.of_edition.ensures ∙ c.of-records.ensures)

pub returns-else-records : goal.returns-else-records
returns-else-records c =
    c.decode_by-else-records.ensures ∙ of_bytes (goal.at.returns-else-records c).Start _ (c.of_edition-else-records.ensures ∙ c.of-records.ensures)
