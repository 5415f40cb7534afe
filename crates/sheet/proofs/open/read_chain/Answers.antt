-- `sheet::open::read_chain` meets its contract: a refused header is the answer, and a sound one lets the chain be
-- walked.
use Rattle.std.proofs.Common.{◌≡◌, ℕ, List, sym, ap, ◌∙◌}
use Rattle.format.specs.Stages.{chain_read}
use Rattle.format.proofs.Readings.{header_refuses, header_sound, chain_refuses, chain_opens}
use Rattle.format.proofs.Told.{told_exit}
use Rattle.sheet.proofs.open.read_chain.Goals.{After-of}
use Rattle.sheet.proofs.open.read_chain.Goals as goal

pub returns-in_err-header : goal.returns-in_err-header
returns-in_err-header c =
    told_exit c.from_residual.result c.in_err-header.field-0.0 c.from_residual.ensures.1
    ∙ header_refuses c.args.bytes.now (sym c.in_err-header.ensures)

pub walk_chain-requires-clause-whole : goal.walk_chain-requires-clause-whole
walk_chain-requires-clause-whole c = rw c.of.ensures ((header_sound c.args.bytes.now (sym c.in_ok-header.ensures)).whole)

pub walk_chain-requires-clause-count_le_record_limit : goal.walk_chain-requires-clause-count_le_record_limit
walk_chain-requires-clause-count_le_record_limit c = (header_sound c.args.bytes.now (sym c.in_ok-header.ensures)).few_records

-- the chain that is walked is that of the bytes
read : (c : After-of) → chain_read c.args.bytes.now c.in_ok-header.header.records ≡ chain_read c.of.result.bytes.now c.in_ok-header.header.records
read c = ap (λ (s : List ℕ). chain_read s c.in_ok-header.header.records) (sym c.of.ensures)

pub returns-in_err-steps : goal.returns-in_err-steps
returns-in_err-steps c =
    told_exit c.from_residual-in_err-steps.result c.in_err-steps.field-0.0 c.from_residual-in_err-steps.ensures.1
    ∙ chain_refuses c.args.bytes.now (sym c.in_ok-header.ensures) (read (goal.at.returns-in_err-steps c).After-of ∙ sym c.in_err-steps.ensures)

pub returns : goal.returns
returns c = chain_opens c.args.bytes.now (sym c.in_ok-header.ensures) (read (goal.at.returns c).After-of ∙ sym c.in_ok-steps.ensures)
