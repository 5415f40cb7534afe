-- `sheet::open::read` meets its contract: a refused header or chain is the whole answer, and a sound one lets the
-- steps be searched.
use Rattle.std.proofs.Common.{sym, ap, ◌∙◌}
use Rattle.format.specs.declared.Header.{Header}
use Rattle.format.proofs.Readings.{opened, open_refuses, steps_refuse, steps_pass}
use Rattle.format.proofs.Told.{told_of_exit}
use Rattle.sheet.proofs.open.read.Goals.{In_ok-summary}
use Rattle.sheet.proofs.open.read.Goals as goal

pub returns-in_err-summary-clause-value : goal.returns-in_err-summary-clause-value
returns-in_err-summary-clause-value c =
    told_of_exit c.from_residual.result c.in_err-summary.field-0.0 c.from_residual.ensures.1 (λ sheet. sheet.summary)
    ∙ open_refuses c.args.bytes.now (sym c.in_err-summary.ensures)

pub search_steps-requires : goal.search_steps-requires
search_steps-requires c =
    let o = opened c.args.bytes.now (sym c.in_ok-summary.ensures) in record {
      sizes_value = sym (ap (λ (h : Header). h.sizes) o.sound.is_header);
      units_le_unit_limit = o.sound.few_units;
      all_dealt = o.sound.all_dealt;
      steps_le_record_limit = o.few;
      inside = o.inside;
    }

pub returns-in_err-search_steps-clause-value : goal.returns-in_err-search_steps-clause-value
returns-in_err-search_steps-clause-value c =
    told_of_exit c.from_residual-in_err-search_steps.result c.in_err-search_steps.field-0.0 c.from_residual-in_err-search_steps.ensures.1 (λ sheet. sheet.summary)
    ∙ steps_refuse c.args.bytes.now (sym c.in_ok-summary.ensures) c.in_err-search_steps.ensures

pub invariant_of-result : goal.invariant_of-result
invariant_of-result c = record { passed = sym (steps_pass c.args.bytes.now (sym c.in_ok-summary.ensures) c.in_ok-search_steps.ensures) }
