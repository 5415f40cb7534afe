-- `editions::remake::put_sheet` meets its contract: the sheet is copied, or made over.
use Rattle.std.proofs.Common.{sym, ap, ◌∙◌, List, ℕ, Bool, arith}
use Rattle.format.specs.Format.{sheet_length, records_of}
use Rattle.format.proofs.Remade.{copied, made_over}
use Rattle.promises.specs.Common.{written}
use Rattle.editions.proofs.Remaking.{same_edition, other_edition}
use Rattle.editions.proofs.remake.put_sheet.Goals as goal

pub copy-requires : goal.copy-requires
copy-requires c =
    let same = sym c.is_first.ensures ∙ same_edition _ _ c.if-is_first-first.true in
    omega (arith, c.requires, ap (λ (b : Bool). sheet_length b (records_of c.args.s.now)) same)

pub put_remade-requires : goal.put_remade-requires
put_remade-requires c =
    let other = sym c.is_first.ensures ∙ other_edition _ _ c.if-is_first-first.false in record {
      few = c.requires.few;
      whole = c.requires.whole ∙ ap (λ (b : Bool). sheet_length b (records_of c.args.s.now)) other;
      room = c.requires.room;
    }

pub returns-then-is_first-first : goal.returns-then-is_first-first
returns-then-is_first-first c =
    let a = c.args in
    let same = sym c.is_first.ensures ∙ same_edition _ _ c.if-is_first-first.true in
    c.copy.ensures ∙ ap (λ (l : List ℕ). written l a.out.now) (sym (copied a.first a.s.now same))

pub returns-else-is_first-first : goal.returns-else-is_first-first
returns-else-is_first-first c =
    let a = c.args in
    let other = sym c.is_first.ensures ∙ other_edition _ _ c.if-is_first-first.false in
    c.put_remade.ensures ∙ ap (λ (l : List ℕ). written l a.out.now) (sym (made_over a.first a.s.now other))
