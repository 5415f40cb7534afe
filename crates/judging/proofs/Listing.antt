-- Laws on the loop that puts the steps of a sheet into a list: the steps that it has put, with those that are left,
-- make up all.
use Rattle.std.proofs.Common.{◌≡◌, ℕ, ◌+◌, ◌≤◌, List, [], ◌∷◌, length, set, sym, ap, ◌∙◌, add-one, length-set, arith}
use Rattle.std.proofs.lemmas.List.Edits.{sets}
use Rattle.format.specs.declared.ChamberStep.{ChamberStep}

pub record Listing (all left before now : List ChamberStep) (count : ℕ) : Type 0 where
  pub many : count + length left ≡ length all
  pub room : length all ≤ length before
  pub same_long : length now ≡ length before
  pub ends : sets now count left ≡ sets before 0 all

module _ {all left before now : List ChamberStep} {count : ℕ} (g : Listing all left before now count) where
  -- the next step is put
  pub list_on : {x : ChamberStep} {rest : List ChamberStep} → left ≡ x ∷ rest → {i k : ℕ} → i ≡ count → k ≡ count + 1
      → Listing all rest before (set now i x) k
  list_on {x} {rest} e {i} {k} here next =
      record {
        many = omega (arith, g.many, ap length e, next);
        room = g.room;
        same_long = length-set now i x ∙ g.same_long;
        ends = (λ j. sets (set now (here j) x) ((next ∙ add-one count) j) rest) ∙ ap (sets now count) (sym e) ∙ g.ends;
      }

  -- all are
  pub list_done : left ≡ [] → now ≡ sets before 0 all
  list_done e = ap (sets now count) (sym e) ∙ g.ends
