-- Laws on the loop that fills places with what the steps of a sheet ask of a chamber. `Filling`: what the turns to
-- come make of the places is what all turns make of them as they were.
use Rattle.std.proofs.Common.{◌≡◌, ℕ, ◌+◌, List, [], ◌∷◌, map, length, set, sym, ap, ◌∙◌, add-one, length-set, arith}
use Rattle.std.proofs.lemmas.List.Edits.{sets}
use Rattle.plans.specs.Switch.{sized}
use Rattle.plans.specs.declared.Limits.{Limits}
use Rattle.chambers.specs.Chambers.{Chamber, part_of, parts_of}
use Rattle.format.specs.declared.ChamberStep.{ChamberStep}
use Rattle.format.specs.Format.{limits_of}

-- what some steps ask of a chamber
abbrev pub asked : Chamber → List ChamberStep → List Limits
asked c xs = map sized (parts_of c (map limits_of xs))

pub record Filling (c : Chamber) (n : ℕ) (all left : List ChamberStep) (before now : List Limits) (count : ℕ) : Type 0 where
  pub many : count + length left ≡ n
  pub same_long : length now ≡ length before
  pub ends : sets now count (asked c left) ≡ sets before 0 (asked c all)

module _ {c : Chamber} {n : ℕ} {all left : List ChamberStep} {before now : List Limits} {count : ℕ}
    (g : Filling c n all left before now count) where
  -- the next step is put
  pub fill_on : {x : ChamberStep} {rest : List ChamberStep} → left ≡ x ∷ rest → {y : Limits} → y ≡ sized (part_of c (limits_of x))
      → {i k : ℕ} → i ≡ count → k ≡ count + 1 → Filling c n all rest before (set now i y) k
  fill_on {x} {rest} e {y} is {i} {k} here next =
      record {
        many = omega (arith, g.many, ap length e, next);
        same_long = length-set now i y ∙ g.same_long;
        ends =
            (λ j. sets (set now (here j) (is j)) ((next ∙ add-one count) j) (asked c rest))
            ∙ ap (λ xs. sets now count (asked c xs)) (sym e)
            ∙ g.ends;
      }

  -- all are
  pub fill_done : left ≡ [] → now ≡ sets before 0 (asked c all)
  fill_done e = ap (λ xs. sets now count (asked c xs)) (sym e) ∙ g.ends
