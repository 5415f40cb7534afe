-- Laws on the search for the first faulty step. `Searching`: so many steps are sound, and the causes of those that are
-- left decide as the causes of all steps do.
use Rattle.std.proofs.Common.{◌≡◌, ℕ, zero, suc, ◌+◌, Bool, true, List, [], ◌∷◌, length, sym, ap, ◌∙◌, subst, arith}
use Rattle.std.specs.List.{AllByRecursion}
use Rattle.chambers.specs.Chambers.{Chamber, dealt, numbered}
use Rattle.format.specs.declared.ChamberStep.{ChamberStep}
use Rattle.format.specs.Answer.{Answer, Refused, Given, Cause, unless}
use Rattle.format.specs.Chain.{steps_from}
use Rattle.format.specs.Format.{is_first, sizes, sizes_list, next_of}
use Rattle.format.specs.Reading.{step_causes, steps_causes}
use Rattle.format.proofs.Answers.{none_left, unless_append, refused_whatever, all_passed}
use Rattle.sheet.specs.Few.{Alone}
use Rattle.sheet.proofs.FourParts.{first_alone}

-- what some steps say, which are numbered from i on
abbrev pub said : List Chamber → ℕ → ℕ → List ChamberStep → Answer (Unit {0})
said cs d i xs = unless (steps_causes cs d i xs) (Given tt)

pub record Searching (us : List ℕ) (d n : ℕ) (first : Bool) (all left : List ChamberStep) (count : ℕ) : Type 0 where
  pub many : count + length left ≡ n
  pub alone : first ≡ true → AllByRecursion (Alone us) left
  pub decides : said (numbered 0 us) d (count + 1) left ≡ said (numbered 0 us) d 1 all

-- in the first edition, nothing is asked of the other chambers
pub all_alone : (s : List ℕ) (at n : ℕ) {us : List ℕ} → us ≡ dealt 0 (sizes_list (sizes s)) → is_first s ≡ true
    → AllByRecursion (Alone us) (steps_from s at n)
unfolding steps_from
all_alone s at zero e f = tt
all_alone s at (suc n) e f = (first_alone s (next_of s at) e f, all_alone s (next_of s at) n e f)

module _ {us : List ℕ} {d n : ℕ} {first : Bool} {all left : List ChamberStep} {count : ℕ}
    (g : Searching us d n first all left count) where
  pub all_sound : left ≡ [] → Given tt ≡ said (numbered 0 us) d 1 all
  unfolding steps_causes
  all_sound e = none_left (Given tt) ∙ ap (said (numbered 0 us) d (count + 1)) (sym e) ∙ g.decides

  -- x is the next of those that are left
  module _ {x : ChamberStep} {rest : List ChamberStep} (e : left ≡ x ∷ rest) where
    -- the causes of the next step
    abbrev causes : List Cause
    causes = step_causes (numbered 0 us) d (count + 1) x

    -- they decide first, and then those of the steps after it
    turned : unless causes (said (numbered 0 us) d (count + 1 + 1) rest) ≡ said (numbered 0 us) d 1 all
    unfolding steps_causes
    turned =
        sym (unless_append causes _ (Given tt)) ∙ ap (said (numbered 0 us) d (count + 1)) (sym e) ∙ g.decides

    pub next_alone : first ≡ true → Alone us x
    next_alone f = (subst (AllByRecursion (Alone us)) e (g.alone f)).0

    pub faulty : {m p : ℕ} → Refused m p ≡ unless {A = Unit {0}} causes (Given tt) → Refused m p ≡ said (numbered 0 us) d 1 all
    faulty h = refused_whatever causes tt h _ ∙ turned

    pub sound : Given tt ≡ unless {A = Unit {0}} causes (Given tt) → {k : ℕ} → k ≡ count + 1 → Searching us d n first all rest k
    sound h {k} c =
        record {
          many = omega (arith, g.many, ap length e, c);
          alone = λ f. (subst (AllByRecursion (Alone us)) e (g.alone f)).1;
          decides = ap (λ (i : ℕ). said (numbered 0 us) d (i + 1) rest) c ∙ sym (all_passed causes (Given tt) (sym h) _) ∙ turned;
        }
