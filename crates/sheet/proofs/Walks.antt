-- Laws on the walk along the chain. `Walked s r w`: the walk's state w stands where the records `on` have been met,
-- and the links still to be looked at decide as all links do.
use mathlib.Core.Path.{◌≡◌, refl, sym, ap, ◌∙◌, subst}
use mathlib.Core.Bool.{true, false}
use mathlib.Core.List.{List, [], ◌∷◌, ◌++◌}
use Prim.Native.Nat.{ℕ, zero, suc, ◌+◌, ◌-◌, ◌≤◌, ◌<◌}
use native.Mathlib.Decide.{ℕ_discrete}
use native.Mathlib.Omega.{arith}
use lib.Dec.{ltb}
use lib.ListN.{length, length-append, length-set, get_or, set}
use lib.Seq.{get_or-set_same, get_or-set_other}
use borrow.Author.Tests.{lt-ltb, le-ltb}
use Rattle.units.specs.Sets.{contains, insert}
use Rattle.units.proofs.Sets.{contains_insert, contains_insert_other, contains_empty}
use Rattle.sheet.specs.declared.chain.Walk.{Walk}
use Rattle.format.specs.Answer.{Answer, Refused, Given, cause, unless}
use Rattle.format.specs.Chain.{is_in, following, chain_of, link_causes}
use Rattle.format.specs.Format.{next_of, record_limit}
use Rattle.format.specs.Stages.{chain_read}
use Rattle.sheet.specs.Walking.{at_header, is_met, onto, word_of, bit_of}
use Rattle.format.proofs.Answers.{refused_by, passed_by, none_left}
use Rattle.format.proofs.Chains.{in_last_same, in_last_other, Met, met_none, met_room, met_more, follow_ends, follow_on}

-- what the links say from a holder on, where the records of a list have been met and k more may follow
abbrev pub said : List ℕ → ℕ → List ℕ → ℕ → ℕ → Answer ℕ
said s r on holder k = unless (link_causes r on holder (following k s holder)) (Given (length on + length (following k s holder)))

pub record Walked (s : List ℕ) (r : ℕ) (w : Walk) : Type 0 where
  pub on : List ℕ
  pub met : Met r on
  pub words : length w.marks ≡ 4
  pub marked : (j : ℕ) → 0 < j → j ≤ record_limit → is_met w j ≡ is_in j on
  pub counted : w.steps ≡ length on
  pub inside : w.at ≤ r
  pub rest : said s r on w.at (suc (r - length on)) ≡ chain_read s r

pub started : (s : List ℕ) (r : ℕ) → Walked s r at_header
unfolding is_met chain_of is_in
started s r =
    record {
      on = [];
      met = met_none r;
      words = refl;
      marked = λ j p q. unmarked (word_of j) (bit_of j) (omega arith);
      counted = refl;
      inside = omega arith;
      rest = ap (λ (k : ℕ). said s r [] 0 (suc k)) none ∙ ap (λ (n : ℕ). unless (link_causes r [] 0 (following (suc r) s 0)) (Given n)) (omega arith);
    }
  where
    none : r - 0 ≡ r
    none = omega arith

    unmarked : (k u : ℕ) → k < 4 → contains (get_or (0 ∷ 0 ∷ 0 ∷ 0 ∷ []) k 0) u ≡ false
    unmarked zero u h = contains_empty u
    unmarked (suc zero) u h = contains_empty u
    unmarked (suc (suc zero)) u h = contains_empty u
    unmarked (suc (suc (suc zero))) u h = contains_empty u
    unmarked (suc (suc (suc (suc k)))) u h = absurd (omega arith)

-- a step sets the mark of its record and leaves the others
mark_set : (w : Walk) (k : ℕ) (on : List ℕ) → word_of k < length w.marks → 0 < k → (j : ℕ) → 0 < j → is_met w j ≡ is_in j on
    → is_met (onto w k) j ≡ is_in j (on ++ (k ∷ []))
unfolding is_met onto
mark_set w k on room pos j p was = go (ℕ_discrete j k) (ℕ_discrete (word_of j) (word_of k))
  where
    x : ℕ
    x = insert (get_or w.marks (word_of k) 0) (bit_of k)

    go : Dec (j ≡ k) → Dec (word_of j ≡ word_of k) → contains (get_or (set w.marks (word_of k) x) (word_of j) 0) (bit_of j) ≡ is_in j (on ++ (k ∷ []))
    go (yes e) d =
        subst (λ (i : ℕ). contains (get_or (set w.marks (word_of k) x) (word_of i) 0) (bit_of i) ≡ is_in i (on ++ (k ∷ []))) (sym e)
        (ap (λ (y : ℕ). contains y (bit_of k)) (get_or-set_same w.marks (word_of k) x 0 room) ∙ contains_insert (get_or w.marks (word_of k) 0) (bit_of k) ∙ sym (in_last_same k on))
    go (no n) (yes e) =
        ap (λ (i : ℕ). contains (get_or (set w.marks (word_of k) x) i 0) (bit_of j)) e
        ∙ ap (λ (y : ℕ). contains y (bit_of j)) (get_or-set_same w.marks (word_of k) x 0 room)
        ∙ contains_insert_other (get_or w.marks (word_of k) 0) (bit_of k) (bit_of j) (λ q. n (omega arith))
        ∙ ap (λ (i : ℕ). contains (get_or w.marks i 0) (bit_of j)) (sym e)
        ∙ was
        ∙ sym (in_last_other j k on n)
    go (no n) (no m) =
        ap (λ (y : ℕ). contains y (bit_of j)) (get_or-set_other w.marks (word_of k) (word_of j) x 0 m) ∙ was ∙ sym (in_last_other j k on n)

module _ {s : List ℕ} {r : ℕ} {w : Walk} (g : Walked s r w) where
  pub ended : next_of s w.at ≡ 0 → Given w.steps ≡ chain_read s r
  unfolding link_causes
  ended e =
      let many : w.steps ≡ length g.on + 0 = omega (arith, g.counted) in
      ap Given many ∙ none_left _
      ∙ ap (λ js. unless (link_causes r g.on w.at js) (Given (length g.on + length js))) (sym (follow_ends (r - length g.on) s w.at e))
      ∙ g.rest

  module _ (z : next_of s w.at ≡ 0 → ⊥) where
    -- the causes of the next link, and those of the links after it
    looked : unless (cause (ltb r (next_of s w.at)) 4 w.at ∷ cause (is_in (next_of s w.at) g.on) 5 w.at ∷ link_causes r (g.on ++ (next_of s w.at ∷ [])) (next_of s w.at) (following (r - length g.on) s (next_of s w.at))) (Given (length g.on + suc (length (following (r - length g.on) s (next_of s w.at))))) ≡ chain_read s r
    unfolding link_causes
    looked =
        ap (λ js. unless (link_causes r g.on w.at js) (Given (length g.on + length js))) (sym (follow_on (r - length g.on) s w.at z))
        ∙ g.rest

    pub led_out : r < next_of s w.at → Refused 4 w.at ≡ chain_read s r
    led_out h = refused_by _ _ _ (lt-ltb r (next_of s w.at) h) ∙ looked

    module _ (lim : r ≤ record_limit) (h : next_of s w.at ≤ r) where
      pub met_again : is_met w (next_of s w.at) ≡ true → Refused 5 w.at ≡ chain_read s r
      met_again m =
          passed_by _ _ _ (le-ltb r (next_of s w.at) h) (refused_by _ _ _ (sym (g.marked (next_of s w.at) (omega arith) (omega arith)) ∙ m))
          ∙ looked

      module _ (m : is_met w (next_of s w.at) ≡ false) where
        new : is_in (next_of s w.at) g.on ≡ false
        new = sym (g.marked (next_of s w.at) (omega arith) (omega arith)) ∙ m

        one_more : Met r (g.on ++ (next_of s w.at ∷ []))
        one_more = met_more (next_of s w.at) (omega arith) h new g.met

        pub room : w.steps < r
        room = omega (arith, met_room one_more, length-append g.on (next_of s w.at ∷ []), g.counted)

        pub onward : Walked s r (onto w (next_of s w.at))
        unfolding onto
        onward =
            record {
              on = g.on ++ (next_of s w.at ∷ []);
              met = one_more;
              words = length-set w.marks (word_of (next_of s w.at)) _ ∙ g.words;
              marked = λ j p q. mark_set w (next_of s w.at) g.on (omega (arith, g.words)) (omega arith) j p (g.marked j p q);
              counted = omega (arith, length-append g.on (next_of s w.at ∷ []), g.counted);
              inside = h;
              rest = gone_on;
            }
          where
            less : suc (r - length (g.on ++ (next_of s w.at ∷ []))) ≡ r - length g.on
            less = omega (arith, met_room one_more, length-append g.on (next_of s w.at ∷ []))

            more : (n : ℕ) → length (g.on ++ (next_of s w.at ∷ [])) + n ≡ length g.on + suc n
            more n = omega (arith, length-append g.on (next_of s w.at ∷ []))

            gone_on : said s r (g.on ++ (next_of s w.at ∷ [])) (next_of s w.at) (suc (r - length (g.on ++ (next_of s w.at ∷ [])))) ≡ chain_read s r
            gone_on =
                ap (said s r (g.on ++ (next_of s w.at ∷ [])) (next_of s w.at)) less
                ∙ ap (λ (n : ℕ). unless (link_causes r (g.on ++ (next_of s w.at ∷ [])) (next_of s w.at) (following (r - length g.on) s (next_of s w.at))) (Given n)) (more _)
                ∙ passed_by _ _ _ (le-ltb r (next_of s w.at) h) (passed_by _ _ _ new refl)
                ∙ looked
