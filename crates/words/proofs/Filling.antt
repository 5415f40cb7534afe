-- A loop that puts words into an output one by one: what the turns to come make of the output is what all make of it
-- as it was.
use mathlib.Core.Path.{◌≡◌, refl, sym, ap, ap₂, ◌∙◌}
use mathlib.Core.List.{List, ◌∷◌}
use Prim.Native.Nat.{ℕ, suc, ◌+◌, ◌≤◌, ◌<◌}
use native.Mathlib.Numerals.{add-one}
use native.Mathlib.Omega.{arith}
use lib.ListN.{length, length-set, length-map, take, drop, set, get_or, drop_of_length-le}
use lib.Seq.{sets, length-take-le, get_or-take, drop-cons}
use Rattle.units.specs.Sets.{intersection}
use Rattle.chambers.specs.Parts.{cut}
use Rattle.chambers.proofs.Joined.{get_d_cut}

-- the words of an output after i of them were put
pub record Filling (words before now : List ℕ) (i : ℕ) : Type 0 where
  pub within : i ≤ length words
  pub same_long : length now ≡ length before
  pub ends : sets now i (drop i words) ≡ sets before 0 words

pub fill_begun : (words before : List ℕ) → Filling words before before 0
fill_begun words before = record { within = omega arith; same_long = refl; ends = refl }

module _ {words before now : List ℕ} {i : ℕ} (g : Filling words before now i) where
  -- the next word is put
  pub fill_on : (word : ℕ) → i < length words → word ≡ get_or words i 0 → Filling words before (set now i word) (i + 1)
  fill_on word h e =
      let rest : drop i words ≡ word ∷ drop (suc i) words = drop-cons words i 0 h ∙ ap (λ (x : ℕ). x ∷ drop (suc i) words) (sym e) in
      record {
        within = omega arith;
        same_long = length-set now i word ∙ g.same_long;
        ends = ap₂ (λ (k m : ℕ). sets (set now i word) k (drop m words)) (add-one i) (add-one i) ∙ ap (sets now i) (sym rest) ∙ g.ends;
      }

  -- all are
  pub fill_done : length words ≤ i → now ≡ sets before 0 words
  fill_done h = sym (ap (sets now i) (drop_of_length-le words h)) ∙ g.ends

-- ---- the words that are put

-- the first n words, also cut down to some units
module _ (from : List ℕ) (n : ℕ) (room : n ≤ length from) where
  pub first_long : length (take n from) ≡ n
  first_long = length-take-le n from room

  pub cut_long : (units : ℕ) → length (cut units (take n from)) ≡ n
  cut_long units = length-map (take n from) (λ x. intersection x units) ∙ first_long

  pub cut_at : (units i : ℕ) → i < n → intersection (get_or from i 0) units ≡ get_or (cut units (take n from)) i 0
  cut_at units i h = sym (get_d_cut units (take n from) i (omega (arith, first_long)) ∙ ap (λ (x : ℕ). intersection x units) (get_or-take n from i 0 h))
