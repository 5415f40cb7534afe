-- Lists of words joined, word by word. Joining is commutative and associative (`joined_comm`, `joined_past`), and
-- lists without a unit are of no account (`none_joined`). So a loop may join lists to an output in any order
-- (`Joining`): what is there, with those still to come, is all of them joined. A loop takes `joining_begun` once the
-- output is cleared, `joining_on` in a turn, with `all_from` or `all_up_to` for the way that it goes, and
-- `joining_done` after the last turn.
use mathlib.Core.Path.{◌≡◌, refl, sym, ap, ap₂, ◌∙◌, fun_ext}
use mathlib.Core.List.{List, [], ◌∷◌, ◌++◌, map, map-id, Memᴰ}
use mathlib.Core.Logic.{◌↔◌}
use Prim.Native.Nat.{ℕ, zero, suc, ◌≤◌, ◌<◌}
use native.Mathlib.Omega.{arith}
use lib.ListN.{length, length-replicate, replicate, take, drop, get_or}
use lib.Seq.{sets, length-sets, drop_at, drop-cons, length-take-le, take_at}
use Rattle.units.specs.Sets.{bit, union}
use Rattle.units.proofs.Sets.{bit_union, set_ext, union_empty_right}
use Rattle.plans.specs.Plans.{joined, joined_all}
use Rattle.plans.proofs.Cells.{Long, all_length, all_member}
use Rattle.plans.proofs.Laid.{sets_first}

-- ---- two lists

-- the order of two lists is of no account
pub joined_comm : (p q : List ℕ) → joined p q ≡ joined q p
unfolding joined
joined_comm [] [] = refl
joined_comm [] (y ∷ q) = refl
joined_comm (x ∷ p) [] = refl
joined_comm (x ∷ p) (y ∷ q) = ap₂ ◌∷◌ (set_ext (union x y) (union y x) (λ u. omega (arith, bit_union x y u, bit_union y x u))) (joined_comm p q)

-- the first may as well be joined to the rest
pub joined_past : (p a r : List ℕ) → joined (joined p a) r ≡ joined a (joined p r)
unfolding joined
joined_past [] [] r = refl
joined_past [] (y ∷ a) r = refl
joined_past (x ∷ p) [] r = refl
joined_past (x ∷ p) (y ∷ a) [] = refl
joined_past (x ∷ p) (y ∷ a) (z ∷ r) =
    ap₂ ◌∷◌
    (set_ext (union (union x y) z) (union y (union x z))
    (λ u. omega (arith, bit_union (union x y) z u, bit_union x y u, bit_union y (union x z) u, bit_union x z u)))
    (joined_past p a r)

-- a list with words that have no unit
pub joined_none : (p : List ℕ) (n : ℕ) → length p ≡ n → joined p (replicate n 0) ≡ p
unfolding joined
joined_none [] n e = refl
joined_none (x ∷ p) zero e = absurd (omega arith)
joined_none (x ∷ p) (suc n) e = ap₂ ◌∷◌ (union_empty_right x) (joined_none p n (omega arith))

pub none_joined : (p : List ℕ) (n : ℕ) → length p ≡ n → joined (replicate n 0) p ≡ p
none_joined p n e = joined_comm (replicate n 0) p ∙ joined_none p n e

-- two lists of n words joined have n words
pub joined_long : (p q : List ℕ) (n : ℕ) → length p ≡ n → length q ≡ n → length (joined p q) ≡ n
unfolding joined
joined_long [] q n e f = e
joined_long (x ∷ p) [] n e f = f
joined_long (x ∷ p) (y ∷ q) zero e f = absurd (omega arith)
joined_long (x ∷ p) (y ∷ q) (suc n) e f = ap suc (joined_long p q n (omega arith) (omega arith))

-- n words or fewer are joined to the first n of a list
pub joined_first : (p out : List ℕ) (n : ℕ) → length p ≤ n → joined p out ≡ joined p (take n out)
unfolding joined
joined_first [] out n h = refl
joined_first (x ∷ p) [] zero h = refl
joined_first (x ∷ p) [] (suc n) h = refl
joined_first (x ∷ p) (y ∷ out) zero h = absurd (omega arith)
joined_first (x ∷ p) (y ∷ out) (suc n) h = ap (λ l. union x y ∷ l) (joined_first p out n (omega arith))

-- the words of the second list, each joined to its word of the first, are the two lists joined
pub joined_words : (p q l : List ℕ) (n : ℕ) → length p ≡ n → length q ≡ n → length l ≡ n
    → ((i : ℕ) → i < n → get_or l i 0 ≡ union (get_or p i 0) (get_or q i 0)) → l ≡ joined p q
unfolding joined
joined_words [] q [] n e f g h = refl
joined_words [] q (z ∷ l) n e f g h = absurd (omega arith)
joined_words (x ∷ p) [] l n e f g h = absurd (omega arith)
joined_words (x ∷ p) (y ∷ q) [] n e f g h = absurd (omega arith)
joined_words (x ∷ p) (y ∷ q) (z ∷ l) zero e f g h = absurd (omega arith)
joined_words (x ∷ p) (y ∷ q) (z ∷ l) (suc n) e f g h =
    ap₂ ◌∷◌ (h 0 (omega arith)) (joined_words p q l n (omega arith) (omega arith) (omega arith) (λ i k. h (suc i) (omega arith)))

-- ---- all lists

module _ (n : ℕ) (ps : List (List ℕ)) (long : Long n ps) where
  -- no word altered
  plain : joined_all n (map (map (λ (x : ℕ). x)) ps) ≡ joined_all n ps
  plain = ap (joined_all n) (ap (λ (f : List ℕ → List ℕ). map f ps) (fun_ext map-id) ∙ map-id ps)

  -- lists of n words joined have n words
  pub all_long : length (joined_all n ps) ≡ n
  all_long = ap length (sym plain) ∙ all_length (λ x. x) n ps long

  -- and a unit exactly if one of them has it
  pub all_have : (i u : ℕ) → i < n → (bit (get_or (joined_all n ps) i 0) u ≡ 1) ↔ ((p : List ℕ) × Memᴰ p ps × (bit (get_or p i 0) u ≡ 1))
  all_have i u l =
      let h = all_member (λ x. x) n i u ps l long in
      let e = ap (λ (w : List ℕ). bit (get_or w i 0) u) plain in
      (λ k. h.0 (e ∙ k), λ k. sym e ∙ h.1 k)

module _ (n : ℕ) where
  -- those from the one at c on, and those before it with it, are it joined to the rest of them
  pub all_from : (ps : List (List ℕ)) (c : ℕ) → c < length ps → joined_all n (drop c ps) ≡ joined (get_or ps c []) (joined_all n (drop (suc c) ps))
  unfolding joined_all
  all_from ps c l = ap (joined_all n) (drop-cons ps c [] l)

  pub all_up_to : (ps : List (List ℕ)) (c : ℕ) → c < length ps → joined_all n (take (suc c) ps) ≡ joined (get_or ps c []) (joined_all n (take c ps))
  unfolding joined_all
  all_up_to [] c l = absurd (omega arith)
  all_up_to (p ∷ ps) zero l = refl
  all_up_to (p ∷ ps) (suc c) l =
      let q = get_or ps c [] in
      let rest = joined_all n (take c ps) in
      ap (joined p) (all_up_to ps c (omega arith)) ∙ sym (joined_past q p rest) ∙ ap (λ w. joined w rest) (joined_comm q p) ∙ joined_past p q rest

-- ---- a loop

-- the first n places of an output hold some of the lists ps joined, and those that are left are still to come
pub record Joining (n : ℕ) (ps left : List (List ℕ)) (before now : List ℕ) : Type 0 where
  pub placed : now ≡ sets before 0 (take n now)
  pub rest : joined (take n now) (joined_all n left) ≡ joined_all n ps

-- n words in the first places, in the place of n others
sets_over : (words others before : List ℕ) (n : ℕ) → length words ≡ n → length others ≡ n → n ≤ length before
    → sets (sets before 0 others) 0 words ≡ sets before 0 words
sets_over words others before n e f h =
    sets_first words (sets before 0 others) (omega (arith, length-sets before 0 others))
    ∙ ap (λ l. words ++ l)
    (ap (drop (length words)) (sets_first others before (omega arith)) ∙ drop_at others (drop (length others) before) (length words) (f ∙ sym e)
    ∙ ap (λ (k : ℕ). drop k before) (f ∙ sym e))
    ∙ sym (sets_first words before (omega arith))

-- and read again
take_sets : (words before : List ℕ) (n : ℕ) → length words ≡ n → n ≤ length before → take n (sets before 0 words) ≡ words
take_sets words before n e h = ap (take n) (sets_first words before (omega arith)) ∙ take_at words (drop (length words) before) n e

-- the output is cleared, and all lists are still to come
pub joining_begun : (n : ℕ) (ps : List (List ℕ)) (before now : List ℕ) → Long n ps → n ≤ length before → now ≡ sets before 0 (replicate n 0)
    → Joining n ps ps before now
joining_begun n ps before now long h e =
    let empty : take n now ≡ replicate n 0 = ap (take n) e ∙ take_sets (replicate n 0) before n (length-replicate n 0) h in
    record {
      placed = e ∙ ap (sets before 0) (sym empty);
      rest = ap (λ w. joined w (joined_all n ps)) empty ∙ none_joined (joined_all n ps) n (all_long n ps long);
    }

module _ {n : ℕ} {ps left : List (List ℕ)} {before now : List ℕ} (g : Joining n ps left before now) (room : n ≤ length before) where
  -- the output is as long as it was
  pub joining_long : length now ≡ length before
  joining_long = ap length g.placed ∙ length-sets before 0 (take n now)

  -- and so has n words
  first : length (take n now) ≡ n
  first = length-take-le n now (omega (arith, joining_long))

  -- the list p is joined, and fewer lists are left
  pub joining_on : (p : List ℕ) (fewer : List (List ℕ)) (after : List ℕ) → length p ≡ n → joined_all n left ≡ joined p (joined_all n fewer)
      → after ≡ sets now 0 (joined p (take n now)) → Joining n ps fewer before after
  joining_on p fewer after e same is =
      let long = joined_long p (take n now) n e first in
      let here : after ≡ sets before 0 (joined p (take n now)) =
      is ∙ ap (λ l. sets l 0 (joined p (take n now))) g.placed ∙ sets_over (joined p (take n now)) (take n now) before n long first room in
      let words : take n after ≡ joined p (take n now) = ap (take n) here ∙ take_sets (joined p (take n now)) before n long room in
      record {
        placed = here ∙ ap (sets before 0) (sym words);
        rest =
            ap (λ w. joined w (joined_all n fewer)) words ∙ joined_past p (take n now) (joined_all n fewer)
            ∙ ap (joined (take n now)) (sym same) ∙ g.rest;
      }

  -- once none is left, the output holds all of them joined
  pub joining_done : left ≡ [] → now ≡ sets before 0 (joined_all n ps)
  unfolding joined_all
  joining_done none =
      g.placed
      ∙ ap (sets before 0) (sym (joined_none (take n now) n first) ∙ ap (λ l. joined (take n now) (joined_all n l)) (sym none) ∙ g.rest)
