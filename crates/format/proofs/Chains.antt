-- Laws on the chain.
--
-- `Met r on`: the records `on` the chain are distinct and between 1 and r, so that they are r at the most
-- (`met_room`). They are told apart by a set that has each of them as a unit: its size is their number, and it has no
-- unit but 1 to r.
use mathlib.Core.Path.{◌≡◌, refl, sym, ap, ◌∙◌, subst}
use mathlib.Core.Bool.{true, false, ◌||◌, or_assoc, or-false, or-true}
use mathlib.Core.List.{List, [], ◌∷◌, ◌++◌}
use Prim.Native.Nat.{ℕ, zero, suc, ◌+◌, ◌/◌, ◌^◌, ◌≤◌, ◌<◌}
use native.Mathlib.Nat.{pow-suc, suc-add}
use native.Mathlib.Decide.{ℕ_discrete}
use native.Mathlib.Omega.{arith}
use lib.Dec.{eqb}
use lib.ListN.{length, length-append}
use borrow.Author.Tests.{eq-eqb, ne_eqb, ltb-false}
use Rattle.units.specs.Sets.{bit, contains, insert, size}
use Rattle.units.proofs.Sets.{bit_empty, bit_zero, bit_insert_other, contains_insert, contains_insert_other, contains_empty, outside, size_empty, size_insert, size_step, size_below, bit_above, below_pow}
use Rattle.format.specs.Answer.{Answer, Given, unless}
use Rattle.format.specs.Chain.{is_in, following, chain_of, link_causes}
use Rattle.format.specs.Format.{next_of}
use Rattle.format.proofs.Answers.{past_first}

-- ---- members of a list

pub in_last : (j k : ℕ) (on : List ℕ) → is_in j (on ++ (k ∷ [])) ≡ (is_in j on || eqb j k)
unfolding is_in
in_last j k [] = or-false (eqb j k)
in_last j k (x ∷ on) = ap (λ b. eqb j x || b) (in_last j k on) ∙ sym (or_assoc (eqb j x) (is_in j on) (eqb j k))

pub in_last_same : (k : ℕ) (on : List ℕ) → is_in k (on ++ (k ∷ [])) ≡ true
in_last_same k on = in_last k k on ∙ ap (λ b. is_in k on || b) (eq-eqb k k refl) ∙ or-true (is_in k on)

pub in_last_other : (j k : ℕ) (on : List ℕ) → (j ≡ k → ⊥) → is_in j (on ++ (k ∷ [])) ≡ is_in j on
in_last_other j k on h = in_last j k on ∙ ap (λ b. is_in j on || b) (ne_eqb j k h) ∙ or-false (is_in j on)

-- ---- distinct records

pub record Met (r : ℕ) (on : List ℕ) : Type 0 where
  pub as_set : ℕ
  pub members : (j : ℕ) → is_in j on ≡ contains as_set j
  pub counted : size as_set ≡ length on
  pub none_is_zero : bit as_set 0 ≡ 0
  pub within : as_set < 2 ^ suc r

pub met_none : (r : ℕ) → Met r []
unfolding is_in
met_none r =
    record {
      as_set = 0;
      members = λ j. sym (contains_empty j);
      counted = size_empty;
      none_is_zero = bit_empty 0;
      within = below_pow (suc r) 0 (λ u h. bit_empty u);
    }

pub met_room : {r : ℕ} {on : List ℕ} → Met r on → length on ≤ r
met_room {r} {on} m =
    let x = m.as_set in
    let half : size (x / 2) ≤ r = size_below r (x / 2) (omega (arith, m.within, pow-suc 2 r)) in
    omega (arith, size_step x, bit_zero x, m.none_is_zero, m.counted)

pub met_more : {r : ℕ} {on : List ℕ} (j : ℕ) → 0 < j → j ≤ r → is_in j on ≡ false → Met r on → Met r (on ++ (j ∷ []))
met_more {r} {on} j pos le new m =
    record {
      as_set = insert x j;
      members = λ k. member k (ℕ_discrete k j);
      counted = size_insert x j absent ∙ omega (arith, m.counted, length-append on (j ∷ []));
      none_is_zero = bit_insert_other x j 0 (omega arith) ∙ m.none_is_zero;
      within = below_pow (suc r) (insert x j) (λ u h. bit_insert_other x j u (omega arith) ∙ bit_above (suc r) x u m.within h);
    }
  where
    x : ℕ
    x = m.as_set

    absent : bit x j ≡ 0
    absent = outside x j (sym (m.members j) ∙ new)

    member : (k : ℕ) → Dec (k ≡ j) → is_in k (on ++ (j ∷ [])) ≡ contains (insert x j) k
    member k (yes e) = subst (λ (i : ℕ). is_in i (on ++ (j ∷ [])) ≡ contains (insert x j) i) (sym e) (in_last_same j on ∙ sym (contains_insert x j))
    member k (no n) = in_last_other k j on n ∙ m.members k ∙ sym (contains_insert_other x j k n)

-- ---- the definition, one link at a time

pub follow_ends : (k : ℕ) (s : List ℕ) (holder : ℕ) → next_of s holder ≡ 0 → following (suc k) s holder ≡ []
unfolding following
follow_ends k s holder e = simp (eq-eqb (next_of s holder) 0 e)

pub follow_on : (k : ℕ) (s : List ℕ) (holder : ℕ) → (next_of s holder ≡ 0 → ⊥) → following (suc k) s holder ≡ next_of s holder ∷ following k s (next_of s holder)
unfolding following
follow_on k s holder n = simp (ne_eqb (next_of s holder) 0 n)

-- ---- the chain is long enough

-- Once as many records may follow as there are places for distinct ones, more change nothing: `answer` is whatever is
-- made of the chain.
long_enough : {A : Type 0} (answer : List ℕ → Answer A) (s : List ℕ) (r k more : ℕ) (met : List ℕ) (holder : ℕ) → Met r met → r < length met + k
    → unless (link_causes r met holder (following (k + more) s holder)) (answer (following (k + more) s holder))
    ≡ unless (link_causes r met holder (following k s holder)) (answer (following k s holder))
unfolding link_causes
long_enough {A} answer s r zero more met holder m h = absurd (omega (arith, met_room m))
long_enough {A} answer s r (suc k) more met holder m h =
    ap (λ (n : ℕ). unless (link_causes r met holder (following n s holder)) (answer (following n s holder))) (suc-add k more)
    ∙ go (ℕ_discrete (next_of s holder) 0) (λ m' h'. long_enough (λ js. answer (next_of s holder ∷ js)) s r k more (met ++ (next_of s holder ∷ [])) (next_of s holder) m' h')
  where
    next : ℕ
    next = next_of s holder

    decided : List ℕ → Answer A
    decided js = unless (link_causes r met holder js) (answer js)

    further : List ℕ → Answer A
    further js = unless (link_causes r (met ++ (next ∷ [])) next js) (answer (next ∷ js))

    go : Dec (next ≡ 0) → (Met r (met ++ (next ∷ [])) → r < length (met ++ (next ∷ [])) + k → further (following (k + more) s next) ≡ further (following k s next))
        → decided (following (suc (k + more)) s holder) ≡ decided (following (suc k) s holder)
    go (yes e) ih = ap decided (follow_ends (k + more) s holder e ∙ sym (follow_ends k s holder e))
    go (no n) ih =
        ap decided (follow_on (k + more) s holder n)
        ∙ past_first _ _ _ _ _ (λ in-range. past_first _ _ _ _ _ (λ new.
        ih (met_more next (omega arith) (ltb-false r next in-range) new m) (omega (arith, length-append met (next ∷ [])))))
        ∙ ap decided (sym (follow_on k s holder n))

-- so looking at more links than the definition does gives the same refusal or the same chain
pub chain_is_long_enough : (s : List ℕ) (r more : ℕ)
    → unless (link_causes r [] 0 (following (suc r + more) s 0)) (Given (following (suc r + more) s 0)) ≡ unless (link_causes r [] 0 (chain_of s r)) (Given (chain_of s r))
unfolding chain_of
chain_is_long_enough s r more = long_enough Given s r (suc r) more [] 0 (met_none r) (omega arith)
