-- Strict orders of the units, as tests, and how one is made of others: from last to first, by a number of each unit,
-- and by classes. The house rule is one (`tie_ordered`).
use mathlib.Core.Path.{◌≡◌, refl, sym, ◌∙◌}
use mathlib.Core.Logic.{◌⊎◌, inl, inr, ⊎_elim, ⊎_map}
use mathlib.Core.Bool.{Bool, true, false, cond, ◌&&◌, ◌||◌, false≢true}
use Prim.Native.Nat.{ℕ, ◌≤◌, ◌<◌}
use native.Mathlib.Decide.{ℕ_discrete, dec_lt}
use native.Mathlib.Omega.{arith}
use lib.Dec.{ltb, eqb}
use borrow.Author.Tests.{ltb-true, ltb-false, eqb-true, eqb-false, lt-ltb, le-ltb}
use Rattle.plans.specs.Support.{tie_order}
pub use Rattle.plans.specs.Support.{Ordered}

-- ---- laws of every order

-- a test that cannot be true is false
is_false : (t : Bool) → (t ≡ true → ⊥) → t ≡ false
is_false true h = absurd (h refl)
is_false false h = refl

module _ {before : ℕ → ℕ → Bool} (o : Ordered before) where
  -- no two units go each before the other
  pub asymmetric : (u v : ℕ) → before u v ≡ true → before v u ≡ false
  asymmetric u v p = is_false (before v u) (λ q. false≢true (sym (o.irreflexive u) ∙ o.transitive u v u p q))

  -- of two units, one goes before the other
  pub other_way : (u v : ℕ) → before v u ≡ false → (u ≡ v → ⊥) → before u v ≡ true
  other_way u v p n = ⊎_elim (λ q. q) (λ q. absurd (false≢true (sym p ∙ q))) (o.total u v n)

  -- not to go before is transitive too
  pub not_before : (u v w : ℕ) → before u v ≡ false → before v w ≡ false → before u w ≡ false
  not_before u v w p q = is_false (before u w) (λ r. false≢true (sym p ∙ go r (ℕ_discrete w v)))
    where
      go : before u w ≡ true → Dec (w ≡ v) → before u v ≡ true
      go r (yes e) = rw e at r
      go r (no n) = o.transitive u w v r (other_way w v q n)

-- ---- the house rule

-- The house rule is a strict order. All that is used here holds of the order of the numbers from either end.
pub tie_ordered : Ordered tie_order
tie_ordered = record {
  irreflexive = λ u. le-ltb u u (omega arith);
  transitive = λ u v w p q. omega (arith, ltb-true, lt-ltb);
  total = λ u v n. go u v n (tie_order u v) refl;
}
  where
    go : (u v : ℕ) → (u ≡ v → ⊥) → (t : Bool) → tie_order u v ≡ t → (tie_order u v ≡ true) ⊎ (tie_order v u ≡ true)
    go u v n true e = inl e
    go u v n false e = inr (omega (arith, ltb-false, lt-ltb))

-- ---- orders made of others

-- from last to first
pub mirror_ordered : {before : ℕ → ℕ → Bool} → Ordered before → Ordered (λ u v. before v u)
mirror_ordered o = record {
  irreflexive = o.irreflexive;
  transitive = λ u v w p q. o.transitive w v u q p;
  total = λ u v n. o.total v u (λ e. n (sym e));
}

-- by a number of each unit, its key, and by another order where the keys are the same
abbrev pub lexical : (ℕ → ℕ) → (ℕ → ℕ → Bool) → ℕ → ℕ → Bool
lexical key tie u v = ltb (key u) (key v) || (eqb (key u) (key v) && tie u v)

-- what the test says: the keys are in order, and the other order decides where they are the same
module _ (key : ℕ → ℕ) (tie : ℕ → ℕ → Bool) (u v : ℕ) where
  lexical_holds : lexical key tie u v ≡ true → (key u ≤ key v) × (key v ≤ key u → tie u v ≡ true)
  lexical_holds h = go (ltb (key u) (key v)) (eqb (key u) (key v)) refl refl h
    where
      go : (x y : Bool) → ltb (key u) (key v) ≡ x → eqb (key u) (key v) ≡ y → x || (y && tie u v) ≡ true
          → (key u ≤ key v) × (key v ≤ key u → tie u v ≡ true)
      go true y p q r = let l = ltb-true (key u) (key v) p in (omega arith, λ k. absurd (omega arith))
      go false true p q r = (omega (arith, eqb-true (key u) (key v) q), λ k. r)
      go false false p q r = absurd (false≢true r)

  lexical_made : key u ≤ key v → (key v ≤ key u → tie u v ≡ true) → lexical key tie u v ≡ true
  lexical_made h f = go (ltb (key u) (key v)) (eqb (key u) (key v)) refl refl
    where
      go : (x y : Bool) → ltb (key u) (key v) ≡ x → eqb (key u) (key v) ≡ y → x || (y && tie u v) ≡ true
      go true y p q = refl
      go false true p q = f (ltb-false (key u) (key v) p)
      go false false p q = absurd (eqb-false (key u) (key v) q (omega (arith, ltb-false (key u) (key v) p)))

-- this is an order
pub lexical_ordered : (key : ℕ → ℕ) {tie : ℕ → ℕ → Bool} → Ordered tie → Ordered (lexical key tie)
lexical_ordered key {tie} o = record {
  irreflexive = λ u. is_false _ (λ h. false≢true (sym (o.irreflexive u) ∙ (lexical_holds key tie u u h).1 (omega arith)));
  transitive = λ u v w h k.
      let p = lexical_holds key tie u v h in
      let q = lexical_holds key tie v w k in
      lexical_made key tie u w (omega arith) (λ l. o.transitive u v w (p.1 (omega arith)) (q.1 (omega arith)));
  total = λ u v n. total u v (o.total u v n) (dec_lt (key u) (key v)) (dec_lt (key v) (key u));
}
  where
    total : (u v : ℕ) → (tie u v ≡ true) ⊎ (tie v u ≡ true) → Dec (key u < key v) → Dec (key v < key u)
        → (lexical key tie u v ≡ true) ⊎ (lexical key tie v u ≡ true)
    total u v t (yes l) d = inl (lexical_made key tie u v (omega arith) (λ k. absurd (omega arith)))
    total u v t (no g) (yes l) = inr (lexical_made key tie v u (omega arith) (λ k. absurd (omega arith)))
    total u v t (no g) (no l) =
        ⊎_map (λ h. lexical_made key tie u v (omega arith) (λ k. h)) (λ h. lexical_made key tie v u (omega arith) (λ k. h)) t

-- By classes: the units for which a test holds go before the rest, and each class has an order of its own. Here a and
-- b are the test of the two units, and x and y say whether the first goes before the second in the one class and in
-- the other.
abbrev pub classed : Bool → Bool → Bool → Bool → Bool
classed a b x y = cond a (cond b x true) (cond b false y)

-- this is an order
pub classed_ordered : (p : ℕ → Bool) {f g : ℕ → ℕ → Bool} → Ordered f → Ordered g → Ordered (λ u v. classed (p u) (p v) (f u v) (g u v))
classed_ordered p {f} {g} o q = record {
  irreflexive = λ u. irreflexive u (p u);
  transitive = λ u v w. transitive u v w (p u) (p v) (p w);
  total = λ u v. total u v (p u) (p v);
}
  where
    irreflexive : (u : ℕ) (a : Bool) → classed a a (f u u) (g u u) ≡ false
    irreflexive u true = o.irreflexive u
    irreflexive u false = q.irreflexive u

    transitive : (u v w : ℕ) (a b c : Bool) → classed a b (f u v) (g u v) ≡ true → classed b c (f v w) (g v w) ≡ true
        → classed a c (f u w) (g u w) ≡ true
    transitive u v w true true true h k = o.transitive u v w h k
    transitive u v w true b false h k = refl
    transitive u v w true false true h k = absurd (false≢true k)
    transitive u v w false true c h k = absurd (false≢true h)
    transitive u v w false false true h k = k
    transitive u v w false false false h k = q.transitive u v w h k

    total : (u v : ℕ) (a b : Bool) → (u ≡ v → ⊥) → (classed a b (f u v) (g u v) ≡ true) ⊎ (classed b a (f v u) (g v u) ≡ true)
    total u v true true n = o.total u v n
    total u v true false n = inl refl
    total u v false true n = inr refl
    total u v false false n = q.total u v n

-- a wider test in each class makes a wider test
pub classed_wider : (a b x y x' y' : Bool) → classed a b x y ≡ true → classed a b (x || x') (y || y') ≡ true
classed_wider true true x y x' y' h = rw h
classed_wider true false x y x' y' h = h
classed_wider false true x y x' y' h = h
classed_wider false false x y x' y' h = rw h
