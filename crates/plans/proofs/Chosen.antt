-- The first k units of a set in an order: what is meant by them (`Chosen`), that `taken` has them (`taken_chosen`),
-- and that no other set does (`chosen_unique`).
use mathlib.Core.Path.{◌≡◌, refl, sym, ◌∙◌}
use mathlib.Core.Logic.{◌⊎◌, inl, inr, ⊎_elim}
use mathlib.Core.Bool.{Bool, true, false, cond, false≢true}
use mathlib.Core.List.Memᴰ
use mathlib.Core.List.{List, [], ◌∷◌, Memᴰ}
use Prim.Native.Nat.{ℕ, zero, suc, ◌≤◌, ◌<◌}
use native.Mathlib.Decide.{ℕ_discrete}
use native.Mathlib.Omega.{arith}
use Rattle.units.specs.Sets.{bit, Subset, insert, remove, size, Leads}
use Rattle.units.proofs.Sets.{below_own_power, bit_empty, bit_le, bit_cases, bit_insert, bit_insert_other, bit_remove, bit_remove_other, bit_le_size, insert_subset, remove_subset, set_ext, size_empty, size_insert, size_remove, unit_below, unit_outside, other_unit, units_named, named_units}
use Rattle.plans.specs.Support.{members, first_in, taken}
use Rattle.plans.proofs.Orders.{Ordered, asymmetric, other_way, not_before}

-- f is the first of the units with a property: it is one, and none goes before it
pub record Foremost (before : ℕ → ℕ → Bool) (P : ℕ → Type 0) (f : ℕ) : Type 0 where
  pub member : P f
  pub least : (u : ℕ) → P u → before u f ≡ false

-- g holds the first k units of c: each of them goes before every other unit of c
pub record Chosen (before : ℕ → ℕ → Bool) (k c g : ℕ) : Type 0 where
  pub inside : Subset g c
  pub counted : size g ≡ k
  pub ahead : (v w : ℕ) → bit g v ≡ 1 → bit c w ≡ 1 → bit g w ≡ 0 → before v w ≡ true

module _ {before : ℕ → ℕ → Bool} (o : Ordered before) where
  -- the unit that `first_in` picks of a list is the first: of the head and the first of the tail it is the one that
  -- goes before the other
  pub first_in_lem : (u : ℕ) (us : List ℕ) → Foremost before (λ x. Memᴰ x (u ∷ us)) (first_in before (u ∷ us))
  unfolding first_in
  first_in_lem u [] = record { member = Memᴰ.head refl; least = λ x m. rw (Memᴰ.eq_of_singleton m) (o.irreflexive u) }
  first_in_lem u (v ∷ us) = go (first_in before (v ∷ us)) (before (first_in before (v ∷ us)) u) refl (first_in_lem v us)
    where
      go : (w : ℕ) (t : Bool) → before w u ≡ t → Foremost before (λ x. Memᴰ x (v ∷ us)) w
          → Foremost before (λ x. Memᴰ x (u ∷ v ∷ us)) (cond t w u)
      go w true e f = record {
        member = Memᴰ.tail f.member;
        least = λ x m. ⊎_elim (λ q. rw q (asymmetric o w u e)) (f.least x) (Memᴰ.cases_cons m);
      }
      go w false e f = record {
        member = Memᴰ.head refl;
        least = λ x m. ⊎_elim (λ q. rw q (o.irreflexive u)) (λ m'. not_before o x w u (f.least x m') e) (Memᴰ.cases_cons m);
      }

  -- and the one that it picks of the units of a set is the first of these
  pub first_of_set : (c : ℕ) → 0 < size c → Foremost before (λ x. bit c x ≡ 1) (first_in before (members c))
  first_of_set c h = go (members c) refl
    where
      listed : (u : ℕ) → bit c u ≡ 1 → Memᴰ u (members c)
      listed u b = named_units c c u (unit_below c c u (below_own_power c) b) b

      go : (us : List ℕ) → members c ≡ us → Foremost before (λ x. bit c x ≡ 1) (first_in before us)
      go [] e = let r = unit_outside c 0 (omega (arith, size_empty)) in absurd (Memᴰ.not-nil (rw e at (listed r.0 r.1.0)))
      go (u ∷ us) e =
          let f = first_in_lem u us in
          record { member = (units_named c c (first_in before (u ∷ us)) (rw e f.member)).1; least = λ w b. f.least w (rw e at (listed w b)) }

  -- so a unit of a set that none goes before is the one that it picks
  pub first_leads : (c u : ℕ) → Leads (λ v w. before v w ≡ true) c u → u ≡ first_in before (members c)
  first_leads c u l = go (ℕ_discrete u first)
    where
      first : ℕ
      first = first_in before (members c)

      f : Foremost before (λ x. bit c x ≡ 1) first
      f = first_of_set c (omega (arith, bit_le_size c u, l.has))

      go : Dec (u ≡ first) → u ≡ first
      go (yes e) = e
      go (no n) = absurd (omega (arith, f.member, l.first first (other_way o first u (f.least u l.has) (λ e. n (sym e)))))

  -- the first unit of a set and the first k of the rest are the first k + 1
  one_more : (k c u g : ℕ) → Foremost before (λ x. bit c x ≡ 1) u → Chosen before k (remove c u) g → Chosen before (suc k) c (insert g u)
  one_more k c u g f r = record {
    inside = insert_subset g c u (λ v. omega (arith, r.inside v, remove_subset c u v)) f.member;
    counted = omega (arith, size_insert g u lacks, r.counted);
    ahead = λ v w p q z. ahead v w (ℕ_discrete v u) (ℕ_discrete w u) p q z;
  }
    where
      lacks : bit g u ≡ 0
      lacks = omega (arith, r.inside u, bit_remove c u)

      ahead : (v w : ℕ) → Dec (v ≡ u) → Dec (w ≡ u) → bit (insert g u) v ≡ 1 → bit c w ≡ 1 → bit (insert g u) w ≡ 0 → before v w ≡ true
      ahead v w d (yes e) p q z = absurd (omega (arith, bit_insert g u, rw e at z))
      ahead v w (yes e) (no n) p q z = rw e (other_way o u w (f.least w q) (λ x. n (sym x)))
      ahead v w (no m) (no n) p q z =
          r.ahead v w (sym (bit_insert_other g u v m) ∙ p) (bit_remove_other c u w n ∙ q) (sym (bit_insert_other g u w n) ∙ z)

  -- `taken` has the first k units
  pub taken_chosen : (k c : ℕ) → k ≤ size c → Chosen before k c (taken before k c)
  unfolding taken
  taken_chosen zero c h = record {
    inside = λ u. omega (arith, bit_empty u);
    counted = size_empty;
    ahead = λ v w p q r. absurd (omega (arith, bit_empty v));
  }
  taken_chosen (suc k) c h =
      let u = first_in before (members c) in
      let f = first_of_set c (omega arith) in
      one_more k c u (taken before k (remove c u)) f (taken_chosen k (remove c u) (omega (arith, size_remove c u f.member)))

  -- Two sets of the first k units are the same. A unit that only one of them had would go before one that only the
  -- other has, which there is, as the sizes are equal; and that one before the first.
  chosen_within : {k c g h : ℕ} → Chosen before k c g → Chosen before k c h → Subset g h
  chosen_within {k} {c} {g} {h} p q u = go (bit_cases g u) (bit_cases h u)
    where
      go : (bit g u ≡ 0) ⊎ (bit g u ≡ 1) → (bit h u ≡ 0) ⊎ (bit h u ≡ 1) → bit g u ≤ bit h u
      go (inl a) y = omega arith
      go (inr a) (inr b) = omega arith
      go (inr a) (inl b) =
          let (v, (has, lacks)) = other_unit g h u a b (omega (arith, p.counted, q.counted)) in
          let forth = p.ahead u v a (omega (arith, q.inside v, bit_le c v)) lacks in
          let back = q.ahead v u has (omega (arith, p.inside u, bit_le c u)) b in
          absurd (false≢true (sym (asymmetric o u v forth) ∙ back))

  pub chosen_unique : {k c g h : ℕ} → Chosen before k c g → Chosen before k c h → g ≡ h
  chosen_unique {k} {c} {g} {h} p q = set_ext g h (λ u. omega (arith, chosen_within p q u, chosen_within q p u))
