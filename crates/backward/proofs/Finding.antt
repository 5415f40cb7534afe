-- The loop over the units of a set, the lowest first, that joins a row of each, and takes those that pass a test.
use mathlib.Core.Path.{◌≡◌, refl, sym, ap, ap₂, ◌∙◌}
use mathlib.Core.Logic.{◌⊎◌, inl, inr, ⊎_elim, ◌↔◌}
use mathlib.Core.Bool.{Bool, true, false, cond, ◌||◌, false≢true}
use Prim.Native.Nat.{ℕ, ◌<◌, ◌^◌}
use native.Mathlib.Decide.{ℕ_discrete}
use native.Mathlib.Omega.{arith}
use Rattle.units.specs.Members.{Taken}
use Rattle.units.specs.Sets.{bit, union, intersection, contains, insert, remove}
use Rattle.units.proofs.Sets.{bit_empty, bit_insert, bit_insert_other, bit_le, bit_remove_other, remove_subset, unit_below, union_empty_left, union_empty_right, union_insert}
use Rattle.tables.specs.Tables.{row_count, gathered, passing}
use Rattle.tables.proofs.Gathering.{gather_done, gather_on, equal_units}
use Rattle.tables.proofs.Words.{bit_passing, contains_bit, contains_in, in_intersection, in_union, or_true}

-- ---- a unit that is taken if a test holds

-- s with unit b if the test holds, or s
abbrev taken : Bool → ℕ → ℕ → ℕ
taken t s b = cond t (insert s b) s

-- its units
in_taken : (t : Bool) (s b u : ℕ) → (bit (taken t s b) u ≡ 1) ↔ ((bit s u ≡ 1) ⊎ ((t ≡ true) × (u ≡ b)))
in_taken false s b u = (λ h. inl h, λ h. ⊎_elim (λ e. e) (λ w. absurd (false≢true w.0)) h)
in_taken true s b u = go (ℕ_discrete u b)
  where
    go : Dec (u ≡ b) → (bit (insert s b) u ≡ 1) ↔ ((bit s u ≡ 1) ⊎ ((true ≡ true) × (u ≡ b)))
    go (yes e) = (λ h. inr (refl, e), λ h. rw e (bit_insert s b))
    go (no n) = let same = bit_insert_other s b u n in (λ h. inl (sym same ∙ h), λ h. ⊎_elim (λ e. same ∙ e) (λ w. absurd (n w.1)) h)

-- it can be taken to the one side of a union or to the other
union_taken : (t : Bool) (x y b : ℕ) → union (taken t x b) y ≡ union x (taken t y b)
union_taken true x y b = union_insert x y b
union_taken false x y b = refl

-- ---- the units that pass

module _ (test : ℕ → Bool) where
  -- of no units none passes
  pub passing_none : passing row_count 0 test ≡ 0
  passing_none =
      equal_units (passing row_count 0 test) 0 (λ u h. absurd (omega (arith, ((bit_passing row_count 0 test u).0 h).1.0, bit_empty u)))
      (λ u h. absurd (omega (arith, bit_empty u)))

  -- one unit, if it passes, and the others
  pub passing_one : (left b : ℕ) → b < 64 → bit left b ≡ 1
      → cond (test b) (insert (passing row_count (remove left b) test) b) (passing row_count (remove left b) test) ≡ passing row_count left test
  passing_one left b l e = equal_units (taken (test b) rest b) (passing row_count left test) forth back
    where
      rest : ℕ
      rest = passing row_count (remove left b) test

      forth : (u : ℕ) → bit (taken (test b) rest b) u ≡ 1 → bit (passing row_count left test) u ≡ 1
      forth u h =
          ⊎_elim
          (λ r.
          let (k, (i, t)) = (bit_passing row_count (remove left b) test u).0 r in
          (bit_passing row_count left test u).1 (k, (omega (arith, remove_subset left b u, bit_le left u), t)))
          (λ w. rw w.1 ((bit_passing row_count left test b).1 (l, (e, w.0))))
          ((in_taken (test b) rest b u).0 h)

      back : (u : ℕ) → bit (passing row_count left test) u ≡ 1 → bit (taken (test b) rest b) u ≡ 1
      back u h = let (k, (i, t)) = (bit_passing row_count left test u).0 h in (in_taken (test b) rest b u).1 (go k i t (ℕ_discrete u b))
        where
          go : u < 64 → bit left u ≡ 1 → test u ≡ true → Dec (u ≡ b) → (bit rest u ≡ 1) ⊎ ((test b ≡ true) × (u ≡ b))
          go k i t (yes q) = inr (ap test (sym q) ∙ t, q)
          go k i t (no n) = inl ((bit_passing row_count (remove left b) test u).1 (k, (bit_remove_other left b u n ∙ i, t)))

  -- so with those that were taken
  pass_on : (set passed left b : ℕ) → b < 64 → bit left b ≡ 1 → union passed (passing row_count left test) ≡ passing row_count set test
      → union (taken (test b) passed b) (passing row_count (remove left b) test) ≡ passing row_count set test
  pass_on set passed left b l e h =
      union_taken (test b) passed (passing row_count (remove left b) test) b ∙ ap (union passed) (passing_one left b l e) ∙ h

  pass_done : (set passed left : ℕ) → left ≡ 0 → union passed (passing row_count left test) ≡ passing row_count set test → passed ≡ passing row_count set test
  pass_done set passed left e h =
      sym (union_empty_right passed) ∙ ap (union passed) (sym passing_none) ∙ ap (λ (x : ℕ). union passed (passing row_count x test)) (sym e) ∙ h

-- the units that are loose, and those of the others that pass
pub passing_loose : (set loose : ℕ) (test : ℕ → Bool) → set < 2 ^ 64
    → union (intersection set loose) (passing row_count set test) ≡ passing row_count set (λ b. contains loose b || test b)
passing_loose set loose test word =
    equal_units (union (intersection set loose) (passing row_count set test)) (passing row_count set (λ b. contains loose b || test b))
    (λ u h.
    ⊎_elim
    (λ e.
    let (i, k) = (in_intersection set loose u).0 e in
    (bit_passing row_count set (λ b. contains loose b || test b) u).1
    (unit_below 64 set u word i, (i, (or_true (contains loose u) (test u)).1 (inl (contains_in loose u k)))))
    (λ e.
    let (l, (i, k)) = (bit_passing row_count set test u).0 e in
    (bit_passing row_count set (λ b. contains loose b || test b) u).1 (l, (i, (or_true (contains loose u) (test u)).1 (inr k))))
    ((in_union (intersection set loose) (passing row_count set test) u).0 h))
    (λ u h.
    let (l, (i, k)) = (bit_passing row_count set (λ b. contains loose b || test b) u).0 h in
    (in_union (intersection set loose) (passing row_count set test) u).1
    (⊎_elim (λ e. inl ((in_intersection set loose u).1 (i, (contains_bit loose u).0 e))) (λ e. inr ((bit_passing row_count set test u).1 (l, (i, e))))
    ((or_true (contains loose u) (test u)).0 k)))

-- ---- the loop

-- what has been found with what is to be found of the units that are left is all
pub record Finding (rows : ℕ → ℕ) (test : ℕ → Bool) (set joined passed left : ℕ) : Type 0 where
  pub joins : union joined (gathered row_count left rows) ≡ gathered row_count set rows
  pub passes : union passed (passing row_count left test) ≡ passing row_count set test

module _ (rows : ℕ → ℕ) (test : ℕ → Bool) where
  -- at first nothing has been found
  pub finding_begun : (set : ℕ) → Finding rows test set 0 0 set
  finding_begun set = record { joins = union_empty_left (gathered row_count set rows); passes = union_empty_left (passing row_count set test) }

  -- one unit
  pub finding_on : {set joined passed left b joined' passed' rest : ℕ} → Finding rows test set joined passed left → Taken left b rest
      → joined' ≡ union joined (rows b) → passed' ≡ cond (test b) (insert passed b) passed → Finding rows test set joined' passed' rest
  finding_on {set} {joined} {passed} {left} {b} f (l, first, r) j p =
      record {
        joins = ap₂ (λ (x y : ℕ). union x (gathered row_count y rows)) j r ∙ gather_on rows set joined left b l first.has f.joins;
        passes = ap₂ (λ (x y : ℕ). union x (passing row_count y test)) p r ∙ pass_on test set passed left b l first.has f.passes;
      }

  -- at last all has been found
  pub finding_done : {set joined passed left : ℕ} → Finding rows test set joined passed left → left ≡ 0
      → (joined ≡ gathered row_count set rows) × (passed ≡ passing row_count set test)
  finding_done {set} {joined} {passed} {left} f e = (gather_done rows set joined left e f.joins, pass_done test set passed left e f.passes)
