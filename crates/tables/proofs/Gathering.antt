-- The loops over the units of a set, the lowest first: what is left after one, and what has been gathered with what
-- is still to be gathered.
use mathlib.Core.Path.{◌≡◌, sym, ap, ◌∙◌}
use mathlib.Core.Logic.{◌⊎◌, inl, inr, ⊎_elim}
use Prim.Native.Nat.{ℕ, ◌<◌}
use native.Mathlib.Decide.{ℕ_discrete}
use native.Mathlib.Omega.{arith}
use Rattle.units.specs.Members.{Taken}
use Rattle.units.specs.Sets.{bit, union, remove}
use Rattle.units.proofs.Sets.{bit_cases, bit_empty, bit_le, bit_remove, bit_remove_other, by_unit, remove_subset, set_ext, union_assoc, union_empty_right}
use Rattle.tables.specs.Tables.{row_count, gathered}
use Rattle.tables.proofs.Words.{bit_gathered, in_union}

-- ---- what is left

-- when a unit is taken of those that are left
module _ {left b rest : ℕ} (taken : Taken left b rest) where
  -- what holds of the units that are done, and of this one, holds of all that are done then
  pub done_on : (set : ℕ) (P : ℕ → Type 0) → ((v : ℕ) → bit set v ≡ 1 → bit left v ≡ 0 → P v) → (bit set b ≡ 1 → P b)
      → (v : ℕ) → bit set v ≡ 1 → bit rest v ≡ 0 → P v
  done_on set P done this =
      by_unit b (λ v. bit set v ≡ 1 → bit rest v ≡ 0 → P v) (λ h z. this h)
      (λ v n h z. done v h (sym (bit_remove_other left b v n) ∙ ap (λ (x : ℕ). bit x v) (sym taken.2) ∙ z))

  -- a unit that is left then is another, and was left before
  pub left_then : (v : ℕ) → bit rest v ≡ 1 → (v ≡ b → ⊥) × (bit left v ≡ 1)
  left_then v h =
      let still : bit (remove left b) v ≡ 1 = ap (λ (x : ℕ). bit x v) (sym taken.2) ∙ h in
      (λ e. omega (arith, bit_remove left b, ap (bit (remove left b)) e), omega (arith, remove_subset left b v, bit_le left v))

-- a set that is 0 has no unit left
pub none_left : (left b : ℕ) → left ≡ 0 → bit left b ≡ 0
none_left left b e = ap (λ (x : ℕ). bit x b) e ∙ bit_empty b

-- ---- sets that are known by their units

-- two sets of which the one has a unit exactly if the other has it are equal
pub equal_units : (x y : ℕ) → ((u : ℕ) → (bit x u ≡ 1) → (bit y u ≡ 1)) → ((u : ℕ) → (bit y u ≡ 1) → (bit x u ≡ 1)) → x ≡ y
equal_units x y f g = set_ext x y (λ u. go u (bit_cases x u) (bit_cases y u))
  where
    go : (u : ℕ) → (bit x u ≡ 0) ⊎ (bit x u ≡ 1) → (bit y u ≡ 0) ⊎ (bit y u ≡ 1) → bit x u ≡ bit y u
    go u (inl a) (inl b) = omega arith
    go u (inl a) (inr b) = absurd (omega (arith, g u b))
    go u (inr a) d = omega (arith, f u a)

-- ---- rows

module _ (rows : ℕ → ℕ) where
  -- the rows of no units
  pub gathered_none : gathered row_count 0 rows ≡ 0
  gathered_none =
      equal_units (gathered row_count 0 rows) 0 (λ u h. let (b, (l, (e, r))) = (bit_gathered row_count 0 rows u).0 h in absurd (omega (arith, bit_empty b)))
      (λ u h. absurd (omega (arith, bit_empty u)))

  -- the row of one unit, and those of the others
  pub gathered_one : (left b : ℕ) → b < 64 → bit left b ≡ 1 → union (rows b) (gathered row_count (remove left b) rows) ≡ gathered row_count left rows
  gathered_one left b l e = equal_units (union (rows b) (gathered row_count (remove left b) rows)) (gathered row_count left rows) forth back
    where
      forth : (u : ℕ) → bit (union (rows b) (gathered row_count (remove left b) rows)) u ≡ 1 → bit (gathered row_count left rows) u ≡ 1
      forth u h =
          ⊎_elim (λ r. (bit_gathered row_count left rows u).1 (b, (l, (e, r))))
          (λ r.
          let (c, (k, (i, o))) = (bit_gathered row_count (remove left b) rows u).0 r in
          (bit_gathered row_count left rows u).1 (c, (k, (omega (arith, remove_subset left b c, bit_le left c), o))))
          ((in_union (rows b) (gathered row_count (remove left b) rows) u).0 h)

      back : (u : ℕ) → bit (gathered row_count left rows) u ≡ 1 → bit (union (rows b) (gathered row_count (remove left b) rows)) u ≡ 1
      back u h = let (c, (k, (i, o))) = (bit_gathered row_count left rows u).0 h in (in_union (rows b) (gathered row_count (remove left b) rows) u).1 (go c k i o (ℕ_discrete c b))
        where
          go : (c : ℕ) → c < 64 → bit left c ≡ 1 → bit (rows c) u ≡ 1 → Dec (c ≡ b)
              → (bit (rows b) u ≡ 1) ⊎ (bit (gathered row_count (remove left b) rows) u ≡ 1)
          go c k i o (yes q) = inl (ap (λ (x : ℕ). bit (rows x) u) (sym q) ∙ o)
          go c k i o (no n) = inr ((bit_gathered row_count (remove left b) rows u).1 (c, (k, (bit_remove_other left b c n ∙ i, o))))

  -- so with what has been found
  pub gather_on : (set found left b : ℕ) → b < 64 → bit left b ≡ 1 → union found (gathered row_count left rows) ≡ gathered row_count set rows
      → union (union found (rows b)) (gathered row_count (remove left b) rows) ≡ gathered row_count set rows
  gather_on set found left b l e h = union_assoc found (rows b) (gathered row_count (remove left b) rows) ∙ ap (union found) (gathered_one left b l e) ∙ h

  pub gather_done : (set found left : ℕ) → left ≡ 0 → union found (gathered row_count left rows) ≡ gathered row_count set rows → found ≡ gathered row_count set rows
  gather_done set found left e h =
      sym (union_empty_right found) ∙ ap (union found) (sym gathered_none) ∙ ap (λ (x : ℕ). union found (gathered row_count x rows)) (sym e) ∙ h
