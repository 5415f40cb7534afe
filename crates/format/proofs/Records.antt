-- Laws on the records of a sheet of either edition: where they lie, what the number of the next one is, and that
-- records with the same bytes hold the same step.
use mathlib.Core.Path.{◌≡◌, refl, sym, ap, ◌∙◌}
use mathlib.Core.Bool.{Bool, true, false, cond}
use mathlib.Core.List.{List, [], ◌∷◌}
use Prim.Native.Nat.{ℕ, zero, suc, ◌+◌, ◌≤◌, ◌<◌}
use native.Mathlib.Nat.{add_assoc, add-zero}
use native.Mathlib.Omega.{arith}
use Rattle.format.specs.Agreement.{untagged}
use Rattle.format.specs.Numbers.{byte_at, u16_at, u64_at}
use Rattle.format.specs.Format.{header_size, record_size, record_limit, upper_at, least_at, greatest_at, next_at, reserved_at, tag_at, sheet_length, record_offset, longest, is_first, first_of, numbers_at, step_in, next_of}
use Rattle.format.proofs.Numbers.{same_u16, same_u32, same_u64}

-- a record ends where the next one begins, or the sheet ends
pub record_ends : (first : Bool) (j : ℕ) → 0 < j → record_offset first j + record_size first ≡ sheet_length first j
record_ends true j h = omega arith
record_ends false j h = omega arith

-- the fields of a record lie within it, and where the numbers of the chambers begin four bytes are left
pub fields_within : (first : Bool) → (24 ≤ record_size first) × ((greatest_at first + 4 ≤ record_size first) × ((next_at first + 2 ≤ record_size first) × (tag_at first + 4 ≤ record_size first)))
fields_within true = (omega arith, (omega arith, (omega arith, omega arith)))
fields_within false = (omega arith, (omega arith, (omega arith, omega arith)))

-- there are as many bytes as records, at least
pub number_below : (first : Bool) (j : ℕ) → j ≤ sheet_length first j
number_below true j = omega arith
number_below false j = omega arith

-- a sheet has a header
pub header_within : (first : Bool) (r : ℕ) → header_size ≤ sheet_length first r
header_within true r = omega arith
header_within false r = omega arith

-- more records, more bytes
pub length_mono : (first : Bool) (j k : ℕ) → j ≤ k → sheet_length first j ≤ sheet_length first k
length_mono true j k h = omega arith
length_mono false j k h = omega arith

-- no sheet is longer than the longest
pub length_most : (first : Bool) (r : ℕ) → r ≤ record_limit → sheet_length first r ≤ longest
length_most true r h = omega arith
length_most false r h = omega arith

-- the number of the next record lies before the tag
pub next_before_tag : (first : Bool) → next_at first + 2 ≤ tag_at first
next_before_tag true = omega arith
next_before_tag false = omega arith

pub next_first : (s : List ℕ) (j : ℕ) → j ≡ 0 → next_of s j ≡ first_of s
unfolding next_of
next_first s j e = ap (next_of s) e

pub next_after : (s : List ℕ) (j : ℕ) → (j ≡ 0 → ⊥) → next_of s j ≡ u16_at s (record_offset (is_first s) j + next_at (is_first s))
unfolding next_of
next_after s zero n = absurd (n refl)
next_after s (suc j) n = refl

-- ---- the bytes of s from one place on are those of t from another place on, as far as `room` goes

module _ (s t : List ℕ) (from to room : ℕ) (same : (i : ℕ) → i < room → byte_at s (from + i) ≡ byte_at t (to + i)) where
  -- so are the numbers of the chambers
  same_numbers : (first : Bool) (i : ℕ) → i + cond first 1 4 ≤ room → numbers_at first s (from + i) ≡ numbers_at first t (to + i)
  same_numbers true i h = ap (λ (x : ℕ). x ∷ 0 ∷ 0 ∷ 0 ∷ []) (same i (omega arith))
  same_numbers false i h = λ k. same i (omega arith) k ∷ further 1 (omega arith) k ∷ further 2 (omega arith) k ∷ further 3 (omega arith) k ∷ []
    where
      further : (j : ℕ) → i + j < room → byte_at s (from + i + j) ≡ byte_at t (to + i + j)
      further j l = ap (byte_at s) (add_assoc from i j) ∙ same (i + j) l ∙ ap (byte_at t) (sym (add_assoc to i j))

  -- and the bytes that are zero
  same_reserved : (first : Bool) → tag_at first ≤ room → cond first 0 (u16_at s (from + reserved_at)) ≡ cond first 0 (u16_at t (to + reserved_at))
  same_reserved true h = refl
  same_reserved false h = same_u16 s t from to room same reserved_at (omega arith)

  -- so the step is the same but for its tag, where these bytes go as far as that
  pub same_untagged : (first : Bool) → tag_at first ≤ room → untagged (step_in first s from) ≡ untagged (step_in first t to)
  unfolding step_in
  same_untagged first h =
      let (sets, (least, greatest)) = before_tag first in
      let lower : u64_at s from ≡ u64_at t to =
      ap (u64_at s) (sym (add-zero from)) ∙ same_u64 s t from to room same 0 (omega arith) ∙ ap (u64_at t) (add-zero to) in
      λ i. record {
        lower = lower i;
        upper = same_u64 s t from to room same upper_at (omega arith) i;
        least = same_numbers first least_at (omega arith) i;
        greatest = same_numbers first (greatest_at first) (omega arith) i;
        tag = 0;
        reserved = same_reserved first h i;
      }
    where
      -- all other fields lie before the tag
      before_tag : (first : Bool) → (16 ≤ tag_at first) × ((least_at + cond first 1 4 ≤ tag_at first) × (greatest_at first + cond first 1 4 ≤ tag_at first))
      before_tag true = (omega arith, (omega arith, omega arith))
      before_tag false = (omega arith, (omega arith, omega arith))

  -- and it is the same, where they are all bytes of the record
  pub same_step : (first : Bool) → record_size first ≤ room → step_in first s from ≡ step_in first t to
  unfolding step_in
  same_step first h =
      let e = same_untagged first (omega (arith, (fields_within first).1.1.1)) in
      let tag = same_u32 s t from to room same (tag_at first) (omega (arith, (fields_within first).1.1.1)) in
      λ i. record { lower = (e i).lower; upper = (e i).upper; least = (e i).least; greatest = (e i).greatest; tag = tag i; reserved = (e i).reserved }
