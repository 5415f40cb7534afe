-- Laws on numbers in bytes: where the bytes are equal, so are the numbers, and the bytes of a number give it back.
use mathlib.Core.Path.{◌≡◌, sym, ap, ap₂, ◌∙◌}
use mathlib.Core.List.{List, ◌++◌}
use Prim.Native.Nat.{ℕ, ◌+◌, ◌*◌, ◌^◌, ◌≤◌, ◌<◌}
use native.Mathlib.Nat.{add_assoc}
use native.Mathlib.Omega.{arith}
use Rattle.format.specs.Numbers.{byte_at, u16_at, u32_at, u64_at, bytes_of}

-- ---- the bytes of s from one place on are those of t from another place on, as far as `room` goes

module _ (s t : List ℕ) (from to room : ℕ) (same : (i : ℕ) → i < room → byte_at s (from + i) ≡ byte_at t (to + i)) where
  pub same_u16 : (i : ℕ) → i + 2 ≤ room → u16_at s (from + i) ≡ u16_at t (to + i)
  unfolding u16_at
  same_u16 i h =
      ap₂ (λ a b. a + 256 * b) (same i (omega arith))
      (ap (byte_at s) (add_assoc from i 1) ∙ same (i + 1) (omega arith) ∙ ap (byte_at t) (sym (add_assoc to i 1)))

  pub same_u32 : (i : ℕ) → i + 4 ≤ room → u32_at s (from + i) ≡ u32_at t (to + i)
  unfolding u32_at
  same_u32 i h =
      ap₂ (λ a b. a + 65536 * b) (same_u16 i (omega arith))
      (ap (u16_at s) (add_assoc from i 2) ∙ same_u16 (i + 2) (omega arith) ∙ ap (u16_at t) (sym (add_assoc to i 2)))

  pub same_u64 : (i : ℕ) → i + 8 ≤ room → u64_at s (from + i) ≡ u64_at t (to + i)
  unfolding u64_at
  same_u64 i h =
      ap₂ (λ a b. a + 4294967296 * b) (same_u32 i (omega arith))
      (ap (u32_at s) (add_assoc from i 4) ∙ same_u32 (i + 4) (omega arith) ∙ ap (u32_at t) (sym (add_assoc to i 4)))

-- ---- the bytes of a number that is as wide as they are give it back

pub read_u16 : (x : ℕ) (rest : List ℕ) → x < 2 ^ 16 → u16_at (bytes_of 2 x ++ rest) 0 ≡ x
unfolding bytes_of u16_at byte_at
read_u16 x rest h = omega arith

pub read_u32 : (x : ℕ) (rest : List ℕ) → x < 2 ^ 32 → u32_at (bytes_of 4 x ++ rest) 0 ≡ x
unfolding bytes_of u32_at u16_at byte_at
read_u32 x rest h = omega arith

pub read_u64 : (x : ℕ) (rest : List ℕ) → x < 2 ^ 64 → u64_at (bytes_of 8 x ++ rest) 0 ≡ x
unfolding bytes_of u64_at u32_at u16_at byte_at
read_u64 x rest h = omega arith
