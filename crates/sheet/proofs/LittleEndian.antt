-- The library's numbers of bytes are those of `format`.
use Rattle.std.proofs.Common.{◌≡◌, ℕ, ◌+◌, ◌<◌, List, get_or, take, drop, ap, ◌∙◌, arith, w16, w32, w64}
use Rattle.std.specs.Int.{from_le_bytes}
use Rattle.std.proofs.lemmas.List.{get_or-take, get_or-drop}
use Rattle.format.specs.Numbers.{byte_at, u16_at, u32_at, u64_at}

module _ (s : List ℕ) (at : ℕ) where
  -- byte i of the first n from the place on
  byte : (n i : ℕ) → i < n → {k : ℕ} → at + i ≡ k → get_or (take n (drop at s)) i 0 ≡ byte_at s k
  unfolding byte_at
  byte n i h e = get_or-take n (drop at s) i 0 h ∙ get_or-drop at s i 0 ∙ ap (λ (j : ℕ). get_or s j 0) e

  pub two_bytes : from_le_bytes w16 (take 2 (drop at s)) ≡ u16_at s at
  unfolding u16_at
  two_bytes = omega (arith, byte 2 0 (omega arith) {k = at} (omega arith), byte 2 1 (omega arith) {k = at + 1} (omega arith))

  pub four_bytes : from_le_bytes w32 (take 4 (drop at s)) ≡ u32_at s at
  unfolding u16_at u32_at
  four_bytes =
      omega (arith, byte 4 0 (omega arith) {k = at} (omega arith), byte 4 1 (omega arith) {k = at + 1} (omega arith), byte 4 2 (omega arith) {k = at + 2} (omega arith), byte 4 3 (omega arith) {k = at + 2 + 1} (omega arith))

  pub eight_bytes : from_le_bytes w64 (take 8 (drop at s)) ≡ u64_at s at
  unfolding u16_at u32_at u64_at
  eight_bytes =
      omega (arith, byte 8 0 (omega arith) {k = at} (omega arith), byte 8 1 (omega arith) {k = at + 1} (omega arith), byte 8 2 (omega arith) {k = at + 2} (omega arith), byte 8 3 (omega arith) {k = at + 2 + 1} (omega arith), byte 8 4 (omega arith) {k = at + 4} (omega arith), byte 8 5 (omega arith) {k = at + 4 + 1} (omega arith), byte 8 6 (omega arith) {k = at + 4 + 2} (omega arith), byte 8 7 (omega arith) {k = at + 4 + 2 + 1} (omega arith))
