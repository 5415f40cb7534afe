-- The bytes of a number as std gives them are those of the format's definition.
use Rattle.std.proofs.Common.{◌≡◌, refl, ℕ, ◌/◌, arith}
use Rattle.std.specs.Int.{w16, w32, w64, to_le_bytes}
use Rattle.format.specs.Numbers.{bytes_of}

pub bytes_of_u16 : (n : ℕ) → to_le_bytes w16 n ≡ bytes_of 2 n
unfolding bytes_of
bytes_of_u16 n = refl

pub bytes_of_u32 : (n : ℕ) → to_le_bytes w32 n ≡ bytes_of 4 n
unfolding bytes_of
bytes_of_u32 n =
    let third : n / 65536 ≡ n / 256 / 256 = omega arith in
    let fourth : n / 16777216 ≡ n / 256 / 256 / 256 = omega arith in
    cc

pub bytes_of_u64 : (n : ℕ) → to_le_bytes w64 n ≡ bytes_of 8 n
unfolding bytes_of
bytes_of_u64 n =
    let third : n / 65536 ≡ n / 256 / 256 = omega arith in
    let fourth : n / 16777216 ≡ n / 256 / 256 / 256 = omega arith in
    let fifth : n / 4294967296 ≡ n / 256 / 256 / 256 / 256 = omega arith in
    let sixth : n / 1099511627776 ≡ n / 256 / 256 / 256 / 256 / 256 = omega arith in
    let seventh : n / 281474976710656 ≡ n / 256 / 256 / 256 / 256 / 256 / 256 = omega arith in
    let eighth : n / 72057594037927936 ≡ n / 256 / 256 / 256 / 256 / 256 / 256 / 256 = omega arith in
    cc
