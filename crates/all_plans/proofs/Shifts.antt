-- What `1 << d` is at the most, where d is at the most some number of binary digits.
use Rattle.std.proofs.Common.{◌≡◌, ℕ, ◌*◌, ◌^◌, ◌%◌, ◌<◌, ◌≤◌, arith, lit<}
use Rattle.std.proofs.Math.Nat.{pow-le-pow_right}
use Rattle.std.proofs.lemmas.Nat.{one_shl}

pub one_shifted : (d digits most : ℕ) → d ≤ digits → digits < 64 → 2 ^ digits ≡ most → 1 * 2 ^ d % 2 ^ 64 ≤ most
one_shifted d digits most within fits e =
    let grows : 2 ^ d ≤ 2 ^ digits = pow-le-pow_right (lit< tt) within in
    omega (arith, one_shl d 64 (omega arith), grows, e)
