-- Laws on the digits of numbers: what the recursion does at each call, and how many digits there are.
use mathlib.Core.Path.{◌≡◌, refl, ap, ◌∙◌}
use mathlib.Core.Bool.{Bool, true, false, cond}
use mathlib.Core.List.{[], ◌∷◌, ◌++◌}
use Prim.Native.Nat.{ℕ, zero, suc, ◌+◌, ◌-◌, ◌/◌, ◌%◌, ◌^◌, ◌≤◌, ◌<◌}
use native.Mathlib.Nat.{pow-suc}
use native.Mathlib.Omega.{arith}
use lib.Dec.{ltb}
use lib.ListN.{length, length-append}
use borrow.Author.Tests.{lt-ltb, le-ltb, ltb-true, ltb-false}
use Rattle.promises.specs.Digits.{digit, decimal_in, decimal, hexadecimal}

-- ---- decimal

-- any two numbers above x give the same digits
enough : (k m x : ℕ) → x < k → x < m → decimal_in k x ≡ decimal_in m x
unfolding decimal_in
enough zero m x h g = absurd (omega (arith, h))
enough (suc k) zero x h g = absurd (omega (arith, g))
enough (suc k) (suc m) x h g = go (ltb x 10) refl (λ large. enough k m (x / 10) (omega (arith, h, large)) (omega (arith, g, large)))
  where
    go : (t : Bool) → ltb x 10 ≡ t → (10 ≤ x → decimal_in k (x / 10) ≡ decimal_in m (x / 10))
        → cond t (digit x ∷ []) (decimal_in k (x / 10) ++ digit (x % 10) ∷ []) ≡ cond t (digit x ∷ []) (decimal_in m (x / 10) ++ digit (x % 10) ∷ [])
    go true e front = refl
    go false e front = ap (λ l. l ++ digit (x % 10) ∷ []) (front (ltb-false x 10 e))

pub decimal_small : (x : ℕ) → x < 10 → decimal x ≡ digit x ∷ []
unfolding decimal decimal_in
decimal_small x h = ap (λ (t : Bool). cond t (digit x ∷ []) (decimal_in x (x / 10) ++ digit (x % 10) ∷ [])) (lt-ltb x 10 h)

pub decimal_more : (x : ℕ) → 10 ≤ x → decimal x ≡ decimal (x / 10) ++ digit (x % 10) ∷ []
unfolding decimal decimal_in
decimal_more x h =
    ap (λ (t : Bool). cond t (digit x ∷ []) (decimal_in x (x / 10) ++ digit (x % 10) ∷ [])) (le-ltb x 10 h)
    ∙ ap (λ l. l ++ digit (x % 10) ∷ []) (enough x (suc (x / 10)) (x / 10) (omega (arith, h)) (omega arith))

pub decimal_longer : (x : ℕ) → 10 ≤ x → length (decimal x) ≡ length (decimal (x / 10)) + 1
decimal_longer x h = omega (arith, ap length (decimal_more x h), length-append (decimal (x / 10)) (digit (x % 10) ∷ []))

-- each number has a digit
pub decimal_some : (x : ℕ) → 0 < length (decimal x)
decimal_some x = go (ltb x 10) refl
  where
    go : (t : Bool) → ltb x 10 ≡ t → 0 < length (decimal x)
    go true e = omega (arith, ap length (decimal_small x (ltb-true x 10 e)))
    go false e = omega (arith, decimal_longer x (ltb-false x 10 e))

-- a number below 10 ^ (k + 1) has at most k + 1 digits
pub decimal_width : (k x : ℕ) → x < 10 ^ suc k → length (decimal x) ≤ suc k
decimal_width zero x h = omega (arith, ap length (decimal_small x (omega (arith, h))))
decimal_width (suc k) x h = go (ltb x 10) refl (λ large. decimal_width k (x / 10) (omega (arith, h, pow-suc 10 (suc k))))
  where
    go : (t : Bool) → ltb x 10 ≡ t → (10 ≤ x → length (decimal (x / 10)) ≤ suc k) → length (decimal x) ≤ suc (suc k)
    go true e front = omega (arith, ap length (decimal_small x (ltb-true x 10 e)))
    go false e front = let large = ltb-false x 10 e in omega (arith, front large, decimal_longer x large)

-- a number of 32 bits has at most 10 digits
pub word_width : {x : ℕ} → x < 4294967296 → x < 10 ^ 10
word_width h = omega (arith, h)

-- ---- hexadecimal

pub hexadecimal_length : (k x : ℕ) → length (hexadecimal k x) ≡ k
unfolding hexadecimal
hexadecimal_length zero x = refl
hexadecimal_length (suc k) x = omega (arith, length-append (hexadecimal k (x / 16)) (digit (x % 16) ∷ []), hexadecimal_length k (x / 16))

pub hexadecimal_none : (k x : ℕ) → k ≡ 0 → hexadecimal k x ≡ []
unfolding hexadecimal
hexadecimal_none k x h = ap (λ (j : ℕ). hexadecimal j x) h

-- the last digit comes last
pub hexadecimal_more : (k x : ℕ) → (k ≡ 0 → ⊥) → hexadecimal k x ≡ hexadecimal (k - 1) (x / 16) ++ digit (x % 16) ∷ []
unfolding hexadecimal
hexadecimal_more k x h =
    let e : k ≡ suc (k - 1) = omega (arith, h) in
    ap (λ (j : ℕ). hexadecimal j x) e
