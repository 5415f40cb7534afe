-- Numbers as digits, in ASCII.
use Rattle.std.specs.Prelude.{ℕ, zero, suc, ◌+◌, ◌/◌, ◌%◌, cond, List, [], ◌∷◌, ◌++◌, ltb}

-- the digit of a number below 16: 0 to 9, then a to f
abbrev pub digit : ℕ → ℕ
digit x = cond (ltb x 10) (48 + x) (87 + x)

-- the decimal digits of a number that has at most k of them, without leading zeros (0 has one)
unfoldable pub decimal_in : ℕ → ℕ → List ℕ
decimal_in zero x = []
decimal_in (suc k) x =
    let front = decimal_in k (x / 10) in
    cond (ltb x 10) (digit x ∷ []) (front ++ digit (x % 10) ∷ [])

-- the decimal digits of any number, without leading zeros: x has at most x + 1
unfoldable pub decimal : ℕ → List ℕ
decimal x = decimal_in (suc x) x

-- the last k hexadecimal digits of a number, the highest first
unfoldable pub hexadecimal : ℕ → ℕ → List ℕ
hexadecimal zero x = []
hexadecimal (suc k) x = hexadecimal k (x / 16) ++ digit (x % 16) ∷ []
