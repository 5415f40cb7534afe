-- Sets of units as numbers. A set is a number in which unit u has weight 2 ^ u, so that the digits of a number in base
-- two say which units are in it. A reader should look at `bit`, from which a set's units are known, and at `size` and
-- `units_below`, of which a law in proofs/ says that they agree.
use Rattle.std.specs.Prelude.{◌≡◌, ℕ, zero, suc, ◌-◌, ◌/◌, ◌%◌, ◌^◌, ◌≤◌, ◌<◌, List, [], ◌∷◌, ◌++◌, Bool, not, cond, eqb, leb}
use Rattle.std.specs.Int.Bits.{bit_and, bit_or}
use Rattle.std.specs.Int.Count.{ones}

-- 1 if unit u is in the set s, else 0
unfoldable pub bit : ℕ → ℕ → ℕ
bit s u = s / 2 ^ u % 2

-- the units of either set
unfoldable pub union : ℕ → ℕ → ℕ
union a b = bit_or a b

-- the units of both sets
unfoldable pub intersection : ℕ → ℕ → ℕ
intersection a b = bit_and a b

-- the units of a that are not in b
unfoldable pub difference : ℕ → ℕ → ℕ
difference a b = a - bit_and a b

-- each unit of a is in b
abbrev pub Subset : ℕ → ℕ → Type 0
Subset a b = (u : ℕ) → bit a u ≤ bit b u

-- the test of `Subset`
unfoldable pub is_subset : ℕ → ℕ → Bool
is_subset a b = eqb (intersection a b) a

-- the test that two sets have a common unit
unfoldable pub meets : ℕ → ℕ → Bool
meets a b = not (eqb (intersection a b) 0)

-- all units that a word has
abbrev pub all : ℕ
all = 2 ^ 64 - 1

-- the test that unit u is in s
unfoldable pub contains : ℕ → ℕ → Bool
contains s u = eqb (bit s u) 1

-- s with unit u
unfoldable pub insert : ℕ → ℕ → ℕ
insert s u = union s (2 ^ u)

-- s without unit u
unfoldable pub remove : ℕ → ℕ → ℕ
remove s u = difference s (2 ^ u)

-- how many units are in s: the count of ones among its digits
unfoldable pub size : ℕ → ℕ
size s = ones s

-- the units below k that are in s, in ascending order
unfoldable pub units_below : ℕ → ℕ → List ℕ
units_below zero s = []
units_below (suc k) s = units_below k s ++ cond (contains s k) (k ∷ []) []

-- the test that s has a unit from d up: it is then 2 ^ d or more
unfoldable pub has_unit_from : ℕ → ℕ → Bool
has_unit_from s d = leb (2 ^ d) s

-- u is a unit of s, and none goes before it in an order
pub record Leads (Before : ℕ → ℕ → Type 0) (s u : ℕ) : Type 0 where
  pub has : bit s u ≡ 1
  pub first : (v : ℕ) → Before v u → bit s v ≡ 0

-- u is the lowest unit of s, or the highest
abbrev pub Lowest : ℕ → ℕ → Type 0
Lowest s u = Leads (λ v w. v < w) s u

abbrev pub Highest : ℕ → ℕ → Type 0
Highest s u = Leads (λ v w. w < v) s u
