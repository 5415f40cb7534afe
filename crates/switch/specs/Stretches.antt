-- Steps on end taken as one: what they require and forbid together, and that of each sixteen of them.
use Rattle.std.specs.Prelude.{ℕ, ◌+◌, ◌-◌, ◌*◌, ◌/◌, ◌<◌, min, ◌≡◌, List, [], ◌∷◌, length, get_or, take, drop}
use Rattle.units.specs.Sets.{all, union, intersection}
use Rattle.plans.specs.Steps.{step_limit}
use Rattle.plans.specs.declared.Limits.{Limits}
use Rattle.switch.specs.declared.stretch.Stretch.{Stretch}

-- the units that some of the steps requires
unfoldable pub required_in : List Limits → ℕ
required_in [] = 0
required_in (s ∷ ss) = union s.lower (required_in ss)

-- the units that no step forbids before one requires them
unfoldable pub allowed_in : List Limits → ℕ
allowed_in [] = all
allowed_in (s ∷ ss) = intersection s.upper (union s.lower (allowed_in ss))

-- both
abbrev pub as_one : List Limits → Stretch
as_one ss = record { lower = required_in ss; upper = allowed_in ss }

-- the steps from the one at `from` to the one before `to`
abbrev pub between : List Limits → ℕ → ℕ → List Limits
between ss from to = take (to - from) (drop from ss)

-- the steps of a block of the scan; the last block may have fewer (the blocks of `forward` are its own)
abbrev pub block_size : ℕ
block_size = 16

-- the place after the last step of the block that begins at j, of n steps
abbrev pub block_end : ℕ → ℕ → ℕ
block_end n j = min (j + block_size) n

-- the steps of block q
abbrev pub block : List Limits → ℕ → List Limits
block ss q = between ss (block_size * q) (block_end (length ss) (block_size * q))

-- the most blocks
abbrev pub block_count : ℕ
block_count = step_limit / block_size

-- what each block requires, and what it allows
pub record Blocks (ss : List Limits) (blocks : List Stretch) : Type 0 where
  pub lowers : (q : ℕ) → block_size * q < length ss → (get_or blocks q (record { lower = 0; upper = 0 })).lower ≡ required_in (block ss q)
  pub uppers : (q : ℕ) → block_size * q < length ss → (get_or blocks q (record { lower = 0; upper = 0 })).upper ≡ allowed_in (block ss q)
