-- The units of a set, one by one, the lowest first.
use Rattle.std.specs.Prelude.{◌≡◌, ℕ, ◌<◌, Option, MatchOption}
use Rattle.units.specs.Sets.{remove, Lowest}

-- of the units that are left, u is the lowest, one of 64, and the rest are the others
abbrev pub Taken : ℕ → ℕ → ℕ → Type 0
Taken left u rest = (u < 64) × Lowest left u × (rest ≡ remove left u)

-- the lowest of the units that are left is taken, or none where none is left
abbrev pub TakesLowest : ℕ → Option ℕ → ℕ → Type 0
TakesLowest left taken rest = MatchOption taken ((left ≡ 0) × (rest ≡ 0)) (λ u. Taken left u rest)
