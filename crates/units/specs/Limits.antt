-- What a step allows: a set that includes the lower set, lies within the upper set and has a size from the least to
-- the greatest number. (Such a set is fit, in docs/FORMAT.md.) The test of a step gives the sizes of such sets;
-- `sizes_exact` in proofs/ says that it gives these and no other.
use Rattle.std.specs.Prelude.{ℕ, ◌≤◌, min, max, Bool, cond, ◌&&◌, leb, Option, Some, None, is_some, IfSome, IsSomeAnd}
use Rattle.units.specs.declared.Sizes.{Sizes}
use Rattle.units.specs.Sets.{Subset, is_subset, size}

-- x is a set that the limits allow
pub record Feasible (lower upper least greatest x : ℕ) : Type 0 where
  pub includes : Subset lower x
  pub within : Subset x upper
  pub enough : least ≤ size x
  pub few : size x ≤ greatest

-- no set that the limits allow has a size below the first, or above the second
abbrev pub least_size : ℕ → ℕ → ℕ
least_size lower least = max least (size lower)

abbrev pub greatest_size : ℕ → ℕ → ℕ
greatest_size upper greatest = min greatest (size upper)

-- sizes from few to many
abbrev pub between : ℕ → ℕ → Option Sizes
between few many = Some (record { few = few; many = many })

-- the least and the greatest size of a set that the limits allow, or that they allow none: then the lower set is not
-- within the upper one, or the two are not in order
unfoldable pub feasible_sizes : ℕ → ℕ → ℕ → ℕ → Option Sizes
feasible_sizes lower upper least greatest =
    cond (is_subset lower upper && leb (least_size lower least) (greatest_size upper greatest))
    (between (least_size lower least) (greatest_size upper greatest))
    None

-- k is one of the sizes, which are all numbers from the least to the greatest
abbrev pub HasSize : Option Sizes → ℕ → Type 0
HasSize sizes k = IsSomeAnd sizes (λ z. (z.few ≤ k) × (k ≤ z.many))

-- the least is at most the greatest, where there are sizes
abbrev pub InOrder : Option Sizes → Type 0
InOrder sizes = IfSome sizes (λ z. z.few ≤ z.many)

-- the test that the limits allow some set
unfoldable pub has_feasible : ℕ → ℕ → ℕ → ℕ → Bool
has_feasible lower upper least greatest = is_some (feasible_sizes lower upper least greatest)
