-- The two ends of an order, from which units are picked.
use Rattle.std.specs.Prelude.{ℕ, Bool, true, false}

-- an order, or its mirror image
abbrev pub toward : Bool → (ℕ → ℕ → Bool) → ℕ → ℕ → Bool
toward false order u v = order u v
toward true order u v = order v u
