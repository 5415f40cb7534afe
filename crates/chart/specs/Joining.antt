-- What the chart does to an output: it joins a word to each of some places.
use Rattle.std.specs.Prelude.{ℕ, zero, suc, List, [], ◌∷◌, get_or}
use Rattle.units.specs.Sets.{union}

-- k words from place i on, each joined to what its place holds
unfoldable pub joining : (ℕ → ℕ) → List ℕ → ℕ → ℕ → List ℕ
joining word out i zero = []
joining word out i (suc k) = union (word i) (get_or out i 0) ∷ joining word out (suc i) k
