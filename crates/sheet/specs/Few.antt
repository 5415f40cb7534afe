-- What keeps the sizes of a step simple: a limit on them, so that sums of them do not run over, and that one chamber
-- alone is asked.
use Rattle.std.specs.Prelude.{ℕ, ◌≤◌, ◌≡◌, Option, IfSome, List, get_or}
use Rattle.units.specs.declared.Sizes.{Sizes}
use Rattle.format.specs.declared.ChamberStep.{ChamberStep}

-- no size is above k
abbrev pub AtMost : ℕ → Option Sizes → Type 0
AtMost k sizes = IfSome sizes (λ z. (z.few ≤ k) × (z.many ≤ k))

-- of chambers of these units, chamber number c is empty, and the step asks for none of it
abbrev pub Unasked : List ℕ → ChamberStep → ℕ → Type 0
Unasked us x c = (get_or us c 0 ≡ 0) × (get_or x.least c 0 ≡ 0)

-- all but the first are so
abbrev pub Alone : List ℕ → ChamberStep → Type 0
Alone us x = Unasked us x 1 × (Unasked us x 2 × Unasked us x 3)
