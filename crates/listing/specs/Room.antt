-- The most bytes of a line of a listing, and of a listing.
use Rattle.std.specs.Prelude.{ℕ, ◌+◌, ◌*◌, ◌<◌, Option, IfSome}
use Rattle.units.specs.declared.Sizes.{Sizes}
use Rattle.format.specs.Format.{record_limit}

-- the first line, with three numbers of 32 bits; that of a step; the last; that of a refusal; and that of a step's
-- sizes
abbrev pub first_most : ℕ
first_most = 51

abbrev pub step_most : ℕ
step_most = 24

abbrev pub total_most : ℕ
total_most = 17

abbrev pub refused_most : ℕ
refused_most = 30

abbrev pub sizes_most : ℕ
sizes_most = 10

-- a listing has a first line, a line for each step, of which there are at most as many as a sheet has records, and a
-- last line
abbrev pub longest_listing : ℕ
longest_listing = first_most + record_limit * step_most + total_most

-- each size has at most two digits
abbrev pub TwoDigits : Option Sizes → Type 0
TwoDigits sizes = IfSome sizes (λ z. (z.few < 100) × (z.many < 100))
