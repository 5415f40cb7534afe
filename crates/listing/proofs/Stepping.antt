-- The loop over the steps of a plan: the line of the step that comes next, and its length.
use mathlib.Core.Path.{◌≡◌, refl, sym, ap, ◌∙◌}
use mathlib.Core.List.{List, [], ◌∷◌, ◌++◌}
use Prim.Native.Nat.{ℕ, zero, suc, ◌+◌, ◌*◌, ◌≤◌, ◌<◌}
use native.Mathlib.Numerals.{add-one}
use native.Mathlib.Omega.{arith}
use lib.ListN.{length, length-append, get_or, drop}
use lib.Seq.{drop-cons}
use Rattle.plans.specs.Switch.{switches}
use Rattle.promises.specs.Digits.{decimal, hexadecimal}
use Rattle.promises.specs.Listing.{field, blank, line_end, step_line, step_lines}
use Rattle.listing.specs.declared.text.Text.{Text}
use Rattle.listing.specs.Room.{step_most}
use Rattle.listing.proofs.Numerals.{decimal_width, hexadecimal_length}
use Rattle.listing.proofs.Putting.{Putting}

dropped : (l : List ℕ) (i : ℕ) → length l ≤ i → drop i l ≡ []
dropped [] zero h = refl
dropped [] (suc i) h = refl
dropped (x ∷ l) zero h = absurd (omega (arith, h))
dropped (x ∷ l) (suc i) h = dropped l i (omega (arith, h))

-- a line has no more bytes than there is room for
pub line_width : (i x many : ℕ) → i < 1000 → many < 100 → length (step_line i x many) ≤ step_most
unfolding step_line
line_width i x many h k =
    omega (
      arith,
      length-append (decimal i ++ blank ++ hexadecimal 16 x ++ field blank many) line_end,
      length-append (decimal i ++ blank ++ hexadecimal 16 x) (field blank many),
      length-append (decimal i ++ blank) (hexadecimal 16 x),
      length-append (decimal i) blank,
      hexadecimal_length 16 x,
      decimal_width 2 i h,
      decimal_width 1 many k,
    )

-- the lines that are left after i steps, where `before` is the set of the last of them
abbrev lines_left : List ℕ → ℕ → ℕ → List ℕ
lines_left plan i before = step_lines (i + 1) before (drop i plan)

abbrev pub Stepping : ℕ → List ℕ → ℕ → ℕ → Text → Text → Type 0
Stepping start plan i before begun text = Putting (step_lines 1 start plan) (lines_left plan i before) begun text (step_most * i)

pub next_line : (plan : List ℕ) (i before : ℕ) → i < length plan
    → let x = get_or plan i 0 in lines_left plan i before ≡ step_line (i + 1) x (switches before x) ++ lines_left plan (i + 1) x
unfolding step_lines
next_line plan i before h =
    let x = get_or plan i 0 in
    ap (step_lines (i + 1) before) (drop-cons plan i 0 h)
    ∙ ap (λ (k : ℕ). step_line (i + 1) x (switches before x) ++ step_lines (i + 1 + 1) x (drop k plan)) (sym (add-one i))

pub no_line : (plan : List ℕ) (i before : ℕ) → length plan ≤ i → lines_left plan i before ≡ []
unfolding step_lines
no_line plan i before h = ap (step_lines (i + 1) before) (dropped plan i h)
