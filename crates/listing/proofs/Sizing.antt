-- The loop over the steps of a sheet that puts their sizes (`Sizing`). The sizes have at most two digits, since each
-- is that of a set of at most 64 units (`all_short`), and so a line has no more bytes than there is room for.
use mathlib.Core.Path.{◌≡◌, sym, ap, subst}
use mathlib.Core.List.{List, [], ◌∷◌, ◌++◌, map}
use Prim.Native.Nat.{ℕ, ◌+◌, ◌*◌, ◌≤◌, ◌<◌}
use native.Mathlib.Omega.{arith}
use lib.ListN.{length, length-append}
use Rattle.std.specs.Prelude.{Option, Some, None}
use Rattle.units.specs.Limits.{HasSize, InOrder}
use Rattle.units.specs.declared.Sizes.{Sizes}
use Rattle.units.proofs.Sets.{size_below, subset_below}
use Rattle.chambers.specs.Chambers.{Chamber, ChamberLimits, sizes_in}
use Rattle.chambers.proofs.Bench.{Bench, below_in}
use Rattle.chambers.proofs.Sizes.{sizes_in_ordered, sizes_in_exact}
use Rattle.format.specs.declared.ChamberStep.{ChamberStep}
use Rattle.format.specs.Format.{unit_limit, record_limit, limits_of}
use Rattle.promises.specs.Digits.{decimal}
use Rattle.promises.specs.Listing.{field, blank, line_end, sizes_line, sizes_lines}
use Rattle.listing.specs.declared.text.Text.{Text}
use Rattle.listing.specs.Puts.{Puts}
use Rattle.listing.specs.Room.{sizes_most, TwoDigits}
use Rattle.listing.proofs.Numerals.{decimal_width}
use Rattle.listing.proofs.Putting.{Putting, none_put, line_put, all_put}

-- ---- the length of a line

-- the sizes of each step have at most two digits
abbrev pub AllShort : List Chamber → List ChamberLimits → Type 0
AllShort cs [] = Unit {0}
AllShort cs (s ∷ ss) = TwoDigits (sizes_in cs s) × AllShort cs ss

-- it is so on a bench of at most 64 units
pub all_short : (d : ℕ) (cs : List Chamber) (ss : List ChamberLimits) → d ≤ unit_limit → Bench d cs ss → AllShort cs ss
all_short d cs [] few b = tt
all_short d cs (s ∷ ss) few b = (
  short (sizes_in cs s) (sizes_in_ordered cs s) below,
  all_short d cs ss few (record { apart = b.apart; whole = b.whole; sound = b.sound.1 }),
)
  where
    below : (k : ℕ) → HasSize (sizes_in cs s) k → k < 100
    below k h =
        let (x, (f, is)) = (sizes_in_exact cs s b.apart (below_in d cs b.whole s.upper b.sound.0.0) k).1 h in
        omega (arith, is, size_below d x (subset_below d x s.upper f.within b.sound.0.0))

    short : (z : Option Sizes) → InOrder z → ((k : ℕ) → HasSize z k → k < 100) → TwoDigits z
    short (Some z) o h = (h z.few (omega arith, o), h z.many (o, omega arith))
    short None o h = tt

-- a line has no more bytes than there is room for
sizes_width : (i : ℕ) (z : Option Sizes) → i < 1000 → TwoDigits z → length (sizes_line i z) ≤ sizes_most
unfolding sizes_line
sizes_width i (Some z) h two =
    omega (
      arith,
      length-append (decimal i ++ field blank z.few ++ field blank z.many) line_end,
      length-append (decimal i ++ field blank z.few) (field blank z.many),
      length-append (decimal i) (field blank z.few),
      decimal_width 2 i h,
      decimal_width 1 z.few two.0,
      decimal_width 1 z.many two.1,
    )
sizes_width i None h two = omega arith

-- ---- the loop

-- the lines of some steps, which are numbered from i on
abbrev pub lines_of : List Chamber → ℕ → List ChamberStep → List ℕ
lines_of cs i xs = sizes_lines cs i (map limits_of xs)

-- after so many of n steps: the sizes of those that are left are short, and their lines complete the text
pub record Sizing (cs : List Chamber) (n : ℕ) (all left : List ChamberStep) (begun : Text) (count : ℕ) (text : Text) : Type 0 where
  pub many : count + length left ≡ n
  pub short : AllShort cs (map limits_of left)
  pub lines : Putting (lines_of cs 1 all) (lines_of cs (count + 1) left) begun text (sizes_most * count)

pub sizing_begun : (cs : List Chamber) (n : ℕ) (all : List ChamberStep) (begun : Text) → begun.len ≤ length begun.out.now → length all ≡ n → AllShort cs (map limits_of all)
    → Sizing cs n all all begun 0 begun
sizing_begun cs n all begun fits long short = record { many = omega arith; short = short; lines = none_put (lines_of cs 1 all) begun fits }

module _ {cs : List Chamber} {n : ℕ} {all left : List ChamberStep} {begun : Text} {count : ℕ} {text : Text} (g : Sizing cs n all left begun count text) where
  module _ {x : ChamberStep} {rest : List ChamberStep} (e : left ≡ x ∷ rest) where
    shorts : TwoDigits (sizes_in cs (limits_of x)) × AllShort cs (map limits_of rest)
    shorts = subst (λ xs. AllShort cs (map limits_of xs)) e g.short

    -- the sizes of the step that comes next are short
    pub next_short : TwoDigits (sizes_in cs (limits_of x))
    next_short = shorts.0

    -- its line is put
    pub sizing_on : n ≤ record_limit → {after : Text} → Puts (sizes_line (count + 1) (sizes_in cs (limits_of x))) text after
        → {k : ℕ} → k ≡ count + 1 → Sizing cs n all rest begun k after
    unfolding sizes_lines
    sizing_on few {after} put c =
        subst (λ (k : ℕ). Sizing cs n all rest begun k after) (sym c)
        (record {
          many = omega (arith, g.many, ap length e);
          short = shorts.1;
          lines =
              line_put g.lines (ap (lines_of cs (count + 1)) e)
              (sizes_width (count + 1) (sizes_in cs (limits_of x)) (omega (arith, g.many, ap length e)) next_short) (omega arith) put;
        })

  -- all lines are put
  pub sizing_done : left ≡ [] → Puts (lines_of cs 1 all) begun text
  unfolding sizes_lines
  sizing_done e = all_put g.lines (ap (lines_of cs (count + 1)) e)
