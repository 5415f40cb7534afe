-- `listing::text::Text::put_digit` meets its contract: that its table follows the rule of the digits is computed.
use mathlib.Core.Path.{refl, ap}
use mathlib.Core.List.{List, [], ◌∷◌}
use Prim.Native.Nat.{ℕ}
use Rattle.promises.specs.Digits.{digit}
use Rattle.listing.proofs.Texts.{puts_as}
use Rattle.listing.proofs.Table.{entry_at}
use Rattle.listing.proofs.text.Text.put_digit.Goals as goal

-- the table of the code, "0123456789abcdef", in numbers
abbrev table : List ℕ
table = 48 ∷ 49 ∷ 50 ∷ 51 ∷ 52 ∷ 53 ∷ 54 ∷ 55 ∷ 56 ∷ 57 ∷ 97 ∷ 98 ∷ 99 ∷ 100 ∷ 101 ∷ 102 ∷ []

pub returns : goal.returns
returns c =
    puts_as (ap (λ (v : ℕ). v ∷ []) (entry_at digit table refl c.args.x c.requires.x_bound)) c.put_byte.ensures
