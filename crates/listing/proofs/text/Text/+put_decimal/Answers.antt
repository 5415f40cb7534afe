-- `listing::text::Text::put_decimal`, which calls itself on the number without its last digit, meets its contract.
use native.Mathlib.Omega.{arith}
use Rattle.listing.proofs.Numerals.{decimal_small, decimal_more, decimal_longer, decimal_some}
use Rattle.listing.proofs.Texts.{puts_then, puts_length}
use Rattle.listing.proofs.text.Text.+put_decimal.Goals as goal

pub put_digit-requires : goal.put_digit-requires
put_digit-requires t c =
    record { x_bound = omega (arith, c.if-x-lt10.true); room = omega (arith, c.requires, decimal_some c.args.x) }

pub returns-then-x-lt10 : goal.returns-then-x-lt10
returns-then-x-lt10 t c = rw (decimal_small c.args.x c.if-x-lt10.true) c.put_digit.ensures

pub put_decimal-requires : goal.put_decimal-requires
put_decimal-requires t c =
    let large = c.if-x-lt10.false in
    (omega (arith, large), omega (arith, c.requires, decimal_longer c.args.x large))

pub put_digit-requires-2 : goal.put_digit-requires-2
put_digit-requires-2 t c =
    let large = c.if-x-lt10.false in
    let front = c.put_decimal.ensures in
    record { x_bound = omega arith; room = omega (arith, c.requires, decimal_longer c.args.x large, front.ended, puts_length front) }

pub returns : goal.returns
returns t c =
    rw (decimal_more c.args.x c.if-x-lt10.false) (puts_then c.put_decimal.ensures c.put_digit-2.ensures)
