-- `listing::text::Text::put_hexadecimal`, which calls itself on the number without its last digit, meets its contract.
use native.Mathlib.Omega.{arith}
use Prim.Native.Nat.{◌-◌, ◌/◌}
use Rattle.listing.proofs.Numerals.{hexadecimal_none, hexadecimal_more, hexadecimal_length}
use Rattle.listing.proofs.Texts.{puts_none, puts_then, puts_length}
use Rattle.listing.proofs.text.Text.+put_hexadecimal.Goals as goal

pub returns-then-digits-eq0 : goal.returns-then-digits-eq0
returns-then-digits-eq0 t c = rw (hexadecimal_none c.args.digits c.args.x c.if-digits-eq0.true) (puts_none (omega (arith, c.requires)))

pub overflow_sub-digits : goal.overflow_sub-digits
overflow_sub-digits t c = omega (arith, c.if-digits-eq0.false)

pub put_hexadecimal-requires : goal.put_hexadecimal-requires
put_hexadecimal-requires t c = (omega (arith, c.if-digits-eq0.false), omega (arith, c.requires, c.if-digits-eq0.false))

pub put_digit-requires : goal.put_digit-requires
put_digit-requires t c =
    let front = c.put_hexadecimal.ensures in
    record {
      x_bound = omega arith;
      room = omega (arith, c.requires, c.if-digits-eq0.false, front.ended, puts_length front, hexadecimal_length (c.args.digits - 1) (c.args.x / 16));
    }

pub returns : goal.returns
returns t c =
    rw (hexadecimal_more c.args.digits c.args.x c.if-digits-eq0.false) (puts_then c.put_hexadecimal.ensures c.put_digit.ensures)
