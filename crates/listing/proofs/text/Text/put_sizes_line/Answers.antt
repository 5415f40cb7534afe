-- `listing::text::Text::put_sizes_line` meets its contract.
use mathlib.Core.Path.{subst}
use native.Mathlib.Omega.{arith}
use Rattle.promises.specs.Listing.{sizes_line}
use Rattle.listing.specs.Room.{TwoDigits}
use Rattle.listing.proofs.Numerals.{decimal_width}
use Rattle.listing.proofs.Texts.{puts_then, puts_none, puts_length}
use Rattle.listing.proofs.text.Text.put_sizes_line.Goals as goal

pub put_decimal-requires : goal.put_decimal-requires
put_decimal-requires c = omega (arith, c.requires.room, decimal_width 2 c.args.step c.requires.step_bound)

pub put_field-requires : goal.put_field-requires
put_field-requires c =
    let two = subst TwoDigits c.in-Some.is c.requires.two_digits in
    let step = c.put_decimal.ensures in
    omega (arith, c.requires.room, decimal_width 2 c.args.step c.requires.step_bound, decimal_width 1 _ two.0, step.ended, puts_length step)

pub put_field-requires-2 : goal.put_field-requires-2
put_field-requires-2 c =
    let two = subst TwoDigits c.in-Some.is c.requires.two_digits in
    let both = puts_then c.put_decimal.ensures c.put_field.ensures in
    omega (arith, c.requires.room, decimal_width 2 c.args.step c.requires.step_bound, decimal_width 1 _ two.0, decimal_width 1 _ two.1, c.put_decimal.ensures.ended, c.put_field.ensures.ended, puts_length both)

pub put_byte-requires : goal.put_byte-requires
put_byte-requires c =
    let two = subst TwoDigits c.in-Some.is c.requires.two_digits in
    let all = puts_then (puts_then c.put_decimal.ensures c.put_field.ensures) c.put_field-2.ensures in
    omega (arith, c.requires.room, decimal_width 2 c.args.step c.requires.step_bound, decimal_width 1 _ two.0, decimal_width 1 _ two.1, c.put_decimal.ensures.ended, c.put_field.ensures.ended, c.put_field-2.ensures.ended, puts_length all)

pub returns : goal.returns
unfolding sizes_line
returns c =
    rw c.in-Some.is
    (puts_then (puts_then (puts_then c.put_decimal.ensures c.put_field.ensures) c.put_field-2.ensures) c.put_byte.ensures)

pub returns-in_default : goal.returns-in_default
unfolding sizes_line
returns-in_default c = rw c.in_default.is (puts_none (omega (arith, c.requires.room)))
