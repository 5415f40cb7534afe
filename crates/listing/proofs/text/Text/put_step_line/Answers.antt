-- `listing::text::Text::put_step_line` meets its contract.
use native.Mathlib.Omega.{arith}
use Rattle.promises.specs.Listing.{step_line}
use Rattle.listing.proofs.Numerals.{decimal_width, hexadecimal_length}
use Rattle.listing.proofs.Texts.{puts_then, puts_length}
use Rattle.listing.proofs.text.Text.put_step_line.Goals as goal

pub put_decimal-requires : goal.put_decimal-requires
put_decimal-requires c = omega (arith, c.requires.room, decimal_width 2 c.args.step c.requires.step_bound, decimal_width 1 c.args.many c.requires.many_bound)

pub put_byte-requires : goal.put_byte-requires
put_byte-requires c = omega (arith, c.requires.room, decimal_width 2 c.args.step c.requires.step_bound, decimal_width 1 c.args.many c.requires.many_bound, c.put_decimal.ensures.ended, puts_length c.put_decimal.ensures)

pub put_hexadecimal-requires : goal.put_hexadecimal-requires
put_hexadecimal-requires c = omega (arith, c.requires.room, decimal_width 2 c.args.step c.requires.step_bound, decimal_width 1 c.args.many c.requires.many_bound, c.put_decimal.ensures.ended, puts_length c.put_decimal.ensures, c.put_byte.ensures.ended, puts_length c.put_byte.ensures)

pub put_field-requires : goal.put_field-requires
put_field-requires c = omega (arith, c.requires.room, decimal_width 2 c.args.step c.requires.step_bound, decimal_width 1 c.args.many c.requires.many_bound, c.put_decimal.ensures.ended, puts_length c.put_decimal.ensures, c.put_byte.ensures.ended, puts_length c.put_byte.ensures, c.put_hexadecimal.ensures.ended, puts_length c.put_hexadecimal.ensures, hexadecimal_length 16 c.args.set)

pub put_byte-requires-2 : goal.put_byte-requires-2
put_byte-requires-2 c = omega (arith, c.requires.room, decimal_width 2 c.args.step c.requires.step_bound, decimal_width 1 c.args.many c.requires.many_bound, c.put_decimal.ensures.ended, puts_length c.put_decimal.ensures, c.put_byte.ensures.ended, puts_length c.put_byte.ensures, c.put_hexadecimal.ensures.ended, puts_length c.put_hexadecimal.ensures, c.put_field.ensures.ended, puts_length c.put_field.ensures, hexadecimal_length 16 c.args.set)

pub returns : goal.returns
unfolding step_line
returns c = puts_then (puts_then (puts_then (puts_then c.put_decimal.ensures c.put_byte.ensures) c.put_hexadecimal.ensures) c.put_field.ensures) c.put_byte-2.ensures
