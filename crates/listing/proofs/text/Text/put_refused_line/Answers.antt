-- `listing::text::Text::put_refused_line` meets its contract.
use native.Mathlib.Omega.{arith}
use Rattle.promises.specs.Listing.{refused_line}
use Rattle.listing.proofs.Numerals.{decimal_width, word_width}
use Rattle.listing.proofs.Texts.{puts_then, puts_length}
use Rattle.listing.proofs.text.Text.put_refused_line.Goals as goal

pub put_field-requires : goal.put_field-requires
put_field-requires c = omega (arith, c.requires, decimal_width 9 c.args.number (word_width c.ranges.number.fits), decimal_width 9 c.args.place (word_width c.ranges.place.fits))

pub put_field-requires-2 : goal.put_field-requires-2
put_field-requires-2 c = omega (arith, c.requires, decimal_width 9 c.args.number (word_width c.ranges.number.fits), decimal_width 9 c.args.place (word_width c.ranges.place.fits), c.put_field.ensures.ended, puts_length c.put_field.ensures)

pub put_byte-requires : goal.put_byte-requires
put_byte-requires c = omega (arith, c.requires, decimal_width 9 c.args.number (word_width c.ranges.number.fits), decimal_width 9 c.args.place (word_width c.ranges.place.fits), c.put_field.ensures.ended, puts_length c.put_field.ensures, c.put_field-2.ensures.ended, puts_length c.put_field-2.ensures)

pub returns : goal.returns
unfolding refused_line
returns c = puts_then (puts_then c.put_field.ensures c.put_field-2.ensures) c.put_byte.ensures
