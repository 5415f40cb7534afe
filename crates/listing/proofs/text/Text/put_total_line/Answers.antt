-- `listing::text::Text::put_total_line` meets its contract.
use native.Mathlib.Omega.{arith}
use Rattle.promises.specs.Listing.{total_line}
use Rattle.listing.proofs.Numerals.{decimal_width, word_width}
use Rattle.listing.proofs.Texts.{puts_then, puts_length}
use Rattle.listing.proofs.text.Text.put_total_line.Goals as goal

pub put_field-requires : goal.put_field-requires
put_field-requires c = omega (arith, c.requires, decimal_width 9 c.args.many (word_width c.ranges.many.fits))

pub put_byte-requires : goal.put_byte-requires
put_byte-requires c = omega (arith, c.requires, decimal_width 9 c.args.many (word_width c.ranges.many.fits), c.put_field.ensures.ended, puts_length c.put_field.ensures)

pub returns : goal.returns
unfolding total_line
returns c = puts_then c.put_field.ensures c.put_byte.ensures
