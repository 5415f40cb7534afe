-- `listing::text::Text::put_first_line` meets its contract.
use native.Mathlib.Omega.{arith}
use Rattle.promises.specs.Listing.{first_line}
use Rattle.listing.proofs.Numerals.{decimal_width, word_width}
use Rattle.listing.proofs.Texts.{puts_then, puts_length}
use Rattle.listing.proofs.text.Text.put_first_line.Goals as goal

pub put_field-requires : goal.put_field-requires
put_field-requires c = omega (arith, c.requires, decimal_width 9 c.args.units (word_width c.ranges.units.fits), decimal_width 9 c.args.steps (word_width c.ranges.steps.fits), decimal_width 9 c.args.bound (word_width c.ranges.bound.fits))

pub put_field-requires-2 : goal.put_field-requires-2
put_field-requires-2 c = omega (arith, c.requires, decimal_width 9 c.args.units (word_width c.ranges.units.fits), decimal_width 9 c.args.steps (word_width c.ranges.steps.fits), decimal_width 9 c.args.bound (word_width c.ranges.bound.fits), c.put_field.ensures.ended, puts_length c.put_field.ensures)

pub put_field-requires-3 : goal.put_field-requires-3
put_field-requires-3 c = omega (arith, c.requires, decimal_width 9 c.args.units (word_width c.ranges.units.fits), decimal_width 9 c.args.steps (word_width c.ranges.steps.fits), decimal_width 9 c.args.bound (word_width c.ranges.bound.fits), c.put_field.ensures.ended, puts_length c.put_field.ensures, c.put_field-2.ensures.ended, puts_length c.put_field-2.ensures)

pub put_byte-requires : goal.put_byte-requires
put_byte-requires c = omega (arith, c.requires, decimal_width 9 c.args.units (word_width c.ranges.units.fits), decimal_width 9 c.args.steps (word_width c.ranges.steps.fits), decimal_width 9 c.args.bound (word_width c.ranges.bound.fits), c.put_field.ensures.ended, puts_length c.put_field.ensures, c.put_field-2.ensures.ended, puts_length c.put_field-2.ensures, c.put_field-3.ensures.ended, puts_length c.put_field-3.ensures)

pub returns : goal.returns
unfolding first_line
returns c =
    record {
      line = puts_then (puts_then (puts_then c.put_field.ensures c.put_field-2.ensures) c.put_field-3.ensures) c.put_byte.ensures;
      upper_bound = omega (arith, decimal_width 9 c.args.units (word_width c.ranges.units.fits), decimal_width 9 c.args.steps (word_width c.ranges.steps.fits), decimal_width 9 c.args.bound (word_width c.ranges.bound.fits), c.put_field.ensures.ended, c.put_field-2.ensures.ended, c.put_field-3.ensures.ended, c.put_byte.ensures.ended);
    }
