-- `listing::text::Text::put_field` meets its contract.
use native.Mathlib.Omega.{arith}
use Rattle.listing.proofs.Texts.{puts_then, puts_length}
use Rattle.listing.proofs.text.Text.put_field.Goals as goal

pub put-requires : goal.put-requires
put-requires c = omega (arith, c.requires)

pub put_decimal-requires : goal.put_decimal-requires
put_decimal-requires c = omega (arith, c.requires, c.put.ensures.ended, puts_length c.put.ensures)

pub returns : goal.returns
returns c = puts_then c.put.ensures c.put_decimal.ensures
