-- `listing::text::Text::put_decimal` calls itself on the number without its last digit. The measure is the number.
use Rattle.listing.proofs.text.Text.+put_decimal.Given as goal

abbrev pub decreases-put_decimal : goal.decreases-put_decimal
decreases-put_decimal l = l.x
