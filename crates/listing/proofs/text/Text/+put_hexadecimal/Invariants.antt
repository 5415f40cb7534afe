-- `listing::text::Text::put_hexadecimal` calls itself on the number without its last digit. The measure is the number
-- of digits.
use Rattle.listing.proofs.text.Text.+put_hexadecimal.Given as goal

abbrev pub decreases-put_hexadecimal : goal.decreases-put_hexadecimal
decreases-put_hexadecimal l = l.digits
