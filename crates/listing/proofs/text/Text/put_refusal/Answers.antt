-- `listing::text::Text::put_refusal` meets its contract.
use Rattle.std.proofs.Common.{ℕ, ap}
use Rattle.promises.specs.Listing.{refused_line}
use Rattle.listing.proofs.Texts.{puts_as}
use Rattle.listing.proofs.text.Text.put_refusal.Goals as goal

pub returns : goal.returns
returns c = puts_as (ap (λ (n : ℕ). refused_line n c.args.refusal.place) c.number.ensures) c.put_refused_line.ensures
