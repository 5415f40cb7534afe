-- `listing::list_plan` meets its contract.
use mathlib.Core.Path.{refl, sym, ap}
use native.Mathlib.Omega.{arith}
use Rattle.promises.specs.Listing.{listing}
use Rattle.promises.proofs.Listings.{listing_unread}
use Rattle.listing.proofs.Texts.{puts_as, puts_first}
use Rattle.listing.proofs.list_plan.Goals.{in-Err, in-Ok}
use Rattle.listing.proofs.list_plan.Goals as goal

pub put_listing-requires : goal.put_listing-requires
put_listing-requires c = omega arith

pub returns : goal.returns
returns c =
    elim c.match-read.branch [
      | in-Err w ↦ rw w.text-is (puts_first refl (puts_as (listing_unread c.args.sheet.now (sym w.in-Err.ensures.value)) w.put_refusal.ensures))
      | in-Ok w ↦ rw w.text-is (puts_first refl (puts_as (ap listing w.in-Ok.ensures.same_bytes) w.put_listing.ensures))
    ]
