-- `listing::list_sizes` meets its contract.
use mathlib.Core.Path.{refl, sym, ap}
use native.Mathlib.Omega.{arith}
use Rattle.promises.specs.Listing.{sizes_listing}
use Rattle.promises.proofs.Read.{was_opened}
use Rattle.promises.proofs.Listings.{sizes_unread}
use Rattle.listing.proofs.Texts.{puts_as, puts_first}
use Rattle.listing.proofs.list_sizes.Goals.{in-Err, in-Ok}
use Rattle.listing.proofs.list_sizes.Goals as goal

pub put_sizes_lines-requires : goal.put_sizes_lines-requires
put_sizes_lines-requires c = omega (arith, (was_opened c.args.sheet.now (sym c.in-Ok.ensures.value)).few)

pub returns : goal.returns
returns c =
    elim c.match-read.branch [
      | in-Err w ↦ rw w.text-is (puts_first refl (puts_as (sizes_unread c.args.sheet.now (sym w.in-Err.ensures.value)) w.put_refusal.ensures))
      | in-Ok w ↦ rw w.text-is (puts_first refl (puts_as (ap sizes_listing w.in-Ok.ensures.same_bytes) w.put_sizes_lines.ensures))
    ]
