-- `listing::text::Text::put` meets its contract.
use Rattle.std.proofs.Common.{refl, arith, ◌+◌, ◌-◌, length}
use Rattle.listing.proofs.Texts.{text_stored}
use Rattle.listing.proofs.text.Text.put.Goals as goal

pub returns : goal.returns
returns c =
    let x = c.args.self.now in
    let bytes = c.args.bytes.now in
    record {
      stored = rw c.copy_from_slice.ensures.after (text_stored bytes x.out.now x.len (x.len + length bytes - x.len) (omega arith) c.requires);
      ended = refl;
      within = c.requires;
      same_output = refl;
    }
