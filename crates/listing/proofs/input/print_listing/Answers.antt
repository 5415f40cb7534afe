-- What was read is the sheet that `list` was handed.
use Rattle.std.proofs.Common.{arith, refl, OnOk, Ok, Err, take, length-take-le}
use Rattle.std.specs.Prelude.{Result}
use Rattle.listing.proofs.input.print_listing.Goals as goal

on_ok : {A E : Type 0} {P : Type 0} → P → (r : Result A E) → OnOk r P
on_ok p (Ok x) = p
on_ok p (Err e) = tt

pub returns : goal.returns
returns g c =
    let read = c.in_ok-count.ensures in
    let sheet = take c.in_ok-count.count c.read_full.new.bytes in
    on_ok (
      sheet,
      read.bytes,
      (λ few. read.end (omega (arith, length-take-le _ _ read.bound))),
      (_, _, _, _, refl, c.list-length.ensures),
    ) c.write_all.result
