-- What a read put into the rest of the array stands after what was read before, so both together are what the input
-- gave.
use Rattle.std.proofs.Common.{◌≡◌, ℕ, ◌+◌, ◌≤◌, List, ◌++◌, rules, arith, refl, length, take, sym, ap, ◌∙◌, subst, length-take-le}
use Rattle.std.specs.Io.KnownBytes.{Consumes}
use Rattle.std.proofs.KnownBytes.{Consumes-trans}
use Rattle.std.proofs.Math.Seq.{take-append-add}
use Rattle.std.proofs.lemmas.List.{take-take}
use Rattle.std.proofs.lemmas.Slice.{take-put_mid}
use borrow.Rule.Slice.PartMut.{put_mid}
use Rattle.listing.proofs.input.read_full.Goals as goal

-- the first a + n of xs, once ys was written at a: the first a, then the first n of ys
take_written : (a k n : ℕ) (xs ys : List ℕ) → a ≤ length xs → n ≤ length ys
    → take (a + n) (put_mid a k xs ys) ≡ take a xs ++ take n ys
take_written a k n xs ys within fits =
    let whole = take-put_mid a k xs ys (a + length ys) refl within in
    sym (take-take (a + n) (a + length ys) (put_mid a k xs ys) (omega arith)) ∙ ap (take (a + n)) whole
    ∙ ap (λ m. take (m + n) (take a xs ++ ys)) (sym (length-take-le a xs within)) ∙ take-append-add (take a xs) ys n

pub loop-done-preserved : goal.loop-done-preserved
loop-done-preserved g c =
    let before = c.loop-done.invariant in
    let read = c.in_ok-count.ensures in
    let within : c.loop-done.done ≤ length c.loop-done.bytes = search rules in
    let joined = Consumes-trans _ _ _ _ _ before.1 read.bytes.0 in (
      search rules,
      subst (Consumes _ _) (sym (take_written _ _ _ _ _ within read.bound.0)) joined,
    )
