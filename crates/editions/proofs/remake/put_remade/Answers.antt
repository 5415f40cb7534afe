-- `editions::remake::put_remade` meets its contract: the header is put, and then one record after the other.
use Rattle.std.proofs.Common.{◌≡◌, not, ◌-◌, length, drop, arith, sym, ap, ◌∙◌, length-drop, ℕ, ◌<◌, ◌+◌}
use Rattle.std.proofs.Math.Seq.{length-take-le, take_all}
use Rattle.std.specs.Slice.Iter.{chunks_exact_rest}
use Rattle.format.specs.Editions.{header_in, remade}
use Rattle.format.specs.Format.{header_size, record_size, sheet_length, record_offset, records_of}
use Rattle.format.proofs.Records.{header_within, record_ends}
use Rattle.format.proofs.Remade.{header_long}
use Rattle.editions.proofs.Remaking.{remaking_begun, record_on, all_made}
use Rattle.editions.proofs.remake.put_remade.Goals.{then-first, else-first, After-header}
use Rattle.editions.proofs.remake.put_remade.Goals as goal

pub slice_bounds-copy_from_slice-end-2 : goal.slice_bounds-copy_from_slice-end-2
slice_bounds-copy_from_slice-end-2 c =
    sym (length-take-le 24 c.args.out.now (omega (arith, c.requires.room, header_within c.args.first (records_of c.args.s.now))))

pub copy_from_slice-requires : goal.copy_from_slice-requires
copy_from_slice-requires c =
    let a = c.args in
    let r = records_of a.s.now in
    length-take-le 24 a.out.now (omega (arith, c.requires.room, header_within a.first r))
    ∙ sym (ap length c.header.ensures ∙ header_long a.first a.s.now (omega (arith, c.requires.whole, header_within (not a.first) r)))

pub loop-i-init : goal.loop-i-init
loop-i-init c =
    let a = c.args in
    let s = a.s.now in
    let items : c.into_iter-i-iterator.result.iter ≡ c.chunks_exact.result = ap (λ e. e.iter) c.into_iter-i-iterator.ensures.into_iter_gives ∙ c.enumerate-i-items.ensures.source in
    let count : c.into_iter-i-iterator.result.count ≡ 0 = ap (λ e. e.count) c.into_iter-i-iterator.ensures.into_iter_gives ∙ c.enumerate-i-items.ensures.count in
    let size : c.if-first.size ≡ record_size (not a.first) =
    elim c.if-first.branch [
      | then-first w ↦ w.size-is ∙ ap (λ b. record_size (not b)) (sym w.if-first.true)
      | else-first w ↦ w.size-is ∙ ap (λ b. record_size (not b)) (sym w.if-first.false)
    ] in
    let all : chunks_exact_rest c.chunks_exact.result ≡ drop header_size s = c.chunks_exact.ensures.rest ∙ take_all (length s - 24) (drop 24 s) (omega (arith, length-drop 24 s)) in
    let header : c.copy_from_slice.new.self ≡ header_in a.first s = c.copy_from_slice.ensures.after ∙ c.header.ensures in
    rw (items, count, c.chunks_exact.ensures.size, all, header) (size, remaking_begun a.first s (records_of s) c.requires.whole a.out.now)

pub loop-i-preserved : goal.loop-i-preserved
loop-i-preserved c =
    let a = c.args in
    let s = a.s.now in
    let (size, here) = c.loop-i.invariant in
    let (chunk, number, count, few) = c.in-Some.ensures.steps in
    let (same, found, other) = chunk in
    let long : length c.in-Some.record.now ≡ record_size (not a.first) = found.1 ∙ size in
    let at : c.record_offset.result ≡ record_offset a.first (c.loop-i.i-iterator.count + 1) = c.record_offset.ensures ∙ ap (λ (k : ℕ). record_offset a.first (k + 1)) number in
    let to : c.sheet_length.result ≡ sheet_length a.first (c.loop-i.i-iterator.count + 1) = c.sheet_length.ensures ∙ ap (λ (k : ℕ). sheet_length a.first (k + 1)) number in
    let places : c.sheet_length.result - c.record_offset.result ≡ record_size a.first = omega (arith, at, to, record_ends a.first (c.loop-i.i-iterator.count + 1) (omega arith)) in
    (same ∙ size, rw (c.put_record.ensures, count) (record_on a.first s (records_of s) c.requires.whole here c.in-Some.record.now _ found.0 long c.requires.room _ _ at places))

pub returns : goal.returns
unfolding remade
returns c =
    let a = c.args in
    let s = a.s.now in
    let (size, here) = c.loop-i.invariant in
    let few : length (chunks_exact_rest c.loop-i.i-iterator.iter) < record_size (not a.first) = rw (← size) c.in-None.ensures.steps.0.1.0 in
    all_made a.first s (records_of s) c.requires.whole here few
