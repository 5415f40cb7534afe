-- `editions::remake::second_record` meets its contract: what is put is as long as what stood there.
use Rattle.std.proofs.Common.{arith, length-append, length-drop, length-take}
use Rattle.editions.proofs.Remaking.{second_record}
use Rattle.editions.proofs.remake.second_record.Goals as goal

pub slice_bounds-copy_from_slice-end-2 : goal.slice_bounds-copy_from_slice-end-2
slice_bounds-copy_from_slice-end-2 c = simp length-take (omega (arith, c.requires))

pub slice_bounds-bytes-end-3 : goal.slice_bounds-bytes-end-3
slice_bounds-bytes-end-3 c = simp (length-append, length-drop, length-take) (omega (arith, c.copy_from_slice.ensures.len, c.copy_from_slice-2.ensures.len, c.requires))

pub slice_bounds-bytes-end-4 : goal.slice_bounds-bytes-end-4
slice_bounds-bytes-end-4 c = simp (length-append, length-drop, length-take) (omega (arith, c.copy_from_slice.ensures.len, c.copy_from_slice-2.ensures.len, c.copy_from_slice-3.ensures.len, c.requires))

pub slice_bounds-bytes-end-5 : goal.slice_bounds-bytes-end-5
slice_bounds-bytes-end-5 c = simp (length-append, length-drop, length-take) (omega (arith, c.copy_from_slice.ensures.len, c.copy_from_slice-2.ensures.len, c.copy_from_slice-3.ensures.len, c.copy_from_slice-4.ensures.len, c.requires))

pub returns : goal.returns
returns c =
    rw (c.copy_from_slice.ensures.after, c.copy_from_slice-2.ensures.after, c.copy_from_slice-3.ensures.after, c.copy_from_slice-4.ensures.after, c.copy_from_slice-5.ensures.after, c.numbers-least.ensures, c.numbers-greatest.ensures) (second_record c.args.b.now c.requires)
