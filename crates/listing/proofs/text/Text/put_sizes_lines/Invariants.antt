-- `listing::text::Text::put_sizes_lines` meets its contract: `Sizing` has the laws of its loop.
use Rattle.format.specs.Format.{chambers_in}
use Rattle.listing.proofs.Sizing.{Sizing}
use Rattle.listing.proofs.text.Text.put_sizes_lines.Given as goal

abbrev pub invariant-loop-i : goal.invariant-loop-i
invariant-loop-i l =
    Sizing (chambers_in l.fn.sheet.bytes.now) l.fn.sheet.summary.steps l.initial.i-iterator.iter l.i-iterator.iter l.initial.self l.i-iterator.count l.self
