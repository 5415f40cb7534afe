-- `listing::text::Text::put_step_lines` meets its contract: `Stepping` has the laws of its loop.
use Rattle.listing.proofs.Stepping.{Stepping}
use Rattle.listing.proofs.text.Text.put_step_lines.Given as goal

abbrev pub invariant-loop-i : goal.invariant-loop-i
invariant-loop-i l = Stepping l.start l.plan l.i l.before l.initial.self l.self
