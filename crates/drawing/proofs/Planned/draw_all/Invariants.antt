-- The loop's invariant is `Drawn` for both outputs: what was joined so far, with the chambers still to come, is all.
use Rattle.std.proofs.Common.{true, false}
use Rattle.drawing.proofs.Chambers.{Drawn}
use Rattle.drawing.proofs.Planned.draw_all.Given as goal

abbrev pub invariant-loop-c : goal.invariant-loop-c
invariant-loop-c l =
    Drawn l.self.sheet.bytes.now l.self.sheet.summary.steps true l.self.slack l.fn.on l.on l.c
    × Drawn l.self.sheet.bytes.now l.self.sheet.summary.steps false l.self.slack l.fn.off l.off l.c
