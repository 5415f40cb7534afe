-- `sheet::steps::search_by` meets its contract. The loop's invariant: the steps so far are sound, and those that are
-- left decide.
use Rattle.sheet.proofs.Searches.{Searching}
use Rattle.sheet.proofs.steps.search_by.Given as goal

abbrev pub invariant-loop-i : goal.invariant-loop-i
invariant-loop-i l =
    Searching l.chambers.units l.header.units l.fn.x.steps l.records.first l.initial.i-iterator.iter l.i-iterator.iter l.i-iterator.count
