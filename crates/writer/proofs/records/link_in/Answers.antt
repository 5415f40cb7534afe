-- `writer::records::link_in` meets its contract.
use Rattle.format.specs.Writing.{link_in}
use Rattle.std.proofs.Common.{rules}
use Rattle.writer.proofs.records.link_in.Goals as goal

pub returns-then-j-n : goal.returns-then-j-n
unfolding link_in
returns-then-j-n c = search rules

pub returns-else-j-n : goal.returns-else-j-n
unfolding link_in
returns-else-j-n c = search rules
