-- `sheet::numbers::u16_at` meets its contract.
use Rattle.std.proofs.Common.{◌∙◌}
use Rattle.sheet.proofs.LittleEndian.{two_bytes}
use Rattle.sheet.proofs.numbers.u16_at.Goals as goal

pub returns : goal.returns
returns c = c.from_le_bytes.ensures ∙ rw c.bytes_at.ensures (two_bytes c.args.s.now c.args.at)
