-- `sheet::numbers::u32_at` meets its contract.
use Rattle.std.proofs.Common.{◌∙◌}
use Rattle.sheet.proofs.LittleEndian.{four_bytes}
use Rattle.sheet.proofs.numbers.u32_at.Goals as goal

pub returns : goal.returns
returns c = c.from_le_bytes.ensures ∙ rw c.bytes_at.ensures (four_bytes c.args.s.now c.args.at)
