-- `sheet::numbers::u64_at` meets its contract.
use Rattle.std.proofs.Common.{◌∙◌}
use Rattle.sheet.proofs.LittleEndian.{eight_bytes}
use Rattle.sheet.proofs.numbers.u64_at.Goals as goal

pub returns : goal.returns
returns c = c.from_le_bytes.ensures ∙ rw c.bytes_at.ensures (eight_bytes c.args.s.now c.args.at)
