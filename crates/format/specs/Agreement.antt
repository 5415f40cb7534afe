-- Two sheets that agree in all that counts (`Agree`): they may differ in job tags and in the bytes of records that the
-- walk does not visit (spare records, in docs/FORMAT.md), and `read_untagged` is what they have in common. Sheets that
-- agree but for the start set (`AgreeButStart`) may differ in that too.
use Rattle.std.specs.Prelude.{ℕ, ◌+◌, ◌≤◌, ◌<◌, ◌≡◌, List, map, length}
use Rattle.format.specs.declared.ChamberStep.{ChamberStep}
use Rattle.format.specs.Answer.{Answer, Given, unless}
use Rattle.format.specs.Numbers.{byte_at}
use Rattle.format.specs.Format.{header_size, start_at, tag_at, record_offset, is_first, records_of, next_of}
use Rattle.format.specs.Reading.{read_causes, Campaign, campaign_of}

-- The walk visits the header, which counts as record 0, and from each record that it visits the next one, if that is a
-- record of the sheet.
pub data Visited (s : List ℕ) : ℕ → Type 0 where
  begun : Visited s 0
  onward : {j : ℕ} → Visited s j → next_of s j ≤ records_of s → Visited s (next_of s j)

-- Their lengths, the first k bytes of their headers and, in each record that the walk along the first visits, the
-- bytes before the tag are equal.
pub record AgreeTo (k : ℕ) (s t : List ℕ) : Type 0 where
  pub lengths : length s ≡ length t
  pub headers : (i : ℕ) → i < k → byte_at s i ≡ byte_at t i
  pub records : (j : ℕ) → 0 < j → Visited s j → (i : ℕ) → i < tag_at (is_first s)
      → byte_at s (record_offset (is_first s) j + i) ≡ byte_at t (record_offset (is_first s) j + i)

-- agreement up to the end of the header
abbrev pub Agree : List ℕ → List ℕ → Type 0
Agree = AgreeTo header_size

-- agreement up to the start set, which is the last field of the header
abbrev pub AgreeButStart : List ℕ → List ℕ → Type 0
AgreeButStart = AgreeTo start_at

-- a step without its tag, and a campaign without tags
abbrev pub untagged : ChamberStep → ChamberStep
untagged x = record { lower = x.lower; upper = x.upper; least = x.least; greatest = x.greatest; tag = 0; reserved = x.reserved }

abbrev pub without_tags : Campaign → Campaign
without_tags c = record { units = c.units; bound = c.bound; start = c.start; chambers = c.chambers; steps = map untagged c.steps }

-- what a sheet says but for tags: one refusal of the reader, or the campaign
abbrev pub read_untagged : List ℕ → Answer Campaign
read_untagged s = unless (read_causes s) (Given (without_tags (campaign_of s)))
