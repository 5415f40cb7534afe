-- The worked examples of the reader and of sheets in the other edition hold: each row is computed from the
-- definitions.
use mathlib.Core.Path.{refl}
use lib.Count.{ones, ones_in}
use Rattle.chambers.specs.Chambers.{dealt, numbered, sum, part_sizes, sizes_in, some_fits}
use Rattle.units.specs.Limits.{feasible_sizes}
use Rattle.units.specs.Sets.{intersection, difference, is_subset, size, has_unit_from}
use Rattle.format.specs.Answer.{unless}
use Rattle.format.specs.Chain.{following, chain_of, is_in, link_causes}
use Rattle.format.specs.Editions.{header_in, record_in, records_in, remade, in_edition}
use Rattle.format.specs.Examples.{All, chamber_header, chamber_record, faults, pairs_of_faults, campaigns, AllConverted, conversions}
use Rattle.format.specs.Format.{sizes, step_in, step_of, next_of}
use Rattle.format.specs.Numbers.{byte_at, u16_at, u32_at, u64_at, bytes_of}
use Rattle.format.specs.Reading.{same, steps_causes, read_causes, campaign_of}
use Rattle.format.specs.Writing.{header_bytes, record_bytes, link_in, records_after, sheet_of, numbers_from}

pub readings_hold : All faults × (All pairs_of_faults × All campaigns)
unfolding dealt numbered sum part_sizes sizes_in some_fits chamber_header chamber_record sizes step_in feasible_sizes intersection difference is_subset size has_unit_from unless following chain_of is_in link_causes bytes_of header_bytes record_bytes link_in records_after sheet_of step_of next_of byte_at u16_at u32_at u64_at same steps_causes read_causes campaign_of ones ones_in faults pairs_of_faults campaigns
readings_hold = (
  (refl, (refl, (refl, (refl, (refl, (refl, (refl, (refl, (refl, (refl, (refl, (refl, (refl, (refl, (refl, (refl, (refl, (refl, (refl, (refl, (refl, (refl, (refl, (refl, (refl, (refl, (refl, (refl, (refl, tt))))))))))))))))))))))))))))),
  ((refl, (refl, (refl, (refl, (refl, (refl, (refl, (refl, (refl, (refl, (refl, (refl, (refl, (refl, (refl, (refl, (refl, tt))))))))))))))))), (refl, (refl, (refl, (refl, (refl, (refl, (refl, tt)))))))),
)

pub conversions_hold : AllConverted conversions
unfolding chamber_header chamber_record bytes_of header_bytes record_bytes byte_at u16_at header_in record_in records_in remade in_edition numbers_from conversions
conversions_hold = (refl, (refl, (refl, (refl, (refl, tt)))))
