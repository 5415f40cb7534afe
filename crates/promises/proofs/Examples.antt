-- The worked examples hold: each row is computed from the definitions.
use mathlib.Core.Path.{refl}
use Rattle.units.specs.Limits.{feasible_sizes}
use Rattle.chambers.specs.Chambers.{dealt, numbered, sum, counts, fits, part_sizes, sizes_in, some_fits, support_in_by}
use Rattle.units.specs.Sets.{bit, union, intersection, difference, contains, insert, remove, is_subset, size, units_below, has_unit_from}
use Rattle.format.specs.Answer.{unless}
use Rattle.format.specs.Chain.{following, chain_of, is_in, link_causes}
use Rattle.format.specs.Editions.{header_in, record_in, records_in, remade, in_edition}
use Rattle.format.specs.Examples.{chamber_header, chamber_record}
use Rattle.format.specs.Format.{sizes, step_in, step_of, next_of}
use Rattle.format.specs.Numbers.{byte_at, u16_at, u32_at, u64_at, bytes_of}
use Rattle.format.specs.Reading.{same, steps_causes, read_causes, campaign_of}
use Rattle.format.specs.Writing.{header_bytes, record_bytes, link_in, records_after, sheet_of, numbers_from}
use Rattle.plans.specs.Plans.{select, below, is_feasible, prefixed, plans_of, least_of, fewest, plans_within, joined, joined_all, can_be_on, can_be_off}
use Rattle.plans.specs.Support.{next_required, next_forbidden, required_first, ranks_by, first_in, taken, support_set, support_from, find_support_by}
use Rattle.plans.specs.Switch.{switches, total}
use lib.Count.{ones, ones_in}
use Rattle.promises.specs.Common.{wrote}
use Rattle.promises.specs.Steps.{steps_refusals, steps_reply, steps_written, warm_steps}
use Rattle.promises.specs.Plan.{fewest_on, support_on, plan_refusals, planned, warm_plan}
use Rattle.promises.specs.Chart.{on_words, off_words, charted, warm_chart}
use Rattle.promises.specs.Verdict.{verdict_refusals, accepts, judged, warm_verdict}
use Rattle.promises.specs.Write.{write_refusals, warm_write}
use Rattle.promises.specs.Convert.{convert_refusals, warm_convert}
use Rattle.promises.specs.Digits.{decimal_in, decimal}
use Rattle.promises.specs.Listing.{refused_line, sizes_line, sizes_lines, sizes_listed, sizes_listing}
use Rattle.promises.specs.Examples.{All, benches, replies, choices, writings, sizings, loadings, chamberings, conversions}

pub examples_hold : All benches × (All replies × (All choices × (All writings × (All sizings × (All loadings × (All chamberings × All conversions))))))
unfolding feasible_sizes dealt numbered sum counts fits part_sizes sizes_in some_fits support_in_by chamber_header chamber_record sizes step_in bit union intersection difference contains insert remove is_subset size units_below has_unit_from unless following chain_of is_in link_causes step_of next_of byte_at u16_at u32_at u64_at same steps_causes read_causes campaign_of select below is_feasible prefixed plans_of least_of fewest plans_within joined joined_all can_be_on can_be_off next_required next_forbidden required_first ranks_by first_in taken support_set support_from find_support_by switches total steps_refusals steps_reply steps_written warm_steps fewest_on support_on plan_refusals planned warm_plan on_words off_words charted warm_chart verdict_refusals accepts judged warm_verdict write_refusals wrote warm_write bytes_of header_bytes record_bytes link_in records_after sheet_of decimal_in decimal refused_line sizes_line sizes_lines sizes_listed sizes_listing ones ones_in benches replies choices writings sizings loadings chamberings conversions header_in record_in records_in remade in_edition numbers_from convert_refusals warm_convert
examples_hold = (
  (refl, (refl, (refl, (refl, (refl, (refl, (refl, (refl, (refl, (refl, (refl, tt))))))))))),
  (
    (refl, (refl, (refl, (refl, (refl, (refl, (refl, (refl, (refl, (refl, (refl, tt))))))))))),
    (
      (refl, (refl, (refl, (refl, (refl, (refl, (refl, (refl, (refl, (refl, (refl, (refl, tt)))))))))))),
      (
        (refl, (refl, (refl, (refl, (refl, (refl, (refl, (refl, tt)))))))),
        ((refl, (refl, (refl, (refl, (refl, (refl, tt)))))), ((refl, (refl, (refl, (refl, tt)))), ((refl, (refl, (refl, (refl, (refl, (refl, (refl, (refl, (refl, (refl, (refl, (refl, (refl, (refl, (refl, tt))))))))))))))), (refl, (refl, (refl, (refl, (refl, (refl, (refl, (refl, (refl, (refl, (refl, (refl, (refl, (refl, (refl, (refl, tt))))))))))))))))))),
      ),
    ),
  ),
)
