-- `campaign::plan_read` meets its contract. The loop's invariant is `Made`: what was joined and counted so far, with
-- the chambers still to come, is all. The steps of the chamber that it came to last stay.
use Prim.Native.Nat.{◌<◌}
use Rattle.campaign.proofs.Planned.{Made}
use Rattle.campaign.specs.Benches.{chamber_on, DecodedIn}
use Rattle.format.specs.Format.{chamber_count}
use Rattle.campaign.proofs.plan_read.Given as goal

abbrev pub invariant-loop-c : goal.invariant-loop-c
invariant-loop-c l =
    record {
      made : Made l.fn.sheet.bytes.now l.fn.sheet.summary.steps l.fn.out l.out l.total l.c;
      decoded_in : l.c < chamber_count → DecodedIn l.fn.sheet.bytes.now l.fn.sheet.summary.steps (chamber_on l.fn.sheet.bytes.now l.c) l.steps;
    }
