-- `campaign::plan_read` meets its contract. The loop's invariant is `Made`: what was joined and counted so far, with
-- the chambers still to come, is all. The steps of the chamber that it came to last stay.
use Prim.Native.Nat.{◌-◌}
use Rattle.campaign.proofs.Decoded.{units_dealt, few_dealt, own_chamber}
use Rattle.campaign.proofs.Planned.{Made, made_begun, made_on, made_fits, made_done}
use mathlib.Core.Path.{◌≡◌, ap, ◌∙◌, subst}
use native.Mathlib.Omega.{arith}
use Rattle.campaign.proofs.plan_read.Goals as goal

pub deal-chambers-requires : goal.deal-chambers-requires
deal-chambers-requires c = few_dealt c.args.sheet.bytes.now c.args.sheet.passed

pub loop-c-init : goal.loop-c-init
loop-c-init c =
    record {
      made = made_begun c.args.sheet.bytes.now c.args.sheet.passed c.args.out.now c.requires.room_in_out c.clear.ensures;
      decoded_in = λ few. absurd (omega arith);
    }

pub join_chamber-total-requires-clause-chamber_of_sheet : goal.join_chamber-total-requires-clause-chamber_of_sheet
join_chamber-total-requires-clause-chamber_of_sheet c =
    let dealt = c.deal-chambers.ensures ∙ units_dealt c.args.sheet.bytes.now c.args.sheet.passed in
    own_chamber c.args.sheet.bytes.now (c.loop-c.c - 1) dealt c.at.ensures

pub overflow_add-total : goal.overflow_add-total
overflow_add-total c =
    let joined = rw (ap (λ d. d.number) c.at.ensures) at c.join_chamber-total.ensures in
    record {
      fits = omega (arith, made_fits c.args.sheet.bytes.now c.args.sheet.passed c.args.out.now c.requires.room_in_out c.loop-c.invariant.made c.loop-c-test.true (omega arith) joined.value);
    }

pub loop-c-preserved : goal.loop-c-preserved
loop-c-preserved c =
    let joined = rw (ap (λ d. d.number) c.at.ensures) at c.join_chamber-total.ensures in
    record {
      made = made_on c.args.sheet.bytes.now c.args.sheet.passed c.args.out.now c.requires.room_in_out c.loop-c.invariant.made c.loop-c-test.true (omega arith) joined.out_after joined.value;
      decoded_in = λ few. joined.decoded_in;
    }

pub returns-clause-out_after : goal.returns-clause-out_after
returns-clause-out_after c =
    let last : c.loop-c.c ≡ 0 = omega (arith, c.loop-c-test.false) in
    (made_done c.args.sheet.bytes.now c.args.sheet.passed c.args.out.now c.requires.room_in_out (subst (Made c.args.sheet.bytes.now c.args.sheet.summary.steps c.args.out.now c.loop-c.out c.loop-c.total) last c.loop-c.invariant.made)).0

pub returns-clause-value : goal.returns-clause-value
returns-clause-value c =
    let last : c.loop-c.c ≡ 0 = omega (arith, c.loop-c-test.false) in
    (made_done c.args.sheet.bytes.now c.args.sheet.passed c.args.out.now c.requires.room_in_out (subst (Made c.args.sheet.bytes.now c.args.sheet.summary.steps c.args.out.now c.loop-c.out c.loop-c.total) last c.loop-c.invariant.made)).1
