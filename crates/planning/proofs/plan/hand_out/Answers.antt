-- `planning::plan::hand_out` meets its contract: the total that is compared with the bound is the fewest, and the plan
-- is copied into the output.
use Prim.Native.Nat.{ℕ}
use Rattle.campaign.proofs.Decoded.{plan_written}
use Rattle.format.specs.Answer.{Given}
use Rattle.format.specs.Format.{start_of}
use Rattle.promises.proofs.Plans.{over_bound, in_bound}
use Rattle.promises.proofs.Read.{bound_is, was_opened}
use Rattle.promises.specs.Common.{refused_reply, full_reply}
use Rattle.promises.specs.Plan.{support_on, planned}
use mathlib.Core.Path.{ap, ap₂, ◌∙◌}
use native.Mathlib.Omega.{arith}
use Rattle.planning.proofs.plan.hand_out.Goals as goal

pub plan_read-total-requires : goal.plan_read-total-requires
plan_read-total-requires c =
    let few = (was_opened c.args.sheet.bytes.now c.args.sheet.passed).few in
    record { room_in_steps = omega (arith, few); room_in_out = omega (arith, few) }

pub returns-then-bound-total : goal.returns-then-bound-total
unfolding planned
returns-then-bound-total c =
    let s = c.args.sheet.bytes.now in
    let e = c.args.sheet.passed in
    let out = c.args.plan.now in
    let counted = c.plan_read-total.ensures.value in
    ap (λ r. (r, out)) (ap (refused_reply 9) counted)
    ∙ ap (planned (start_of s) out) (over_bound s e (omega (arith, counted, bound_is s e, c.if-bound-total.true)))

pub copy_words-requires : goal.copy_words-requires
copy_words-requires c = record {
  room_in_from = omega (arith, (was_opened c.args.sheet.bytes.now c.args.sheet.passed).few, c.plan_read-total.auto);
  room_in_to = omega (arith, c.requires);
}

pub returns : goal.returns
unfolding planned
returns c =
    let s = c.args.sheet.bytes.now in
    let e = c.args.sheet.passed in
    let out = c.args.plan.now in
    ap₂ (λ (t : ℕ) l. (full_reply t 0, l)) c.plan_read-total.ensures.value (c.copy_words.ensures ∙ plan_written s e _ c.plan_read-total.ensures.out_after (omega (arith, (was_opened s e).few)) out c.requires)
    ∙ ap (planned (start_of s) out) (in_bound s e (omega (arith, c.plan_read-total.ensures.value, bound_is s e, c.if-bound-total.false)) (Given (support_on s)))
