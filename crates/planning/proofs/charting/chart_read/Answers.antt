-- `planning::charting::chart_read` meets its contract: the total that is compared with the bound is the fewest, and
-- what is drawn is the chart.
use Rattle.std.proofs.Common.{ap, ◌∙◌, ◌≤◌, true, false, length, arith}
use Rattle.campaign.proofs.Decoded.{plan_taken}
use Rattle.format.specs.Answer.{Given}
use Rattle.format.specs.Format.{start_of}
use Rattle.plans.proofs.Laid.{sets_first}
use Rattle.promises.proofs.Charts.{words_length}
use Rattle.promises.proofs.Plans.{over_bound, in_bound}
use Rattle.promises.proofs.Read.{many_steps, bound_is, was_opened}
use Rattle.promises.specs.Chart.{on_words, off_words, charted}
use Rattle.promises.specs.Common.{refused_reply, full_reply}
use Rattle.promises.specs.Plan.{support_on}
use Rattle.planning.proofs.charting.chart_read.Goals as goal

pub plan_read-total-requires-clause-room_in_steps : goal.plan_read-total-requires-clause-room_in_steps
plan_read-total-requires-clause-room_in_steps c = omega (arith, (was_opened c.args.sheet.bytes.now c.args.sheet.passed).few)

pub plan_read-total-requires-clause-room_in_out : goal.plan_read-total-requires-clause-room_in_out
plan_read-total-requires-clause-room_in_out c = omega (arith, (was_opened c.args.sheet.bytes.now c.args.sheet.passed).few)

pub invariant_of-planned-clause-room : goal.invariant_of-planned-clause-room
invariant_of-planned-clause-room c =
    let few = (was_opened c.args.sheet.bytes.now c.args.sheet.passed).few in
    let room : c.args.sheet.summary.steps ≤ length c.plan_read-total.new.out = omega (arith, few, c.plan_read-total.auto) in
    room

pub invariant_of-planned-clause-whole : goal.invariant_of-planned-clause-whole
invariant_of-planned-clause-whole c =
    plan_taken c.args.sheet.bytes.now c.args.sheet.passed _ c.plan_read-total.ensures.out_after
    (omega (arith, (was_opened c.args.sheet.bytes.now c.args.sheet.passed).few))

pub returns-then-bound-total : goal.returns-then-bound-total
unfolding charted
returns-then-bound-total c =
    let s = c.args.sheet.bytes.now in
    let e = c.args.sheet.passed in
    let counted = c.plan_read-total.ensures.value in
    ap (λ r. (r, (c.args.on.now, c.args.off.now))) (ap (refused_reply 9) counted)
    ∙ ap (charted (start_of s) (on_words s) (off_words s) c.args.on.now c.args.off.now)
    (over_bound s e (omega (arith, counted, bound_is s e, c.if-bound-total.true)))

pub returns : goal.returns
unfolding charted on_words off_words
returns c =
    let s = c.args.sheet.bytes.now in
    let e = c.args.sheet.passed in
    let on = c.args.on.now in
    let off = c.args.off.now in
    let made = c.plan_read-total.ensures in
    let within = c.if-bound-total.false in
    let drawn = c.draw_all.ensures in
    (λ i. (full_reply (made.value i) 0, ((drawn.on_after ∙ sets_first (on_words s) on (omega (arith, words_length s true, many_steps s e, c.requires.room_in_on))) i, (drawn.off_after ∙ sets_first (off_words s) off (omega (arith, words_length s false, many_steps s e, c.requires.room_in_off))) i)))
    ∙ ap (charted (start_of s) (on_words s) (off_words s) on off) (in_bound s e (omega (arith, made.value, bound_is s e, within)) (Given (support_on s)))
