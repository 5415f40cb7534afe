-- `listing::text::Text::put_listing` meets its contract: the total that is compared with the bound is the fewest.
use mathlib.Core.Path.{ap, ap₂, ◌∙◌}
use mathlib.Core.List.{List}
use Prim.Native.Nat.{ℕ}
use native.Mathlib.Omega.{arith}
use Rattle.promises.proofs.Read.{was_opened, bound_is}
use Rattle.campaign.proofs.Decoded.{plan_taken}
use Rattle.promises.specs.Listing.{refused_line, plan_lines}
use Rattle.promises.proofs.Listings.{listing_refused, listing_planned}
use Rattle.listing.proofs.Texts.{puts_as}
use Rattle.listing.proofs.text.Text.put_listing.Goals as goal

pub plan_read-total-requires : goal.plan_read-total-requires
plan_read-total-requires c =
    let few = (was_opened c.args.sheet.bytes.now c.args.sheet.passed).few in
    record { room_in_steps = omega (arith, few); room_in_out = omega (arith, few) }

pub returns-then-sheet-total : goal.returns-then-sheet-total
returns-then-sheet-total c =
    let s = c.args.sheet.bytes.now in
    let e = c.args.sheet.passed in
    let counted = c.plan_read-total.ensures.value in
    puts_as (ap (refused_line 9) counted ∙ listing_refused s e (omega (arith, counted, bound_is s e, c.if-sheet-total.true))) c.put_refusal.ensures

pub put_plan-requires : goal.put_plan-requires
put_plan-requires c =
    let few = (was_opened c.args.sheet.bytes.now c.args.sheet.passed).few in
    record { few = few; all_there = omega (arith, few, c.plan_read-total.auto); room = c.requires }

pub returns-else-sheet-total : goal.returns-else-sheet-total
returns-else-sheet-total c =
    let s = c.args.sheet.bytes.now in
    let e = c.args.sheet.passed in
    let x = c.args.sheet.summary in
    let made = c.plan_read-total.ensures in
    puts_as
    (ap₂ (λ (l : List ℕ) (m : ℕ). plan_lines x.header.units x.steps x.header.bound x.header.start l m)
    (plan_taken s e _ made.out_after (omega (arith, (was_opened s e).few))) made.value
    ∙ listing_planned s e (omega (arith, made.value, bound_is s e, c.if-sheet-total.false)))
    c.put_plan.ensures
