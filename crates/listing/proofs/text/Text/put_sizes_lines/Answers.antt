-- `listing::text::Text::put_sizes_lines` meets its contract: `Sizing` has the laws of its loop.
use Rattle.std.proofs.Common.{◌≡◌, ◌+◌, ℕ, length, sym, ap, ap₂, subst, ◌∙◌, arith}
use Rattle.chambers.specs.Chambers.{numbered, sizes_in}
use Rattle.format.specs.Format.{units_of, chambers_in, limits_of}
use Rattle.format.specs.Reading.{steps_of}
use Rattle.promises.specs.Listing.{sizes_line}
use Rattle.promises.proofs.Listings.{sizes_read}
use Rattle.promises.proofs.Read.{was_opened, many_steps, bench, few_units}
use Rattle.campaign.proofs.Decoded.{units_dealt, few_dealt}
use Rattle.listing.proofs.Texts.{puts_length, puts_as}
use Rattle.listing.specs.Room.{TwoDigits}
use Rattle.listing.proofs.Sizing.{lines_of, all_short, sizing_begun, next_short, sizing_on, sizing_done}
use Rattle.listing.proofs.text.Text.put_sizes_lines.Goals.{After-into_iter-i-iterator, After-sizes_in}
use Rattle.listing.proofs.text.Text.put_sizes_lines.Goals as goal

pub deal-chambers-requires : goal.deal-chambers-requires
deal-chambers-requires c = few_dealt c.args.sheet.bytes.now c.args.sheet.passed

-- the steps that the loop goes over
over : (c : After-into_iter-i-iterator) → c.into_iter-i-iterator.result.iter ≡ steps_of c.args.sheet.bytes.now
over c = ap (λ it. it.iter) c.into_iter-i-iterator.ensures.into_iter_gives ∙ c.enumerate-i-items.ensures.source ∙ c.steps.ensures

pub loop-i-init : goal.loop-i-init
loop-i-init c =
    let s = c.args.sheet.bytes.now in
    let e = c.args.sheet.passed in
    let none = ap (λ it. it.count) c.into_iter-i-iterator.ensures.into_iter_gives ∙ c.enumerate-i-items.ensures.count in
    rw (none, over c)
    (sizing_begun (chambers_in s) c.args.sheet.summary.steps (steps_of s) c.args.self.now (omega (arith, c.requires)) (many_steps s e)
    (all_short (units_of s) (chambers_in s) _ (few_units s e) (bench s e)))

-- the sizes are those of the step, in the chambers of the sheet
sizes : (c : After-sizes_in) → c.sizes_in.result ≡ sizes_in (chambers_in c.args.sheet.bytes.now) (limits_of c.in-Some.step)
sizes c =
    let s = c.args.sheet.bytes.now in
    c.sizes_in.ensures ∙ ap (λ us. sizes_in (numbered 0 us) (limits_of c.in-Some.step)) (c.deal-chambers.ensures ∙ units_dealt s c.args.sheet.passed)

pub put_sizes_line-requires-clause-two_digits : goal.put_sizes_line-requires-clause-two_digits
put_sizes_line-requires-clause-two_digits c =
    subst TwoDigits (sym (sizes (goal.at.put_sizes_line-requires-clause-two_digits c).After-sizes_in)) (next_short c.loop-i.invariant c.in-Some.ensures.steps.0)

pub loop-i-preserved : goal.loop-i-preserved
loop-i-preserved c =
    let turn = c.in-Some.ensures.steps in
    let few = (was_opened c.args.sheet.bytes.now c.args.sheet.passed).few in
    sizing_on c.loop-i.invariant turn.0 few
    (puts_as (ap₂ sizes_line (ap (λ (i : ℕ). i + 1) turn.1) (sizes (goal.at.loop-i-preserved c).After-sizes_in)) c.put_sizes_line.ensures) turn.2

pub put_sizes_line-requires-clause-step_bound : goal.put_sizes_line-requires-clause-step_bound
put_sizes_line-requires-clause-step_bound c =
    let turn = c.in-Some.ensures.steps in
    let few = (was_opened c.args.sheet.bytes.now c.args.sheet.passed).few in
    omega (arith, turn.1, c.loop-i.invariant.many, ap length turn.0)

pub returns : goal.returns
returns c =
    let s = c.args.sheet.bytes.now in
    let e = c.args.sheet.passed in
    let all = over (goal.at.returns c).After-into_iter-i-iterator ∙ sym (was_opened s e).steps in
    puts_as (ap (lines_of (chambers_in s) 1) all ∙ sizes_read s e) (sizing_done c.loop-i.invariant c.in-None.ensures.steps.0.0)

pub put_sizes_line-requires-clause-room : goal.put_sizes_line-requires-clause-room
put_sizes_line-requires-clause-room c =
    let l = c.loop-i.invariant in
    omega (arith, c.requires, l.lines.room, l.lines.puts.ended, puts_length l.lines.puts, l.many, ap length c.in-Some.ensures.steps.0)
