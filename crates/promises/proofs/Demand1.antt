-- Demand 1. For any input and any lent memory, an entry gives a full reply or one refusal of a fixed list with its
-- place. A refusal is given exactly when its cause holds and no earlier one of the table does (docs/FORMAT.md), and
-- it leaves the lent memory as it came (the listings, which are texts, put a line that says it). The table is the
-- list of causes that stands in the statement: `steps_refusals`, with `read_causes` in it, or `write_refusals` are one
-- line for each cause, in the order of the checks.
--
-- There is a theorem for each entry (one for the two that convert), stated as `Exact` in specs/Statements.antt.
-- Take from it the list of causes, which numbers it can have (`StepsNumber` and the like), and the two results,
-- after a refusal and with a full reply. Last come what row 7 of the table tests, in one sentence and in four tests,
-- and that the walk along the chain ends.
use mathlib.Core.Path.{◌≡◌, refl}
use mathlib.Core.Logic.{◌↔◌, ◌⊎◌, inl, inr}
use mathlib.Core.Bool.{Bool, true}
use mathlib.Core.List.{List, [], ◌++◌, Memᴰ}
use Prim.Native.Nat.{ℕ, suc, ◌+◌, ◌≤◌, min}
use native.Mathlib.Omega.{arith}
use lib.ListN.{length}
use Rattle.units.specs.Limits.{Feasible}
use Rattle.units.specs.Sets.{Subset, size}
use Rattle.units.proofs.Limits.{four_tests}
use Rattle.plans.specs.Switch.{total}
use Rattle.chambers.specs.Chambers.{Chamber, chambers_of, Fits, some_fits, HasRoom}
use Rattle.chambers.proofs.Dealt.{dealt_apart}
use Rattle.chambers.proofs.Sizes.{some_fits_lem, four_tests_in}
use Rattle.format.specs.declared.ChamberStep.{ChamberStep}
use Rattle.format.specs.declared.Step.{Step}
use Rattle.format.specs.Answer.{Refused, Given, unless}
use Rattle.format.specs.Chain.{following, chain_of, link_causes}
use Rattle.format.specs.Editions.{in_edition}
use Rattle.format.specs.Format.{limits_of, units_of, bound_of, start_of, chambers_in}
use Rattle.format.specs.Reading.{steps_of, read_causes, ReaderNumber, campaign_of}
use Rattle.format.specs.Writing.{sheet_of}
use Rattle.format.proofs.Answers.{numbered_append, Numbered}
use Rattle.format.proofs.Chains.{chain_is_long_enough}
use Rattle.format.proofs.Readings.{numbered_read}
use Rattle.promises.specs.Chart.{on_words, off_words, charted, warm_chart}
use Rattle.promises.specs.Common.{limits_on, places_causes, written, refused_reply, full_reply, refused_written, full_written, wrote}
use Rattle.promises.specs.Convert.{convert_refusals, warm_convert}
use Rattle.promises.specs.Plan.{support_on, bound_causes, plan_refusals, planned, warm_plan}
use Rattle.promises.specs.Listing.{refused_line, plan_lines, listing_refusals, listed, listing, printed, list_plan, sizes_lines, sizes_listed, sizes_listing, list_sizes}
use Rattle.promises.specs.Statements.{Exact}
use Rattle.promises.specs.Steps.{steps_refusals, steps_reply, steps_written, warm_steps}
use Rattle.promises.specs.Verdict.{words_causes, verdict_refusals, accepts, judged, warm_verdict}
use Rattle.promises.specs.Write.{write_refusals, warm_write}
use Rattle.promises.proofs.Converts.{convert_numbers}
use Rattle.promises.proofs.Exactly.{exact}
use Rattle.promises.proofs.Writes.{write_numbers}

-- refusals 1 to 8, 13 and 14, and none other
abbrev pub StepsNumber : ℕ → Type 0
StepsNumber n = ReaderNumber n ⊎ (n ≡ 8)

pub demand_1_steps : (s : List ℕ) (out : List ChamberStep)
    → Exact (steps_refusals s (length out)) StepsNumber (warm_steps s out) (λ n p. (steps_reply (Refused n p), out))
    (steps_reply (Given (campaign_of s)), written (steps_of s) out)
unfolding warm_steps steps_written campaign_of steps_refusals Numbered
demand_1_steps s out =
    exact (steps_refusals s (length out)) StepsNumber
    (numbered_append StepsNumber (read_causes s) (places_causes s (length out)) (numbered_read StepsNumber (λ n h. inl h) s)
    (inr refl, tt)) (campaign_of s) (λ a. (steps_reply a, steps_written a out))

-- refusals 1 to 9, 13 and 14
abbrev pub PlanNumber : ℕ → Type 0
PlanNumber n = ReaderNumber n ⊎ ((8 ≤ n) × (n ≤ 9))

pub not_zero_lem : (n : ℕ) → PlanNumber n → n ≡ 0 → ⊥
not_zero_lem n (inl (inl (l, h))) e = omega arith
not_zero_lem n (inl (inr (l, h))) e = omega arith
not_zero_lem n (inr (l, h)) e = omega arith

plan_numbers : (s : List ℕ) (places : ℕ) → Numbered PlanNumber (plan_refusals s places)
unfolding plan_refusals Numbered
plan_numbers s places =
    numbered_append PlanNumber (read_causes s ++ places_causes s places) (bound_causes s)
    (numbered_append PlanNumber (read_causes s) (places_causes s places) (numbered_read PlanNumber (λ n h. inl h) s) (inr (omega arith, omega arith), tt))
    (inr (omega arith, omega arith), tt)

pub demand_1_plan : (s out : List ℕ)
    → Exact (plan_refusals s (length out)) PlanNumber (warm_plan s out) (λ n p. (refused_reply n p, out))
    (full_reply (total (start_of s) (support_on s)) 0, written (support_on s) out)
unfolding warm_plan planned
demand_1_plan s out = exact (plan_refusals s (length out)) PlanNumber (plan_numbers s (length out)) (support_on s) (planned (start_of s) out)

-- the chart has the plan's refusals, for the shorter of its outputs
pub demand_1_chart : (s on off : List ℕ)
    → Exact (plan_refusals s (min (length on) (length off))) PlanNumber (warm_chart s on off) (λ n p. (refused_reply n p, (on, off)))
    (full_reply (total (start_of s) (support_on s)) 0, (written (on_words s) on, written (off_words s) off))
unfolding warm_chart charted
demand_1_chart s on off =
    let places = min (length on) (length off) in
    exact (plan_refusals s places) PlanNumber (plan_numbers s places) (support_on s) (charted (start_of s) (on_words s) (off_words s) on off)

-- refusals 1 to 7, 10, 13 and 14
abbrev pub VerdictNumber : ℕ → Type 0
VerdictNumber n = ReaderNumber n ⊎ (n ≡ 10)

pub demand_1_verdict : (s plan : List ℕ)
    → Exact (verdict_refusals s (length plan)) VerdictNumber (warm_verdict s plan) refused_reply (full_reply (total (start_of s) plan) (accepts s plan))
unfolding warm_verdict judged verdict_refusals Numbered
demand_1_verdict s plan =
    exact (verdict_refusals s (length plan)) VerdictNumber
    (numbered_append VerdictNumber (read_causes s) (words_causes s (length plan)) (numbered_read VerdictNumber (λ n h. inl h) s) (inr refl, tt))
    (full_reply (total (start_of s) plan) (accepts s plan)) judged

-- refusals 1 to 7, 9, 13 and 14
abbrev pub ListingNumber : ℕ → Type 0
ListingNumber n = ReaderNumber n ⊎ (n ≡ 9)

-- the listing is the line of that refusal, or the lines of the plan that FindSupport gives
pub demand_1_listing : (s out : List ℕ)
    → Exact (listing_refusals s) ListingNumber (list_plan s out) (λ n p. printed (refused_line n p) out)
    (printed (plan_lines (units_of s) (length (steps_of s)) (bound_of s) (start_of s) (support_on s) (total (start_of s) (support_on s))) out)
unfolding listing listed listing_refusals Numbered
demand_1_listing s out =
    exact (listing_refusals s) ListingNumber
    (numbered_append ListingNumber (read_causes s) (bound_causes s) (numbered_read ListingNumber (λ n h. inl h) s) (inr refl, tt)) (support_on s)
    (λ a. printed (listed s a) out)

-- the refusals of the reader: the sizes are listed of each sheet that passes the checks, whatever its bound
pub demand_1_sizes : (s out : List ℕ)
    → Exact (read_causes s) ReaderNumber (list_sizes s out) (λ n p. printed (refused_line n p) out) (printed (sizes_lines (chambers_in s) 1 (limits_on s)) out)
unfolding sizes_listing sizes_listed
demand_1_sizes s out = exact (read_causes s) ReaderNumber (numbered_read ReaderNumber (λ n h. h) s) (limits_on s) (λ a. printed (sizes_listed (chambers_in s) a) out)

-- refusals 11 and 12
abbrev pub WriteNumber : ℕ → Type 0
WriteNumber n = (11 ≤ n) × (n ≤ 12)

pub demand_1_write : (d bound start : ℕ) (xs : List Step) (out : List ℕ)
    → Exact (write_refusals d start (length xs) (length out)) WriteNumber (warm_write d bound start xs out) (λ n p. (refused_written n p, out))
    (full_written (length (sheet_of d bound start xs)), written (sheet_of d bound start xs) out)
unfolding warm_write wrote
demand_1_write d bound start xs out =
    exact (write_refusals d start (length xs) (length out)) WriteNumber
    (write_numbers WriteNumber (omega arith, omega arith) (omega arith, omega arith) d start (length xs) (length out)) (sheet_of d bound start xs) (wrote out)

-- refusals 1 to 8, 13 and 14, and 15 where edition 1 is wanted
abbrev pub ConvertNumber : Bool → ℕ → Type 0
ConvertNumber first n = StepsNumber n ⊎ ((first ≡ true) × (n ≡ 15))

pub demand_1_convert : (first : Bool) (s out : List ℕ)
    → Exact (convert_refusals first s (length out)) (ConvertNumber first) (warm_convert first s out) (λ n p. (refused_written n p, out))
    (full_written (length (in_edition first s)), written (in_edition first s) out)
unfolding warm_convert wrote
demand_1_convert first s out =
    exact (convert_refusals first s (length out)) (ConvertNumber first)
    (convert_numbers (ConvertNumber first) first (λ n h. inl (inl h)) (inl (inr refl)) (λ down. inr (down, refl)) s (length out)) (in_edition first s) (wrote out)

-- What row 7 of the table tests, whatever the numbers of units of the chambers: it holds of a step exactly if no set
-- is feasible there.
pub a_feasible_set : (sizes : List ℕ) (x : ChamberStep) → some_fits (chambers_of sizes) (limits_of x) ≡ true ↔ ((set : ℕ) × Fits (chambers_of sizes) (limits_of x) set)
a_feasible_set sizes x = some_fits_lem (chambers_of sizes) (limits_of x) (dealt_apart 0 0 sizes)

-- A step of one chamber has a feasible set exactly if the lower set lies within the upper one, the least number is at
-- most the greatest, the size of the lower set at most the greatest number, and the size of the upper set at least the
-- least.
pub the_four_tests : (lower upper least greatest : ℕ)
    → ((set : ℕ) × Feasible lower upper least greatest set)
    ↔ (Subset lower upper × ((least ≤ greatest) × ((size lower ≤ greatest) × (least ≤ size upper))))
the_four_tests = four_tests

-- A step of several has one exactly if the lower set lies within the upper one, and the other three tests hold in each
-- chamber, of its two numbers and of how many of its units the two sets have.
pub the_four_tests_in_chambers : (sizes : List ℕ) (x : ChamberStep)
    → ((set : ℕ) × Fits (chambers_of sizes) (limits_of x) set)
    ↔ (Subset x.lower x.upper × ((c : Chamber) → Memᴰ c (chambers_of sizes) → HasRoom c (limits_of x)))
the_four_tests_in_chambers sizes x = four_tests_in (chambers_of sizes) (limits_of x) (dealt_apart 0 0 sizes)

-- the walk along the chain never runs out of links to look at: looking at more gives the same refusal or the same
-- chain
pub the_walk_ends : (s : List ℕ) (r more : ℕ)
    → unless (link_causes r [] 0 (following (suc r + more) s 0)) (Given (following (suc r + more) s 0)) ≡ unless (link_causes r [] 0 (chain_of s r)) (Given (chain_of s r))
the_walk_ends s r more = chain_is_long_enough s r more
