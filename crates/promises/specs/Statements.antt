-- How the demands and requests are stated; the page proofs/Demands.antt names the files with the theorems.
use Rattle.std.specs.Prelude.{ℕ, ◌≤◌, ◌<◌, ◌≡◌, Bool, ◌↔◌, ◌⊎◌, List, [], ◌∷◌, map, length, get_or, take}
use Rattle.units.specs.Sets.{bit, size}
use Rattle.format.specs.Answer.{Cause, First}
use Rattle.format.specs.Editions.{narrowed}
use Rattle.format.specs.Format.{is_first, units_of, records_of, bound_of, start_of, sizes, sizes_list, chambers_in, step_of, next_of}
use Rattle.format.specs.Reading.{records_on, steps_of, read_causes}
use Rattle.chambers.specs.Chambers.{Chamber, ChamberLimits, Fits, sizes_in, support_in_by}
use Rattle.chambers.specs.Parts.{without_chambers}
use Rattle.plans.specs.declared.Limits.{Limits}
use Rattle.plans.specs.Plans.{allows, fewest, can_be_on, can_be_off}
use Rattle.plans.specs.Support.{find_support}
use Rattle.plans.specs.Switch.{FeasiblePlan, sizes_of, total, later_total}
use Rattle.promises.specs.declared.Reply.{Reply}
use Rattle.promises.specs.Common.{limits_on, FeasibleOn, written, refused_reply, full_reply}
use Rattle.promises.specs.Plan.{fewest_on, support_on, warm_plan}
use Rattle.promises.specs.Chart.{on_words, off_words, warm_chart}
use Rattle.promises.specs.Verdict.{warm_verdict}
use Rattle.promises.specs.Listing.{listing, sizes_listing}

-- An entry on one input answers exactly: `result` is its reply with all lent memory afterwards. If the first cause of
-- the list that holds has number n and place p, then n is one of the entry's numbers and the result is `refused n p`;
-- if none holds, the result is `given`. One of the two is so.
pub record Exact {R : Type 0} (causes : List Cause) (Number : ℕ → Type 0) (result : R) (refused : ℕ → ℕ → R) (given : R) : Type 0 where
  pub decided : ((n : ℕ) × ((p : ℕ) × First causes n p)) ⊎ ((n p : ℕ) → First causes n p → ⊥)
  pub numbered : (n p : ℕ) → First causes n p → Number n
  pub refusals : (n p : ℕ) → First causes n p → result ≡ refused n p
  pub replies : ((n p : ℕ) → First causes n p → ⊥) → result ≡ given

-- no cause of the refusals 1 to 7, 13 and 14 holds: the sheet passes the checks
abbrev pub Passes : List ℕ → Type 0
Passes s = (n p : ℕ) → First (read_causes s) n p → ⊥

-- a plan meets the sheet: it is feasible, and its switches, counted from the start set, are within the bound
abbrev pub Meets : List ℕ → List ℕ → Type 0
Meets s plan = FeasibleOn s plan × (total (start_of s) plan ≤ bound_of s)

-- Demand 2 on what `warm_plan` replied and left in its output: the words in the first places are the plan that
-- FindSupport gives, and the verdict accepts them, with the total that was replied.
pub record HandedOut (s : List ℕ) (reply : Reply) (out : List ℕ) : Type 0 where
  pub support : take (length (steps_of s)) out ≡ support_on s
  pub accepted : warm_verdict s (take (length (steps_of s)) out) ≡ full_reply reply.total 1

-- `few` and `many` are the least and the greatest size of a feasible set of a step: some has each, and none has fewer
-- units or more
pub record LeastAndGreatest (cs : List Chamber) (x : ChamberLimits) (few many : ℕ) : Type 0 where
  pub least : (set : ℕ) × (Fits cs x set × (size set ≡ few))
  pub greatest : (set : ℕ) × (Fits cs x set × (size set ≡ many))
  pub all : (set : ℕ) → Fits cs x set → (few ≤ size set) × (size set ≤ many)

-- some plan that meets the sheet has unit u on in step i (v = 1), or off (v = 0); steps count from 0 here
abbrev pub SomePlanHas : List ℕ → ℕ → ℕ → ℕ → Type 0
SomePlanHas s i u v = (plan : List ℕ) × (Meets s plan × (bit (get_or plan i 0) u ≡ v))

-- FindSupport's plans of all chambers, put together, with an order for the ties of each step; `support_on` is that
-- with the house rule at every step
abbrev pub support_by : (ℕ → ℕ → ℕ → Bool) → List ℕ → List ℕ
support_by ties s = support_in_by ties (chambers_in s) (start_of s) (limits_on s)

-- Demand 3 on one sheet and lent outputs, where `best` is the total of FindSupport's plan.
pub record FewestAndExact (s plan on off : List ℕ) (best : ℕ) : Type 0 where
  -- the plan that is handed out meets all set and number limits, and every plan that meets them has at least `best`
  -- switches
  pub feasible : FeasibleOn s (support_on s)
  pub fewest : (other : List ℕ) → FeasibleOn s other → best ≤ total (start_of s) other
  -- plan and chart refuse the sheet for its bound if that number is above it, and the place is that number
  pub plan_over : bound_of s < best → warm_plan s plan ≡ (refused_reply 9 best, plan)
  pub chart_over : bound_of s < best → warm_chart s on off ≡ (refused_reply 9 best, (on, off))
  -- else it is the total of both, and the plan written out is FindSupport's
  pub plan_within : best ≤ bound_of s → warm_plan s plan ≡ (full_reply best 0, written (support_on s) plan)
  pub chart_within : best ≤ bound_of s → warm_chart s on off ≡ (full_reply best 0, (written (on_words s) on, written (off_words s) off))
  -- the chart has a word for each step in which it shows a unit of the sheet as able to be on, or off, exactly if some
  -- plan that meets the sheet has it so there; and no other unit
  pub on_length : length (on_words s) ≡ length (steps_of s)
  pub off_length : length (off_words s) ≡ length (steps_of s)
  pub on_cells : (i u : ℕ) → i < length (steps_of s) → u < units_of s → (bit (get_or (on_words s) i 0) u ≡ 1) ↔ SomePlanHas s i u 1
  pub off_cells : (i u : ℕ) → i < length (steps_of s) → u < units_of s → (bit (get_or (off_words s) i 0) u ≡ 1) ↔ SomePlanHas s i u 0
  pub no_others : (i u : ℕ) → i < length (steps_of s) → units_of s ≤ u → (bit (get_or (on_words s) i 0) u ≡ 0) × (bit (get_or (off_words s) i 0) u ≡ 0)

-- The count that leaves out the loading of the first step, on a sheet s, on t, which is s with all d units in its
-- start set, and on lent outputs.
pub record FewestLater (s t plan on off : List ℕ) (best : ℕ) : Type 0 where
  -- `best` is the least that is counted so: some feasible plan of s has so many switches from its second step on, and
  -- no feasible plan of s has fewer; without a step it is 0
  pub some : (p : List ℕ) × (FeasibleOn s p × (later_total p ≡ best))
  pub fewest : (other : List ℕ) → FeasibleOn s other → best ≤ later_total other
  pub no_step : steps_of s ≡ [] → best ≡ 0
  -- plan and chart of t report it: as the place of refusal 9 if it is above the bound, and else as their total
  pub plan_over : bound_of s < best → (warm_plan t plan).0 ≡ refused_reply 9 best
  pub chart_over : bound_of s < best → (warm_chart t on off).0 ≡ refused_reply 9 best
  pub plan_within : best ≤ bound_of s → (warm_plan t plan).0 ≡ full_reply best 0
  pub chart_within : best ≤ bound_of s → (warm_chart t on off).0 ≡ full_reply best 0

-- ---- edition 1

-- the steps of a sheet without chambers: with the two numbers of the first chamber
abbrev pub one_limits : List ℕ → List Limits
one_limits s = map without_chambers (limits_on s)

-- A sheet of edition 1 is the case of one chamber: all of its units are in the first, and what is said of its feasible
-- plans, of the fewest switches, of the plan that is handed out, of the chart and of sizes is said without chambers,
-- by the definitions of `plans`.
pub record OneChamber (s : List ℕ) : Type 0 where
  pub chambers : sizes_list (sizes s) ≡ units_of s ∷ 0 ∷ 0 ∷ 0 ∷ []
  pub feasible : (plan : List ℕ) → FeasibleOn s plan ↔ FeasiblePlan (one_limits s) plan
  pub fewest : fewest_on s ≡ fewest allows (units_of s) (start_of s) (one_limits s)
  pub support : support_on s ≡ find_support (start_of s) (one_limits s)
  pub on : on_words s ≡ can_be_on allows (units_of s) (bound_of s) (start_of s) (one_limits s)
  pub off : off_words s ≡ can_be_off allows (units_of s) (bound_of s) (start_of s) (one_limits s)
  pub sizes : map (sizes_in (chambers_in s)) (limits_on s) ≡ map sizes_of (one_limits s)

-- ---- between editions

-- What t, which a sheet s was converted to, has in common with s.
pub record Converted (first : Bool) (s t : List ℕ) : Type 0 where
  -- it passes the checks, and is of the edition that was wanted
  pub passes : Passes t
  pub edition : is_first t ≡ first
  -- the units, the bound, the start set and the chambers are the same
  pub units : units_of t ≡ units_of s
  pub bound : bound_of t ≡ bound_of s
  pub start : start_of t ≡ start_of s
  pub chambers : sizes_list (sizes t) ≡ sizes_list (sizes s)
  -- there are as many records; each of them, unused ones too, names the same next one (as the header, record 0, names
  -- the first), and holds the same step but for how its numbers are written: its sets, its tag and the numbers of the
  -- first chamber
  pub records : records_of t ≡ records_of s
  pub links : (j : ℕ) → j ≤ records_of s → next_of t j ≡ next_of s j
  pub held : (j : ℕ) → 0 < j → j ≤ records_of s → narrowed (step_of t j) ≡ narrowed (step_of s j)
  -- so the chain and the steps are, and the same plans are feasible
  pub chain : records_on t ≡ records_on s
  pub steps : map narrowed (steps_of t) ≡ map narrowed (steps_of s)
  pub feasible : (plan : List ℕ) → FeasibleOn t plan ↔ FeasibleOn s plan
  -- and plan, chart, verdict and listings are the same, refusal 9 included
  pub plan : (out : List ℕ) → warm_plan t out ≡ warm_plan s out
  pub chart : (on off : List ℕ) → warm_chart t on off ≡ warm_chart s on off
  pub verdict : (plan : List ℕ) → warm_verdict t plan ≡ warm_verdict s plan
  pub plan_text : listing t ≡ listing s
  pub sizes_text : sizes_listing t ≡ sizes_listing s
