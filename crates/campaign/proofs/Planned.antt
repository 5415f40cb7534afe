-- The loop that plans one chamber after the other, from the last to the first (`Made`): the plans of the chambers that
-- it has come to are joined and their totals added, and with those of the chambers before them they are the plan of
-- all.
use mathlib.Core.Path.{◌≡◌, refl, sym, ap, subst, ◌∙◌}
use mathlib.Core.List.Memᴰ
use mathlib.Core.List.{List, [], ◌++◌, map}
use Prim.Native.Nat.{ℕ, zero, suc, ◌+◌, ◌-◌, ◌*◌, ◌≤◌, ◌<◌}
use native.Mathlib.Nat.{mul-le-mul_left, zero-add}
use native.Mathlib.Omega.{arith}
use lib.ListN.{length, get_or, replicate, take, drop, take-append-drop}
use lib.Pow.{pow_pos}
use lib.Seq.{sets, length-take-le}
use Rattle.chambers.specs.Chambers.{dealt, numbered, support_in_by}
use Rattle.chambers.specs.Parts.{plan_of, total_of, sum_of}
use Rattle.chambers.proofs.Among.{numbered_at, numbered_long}
use Rattle.chambers.proofs.Bench.{bench_fewest, plan_fits_in}
use Rattle.chambers.proofs.Joining.{Joining, joining_begun, joining_on, joining_done, none_joined, all_up_to}
use Rattle.chambers.proofs.Whole.{support_long, plan_inside, total_few}
use Rattle.plans.specs.Plans.{joined, joined_all}
use Rattle.plans.specs.Switch.{total}
use Rattle.plans.proofs.Cells.{Long}
use Rattle.plans.proofs.Laid.{sets_first}
use Rattle.plans.proofs.Orders.{tie_ordered}
use Rattle.format.specs.declared.Summary.{Summary}
use Rattle.format.specs.Answer.{Given}
use Rattle.format.specs.Format.{chamber_count, units_of, start_of, chambers_in}
use Rattle.format.specs.Stages.{summary_read}
use Rattle.promises.specs.Common.{limits_on}
use Rattle.promises.specs.Plan.{support_on}
use Rattle.promises.proofs.Read.{was_opened, bench, few_units}
use Rattle.campaign.specs.Benches.{units_on, chamber_on}
use Rattle.campaign.proofs.Decoded.{four_dealt, many_limits, plan_long, part_long}

-- an output to which words without a unit are joined is as it was
pub none_added : (n : ℕ) (out : List ℕ) → n ≤ length out → out ≡ sets out 0 (joined (replicate n 0) (take n out))
none_added n out h =
    let first = length-take-le n out h in
    sym (ap (sets out 0) (none_joined (take n out) n first)
    ∙ sets_first (take n out) out (omega (arith, first))
    ∙ ap (λ (k : ℕ). take n out ++ drop k out) first
    ∙ take-append-drop n out)

module _ (s : List ℕ) where
  -- the plans of all chambers
  abbrev plans : List (List ℕ)
  plans = map (λ c. plan_of c (start_of s) (limits_on s)) (chambers_in s)

  plans_long : Long (length (limits_on s)) plans
  plans_long p m = let (c, k, e) = Memᴰ.of_map _ (chambers_in s) m in ap length (sym e) ∙ support_long _ c (start_of s) (limits_on s)

  -- the totals of the chambers up to number c are those before it and its own
  pub sum_up_to : (c : ℕ) → c < chamber_count
      → sum_of (take (suc c) (chambers_in s)) (start_of s) (limits_on s) ≡ sum_of (take c (chambers_in s)) (start_of s) (limits_on s) + total_of (chamber_on s c) (start_of s) (limits_on s)
  unfolding sum_of dealt numbered
  sum_up_to zero h = omega arith
  sum_up_to (suc zero) h = omega arith
  sum_up_to (suc (suc zero)) h = omega arith
  sum_up_to (suc (suc (suc zero))) h = omega arith
  sum_up_to (suc (suc (suc (suc c)))) h = absurd (omega arith)

module _ (s : List ℕ) {x : Summary} (e : summary_read s ≡ Given x) where
  -- all totals together are that of the plan
  sum_is : sum_of (chambers_in s) (start_of s) (limits_on s) ≡ total (start_of s) (support_on s)
  unfolding support_on
  sum_is = sym (bench_fewest (bench s e) (start_of s) (λ i. tie_ordered)).1.0

  -- and at most 64 for each of 256 steps
  sum_few : sum_of (chambers_in s) (start_of s) (limits_on s) ≤ 16384
  unfolding support_on
  sum_few =
      let b = bench s e in
      let inside = plan_inside (chambers_in s) (limits_on s) (support_on s) (plan_fits_in (units_of s) (chambers_in s) b.apart b.whole (limits_on s) (support_on s) b.sound (bench_fewest b (start_of s) (λ i. tie_ordered)).0) in
      let few = total_few (units_of s) (start_of s) (support_on s) _ (omega (arith, b.whole, pow_pos (units_of s))) inside in
      let small : length (support_on s) * units_of s ≤ length (support_on s) * 64 = mul-le-mul_left (length (support_on s)) (few_units s e) in
      omega (arith, sum_is, few, small, plan_long s e, (was_opened s e).few)

-- After the chambers from number c on: what the output holds, with the plans of the chambers before them, is the plan
-- of all, and so are the totals.
pub record Made (s : List ℕ) (n : ℕ) (before now : List ℕ) (many c : ℕ) : Type 0 where
  pub joining : Joining n (plans s) (take c (plans s)) before now
  pub counted : many + sum_of (take c (chambers_in s)) (start_of s) (limits_on s) ≡ sum_of (chambers_in s) (start_of s) (limits_on s)

module _ (s : List ℕ) {x : Summary} (e : summary_read s ≡ Given x) (before : List ℕ) (room : x.steps ≤ length before) where
  pub made_begun : {cleared : List ℕ} → cleared ≡ sets before 0 (replicate x.steps 0) → Made s x.steps before cleared 0 chamber_count
  unfolding dealt numbered
  made_begun {cleared} is =
      record {
        joining = joining_begun x.steps (plans s) before cleared (λ p m. plans_long s p m ∙ many_limits s e) room is;
        counted = zero-add _;
      }

  module _ {now : List ℕ} {many c : ℕ} (begun : Made s x.steps before now many c) (more : 0 < c) (few : c ≤ chamber_count) where
    -- the number of the chamber that is come to
    abbrev here : ℕ
    here = c - 1

    below : here < chamber_count
    below = omega arith

    g : Made s x.steps before now many (suc here)
    g = let next : c ≡ suc here = omega arith in subst (Made s x.steps before now many) next begun

    -- its plan
    abbrev part : List ℕ
    part = plan_of (chamber_on s here) (start_of s) (limits_on s)

    pub made_on : {after : List ℕ} {more : ℕ} → after ≡ sets now 0 (joined part (take x.steps now)) → more ≡ total_of (chamber_on s here) (start_of s) (limits_on s)
        → Made s x.steps before after (many + more) here
    made_on {after} {more} is total =
        let at : get_or (plans s) here [] ≡ part = numbered_at (λ d. plan_of d (start_of s) (limits_on s)) (units_on s) here [] (omega (arith, below, four_dealt s)) in
        let long = numbered_long (λ d. plan_of d (start_of s) (limits_on s)) 0 (units_on s) in
        let same = all_up_to x.steps (plans s) here (omega (arith, below, long, four_dealt s)) ∙ ap (λ p. joined p (joined_all x.steps (take here (plans s)))) at in
        record {
          joining = joining_on g.joining room part (take here (plans s)) after (part_long s e here below) same is;
          counted = omega (arith, g.counted, total, sum_up_to s here below);
        }

    -- the sum does not run over
    pub made_fits : {more : ℕ} → more ≡ total_of (chamber_on s here) (start_of s) (limits_on s) → many + more ≤ 16384
    made_fits total = omega (arith, g.counted, total, sum_up_to s here below, sum_few s e)

  pub made_done : {now : List ℕ} {many : ℕ} → Made s x.steps before now many 0 → (now ≡ sets before 0 (support_on s)) × (many ≡ total (start_of s) (support_on s))
  unfolding support_on support_in_by sum_of
  made_done g = (
    joining_done g.joining room refl ∙ ap (λ (n : ℕ). sets before 0 (joined_all n (plans s))) (sym (many_limits s e)),
    omega (arith, g.counted, sum_is s e),
  )
