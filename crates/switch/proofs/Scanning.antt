-- The scan over the steps that finds the first units of a set in the ranking.
use mathlib.Core.Path.{◌≡◌, sym, ap, ◌∙◌}
use mathlib.Core.Bool.{Bool, true, false, and-eq-true_iff}
use mathlib.Core.List.{List, [], ◌++◌}
use Prim.Native.Nat.{ℕ, ◌+◌, ◌-◌, ◌*◌, ◌/◌, ◌^◌, ◌≤◌, ◌<◌}
use native.Mathlib.Omega.{arith}
use borrow.Author.Tests.{leb-true}
use lib.Dec.{leb}
use lib.ListN.{length, get_or, length-drop, length-take, drop, drop_of_length-le, take-append-drop}
use lib.Seq.{drop-drop}
use Rattle.units.specs.Sets.{union, size}
use Rattle.units.proofs.Sets.{union_empty_right}
use Rattle.switch.specs.declared.pick.Pick.{Pick}
use Rattle.switch.specs.declared.stretch.Stretch.{Stretch}
use Rattle.switch.specs.Groups.{can_pass}
use Rattle.switch.specs.Stretches.{required_in, allowed_in, as_one, between, block_size, block_end, Blocks}
use Rattle.switch.specs.Toward.{toward}
use Rattle.plans.specs.Steps.{limits, step_at, ranking_at}
use Rattle.switch.specs.Looked.{picked, Ahead}
use Rattle.plans.specs.Support.{tie_order, ranks_before, taken}
use Rattle.plans.specs.declared.Limits.{Limits}
use Rattle.switch.proofs.Picking.{toward_ordered, tie_toward, taken_same, taken_far}
use Rattle.switch.proofs.Stretching.{group_in, undecided_in, stretch_taken}
use Rattle.plans.proofs.Orders.{tie_ordered}
use Rattle.plans.proofs.Ranks.{ranks_ordered, ended_tied}
use Rattle.plans.proofs.Laid.{steps_at}

-- after the last step only the tie order is left
ended_toward : (last : Bool) (n i u v : ℕ) → toward last (ranks_before n i []) u v ≡ toward last tie_order u v
ended_toward false n i u v = ended_tied tie_order n i u v
ended_toward true n i u v = ended_tied tie_order n i v u

-- ---- what a scan looks at next

module _ (ss : List Limits) (j : ℕ) (p : Pick) where
  -- the step at j
  pub step_ahead : j < length ss → Ahead ss j p (record { lower = (step_at ss j).lower; upper = (step_at ss j).upper }) (j + 1)
  step_ahead h =
      let s = step_at ss j in
      record {
        further = omega arith;
        within = omega arith;
        same = λ after look.
            look.same s.least s.greatest (length ss) (j + 1) (drop (j + 1) ss) (omega (arith, length-drop (j + 1) ss))
            ∙ ap (λ t. picked (ranks_before (length ss) (j + 1) t) p) (sym (steps_at ss j h));
      }

  -- the steps to the one before `next`, where they can be passed
  pub stretch_ahead : (next : ℕ) → j < next → next ≤ length ss → p.rest < 2 ^ 64
      → can_pass p.last (required_in (between ss j next)) (allowed_in (between ss j next)) p.rest p.left ≡ true
      → Ahead ss j p (as_one (between ss j next)) next
  stretch_ahead next further within small pass =
      record {
        further = further;
        within = within;
        same = λ after look.
            let at : next + 1 ≡ j + 1 + length steps = omega (arith, many) in
            look.same 0 0 (length ss) next (drop next ss) (omega (arith, length-drop next ss))
            ∙ ap (union p.found)
            (taken_far (length ss) next (limits (required_in steps) (allowed_in steps) 0 0) (drop next ss) (omega (arith, length-drop next ss)) rest last left few p.enough fit
            ∙ ap (λ (i : ℕ). union (group_in last steps rest) (taken (toward last (ranks_before (length ss) i (drop next ss))) (left - size (group_in last steps rest)) (undecided_in steps rest))) at
            ∙ sym (stretch_taken last (length ss) (j + 1) steps (drop next ss) (omega (arith, many, length-drop next ss)) left rest small few fit)
            ∙ ap (λ t. taken (toward last (ranks_before (length ss) (j + 1) t)) left rest) parted);
      }
    where
      steps : List Limits
      steps = between ss j next

      last : Bool
      last = p.last

      rest : ℕ
      rest = p.rest

      left : ℕ
      left = p.left

      parts : (leb (size (group_in p.last (between ss j next) p.rest)) p.left ≡ true) × (leb (p.left - size (group_in p.last (between ss j next) p.rest)) (size (undecided_in (between ss j next) p.rest)) ≡ true)
      parts = (and-eq-true_iff (leb (size (group_in p.last (between ss j next) p.rest)) p.left) (leb (p.left - size (group_in p.last (between ss j next) p.rest)) (size (undecided_in (between ss j next) p.rest)))).0 pass

      few : size (group_in p.last (between ss j next) p.rest) ≤ p.left
      few = leb-true _ _ parts.0

      fit : p.left - size (group_in p.last (between ss j next) p.rest) ≤ size (undecided_in (between ss j next) p.rest)
      fit = leb-true _ _ parts.1

      many : length (between ss j next) ≡ next - j
      many = omega (arith, length-take (next - j) (drop j ss), length-drop j ss)

      parted : between ss j next ++ drop next ss ≡ drop j ss
      parted =
          let at : next ≡ j + (next - j) = omega arith in
          ap (λ (k : ℕ). between ss j next ++ drop k ss) at ∙ ap (λ t. between ss j next ++ t) (sym (drop-drop (next - j) j ss)) ∙ take-append-drop (next - j) (drop j ss)

-- the block that begins at j, where it can be passed
pub block_ahead : (ss : List Limits) (blocks : List Stretch) → Blocks ss blocks → (j : ℕ) (p : Pick) → block_size * (j / block_size) ≡ j → j < length ss
    → p.rest < 2 ^ 64 → {next : ℕ} → next ≡ block_end (length ss) j
    → let block = get_or blocks (j / block_size) (record { lower = 0; upper = 0 }) in can_pass p.last block.lower block.upper p.rest p.left ≡ true
    → Ahead ss j p block next
block_ahead ss blocks laid j p begins inside small {next} ends pass =
    rw (is, ends) (stretch_ahead ss j p (block_end (length ss) j) (omega arith) (omega arith) small (rw is at pass))
  where
    is : get_or blocks (j / block_size) (record { lower = 0; upper = 0 }) ≡ as_one (between ss j (block_end (length ss) j))
    is =
        let q = j / block_size in
        let lower = laid.lowers q (omega (arith, begins, inside)) ∙ ap (λ (i : ℕ). required_in (between ss i (block_end (length ss) i))) begins in
        let upper = laid.uppers q (omega (arith, begins, inside)) ∙ ap (λ (i : ℕ). allowed_in (between ss i (block_end (length ss) i))) begins in
        λ i. record { lower = lower i; upper = upper i }

-- ---- the scan

-- the units of a pick before the step at j, by the ranking from there on, are those to be found
pub record Scanned (ss : List Limits) (from : ℕ) (begun : Pick) (j : ℕ) (p : Pick) : Type 0 where
  pub within : j ≤ length ss
  pub all : picked (ranking_at ss j) p ≡ picked (ranking_at ss from) begun

module _ (ss : List Limits) (from : ℕ) (begun : Pick) where
  module _ {j : ℕ} {p : Pick} (g : Scanned ss from begun j p) where
    pub scan_found : p.left ≡ 0 → p.found ≡ picked (ranking_at ss from) begun
    unfolding taken
    scan_found e =
        sym (union_empty_right p.found) ∙ ap (λ (m : ℕ). union p.found (taken (toward p.last (ranking_at ss j)) m p.rest)) (sym e) ∙ g.all

    pub scan_ended : j ≡ length ss → picked tie_order p ≡ picked (ranking_at ss from) begun
    scan_ended e =
        let none : length ss ≤ j = omega arith in
        ap (union p.found)
        (sym (taken_same (toward_ordered p.last (ranks_ordered tie_ordered (length ss) (j + 1) (drop j ss))) (tie_toward p.last) p.left p.rest p.enough
        (λ v w _ _. ap (λ t. toward p.last (ranks_before (length ss) (j + 1) t) v w) (drop_of_length-le ss none) ∙ ended_toward p.last (length ss) (j + 1) v w)))
        ∙ g.all
