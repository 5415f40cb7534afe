-- A unit that FindSupport ranks before another stands for it (`ranks_refines`), whatever order breaks ties. All that
-- this uses of the ranking is that it is an order and that it has the better units first, those preferred by need and
-- ban alone (`better_refines`).
use mathlib.Core.Path.{◌≡◌, refl, sym, ◌∙◌}
use mathlib.Core.Logic.{⊎_elim}
use mathlib.Core.Bool.{Bool, true, false, cond, false≢true}
use mathlib.Core.List.{List, [], ◌∷◌}
use Prim.Native.Nat.{ℕ, ◌+◌, ◌≤◌, ◌<◌}
use native.Mathlib.Omega.{arith}
use lib.Dec.{ltb}
use lib.ListN.{length}
use borrow.Author.Tests.{lt-ltb, le-ltb, eq-eqb}
use Rattle.units.specs.Sets.{bit, contains}
use Rattle.units.proofs.Sets.{bit_cases}
use Rattle.plans.specs.declared.Limits.{Limits}
use Rattle.plans.specs.Support.{next_required, next_forbidden, required_first, ranks_by}
use Rattle.plans.proofs.Orders.{Ordered, asymmetric, mirror_ordered, lexical_ordered, classed, classed_ordered, classed_wider}
use Rattle.plans.proofs.Stands.{StandsFor}

-- ---- need and ban

-- what both branches reach, the chosen one reaches
cond_from : (t : Bool) (i x y : ℕ) → i ≤ x → i ≤ y → i ≤ cond t x y
cond_from true i x y p q = p
cond_from false i x y p q = q

-- need and ban from step i on are i at the least
numbers_from_lem : (n i : ℕ) (ss : List Limits) (u : ℕ) → i + length ss ≡ n + 1 → (i ≤ next_required n i ss u) × (i ≤ next_forbidden n i ss u)
unfolding next_required next_forbidden
numbers_from_lem n i [] u h = omega arith
numbers_from_lem n i (s ∷ ss) u h =
    let r = numbers_from_lem n (i + 1) ss u (omega arith) in (
      cond_from (contains s.lower u) i i (next_required n (i + 1) ss u) (omega arith) (omega arith),
      cond_from (contains s.upper u) i (next_forbidden n (i + 1) ss u) i (omega arith) (omega arith),
    )

-- ---- the better unit

-- unit u is better than unit v, by need and ban alone: this is the ranking without the tie order
unfoldable pub better : ℕ → ℕ → List Limits → ℕ → ℕ → Bool
better n i ss u v =
    classed (required_first n i ss u) (required_first n i ss v) (ltb (next_required n i ss u) (next_required n i ss v))
    (ltb (next_forbidden n i ss v) (next_forbidden n i ss u))

-- a choice between true and true
cond_same : (t : Bool) → cond t true true ≡ true
cond_same true = refl
cond_same false = refl

module _ (n i : ℕ) (s : Limits) (ss : List Limits) (h : i + length (s ∷ ss) ≡ n + 1) where
  -- need and ban from the next step on come after this one
  past : (u : ℕ) → (i < next_required n (i + 1) ss u) × (i < next_forbidden n (i + 1) ss u)
  past u = omega (arith, numbers_from_lem n (i + 1) ss u (omega arith))

  -- a unit that is required now is better than one that is not
  pub required_better : (u v : ℕ) → bit s.lower u ≡ 1 → bit s.upper u ≡ 1 → bit s.lower v ≡ 0 → better n i (s ∷ ss) u v ≡ true
  unfolding better required_first next_required next_forbidden contains
  required_better u v a b c =
      rw (a, b, c, lt-ltb i (next_forbidden n (i + 1) ss u) (past u).1, lt-ltb i (next_required n (i + 1) ss v) (past v).0, cond_same)

  -- a unit that may be on now is better than one that may not
  pub allowed_better : (u v : ℕ) → bit s.upper u ≡ 1 → bit s.upper v ≡ 0 → better n i (s ∷ ss) u v ≡ true
  unfolding better required_first next_forbidden contains
  allowed_better u v a b =
      rw (a, b, le-ltb (next_required n i (s ∷ ss) v) i (numbers_from_lem n i (s ∷ ss) v h).0, lt-ltb i (next_forbidden n (i + 1) ss u) (past u).1, cond_same)

  -- of two units that are allowed and not required now, the better one is better from the next step on
  better_later : (u v : ℕ) → bit s.lower u ≡ 0 → bit s.lower v ≡ 0 → bit s.upper u ≡ 1 → bit s.upper v ≡ 1
      → better n i (s ∷ ss) u v ≡ better n (i + 1) ss u v
  unfolding better required_first next_required next_forbidden contains
  better_later u v a b c d = rw (a, b, c, d)

  -- Among units required now, and among units forbidden now, the tie order decides the ranking; units that the step
  -- leaves open are ranked as from the next step on.
  pub required_tied : (tie : ℕ → ℕ → Bool) (u v : ℕ) → bit s.lower u ≡ 1 → bit s.upper u ≡ 1 → bit s.lower v ≡ 1 → bit s.upper v ≡ 1
      → ranks_by tie n i (s ∷ ss) u v ≡ tie u v
  unfolding ranks_by required_first next_required next_forbidden contains
  required_tied tie u v a b c d =
      rw (a, b, c, d, lt-ltb i (next_forbidden n (i + 1) ss u) (past u).1, lt-ltb i (next_forbidden n (i + 1) ss v) (past v).1, le-ltb i i (omega arith), eq-eqb i i refl)

  pub forbidden_tied : (tie : ℕ → ℕ → Bool) (u v : ℕ) → bit s.upper u ≡ 0 → bit s.upper v ≡ 0 → ranks_by tie n i (s ∷ ss) u v ≡ tie u v
  unfolding ranks_by required_first next_forbidden contains
  forbidden_tied tie u v a b =
      rw (a, b, le-ltb (next_required n i (s ∷ ss) u) i (numbers_from_lem n i (s ∷ ss) u h).0, le-ltb (next_required n i (s ∷ ss) v) i (numbers_from_lem n i (s ∷ ss) v h).0, le-ltb i i (omega arith), eq-eqb i i refl)

  pub open_ranked : (tie : ℕ → ℕ → Bool) (u v : ℕ) → bit s.lower u ≡ 0 → bit s.upper u ≡ 1 → bit s.lower v ≡ 0 → bit s.upper v ≡ 1
      → ranks_by tie n i (s ∷ ss) u v ≡ ranks_by tie n (i + 1) ss u v
  unfolding ranks_by required_first next_required next_forbidden contains
  open_ranked tie u v a b c d = rw (a, b, c, d)

-- after the last step only the tie order is left
pub ended_tied : (tie : ℕ → ℕ → Bool) (n i u v : ℕ) → ranks_by tie n i [] u v ≡ tie u v
unfolding ranks_by required_first next_required next_forbidden
ended_tied tie n i u v = rw (le-ltb (n + 2) (n + 1) (omega arith), le-ltb (n + 1) (n + 1) (omega arith), eq-eqb (n + 1) (n + 1) refl)

-- A unit v stands for every unit w that is not better. If v is not required now and w is allowed now, then w is not
-- required and v is allowed: else w would be better. So both are free now, and w is not better from the next step on.
pub not_better_stands : (n i : ℕ) (ss : List Limits) (v w : ℕ) → i + length ss ≡ n + 1 → better n i ss w v ≡ false → StandsFor ss v w
unfolding StandsFor
not_better_stands n i [] v w h b = tt
not_better_stands n i (s ∷ ss) v w h b = λ lv uw.
    let never : better n i (s ∷ ss) w v ≡ true → ⊥ = λ p. false≢true (sym b ∙ p) in
    let lw : bit s.lower w ≡ 0 = ⊎_elim (λ e. e) (λ e. absurd (never (required_better n i s ss h w v e uw lv))) (bit_cases s.lower w) in
    let uv : bit s.upper v ≡ 1 = ⊎_elim (λ e. absurd (never (allowed_better n i s ss h w v uw e))) (λ e. e) (bit_cases s.upper v) in
    (lw, (uv, not_better_stands n (i + 1) ss v w (omega arith) (sym (better_later n i s ss h w v lw lv uw uv) ∙ b)))

-- ---- rankings that fit the steps

-- ranks is an order of the units in which each stands over the steps ss for those after it
pub record Refines (ss : List Limits) (ranks : ℕ → ℕ → Bool) : Type 0 where
  pub ordered : Ordered ranks
  pub stands : (v w : ℕ) → ranks v w ≡ true → StandsFor ss v w

-- so is every order that has the better units first
pub better_refines : (n i : ℕ) (ss : List Limits) {ranks : ℕ → ℕ → Bool} → i + length ss ≡ n + 1 → Ordered ranks
    → ((u v : ℕ) → better n i ss u v ≡ true → ranks u v ≡ true) → Refines ss ranks
better_refines n i ss {ranks} h o f = record { ordered = o; stands = λ v w r. go v w r (better n i ss w v) refl }
  where
    go : (v w : ℕ) → ranks v w ≡ true → (t : Bool) → better n i ss w v ≡ t → StandsFor ss v w
    go v w r false b = not_better_stands n i ss v w h b
    go v w r true b = absurd (false≢true (sym (asymmetric o v w r) ∙ f w v b))

-- the ranking is an order: the keys are need in the one class, and ban from last to first in the other
pub ranks_ordered : {tie : ℕ → ℕ → Bool} → Ordered tie → (n i : ℕ) (ss : List Limits) → Ordered (ranks_by tie n i ss)
unfolding ranks_by
ranks_ordered o n i ss =
    classed_ordered (required_first n i ss) (lexical_ordered (next_required n i ss) o)
    (mirror_ordered (lexical_ordered (next_forbidden n i ss) (mirror_ordered o)))

-- it has the better units first
pub better_ranks : (tie : ℕ → ℕ → Bool) (n i : ℕ) (ss : List Limits) (u v : ℕ) → better n i ss u v ≡ true → ranks_by tie n i ss u v ≡ true
unfolding better ranks_by
better_ranks tie n i ss u v h = classed_wider (required_first n i ss u) (required_first n i ss v) _ _ _ _ h

-- and so it fits
pub ranks_refines : {tie : ℕ → ℕ → Bool} → Ordered tie → (n i : ℕ) (ss : List Limits) → i + length ss ≡ n + 1 → Refines ss (ranks_by tie n i ss)
ranks_refines {tie} o n i ss h = better_refines n i ss h (ranks_ordered o n i ss) (better_ranks tie n i ss)
