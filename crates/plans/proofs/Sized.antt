-- A step with the least and the greatest size of its feasible sets in the place of its two numbers has the same
-- feasible sets (`sized_allows`), and FindSupport takes the same set in it (`sized_set`), since what that begins with
-- includes the lower set and lies within the upper one. So the plans, the chart and the plan that is handed out are
-- those of the steps as they are.
use mathlib.Core.Path.{◌≡◌, refl, sym, ap, ap₂, ◌∙◌, subst, fun_ext}
use mathlib.Core.Logic.{◌↔◌}
use mathlib.Core.Bool.{Bool, true, false, cond, ◌&&◌}
use mathlib.Core.List.{List, [], ◌∷◌, map}
use Prim.Native.Nat.{ℕ, ◌+◌, ◌-◌, ◌^◌, ◌<◌, ◌≤◌}
use native.Mathlib.Omega.{arith}
use lib.ListN.{length, length-map}
use Rattle.units.specs.Sets.{union, intersection, difference, contains, size, Subset}
use Rattle.units.specs.Limits.{least_size, greatest_size}
use Rattle.units.proofs.Limits.{same_test, either_way, some_feasible}
use Rattle.units.proofs.Sets.{bit_difference, bit_intersection, bit_union, size_difference_le, size_mono}
use Rattle.plans.specs.declared.Limits.{Limits}
use Rattle.plans.specs.Plans.{allows, Below, select, below, prefixed, is_feasible, plans_of, plans_within, can_be_on, can_be_off, can_be}
use Rattle.plans.specs.Steps.{limits}
use Rattle.plans.specs.Support.{next_required, next_forbidden, required_first, tie_order, ranks_by, taken, support_set, support_from, find_support_by, find_support}
use Rattle.plans.specs.Switch.{Allows, sized_by, sized, Satisfiable}
use Rattle.plans.proofs.AllPlans.{allows_exactly}
use Rattle.plans.proofs.Chosen.{taken_chosen}
use Rattle.plans.proofs.Orders.{Ordered, mirror_ordered, tie_ordered}
use Rattle.plans.proofs.Ranks.{ranks_ordered}

-- ---- one step

module _ (s : Limits) where
  abbrev low : ℕ
  low = least_size s.lower s.least

  abbrev high : ℕ
  high = greatest_size s.upper s.greatest

  -- what holds of the step as it is, and of the one with both sizes where these are in order, holds of `sized s`
  pub by_sizes : (P : Limits → Type 0) → (Subset s.lower s.upper → low ≤ high → P (limits s.lower s.upper low high)) → P s → P (sized s)
  unfolding sized
  by_sizes P some none = either_way s.lower s.upper s.least s.greatest (λ z. P (sized_by s z)) some (λ h. none)

  pub sized_lower : (sized s).lower ≡ s.lower
  sized_lower = by_sizes (λ t. t.lower ≡ s.lower) (λ h l. refl) refl

  sized_upper : (sized s).upper ≡ s.upper
  sized_upper = by_sizes (λ t. t.upper ≡ s.upper) (λ h l. refl) refl

  -- the same sets are feasible
  pub sized_allows : (x : ℕ) → Allows (sized s) x ↔ Allows s x
  sized_allows x = by_sizes (λ t. Allows t x ↔ Allows s x) (λ h l. (wider, narrower)) (λ f. f, λ f. f)
    where
      wider : Allows (limits s.lower s.upper low high) x → Allows s x
      wider f = record { includes = f.includes; within = f.within; enough = omega (arith, f.enough); few = omega (arith, f.few) }

      narrower : Allows s x → Allows (limits s.lower s.upper low high) x
      narrower f =
          record {
            includes = f.includes;
            within = f.within;
            enough = omega (arith, f.enough, size_mono s.lower x f.includes);
            few = omega (arith, f.few, size_mono x s.upper f.within);
          }

  allows_same : (x : ℕ) → allows (sized s) x ≡ allows s x
  allows_same x =
      let new = allows_exactly (sized s) x in
      let old = allows_exactly s x in
      same_test (allows (sized s) x) (allows s x) (λ e. old.1 ((sized_allows x).0 (new.0 e))) (λ e. new.1 ((sized_allows x).1 (old.0 e)))

  -- FindSupport takes the same set: as many units leave, since there are no more than the upper set has, and as many
  -- join, since the lower set stays
  pub sized_set : {ranks : ℕ → ℕ → Bool} → Ordered ranks → (before : ℕ) → support_set ranks (sized s) before ≡ support_set ranks s before
  unfolding support_set
  sized_set {ranks} o before = by_sizes (λ t. support_set ranks t before ≡ support_set ranks s before) go refl
    where
      begun : ℕ
      begun = union (intersection before s.upper) s.lower

      leaving : ℕ → ℕ
      leaving k = taken (λ u v. ranks v u) k (difference begun s.lower)

      -- the set that is made, where k units leave and `least` are wanted
      made : ℕ → ℕ → ℕ
      made k least =
          let kept = difference begun (leaving k) in
          union kept (taken ranks (least - size kept) (difference s.upper kept))

      go : Subset s.lower s.upper → low ≤ high → made (size begun - high) low ≡ made (size begun - s.greatest) s.least
      go h l =
          let within : Subset begun s.upper =
          λ u. omega (arith, h u, bit_union (intersection before s.upper) s.lower u, bit_intersection before s.upper u) in
          let leave : size begun - high ≡ size begun - s.greatest = omega (arith, size_mono begun s.upper within) in
          let room : size begun - s.greatest ≤ size (difference begun s.lower) = omega (arith, size_difference_le begun s.lower) in
          let chosen = taken_chosen (mirror_ordered o) (size begun - s.greatest) (difference begun s.lower) room in
          let kept = difference begun (leaving (size begun - s.greatest)) in
          let stays : Subset s.lower kept =
          λ u. omega (arith, chosen.inside u, bit_difference begun s.lower u, bit_difference begun (leaving (size begun - s.greatest)) u, bit_union (intersection before s.upper) s.lower u) in
          let join : low - size kept ≡ s.least - size kept = omega (arith, size_mono s.lower kept stays) in
          ap (λ (k : ℕ). made k low) leave ∙ ap (λ (k : ℕ). union kept (taken ranks k (difference s.upper kept))) join

-- ---- all steps

-- they are satisfiable if they were, and have no other units
pub sized_satisfiable : (ss : List Limits) → Satisfiable ss → Satisfiable (map sized ss)
sized_satisfiable [] f = tt
sized_satisfiable (s ∷ ss) f =
    let (x, a) = (some_feasible s.lower s.upper s.least s.greatest).0 f.0 in
    ((some_feasible (sized s).lower (sized s).upper (sized s).least (sized s).greatest).1 (x, (sized_allows s x).1 a), sized_satisfiable ss f.1)

pub sized_below : (d : ℕ) (ss : List Limits) → Below d ss → Below d (map sized ss)
sized_below d [] b = tt
sized_below d (s ∷ ss) b = (subst (λ (x : ℕ). x < 2 ^ d) (sym (sized_upper s)) b.0, sized_below d ss b.1)

-- the same plans are feasible
pub sized_feasible : (ss : List Limits) (p : List ℕ) → is_feasible allows (map sized ss) p ≡ is_feasible allows ss p
unfolding is_feasible
sized_feasible [] [] = refl
sized_feasible [] (x ∷ p) = refl
sized_feasible (s ∷ ss) [] = refl
sized_feasible (s ∷ ss) (x ∷ p) = ap₂ ◌&&◌ (allows_same s x) (sized_feasible ss p)

sized_plans : (d : ℕ) (ss : List Limits) → plans_of allows d (map sized ss) ≡ plans_of allows d ss
unfolding plans_of
sized_plans d [] = refl
sized_plans d (s ∷ ss) = ap₂ prefixed (ap (λ (test : ℕ → Bool). select test (below (2 ^ d))) (fun_ext (allows_same s))) (sized_plans d ss)

-- so the chart is the same
pub sized_chart : (d bound start : ℕ) (ss : List Limits) (on : Bool) → can_be allows on d bound start (map sized ss) ≡ can_be allows on d bound start ss
unfolding plans_within can_be_on can_be_off
sized_chart d bound start ss true = rw (length-map ss sized, sized_plans d ss)
sized_chart d bound start ss false = rw (length-map ss sized, sized_plans d ss)

-- so is the ranking
sized_required : (n i : ℕ) (ss : List Limits) (u : ℕ) → next_required n i (map sized ss) u ≡ next_required n i ss u
unfolding next_required
sized_required n i [] u = refl
sized_required n i (s ∷ ss) u = ap₂ (λ (l later : ℕ). cond (contains l u) i later) (sized_lower s) (sized_required n (i + 1) ss u)

sized_forbidden : (n i : ℕ) (ss : List Limits) (u : ℕ) → next_forbidden n i (map sized ss) u ≡ next_forbidden n i ss u
unfolding next_forbidden
sized_forbidden n i [] u = refl
sized_forbidden n i (s ∷ ss) u = ap₂ (λ (l later : ℕ). cond (contains l u) later i) (sized_upper s) (sized_forbidden n (i + 1) ss u)

sized_ranks : (tie : ℕ → ℕ → Bool) (n i : ℕ) (ss : List Limits) → ranks_by tie n i (map sized ss) ≡ ranks_by tie n i ss
unfolding ranks_by required_first
sized_ranks tie n i ss =
    fun_ext (λ u. fun_ext (λ v. rw (sized_required n i ss u, sized_required n i ss v, sized_forbidden n i ss u, sized_forbidden n i ss v)))

-- and FindSupport's plan, whatever orders break its ties
sized_from : {ties : ℕ → ℕ → ℕ → Bool} → ((i : ℕ) → Ordered (ties i)) → (n i before : ℕ) (ss : List Limits)
    → support_from ties n i before (map sized ss) ≡ support_from ties n i before ss
unfolding support_from
sized_from o n i before [] = refl
sized_from {ties} o n i before (s ∷ ss) =
    let x = support_set (ranks_by (ties i) n i (s ∷ ss)) s before in
    let same : support_set (ranks_by (ties i) n i (map sized (s ∷ ss))) (sized s) before ≡ x =
    ap (λ (r : ℕ → ℕ → Bool). support_set r (sized s) before) (sized_ranks (ties i) n i (s ∷ ss)) ∙ sized_set s (ranks_ordered (o i) n i (s ∷ ss)) before in
    ap (λ (y : ℕ). y ∷ support_from ties n (i + 1) y (map sized ss)) same ∙ ap (λ rest. x ∷ rest) (sized_from o n (i + 1) x ss)

pub sized_support : (start : ℕ) (ss : List Limits) → find_support start (map sized ss) ≡ find_support start ss
unfolding find_support_by
sized_support start ss =
    ap (λ (n : ℕ). support_from (λ i. tie_order) n 1 start (map sized ss)) (length-map ss sized) ∙ sized_from (λ i. tie_ordered) (length ss) 1 start ss
