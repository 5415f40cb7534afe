-- The set of a step: units leave what is begun with, or join it, and as many can as are asked for. It is never both,
-- since where some must leave, the greatest number stays, which is enough.
use mathlib.Core.Path.{◌≡◌, sym, ap, ap₂, ◌∙◌}
use mathlib.Core.Bool.{Bool, true, false, cond}
use Prim.Native.Nat.{ℕ, ◌-◌, ◌≤◌, ◌<◌}
use native.Mathlib.Decide.{dec_lt}
use native.Mathlib.Omega.{arith}
use Rattle.units.specs.Limits.{has_feasible}
use Rattle.units.specs.Sets.{bit, union, intersection, difference, size}
use Rattle.units.proofs.Limits.{some_feasible}
use Rattle.units.proofs.Sets.{bit_difference, difference_empty, size_mono, size_difference, size_difference_le, union_empty_left, union_empty_right}
use Rattle.switch.specs.declared.pick.Pick.{Pick}
use Rattle.switch.specs.Looked.{picked}
use Rattle.switch.specs.Toward.{toward}
use Rattle.plans.specs.Support.{taken, support_set}
use Rattle.plans.specs.declared.Limits.{Limits}
use Rattle.plans.proofs.Chosen.{taken_chosen}
use Rattle.plans.proofs.Orders.{Ordered, mirror_ordered}

-- the set of a step, from what it is begun with, as FindSupport has it
abbrev set_from : (ℕ → ℕ → Bool) → Limits → ℕ → ℕ
set_from ranks s begun =
    let kept = difference begun (taken (toward true ranks) (size begun - s.greatest) (difference begun s.lower)) in
    union kept (taken ranks (s.least - size kept) (difference s.upper kept))

module _ (s : Limits) (f : has_feasible s.lower s.upper s.least s.greatest ≡ true) (begun : ℕ) where
  -- as many can leave, or join, as are asked to
  pub leave_room : size begun - s.greatest ≤ size (difference begun s.lower)
  leave_room =
      let (x, fits) = (some_feasible s.lower s.upper s.least s.greatest).0 f in
      omega (arith, size_difference_le begun s.lower, size_mono s.lower x fits.includes, fits.few)

  pub join_room : s.least - size begun ≤ size (difference s.upper begun)
  join_room =
      let (x, fits) = (some_feasible s.lower s.upper s.least s.greatest).0 f in
      omega (arith, size_difference_le s.upper begun, size_mono x s.upper fits.within, fits.enough)

  pub least_greatest : s.least ≤ s.greatest
  least_greatest =
      let (x, fits) = (some_feasible s.lower s.upper s.least s.greatest).0 f in
      omega (arith, fits.enough, fits.few)

  -- the set of the step, from what is begun with
  module _ {ranks : ℕ → ℕ → Bool} (o : Ordered ranks) (before : ℕ) (start : begun ≡ union (intersection before s.upper) s.lower) where
    supported_leave : s.greatest < size begun → {x : ℕ} → x ≡ taken (toward true ranks) (size begun - s.greatest) (difference begun s.lower)
        → difference begun x ≡ support_set ranks s before
    unfolding support_set taken
    supported_leave over {x} leaving =
        let kept = difference begun x in
        let chosen = taken_chosen (mirror_ordered o) (size begun - s.greatest) (difference begun s.lower) leave_room in
        let inside : (u : ℕ) → bit x u ≤ bit begun u = λ u. omega (arith, ap (λ (y : ℕ). bit y u) leaving, chosen.inside u, bit_difference begun s.lower u) in
        let none : 0 ≡ s.least - size kept = omega (arith, size_difference begun x inside, ap size leaving, chosen.counted, least_greatest) in
        sym (union_empty_right kept)
        ∙ ap (λ (k : ℕ). union kept (taken ranks k (difference s.upper kept))) none
        ∙ ap (λ (x : ℕ). union (difference begun x) (taken ranks (s.least - size (difference begun x)) (difference s.upper (difference begun x)))) leaving
        ∙ ap (set_from ranks s) start

    supported_join : size begun ≤ s.greatest → union begun (taken ranks (s.least - size begun) (difference s.upper begun)) ≡ support_set ranks s before
    unfolding support_set taken
    supported_join few =
        let none : 0 ≡ size begun - s.greatest = omega arith in
        ap (λ (x : ℕ). union x (taken ranks (s.least - size x) (difference s.upper x)))
        (sym (difference_empty begun) ∙ ap (λ (k : ℕ). difference begun (taken (toward true ranks) k (difference begun s.lower))) none)
        ∙ ap (set_from ranks s) start

    -- what leaves, or joins
    pub supported : (p : Pick) → p.found ≡ 0
        → (s.greatest < size begun → (p.last ≡ true) × (p.rest ≡ difference begun s.lower) × (p.left ≡ size begun - s.greatest))
        → (size begun ≤ s.greatest → (p.last ≡ false) × (p.rest ≡ difference s.upper begun) × (p.left ≡ s.least - size begun))
        → {x : ℕ} → x ≡ picked ranks p → cond p.last (difference begun x) (union begun x) ≡ support_set ranks s before
    supported p none leaving joining {x} is = go (dec_lt s.greatest (size begun))
      where
        units : x ≡ taken (toward p.last ranks) p.left p.rest
        units = is ∙ ap (λ (y : ℕ). union y (taken (toward p.last ranks) p.left p.rest)) none ∙ union_empty_left (taken (toward p.last ranks) p.left p.rest)

        these : {last : Bool} {left rest : ℕ} → (p.last ≡ last) × (p.rest ≡ rest) × (p.left ≡ left) → x ≡ taken (toward last ranks) left rest
        these e = units ∙ (λ i. taken (toward (e.0 i) ranks) (e.2 i) (e.1 i))

        go : Dec (s.greatest < size begun) → cond p.last (difference begun x) (union begun x) ≡ support_set ranks s before
        go (yes l) = ap (λ (b : Bool). cond b (difference begun x) (union begun x)) (leaving l).0 ∙ supported_leave l (these (leaving l))
        go (no l) =
            let few : size begun ≤ s.greatest = omega arith in
            ap (λ (b : Bool). cond b (difference begun x) (union begun x)) (joining few).0 ∙ ap (union begun) (these (joining few)) ∙ supported_join few

    -- where nothing does, it is what is begun with
    pub supported_none : (p : Pick) → p.found ≡ 0
        → (s.greatest < size begun → (p.last ≡ true) × (p.rest ≡ difference begun s.lower) × (p.left ≡ size begun - s.greatest))
        → (size begun ≤ s.greatest → (p.last ≡ false) × (p.rest ≡ difference s.upper begun) × (p.left ≡ s.least - size begun))
        → p.left ≡ 0 → begun ≡ support_set ranks s before
    unfolding taken
    supported_none p none leaving joining e =
        sym (same p.last)
        ∙ supported p none leaving joining (sym (ap₂ (λ (f k : ℕ). union f (taken (toward p.last ranks) k p.rest)) none e ∙ union_empty_left 0))
      where
        same : (b : Bool) → cond b (difference begun 0) (union begun 0) ≡ begun
        same true = difference_empty begun
        same false = union_empty_right begun
