-- Where the bound leaves two switches or more to spare, the words `ample_on` and `ample_off` of a step are exact
-- (`ample_on_lem`, `ample_off_lem`). For then a unit can be on, or off, in a step exactly if the step allows a set
-- that has it so. With any unit that may be on it allows one, if there is room for one more than the lower set has,
-- and without any unit that need not be on, if one less than the upper set has is enough (`some_on`, `some_off`).
use mathlib.Core.Path.{◌≡◌, refl}
use mathlib.Core.Logic.{⊎_elim, ◌↔◌}
use mathlib.Core.Bool.{Bool, true, false, cond}
use mathlib.Core.List.{List}
use Prim.Native.Nat.{ℕ, ◌+◌, ◌-◌, ◌^◌, ◌≤◌, ◌<◌}
use native.Mathlib.Omega.{arith}
use borrow.Author.Tests.{ltb-true, ltb-false}
use lib.Dec.{ltb}
use lib.ListN.{length}
use lib.Pow.{pow_pos}
use Rattle.units.specs.Sets.{bit, difference, Subset, insert, remove, size}
use Rattle.units.proofs.Limits.{fits, some_feasible}
use Rattle.units.proofs.Sets.{bit_above, bit_difference, bit_full, bit_insert, bit_insert_other, bit_le, bit_remove, bit_remove_other, insert_subset, size_except, size_insert, size_mono, subset_or_missing, subset_remove}
use Rattle.plans.specs.Steps.{limits, step_at}
use Rattle.plans.specs.Support.{find_support}
use Rattle.plans.specs.declared.Limits.{Limits}
use Rattle.plans.specs.Switch.{Allows, Satisfiable, total}
use Rattle.plans.proofs.AllPlans.{Shows, SomePlan}
use Rattle.plans.proofs.Laid.{feasible_at}
use Rattle.tables.specs.Tables.{ample_on, ample_off}
use Rattle.tables.proofs.Forced.{some_set, some_forced}
use Rattle.tables.proofs.Slack.{slack}

-- ---- one step

-- a set within another that has no more units has them all
whole : (a b : ℕ) → Subset a b → size b ≤ size a → Subset b a
whole a b h k =
    ⊎_elim (λ s. s) (λ (u, (bu, au)). absurd (omega (arith, size_mono (insert a u) b (insert_subset a b u h bu), size_insert a u au)))
    (subset_or_missing b a)

-- with a unit there is one more at the most, without a unit one less
one_more : (s u : ℕ) → size (insert s u) ≤ size s + 1
one_more s u = omega (arith, size_except (insert s u) s u (bit_insert_other s u), bit_insert s u)

one_less : (s u : ℕ) → size s ≤ size (remove s u) + 1
one_less s u = omega (arith, size_except (remove s u) s u (bit_remove_other s u), bit_remove s u, bit_le s u)

module _ (u : ℕ) (s : Limits) (f : some_set s ≡ true) where
  -- the step allows a set that has unit u on, or off
  abbrev Some : Bool → Type 0
  Some on = (x : ℕ) × (Allows s x × Shows on u x)

  -- it allows one with u exactly if the word has u. If the lower set is as large as any set may be, it is the only
  -- one.
  some_on : (bit (ample_on s) u ≡ 1) ↔ Some true
  unfolding ample_on
  some_on = go (ltb (size s.lower) s.greatest) refl ((some_feasible s.lower s.upper s.least s.greatest).0 f)
    where
      go : (t : Bool) → ltb (size s.lower) s.greatest ≡ t → (x : ℕ) × Allows s x → (bit (cond t s.upper s.lower) u ≡ 1) ↔ Some true
      go true e (x, a) = (
        λ h.
            (some_forced true u s).0
            (fits (insert s.lower u) s.upper s.least s.greatest
            (insert_subset s.lower s.upper u (λ v. omega (arith, a.includes v, a.within v)) h)
            (omega (arith, a.enough, a.few))
            (omega (arith, ltb-true (size s.lower) s.greatest e, one_more s.lower u))
            (omega (arith, a.enough, size_mono x s.upper a.within))),
        λ (y, (b, h)). omega (arith, b.within u, bit_le s.upper u),
      )
      go false e (x, a) = (
        λ h. (x, (a, omega (arith, a.includes u, bit_le x u))),
        λ (y, (b, h)).
            let full = ltb-false (size s.lower) s.greatest e in
            omega (arith, whole s.lower y b.includes (omega (arith, b.few)) u, bit_le s.lower u),
      )

  -- and so one without u. If the upper set is as small as any set may be, it is the only one.
  some_off : (d : ℕ) → u < d → (bit (ample_off (2 ^ d - 1) s) u ≡ 1) ↔ Some false
  unfolding ample_off
  some_off d k = go (ltb s.least (size s.upper)) refl ((some_feasible s.lower s.upper s.least s.greatest).0 f)
    where
      lacks : (x : ℕ) → bit (difference (2 ^ d - 1) x) u + bit x u ≡ 1
      lacks x = omega (arith, bit_difference (2 ^ d - 1) x u, bit_full d u k, bit_le x u)

      go : (t : Bool) → ltb s.least (size s.upper) ≡ t → (x : ℕ) × Allows s x
          → (bit (difference (2 ^ d - 1) (cond t s.lower s.upper)) u ≡ 1) ↔ Some false
      go true e (x, a) = (
        λ h.
            (some_forced false u s).0
            (fits s.lower (remove s.upper u) s.least s.greatest
            (subset_remove s.lower s.upper u (λ v. omega (arith, a.includes v, a.within v)) (omega (arith, lacks s.lower)))
            (omega (arith, a.enough, a.few))
            (omega (arith, a.few, size_mono s.lower x a.includes))
            (omega (arith, ltb-true s.least (size s.upper) e, one_less s.upper u))),
        λ (y, (b, h)). omega (arith, lacks s.lower, b.includes u),
      )
      go false e (x, a) = (
        λ h. (x, (a, omega (arith, lacks s.upper, a.within u))),
        λ (y, (b, h)).
            let full = ltb-false s.least (size s.upper) e in
            omega (arith, lacks s.upper, whole y s.upper b.within (omega (arith, b.enough)) u),
      )

-- ---- the chart

module _ (bound start : ℕ) (ss : List Limits) (f : Satisfiable ss) (h : total start (find_support start ss) + 2 ≤ bound) (i : ℕ) (l : i < length ss) where
  -- with two switches to spare, some plan within the bound has a unit on in the step at i, or off, if the step allows
  -- a set that has it so, and only then
  some_plan : (on : Bool) (u x : ℕ) → (bit x u ≡ 1) ↔ ((y : ℕ) × (Allows (step_at ss i) y × Shows on u y))
      → (bit x u ≡ 1) ↔ SomePlan bound start ss i (Shows on u)
  unfolding step_at
  some_plan on u x (some, has) =
      let (sets, plan) = slack on u (limits 0 0 0 0) bound start ss i l f h in
      (λ e. plan (some e), λ e. has (sets e))

  -- so the words have the units that some plan has so
  pub ample_on_lem : (u : ℕ) → (bit (ample_on (step_at ss i)) u ≡ 1) ↔ SomePlan bound start ss i (Shows true u)
  ample_on_lem u = some_plan true u (ample_on (step_at ss i)) (some_on u (step_at ss i) (feasible_at ss i l f))

  pub ample_off_lem : (d u : ℕ) → u < d → (bit (ample_off (2 ^ d - 1) (step_at ss i)) u ≡ 1) ↔ SomePlan bound start ss i (Shows false u)
  ample_off_lem d u k = some_plan false u (ample_off (2 ^ d - 1) (step_at ss i)) (some_off u (step_at ss i) (feasible_at ss i l f) d k)

-- no unit from d up is among those that can be off
pub ample_beyond : (d u : ℕ) (s : Limits) → d ≤ u → bit (ample_off (2 ^ d - 1) s) u ≡ 0
unfolding ample_off
ample_beyond d u s h =
    omega (
      arith,
      bit_difference (2 ^ d - 1) (cond (ltb s.least (size s.upper)) s.lower s.upper) u,
      bit_above d (2 ^ d - 1) u (omega (arith, pow_pos d)) h,
    )
