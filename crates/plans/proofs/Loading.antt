-- Where all units below d are on before the first step, loading it makes no switch: the total of a feasible plan is
-- then the one counted from its second step on (`total_later`).
use mathlib.Core.Path.{◌≡◌, refl, ap, ◌∙◌}
use mathlib.Core.List.{List, [], ◌∷◌}
use Prim.Native.Nat.{ℕ, ◌-◌, ◌^◌}
use native.Mathlib.Omega.{arith}
use Rattle.units.specs.Sets.{difference, size, Subset}
use Rattle.units.proofs.Sets.{bit_empty, bit_difference, set_ext, size_empty, subset_full}
use Rattle.plans.specs.Switch.{Throughout, switches, total, later_total}
use Rattle.plans.proofs.AllPlans.{Low}

-- units that were on make no switch
none_new : (before x : ℕ) → Subset x before → switches before x ≡ 0
unfolding switches
none_new before x h = ap size (set_ext (difference x before) 0 (λ u. omega (arith, bit_difference x before u, h u, bit_empty u))) ∙ size_empty

-- so the total of a plan of units below d, counted from all of them, is the one from its second step on, for steps of
-- any kind
pub total_later : {S : Type 0} (A : S → ℕ → Type 0) (d : ℕ) (ss : List S) (p : List ℕ) → Low A d ss → Throughout A ss p → total (2 ^ d - 1) p ≡ later_total p
unfolding total later_total
total_later A d [] [] b f = refl
total_later A d [] (x ∷ xs) b f = absurd f
total_later A d (s ∷ ss) [] b f = absurd f
total_later A d (s ∷ ss) (x ∷ xs) b f = omega (arith, none_new (2 ^ d - 1) x (subset_full d x (b.0 x f.0)))
