-- A unit that stands for another may be on in its place before the steps: they then need no more switches.
use mathlib.Core.Path.{◌≡◌, sym, ap, subst}
use mathlib.Core.List.{List, [], ◌∷◌}
use Prim.Native.Nat.{ℕ, ◌+◌, ◌≤◌}
use native.Mathlib.Decide.{dec_le}
use native.Mathlib.Omega.{arith}
use Rattle.units.specs.Sets.{bit, insert, remove}
use Rattle.units.proofs.Sets.{bit_le, bit_remove, insert_remove, insert_subset, size_insert, subset_insert, subset_without}
use Rattle.plans.specs.declared.Limits.{Limits}
use Rattle.plans.specs.Switch.{Allows, FeasiblePlan, switches, total}
use Rattle.plans.proofs.Stands.{StandsFor}
use Rattle.plans.proofs.Totals.{switches_both, switches_from}

-- the steps ss have a plan that is no worse by `cost` than any by `other`: for each feasible plan P some feasible plan
-- Q costs no more
abbrev pub NoWorse : List Limits → (List ℕ → ℕ) → (List ℕ → ℕ) → Type 0
NoWorse ss cost other = (P : List ℕ) → FeasiblePlan ss P → (Q : List ℕ) × (FeasiblePlan ss Q × (cost Q ≤ other P))

-- a feasible set may have v in place of w, if w is not required and v may be on
pub allows_exchange : (s : Limits) (x v w : ℕ) → bit x v ≡ 0 → bit x w ≡ 0 → bit s.lower w ≡ 0 → bit s.upper v ≡ 1
    → Allows s (insert x w) → Allows s (insert x v)
allows_exchange s x v w xv xw lw uv a =
    record {
      includes = λ u. omega (arith, subset_without x s.lower w a.includes lw u, subset_insert x v u);
      within = insert_subset x s.upper v (λ u. omega (arith, subset_insert x w u, a.within u)) uv;
      enough = omega (arith, size_insert x v xv, size_insert x w xw);
      few = omega (arith, size_insert x v xv, size_insert x w xw);
    }

-- Let b have neither v nor w, and let v stand for w. Then b with v is as good a start as b with w. Of a plan whose
-- first set p has v, or lacks w, nothing changes: v spares at least what w did. Else p has w and lacks v. Then v is
-- not required and w may be on, so v may take w's place in p, which costs the same from b with v as p does from b with
-- w. With p less w for b, the same holds of the steps that follow, over which v stands for w still.
pub exchange : (ss : List Limits) (b v w : ℕ) → bit b v ≡ 0 → bit b w ≡ 0 → StandsFor ss v w
    → NoWorse ss (total (insert b v)) (total (insert b w))
unfolding total StandsFor
exchange [] b v w bv bw st [] f = ([], (tt, omega arith))
exchange [] b v w bv bw st (p ∷ P) f = absurd f
exchange (s ∷ ss) b v w bv bw st [] f = absurd f
exchange (s ∷ ss) b v w bv bw st (p ∷ P) (a, f) = go (λ x. exchange ss x v w) (dec_le (bit p w) (bit p v))
  where
    go : ((x : ℕ) → bit x v ≡ 0 → bit x w ≡ 0 → StandsFor ss v w → NoWorse ss (total (insert x v)) (total (insert x w)))
        → Dec (bit p w ≤ bit p v) → (Q : List ℕ) × (FeasiblePlan (s ∷ ss) Q × (total (insert b v) Q ≤ switches (insert b w) p + total p P))
    go ih (yes h) = (p ∷ P, ((a, f), omega (arith, switches_from b p v, switches_from b p w)))
    go ih (no n) =
        let x = remove p w in
        let back = insert_remove p w (omega (arith, bit_le p w)) in
        let xv : bit x v ≡ 0 = omega (arith, bit_le p w, rw back at (subset_insert x w v)) in
        let xw = bit_remove p w in
        let may = st (omega (arith, bit_le p w, a.includes v)) (omega (arith, bit_le s.upper w, a.within w)) in
        let swapped = allows_exchange s x v w xv xw may.0 may.1.0 (subst (Allows s) (sym back) a) in
        let rest = ih x xv xw may.1.1 P f in
        let same = ap (λ (y : ℕ). switches (insert b w) y + total y P) back in
        (insert x v ∷ rest.0, ((swapped, rest.1.0), omega (arith, switches_both b x v xv, switches_both b x w xw)))
