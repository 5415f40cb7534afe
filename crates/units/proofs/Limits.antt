-- The test of a step gives the sizes of its feasible sets, and no other (`sizes_exact`). One way, a feasible set has
-- room for the lower set and fits in the upper one. The other way, units of the upper set join the lower set one by
-- one until it has the size that is asked for.
use mathlib.Core.Path.{◌≡◌, refl, sym, ◌∙◌}
use mathlib.Core.Logic.{◌↔◌}
use mathlib.Core.Bool.{Bool, true, false, cond, ◌&&◌, and-eq-true_iff, false≢true}
use Prim.Native.Nat.{ℕ, zero, suc, ◌+◌, ◌-◌, ◌≤◌}
use native.Mathlib.Omega.{arith}
use lib.Dec.{leb}
use borrow.Author.Tests.{leb-true, le-leb}
use Rattle.std.specs.Prelude.{Option, None, is_some}
use Rattle.units.specs.Sets.{Subset, is_subset, insert, size}
use Rattle.units.specs.Limits.{Feasible, least_size, greatest_size, between, feasible_sizes, HasSize, InOrder, has_feasible}
use Rattle.units.specs.declared.Sizes.{Sizes}
use Rattle.units.proofs.Sets.{insert_subset, size_insert, size_mono, subset_holds, subset_insert, subset_test, unit_outside}

-- two tests that hold in the same cases are the same
pub same_test : (a b : Bool) → (a ≡ true → b ≡ true) → (b ≡ true → a ≡ true) → a ≡ b
same_test true b f g = sym (f refl)
same_test false true f g = g refl
same_test false false f g = refl

-- a set between two others, with j units more than the lower one
set_between : (j lower upper : ℕ) → Subset lower upper → size lower + j ≤ size upper
    → (x : ℕ) × (Subset lower x × (Subset x upper × (size x ≡ size lower + j)))
set_between zero lower upper h room = (lower, ((λ u. omega arith), (h, omega arith)))
set_between (suc j) lower upper h room =
    let out = unit_outside upper lower (omega arith) in
    let v = out.0 in
    let grown = size_insert lower v out.1.1 in
    let rest = set_between j (insert lower v) upper (insert_subset lower upper v h out.1.0) (omega arith) in
    (rest.0, ((λ u. omega (arith, subset_insert lower v u, rest.1.0 u)), (rest.1.1.0, omega (arith, rest.1.1.1))))

module _ (lower upper least greatest : ℕ) where
  -- the two ends
  abbrev low : ℕ
  low = least_size lower least

  abbrev high : ℕ
  high = greatest_size upper greatest

  -- some feasible set has size k
  abbrev SomeOfSize : ℕ → Type 0
  SomeOfSize k = (x : ℕ) × (Feasible lower upper least greatest x × (size x ≡ k))

  -- the size of a feasible set lies between the ends
  between_ends : (x : ℕ) → Feasible lower upper least greatest x → (low ≤ size x) × (size x ≤ high)
  between_ends x f = (omega (arith, f.enough, size_mono lower x f.includes), omega (arith, f.few, size_mono x upper f.within))

  -- and each size between the ends is that of a feasible set
  of_size : Subset lower upper → (k : ℕ) → low ≤ k → k ≤ high → SomeOfSize k
  of_size h k l m =
      let (x, (includes, (within, is))) = set_between (k - size lower) lower upper h (omega arith) in
      (x, (record { includes = includes; within = within; enough = omega (arith, is); few = omega (arith, is) }, omega (arith, is)))

  -- What holds of the two ends, where the lower set is within the upper one and the ends are in order, and of `None`,
  -- where no set is feasible, holds of what the test gives.
  pub either_way : (P : Option Sizes → Type 0) → (Subset lower upper → low ≤ high → P (between low high))
      → (((x : ℕ) → Feasible lower upper least greatest x → ⊥) → P None) → P (feasible_sizes lower upper least greatest)
  unfolding feasible_sizes
  either_way P some none = go (is_subset lower upper && leb low high) refl
    where
      passes : (x : ℕ) → Feasible lower upper least greatest x → (is_subset lower upper && leb low high) ≡ true
      passes x f =
          let (l, m) = between_ends x f in
          simp (subset_test lower upper (λ u. omega (arith, f.includes u, f.within u)), le-leb low high (omega arith))

      go : (t : Bool) → (is_subset lower upper && leb low high) ≡ t → P (cond t (between low high) None)
      go true e = let p = (and-eq-true_iff (is_subset lower upper) (leb low high)).0 e in some (subset_holds lower upper p.0) (leb-true low high p.1)
      go false e = none (λ x f. false≢true (sym e ∙ passes x f))

  -- a number is the size of some feasible set exactly if it is one of the sizes
  pub sizes_exact : (k : ℕ) → SomeOfSize k ↔ HasSize (feasible_sizes lower upper least greatest) k
  sizes_exact k =
      either_way (λ z. SomeOfSize k ↔ HasSize z k)
      (λ h o. (λ (x, (f, is)). let (l, m) = between_ends x f in (omega arith, omega arith), λ (l, m). of_size h k l m))
      (λ none. (λ (x, (f, is)). none x f, λ z. absurd z))

  -- the least is at the most the greatest, so that both are sizes of feasible sets
  pub sizes_ordered : InOrder (feasible_sizes lower upper least greatest)
  sizes_ordered = either_way InOrder (λ h o. o) (λ none. tt)

  -- there is a feasible set exactly if there are sizes
  pub some_feasible : has_feasible lower upper least greatest ≡ true ↔ ((x : ℕ) × Feasible lower upper least greatest x)
  unfolding has_feasible
  some_feasible =
      either_way (λ z. is_some z ≡ true ↔ ((x : ℕ) × Feasible lower upper least greatest x))
      (λ h o. (λ t. let (x, (f, is)) = of_size h low (omega arith) o in (x, f), λ w. refl))
      (λ none. (λ t. absurd (false≢true t), λ (x, f). absurd (none x f)))

  -- of a set between the lower and the upper one, the numbers and the sizes say the same
  pub counted_by_sizes : (x : ℕ) → Subset lower x → Subset x upper
      → HasSize (feasible_sizes lower upper least greatest) (size x) ↔ ((least ≤ size x) × (size x ≤ greatest))
  counted_by_sizes x includes within =
      either_way (λ z. HasSize z (size x) ↔ ((least ≤ size x) × (size x ≤ greatest)))
      (λ h o. (λ (l, m). (omega arith, omega arith), λ (l, m). between_ends x (feasible l m)))
      (λ none. (λ z. absurd z, λ (l, m). none x (feasible l m)))
    where
      feasible : least ≤ size x → size x ≤ greatest → Feasible lower upper least greatest x
      feasible l m = record { includes = includes; within = within; enough = l; few = m }

  -- the limits allow some set exactly if they pass four tests
  pub four_tests : ((x : ℕ) × Feasible lower upper least greatest x)
      ↔ (Subset lower upper × ((least ≤ greatest) × ((size lower ≤ greatest) × (least ≤ size upper))))
  four_tests = (
    λ (x, f).
        let (l, m) = between_ends x f in
        ((λ u. omega (arith, f.includes u, f.within u)), (omega (arith, f.enough, f.few), (omega arith, omega arith))),
    λ (h, (p, (q, r))). let (x, (f, is)) = of_size h low (omega arith) (omega (arith, size_mono lower upper h)) in (x, f),
  )

  -- so limits that pass them pass the test of the code
  pub fits : Subset lower upper → least ≤ greatest → size lower ≤ greatest → least ≤ size upper → has_feasible lower upper least greatest ≡ true
  fits h p q r = some_feasible.1 (four_tests.1 (h, (p, (q, r))))
