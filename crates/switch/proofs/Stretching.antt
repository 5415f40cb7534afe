-- Steps on end taken as one: where the units that go first are the whole first group of all these steps and, beyond
-- it, only undecided units, one look finds them (`stretch_taken`).
--
-- By induction on the steps. The first step's groups are parts of those of all, so it can be passed too: its first
-- group is taken, its last is left, and the others are chosen among the units that it leaves undecided, where the same
-- holds for the steps after it.
use mathlib.Core.Path.{◌≡◌, refl, sym, ap, ◌∙◌}
use mathlib.Core.Bool.{Bool, true, false, ◌&&◌, and-eq-true_iff}
use mathlib.Core.List.{List, [], ◌∷◌, ◌++◌}
use Prim.Native.Nat.{ℕ, zero, suc, ◌+◌, ◌-◌, ◌^◌, ◌≤◌, ◌<◌, min, max}
use native.Mathlib.Omega.{arith}
use borrow.Author.Tests.{eqb-true}
use lib.Dec.{eqb}
use lib.ListN.{length, length-append}
use Rattle.units.specs.Sets.{all, bit, union, intersection, size}
use Rattle.units.proofs.Sets.{bit_difference, bit_empty, bit_intersection, bit_le, bit_union, set_ext, size_empty, size_union, subset_below, subset_full, union_assoc, union_empty_left}
use Rattle.plans.specs.Support.{ranks_before, taken}
use Rattle.plans.specs.declared.Limits.{Limits}
use Rattle.switch.specs.Groups.{undecided, required, forbidden, group}
use Rattle.switch.specs.Stretches.{required_in, allowed_in}
use Rattle.switch.specs.Toward.{toward}
use Rattle.switch.proofs.Picking.{group_bits, group_apart, group_room, group_within, taken_far}

-- ---- what no step decides

none_decided : (last : Bool) (rest : ℕ) → rest < 2 ^ 64 → group last 0 all rest ≡ 0
none_decided true rest h = set_ext (forbidden all rest) 0 (λ u. omega (arith, bit_difference rest all u, subset_full 64 rest h u, bit_empty u))
none_decided false rest h = set_ext (required 0 all rest) 0 (λ u. omega (arith, bit_intersection (intersection rest all) 0 u, bit_empty u))

all_undecided : (rest : ℕ) → rest < 2 ^ 64 → undecided 0 all rest ≡ rest
all_undecided rest h =
    set_ext (undecided 0 all rest) rest
    (λ u. omega (arith, bit_difference (intersection rest all) 0 u, bit_intersection rest all u, subset_full 64 rest h u, bit_empty u))

-- ---- the sets of a step and those of the steps after it

-- a test of five bits holds if it does for all their values
both : (ℕ → Bool) → Bool
both f = f 0 && f 1

abbrev all_values : (ℕ → ℕ → ℕ → ℕ → ℕ → Bool) → Bool
all_values f = both (λ r. both (λ l. both (λ p. both (λ m. both (f r l p m)))))

both_hold : (f : ℕ → Bool) → both f ≡ true → (x : ℕ) → x ≤ 1 → f x ≡ true
unfolding both
both_hold f e zero h = ((and-eq-true_iff (f 0) (f 1)).0 e).0
both_hold f e (suc zero) h = ((and-eq-true_iff (f 0) (f 1)).0 e).1
both_hold f e (suc (suc x)) h = absurd (omega arith)

tried : (f : ℕ → ℕ → ℕ → ℕ → ℕ → Bool) → all_values f ≡ true → (r l p m q : ℕ) → r ≤ 1 → l ≤ 1 → p ≤ 1 → m ≤ 1 → q ≤ 1 → f r l p m q ≡ true
tried f e r l p m q a b c d h =
    both_hold (f r l p m)
    (both_hold (λ m. both (f r l p m))
    (both_hold (λ p. both (λ m. both (f r l p m)))
    (both_hold (λ l. both (λ p. both (λ m. both (f r l p m)))) (both_hold (λ r. both (λ l. both (λ p. both (λ m. both (f r l p m))))) e r a) l b) p c) m d) q h

-- The groups of the step and then those of the steps after it are the groups of all together. Here l and p are the
-- sets of the step, m and q those of the steps after it.
module _ (l p m q rest : ℕ) where
  abbrev later : ℕ
  later = undecided l p rest

  abbrev lowers : ℕ
  lowers = union l m

  abbrev uppers : ℕ
  uppers = intersection p (union l q)

  bits : (f : ℕ → ℕ → ℕ → ℕ → ℕ → Bool) → all_values f ≡ true → (u : ℕ) → f (bit rest u) (bit l u) (bit p u) (bit m u) (bit q u) ≡ true
  bits f e u = tried f e (bit rest u) (bit l u) (bit p u) (bit m u) (bit q u) (bit_le rest u) (bit_le l u) (bit_le p u) (bit_le m u) (bit_le q u)

  both_undecided : undecided lowers uppers rest ≡ undecided m q later
  unfolding both
  both_undecided =
      set_ext (undecided lowers uppers rest) (undecided m q later)
      (λ u. eqb-true _ _ (rw ((group_bits lowers uppers rest u).0, (group_bits m q later u).0, (group_bits l p rest u).0, bit_intersection p (union l q) u, bit_union l q u, bit_union l m u)
      (bits (λ r l p m q. eqb (min r (min p (max l q)) - max l m) (min (min r p - l) q - m)) refl u)))

  both_group : (last : Bool) → group last lowers uppers rest ≡ union (group last l p rest) (group last m q later)
  unfolding both
  both_group true =
      set_ext (forbidden uppers rest) (union (forbidden p rest) (forbidden q later))
      (λ u. eqb-true _ _ (rw (bit_union (forbidden p rest) (forbidden q later) u, (group_bits lowers uppers rest u).1.1.0, (group_bits m q later u).1.1.0, (group_bits l p rest u).0, (group_bits l p rest u).1.1.0, bit_intersection p (union l q) u, bit_union l q u)
      (bits (λ r l p m q. eqb (r - min p (max l q)) (max (r - p) (min r p - l - q))) refl u)))
  both_group false =
      set_ext (required lowers uppers rest) (union (required l p rest) (required m q later))
      (λ u. eqb-true _ _ (rw (bit_union (required l p rest) (required m q later) u, (group_bits lowers uppers rest u).1.0, (group_bits m q later u).1.0, (group_bits l p rest u).0, (group_bits l p rest u).1.0, bit_intersection p (union l q) u, bit_union l q u, bit_union l m u)
      (bits (λ r l p m q. eqb (min (min r (min p (max l q))) (max l m)) (max (min (min r p) l) (min (min (min r p - l) q) m))) refl u)))

both_size : (last : Bool) (l p m q rest : ℕ)
    → size (group last (union l m) (intersection p (union l q)) rest) ≡ size (group last l p rest) + size (group last m q (undecided l p rest))
both_size last l p m q rest =
    ap size (both_group l p m q rest last)
    ∙ size_union (group last l p rest) (group last m q (undecided l p rest))
    (λ u. omega (arith, group_apart last l p rest u, group_within last m q (undecided l p rest) u, bit_le rest u))

-- ---- the units that go first, by a look at all the steps

-- the groups of some steps
abbrev pub group_in : Bool → List Limits → ℕ → ℕ
group_in last ts rest = group last (required_in ts) (allowed_in ts) rest

abbrev pub undecided_in : List Limits → ℕ → ℕ
undecided_in ts rest = undecided (required_in ts) (allowed_in ts) rest

pub stretch_taken : (last : Bool) (n i : ℕ) (ts ss : List Limits) → i + (length ts + length ss) ≡ n + 1 → (k rest : ℕ) → rest < 2 ^ 64
    → size (group_in last ts rest) ≤ k
    → k - size (group_in last ts rest) ≤ size (undecided_in ts rest)
    → taken (toward last (ranks_before n i (ts ++ ss))) k rest
    ≡ union (group_in last ts rest) (taken (toward last (ranks_before n (i + length ts) ss)) (k - size (group_in last ts rest)) (undecided_in ts rest))
unfolding required_in allowed_in
stretch_taken last n i [] ss h k rest small few fit =
    let none = none_decided last rest small in
    let order = toward last (ranks_before n (i + 0) ss) in
    let same : i ≡ i + 0 = omega arith in
    let less : k ≡ k - size (group last 0 all rest) = omega (arith, ap size none, size_empty) in
    ap (λ (j : ℕ). taken (toward last (ranks_before n j ss)) k rest) same
    ∙ ap (λ (m : ℕ). taken order m rest) less
    ∙ ap (taken order (k - size (group last 0 all rest))) (sym (all_undecided rest small))
    ∙ sym (union_empty_left (taken order (k - size (group last 0 all rest)) (undecided 0 all rest)))
    ∙ ap (λ (x : ℕ). union x (taken order (k - size (group last 0 all rest)) (undecided 0 all rest))) (sym none)
stretch_taken last n i (s ∷ ts) ss h k rest small few fit =
    let l = s.lower in
    let p = s.upper in
    let m = required_in ts in
    let q = allowed_in ts in
    let later = undecided l p rest in
    let first = group last l p rest in
    let second = group last m q later in
    let whole = group last (union l m) (intersection p (union l q)) rest in
    let sum : size whole ≡ size first + size second = both_size last l p m q rest in
    let undecided-is = both_undecided l p m q rest in
    let room = group_room last m q later in
    let enough : k - size first ≤ size later = omega (arith, ap size undecided-is) in
    let less : k - size first - size second ≡ k - size whole = omega arith in
    let at : i + 1 + length ts ≡ i + length (s ∷ ts) = omega arith in
    taken_far n i s (ts ++ ss) (omega (arith, length-append ts ss)) rest last k (omega arith) (omega (arith, group_room last l p rest)) enough
    ∙ ap (union first) (stretch_taken last n (i + 1) ts ss (omega arith) (k - size first) later (subset_below 64 later rest (λ u. omega (arith, group_apart last l p rest u)) small) (omega arith) (omega (arith, ap size undecided-is)))
    ∙ sym (union_assoc first second _)
    ∙ ap (λ (x : ℕ). union x (taken (toward last (ranks_before n (i + 1 + length ts) ss)) (k - size first - size second) (undecided m q later))) (sym (both_group l p m q rest last))
    ∙ ap (λ (x : ℕ). union whole (taken (toward last (ranks_before n (i + 1 + length ts) ss)) x (undecided m q later))) less
    ∙ ap (λ (x : ℕ). union whole (taken (toward last (ranks_before n (i + 1 + length ts) ss)) (k - size whole) x)) (sym undecided-is)
    ∙ ap (λ (j : ℕ). union whole (taken (toward last (ranks_before n j ss)) (k - size whole) (undecided (union l m) (intersection p (union l q)) rest))) at
