-- The set that FindSupport takes in a step is greedy by the ranking (`support_in_lem`); so it is greedy with the steps
-- in view, for every ranking that fits them (`support_greedy`), and so is the plan, whatever orders break its ties
-- (`plan_greedy`).
use mathlib.Core.Path.{◌≡◌, refl}
use mathlib.Core.Bool.{Bool, true}
use mathlib.Core.List.{List, [], ◌∷◌}
use Prim.Native.Nat.{ℕ, ◌+◌, ◌-◌, ◌≤◌, min, max}
use native.Mathlib.Omega.{arith}
use lib.ListN.{length}
use Rattle.units.specs.Sets.{bit, union, intersection, difference, size}
use Rattle.units.proofs.Limits.{some_feasible}
use Rattle.units.proofs.Sets.{bit_le, bit_union, bit_intersection, bit_difference, bit_le_size, size_mono, size_difference, size_difference_le, size_union}
use Rattle.plans.specs.declared.Limits.{Limits}
use Rattle.plans.specs.Switch.{Satisfiable, Allows}
use Rattle.plans.specs.Support.{taken, ranks_by, support_set, support_from, find_support_by}
use Rattle.plans.proofs.Chosen.{Chosen, taken_chosen}
use Rattle.plans.proofs.Orders.{Ordered, mirror_ordered}
use Rattle.plans.proofs.Ranks.{Refines, ranks_refines}
use Rattle.plans.proofs.Stands.{StandsFor, Greedy, GreedyIn, GreedyPlan}

-- ---- the set of a step

-- what is known of one unit: its digits in the set before, in the step's lower and upper set, and in those that
-- `support_set` goes through
record Digits (before lower upper begun leaving kept joining support : ℕ) : Type 0 where
  digit : before ≤ 1
  room : lower ≤ upper
  begin : begun ≡ max (min before upper) lower
  leave : leaving ≤ begun - lower
  keep : kept ≡ begun - leaving
  join : joining ≤ upper - kept
  take : support ≡ max kept joining

module _ (ranks : ℕ → ℕ → Bool) (s : Limits) (before : ℕ) where
  -- the sets of `support_set`, by name
  begun : ℕ
  begun = union (intersection before s.upper) s.lower

  leaving : ℕ
  leaving = taken (λ u v. ranks v u) (size begun - s.greatest) (difference begun s.lower)

  kept : ℕ
  kept = difference begun leaving

  joining : ℕ
  joining = taken ranks (s.least - size kept) (difference s.upper kept)

  -- so `support_set` is this
  support_is : support_set ranks s before ≡ union kept joining
  unfolding support_set begun leaving kept joining
  support_is = refl

  module _ (o : Ordered ranks) (x : ℕ) (f : Allows s x) where
    -- there are as many units to leave and to join as are wanted
    leaving_chosen : Chosen (λ u v. ranks v u) (size begun - s.greatest) (difference begun s.lower) leaving
    unfolding leaving
    leaving_chosen = taken_chosen (mirror_ordered o) _ _ (omega (arith, size_difference_le begun s.lower, size_mono s.lower x f.includes))

    joining_chosen : Chosen ranks (s.least - size kept) (difference s.upper kept) joining
    unfolding joining
    joining_chosen = taken_chosen o _ _ (omega (arith, size_difference_le s.upper kept, size_mono x s.upper f.within))

    -- so this holds of each unit
    digits_of : (u : ℕ)
        → Digits (bit before u) (bit s.lower u) (bit s.upper u) (bit begun u) (bit leaving u) (bit kept u) (bit joining u)
        (bit (support_set ranks s before) u)
    unfolding begun kept
    digits_of u = record {
      digit = bit_le before u;
      room = omega (arith, f.includes u, f.within u);
      begin = omega (arith, bit_union (intersection before s.upper) s.lower u, bit_intersection before s.upper u);
      leave = omega (arith, leaving_chosen.inside u, bit_difference begun s.lower u);
      keep = bit_difference begun leaving u;
      join = omega (arith, joining_chosen.inside u, bit_difference s.upper kept u);
      take = rw support_is (bit_union kept joining u);
    }

    -- and this of the sizes
    kept_size : size kept ≡ min (size begun) s.greatest
    unfolding kept
    kept_size = omega (arith, size_difference begun leaving (λ u. omega (arith, digits_of u)), leaving_chosen.counted)

    support_size : size (support_set ranks s before) ≡ max (size kept) s.least
    support_size =
        rw support_is (omega (arith, size_union kept joining (λ u. omega (arith, digits_of u, bit_le s.upper u)), joining_chosen.counted))

    -- The set of the step is greedy by the ranking. Where a unit leaves, there were more than the greatest number, so
    -- that none joins, and each unit that is kept and not required ranks before it. Where a unit joins, fewer than the
    -- least number were kept, and it ranks before all that may be on and are not.
    pub support_in_lem : GreedyIn ranks s before (support_set ranks s before)
    support_in_lem = record {
      allowed = record {
        includes = λ u. omega (arith, digits_of u);
        within = λ u. omega (arith, digits_of u);
        enough = omega (arith, support_size);
        few = omega (arith, support_size, kept_size);
      };
      leaves = λ w b a g.
          let left : bit leaving w ≡ 1 = omega (arith, digits_of w) in
          let full : size kept ≡ s.greatest = omega (arith, kept_size, bit_le_size leaving w, leaving_chosen.counted) in (
            omega (arith, support_size),
            λ v t l.
                let none : bit joining v ≡ 0 = omega (arith, bit_le_size joining v, joining_chosen.counted) in
                let stays : bit (difference begun s.lower) v ≡ 1 = omega (arith, digits_of v, bit_difference begun s.lower v) in
                (omega (arith, digits_of v), leaving_chosen.ahead w v left stays (omega (arith, digits_of v))),
          );
      joins = λ v t b l.
          let joined : bit joining v ≡ 1 = omega (arith, digits_of v) in (
            omega (arith, support_size, bit_le_size joining v, joining_chosen.counted),
            λ w a g.
                let free : bit (difference s.upper kept) w ≡ 1 = omega (arith, digits_of w, bit_difference s.upper kept w) in
                joining_chosen.ahead v w joined free (omega (arith, digits_of w)),
          );
    }

  -- If the ranking fits, a unit that ranks before another stands for it over the later steps, where it is not required
  -- now and the other is allowed now. So the set is greedy with those steps in view.
  pub support_greedy : (ss : List Limits) → Refines (s ∷ ss) ranks → (x : ℕ) → Allows s x → Greedy s ss before (support_set ranks s before)
  unfolding StandsFor
  support_greedy ss r x f =
      let g = support_in_lem r.ordered x f in
      record {
        allowed = g.allowed;
        leaves = λ w b a z. let q = g.leaves w b a z in (q.0, λ v t l. ((q.1 v t l).0, after v w (q.1 v t l).1 l a));
        joins = λ v t b l. let q = g.joins v t b l in (q.0, λ w a z. after v w (q.1 w a z) l a);
      }
    where
      after : (v w : ℕ) → ranks v w ≡ true → bit s.lower v ≡ 0 → bit s.upper w ≡ 1 → StandsFor ss v w
      after v w h l a = (r.stands v w h l a).1.1

-- ---- the plan

-- whatever orders break ties
module _ {ties : ℕ → ℕ → ℕ → Bool} (o : (i : ℕ) → Ordered (ties i)) where
  -- the sets of the steps from i on are greedy
  support_from_greedy : (n i before : ℕ) (ss : List Limits) → i + length ss ≡ n + 1 → Satisfiable ss
      → GreedyPlan before ss (support_from ties n i before ss)
  unfolding GreedyPlan support_from
  support_from_greedy n i before [] h f = tt
  support_from_greedy n i before (s ∷ ss) h f =
      let x = (some_feasible s.lower s.upper s.least s.greatest).0 f.0 in (
        support_greedy (ranks_by (ties i) n i (s ∷ ss)) s before ss (ranks_refines (o i) n i (s ∷ ss) h) x.0 x.1,
        support_from_greedy n (i + 1) _ ss (omega arith) f.1,
      )

  -- and so is the plan
  pub plan_greedy : (start : ℕ) (ss : List Limits) → Satisfiable ss → GreedyPlan start ss (find_support_by ties start ss)
  unfolding find_support_by
  plan_greedy start ss f = support_from_greedy (length ss) 1 start ss (omega arith) f
