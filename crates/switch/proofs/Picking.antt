-- How a look at one step finds the first units of a set in a ranking.
--
-- At a step the units fall into three groups: those required now, those that the step leaves open, and those forbidden
-- now. The first group ranks before the second and that before the third; within the first and the third the tie order
-- decides, and the second is ranked as from the next step on. So the first k units are taken from the groups in turn
-- (`taken_front`, `taken_past`). The last k are found in the same way from the other end.
use mathlib.Core.Path.{◌≡◌, refl, sym, ap, ap₂, ◌∙◌, subst, subst₃}
use mathlib.Core.Logic.{◌⊎◌, inl, inr}
use mathlib.Core.Bool.{Bool, true, false, not}
use mathlib.Core.List.{List, [], ◌∷◌}
use Prim.Native.Nat.{ℕ, suc, ◌+◌, ◌-◌, ◌≤◌, ◌<◌, min}
use native.Mathlib.Omega.{arith}
use lib.ListN.{length}
use Rattle.units.specs.Sets.{bit, union, intersection, difference, Subset, remove, size}
use Rattle.units.proofs.Sets.{bit_le, bit_cases, bit_union, bit_intersection, bit_difference, set_ext, union_assoc, union_empty_right, difference_empty, difference_insert, difference_twice, size_mono, size_none, size_remove, size_difference, size_union}
use Rattle.switch.specs.Groups.{undecided, required, forbidden, group}
use Rattle.switch.specs.Toward.{toward}
use Rattle.plans.specs.Steps.{limits}
use Rattle.switch.specs.Looked.{Looked}
use Rattle.switch.specs.declared.pick.Pick.{Pick}
use Rattle.switch.specs.declared.stretch.Stretch.{Stretch}
use Rattle.plans.specs.Support.{tie_order, ranks_before, members, first_in, taken}
use Rattle.plans.specs.declared.Limits.{Limits}
use Rattle.plans.proofs.Chosen.{Chosen, first_of_set, taken_chosen, chosen_unique}
use Rattle.plans.proofs.Orders.{Ordered, mirror_ordered, tie_ordered}
use Rattle.plans.proofs.Ranks.{required_better, allowed_better, required_tied, forbidden_tied, open_ranked, better_ranks, ranks_ordered}

-- ---- a group of c that goes before the rest of it

module _ {before : ℕ → ℕ → Bool} (c a : ℕ) (part : Subset a c) (front : (v w : ℕ) → bit a v ≡ 1 → bit c w ≡ 1 → bit a w ≡ 0 → before v w ≡ true) where
  -- the first units of the group are the first of all
  front_chosen : {k g : ℕ} → Chosen before k a g → Chosen before k c g
  front_chosen {k} {g} h =
      record { inside = λ u. omega (arith, h.inside u, part u); counted = h.counted; ahead = λ v w p q r. go v w p q r (bit_cases a w) }
    where
      go : (v w : ℕ) → bit g v ≡ 1 → bit c w ≡ 1 → bit g w ≡ 0 → (bit a w ≡ 0) ⊎ (bit a w ≡ 1) → before v w ≡ true
      go v w p q r (inl e) = front v w (omega (arith, h.inside v, bit_le a v)) q e
      go v w p q r (inr e) = h.ahead v w p e r

  -- the whole group with the first units of the rest are the first of all
  past_chosen : {k g : ℕ} → Chosen before k (difference c a) g → Chosen before (size a + k) c (union a g)
  past_chosen {k} {g} h =
      record {
        inside = λ u. omega (arith, h.inside u, part u, bit_union a g u, bit_difference c a u);
        counted = omega (arith, size_union a g (λ u. omega (arith, h.inside u, bit_difference c a u, bit_le a u, bit_le c u)), h.counted);
        ahead = λ v w p q r. go v w p q r (bit_cases a v);
      }
    where
      go : (v w : ℕ) → bit (union a g) v ≡ 1 → bit c w ≡ 1 → bit (union a g) w ≡ 0 → (bit a v ≡ 0) ⊎ (bit a v ≡ 1) → before v w ≡ true
      go v w p q r (inr e) = front v w e q (omega (arith, bit_union a g w))
      go v w p q r (inl e) =
          h.ahead v w (omega (arith, bit_union a g v)) (omega (arith, bit_difference c a w, bit_union a g w)) (omega (arith, bit_union a g w))

-- an order that agrees on the units of c has the same first units
same_chosen : {before after : ℕ → ℕ → Bool} {k c g : ℕ} → ((v w : ℕ) → bit c v ≡ 1 → bit c w ≡ 1 → before v w ≡ after v w)
    → Chosen before k c g → Chosen after k c g
same_chosen {before} {after} {k} {c} {g} e h =
    record {
      inside = h.inside;
      counted = h.counted;
      ahead = λ v w p q r. sym (e v w (omega (arith, h.inside v, bit_le c v)) q) ∙ h.ahead v w p q r;
    }

-- ---- the first units of a set, by a group that goes before the rest

module _ {before : ℕ → ℕ → Bool} (o : Ordered before) (c a : ℕ) (part : Subset a c)
    (front : (v w : ℕ) → bit a v ≡ 1 → bit c w ≡ 1 → bit a w ≡ 0 → before v w ≡ true) where
  pub taken_front : (k : ℕ) → k ≤ size a → taken before k c ≡ taken before k a
  taken_front k h =
      chosen_unique o (taken_chosen o k c (omega (arith, size_mono a c part))) (front_chosen c a part front (taken_chosen o k a h))

  pub taken_past : (k : ℕ) → size a ≤ k → k ≤ size c → taken before k c ≡ union a (taken before (k - size a) (difference c a))
  taken_past k h l =
      let sum : size a + (k - size a) ≡ k = omega arith in
      chosen_unique o (taken_chosen o k c l)
      (subst (λ (m : ℕ). Chosen before m c (union a (taken before (k - size a) (difference c a)))) sum
      (past_chosen c a part front (taken_chosen o (k - size a) (difference c a) (omega (arith, size_difference c a part)))))

pub taken_same : {before after : ℕ → ℕ → Bool} → Ordered before → Ordered after → (k c : ℕ) → k ≤ size c
    → ((v w : ℕ) → bit c v ≡ 1 → bit c w ≡ 1 → before v w ≡ after v w) → taken before k c ≡ taken after k c
taken_same o q k c h e = chosen_unique q (same_chosen e (taken_chosen o k c h)) (taken_chosen q k c h)

pub toward_ordered : (last : Bool) {before : ℕ → ℕ → Bool} → Ordered before → Ordered (toward last before)
toward_ordered false o = o
toward_ordered true o = mirror_ordered o

pub tie_toward : (last : Bool) → Ordered (toward last tie_order)
tie_toward last = toward_ordered last tie_ordered

-- ---- the groups of a step

module _ (n i : ℕ) (s : Limits) (ss : List Limits) (h : i + length (s ∷ ss) ≡ n + 1) where
  -- a unit that may be on ranks before one that may not, and one that must be on before one that need not
  allowed_first : (u v : ℕ) → bit s.upper u ≡ 1 → bit s.upper v ≡ 0 → ranks_before n i (s ∷ ss) u v ≡ true
  allowed_first u v p q = better_ranks tie_order n i (s ∷ ss) u v (allowed_better n i s ss h u v p q)

  required_first_lem : (u v : ℕ) → bit s.lower u ≡ 1 → bit s.upper u ≡ 1 → bit s.lower v ≡ 0 → ranks_before n i (s ∷ ss) u v ≡ true
  required_first_lem u v p q r = better_ranks tie_order n i (s ∷ ss) u v (required_better n i s ss h u v p q r)

-- ---- the groups of the units of `rest`

-- which group a unit is in
abbrev GroupBits : ℕ → ℕ → ℕ → ℕ → Type 0
GroupBits lower upper rest u =
    (bit (undecided lower upper rest) u ≡ min (bit rest u) (bit upper u) - bit lower u) × ((bit (required lower upper rest) u ≡ min (min (bit rest u) (bit upper u)) (bit lower u)) × ((bit (forbidden upper rest) u ≡ bit rest u - bit upper u) × ((bit rest u ≤ 1) × ((bit upper u ≤ 1) × (bit lower u ≤ 1)))))

pub group_bits : (lower upper rest u : ℕ) → GroupBits lower upper rest u
group_bits lower upper rest u = (
  bit_difference (intersection rest upper) lower u ∙ ap (λ (x : ℕ). x - bit lower u) (bit_intersection rest upper u),
  (
    bit_intersection (intersection rest upper) lower u ∙ ap (λ (x : ℕ). min x (bit lower u)) (bit_intersection rest upper u),
    (bit_difference rest upper u, (bit_le rest u, (bit_le upper u, bit_le lower u))),
  ),
)

-- a group and the undecided units are apart, and units of `rest`
module _ (last : Bool) (lower upper rest : ℕ) where
  pub group_apart : (u : ℕ) → bit (group last lower upper rest) u + bit (undecided lower upper rest) u ≤ bit rest u
  group_apart u = go last
    where
      go : (b : Bool) → bit (group b lower upper rest) u + bit (undecided lower upper rest) u ≤ bit rest u
      go true = omega (arith, group_bits lower upper rest u)
      go false = omega (arith, group_bits lower upper rest u)

  pub group_within : Subset (group last lower upper rest) rest
  group_within u = omega (arith, group_apart u)

  pub group_room : size (group last lower upper rest) + size (undecided lower upper rest) ≤ size rest
  group_room =
      omega (arith, size_union (group last lower upper rest) (undecided lower upper rest) (λ u. omega (arith, group_apart u, bit_le rest u)), size_mono (union (group last lower upper rest) (undecided lower upper rest)) rest (λ u. omega (arith, bit_union (group last lower upper rest) (undecided lower upper rest) u, group_apart u)))

  -- where all are undecided, the group is empty
  pub group_none : undecided lower upper rest ≡ rest → size (group last lower upper rest) ≡ 0
  group_none e = omega (arith, group_room, ap size e)

module _ (n i : ℕ) (s : Limits) (ss : List Limits) (h : i + length (s ∷ ss) ≡ n + 1) (rest : ℕ) where
  all_bits : (u : ℕ) → GroupBits s.lower s.upper rest u
  all_bits u = group_bits s.lower s.upper rest u

  first_front : (last : Bool) (v w : ℕ) → bit (group last s.lower s.upper rest) v ≡ 1 → bit rest w ≡ 1 → bit (group last s.lower s.upper rest) w ≡ 0
      → toward last (ranks_before n i (s ∷ ss)) v w ≡ true
  first_front true v w p q r = allowed_first n i s ss h w v (omega (arith, all_bits w)) (omega (arith, all_bits v))
  first_front false v w p q r = go (bit_cases s.upper w)
    where
      go : (bit s.upper w ≡ 0) ⊎ (bit s.upper w ≡ 1) → ranks_before n i (s ∷ ss) v w ≡ true
      go (inl e) = allowed_first n i s ss h v w (omega (arith, all_bits v)) e
      go (inr e) = required_first_lem n i s ss h v w (omega (arith, all_bits v)) (omega (arith, all_bits v)) (omega (arith, all_bits w))

  first_tied : (last : Bool) (v w : ℕ) → bit (group last s.lower s.upper rest) v ≡ 1 → bit (group last s.lower s.upper rest) w ≡ 1
      → toward last (ranks_before n i (s ∷ ss)) v w ≡ toward last tie_order v w
  first_tied true v w p q = forbidden_tied n i s ss h tie_order w v (omega (arith, all_bits w)) (omega (arith, all_bits v))
  first_tied false v w p q =
      required_tied n i s ss h tie_order v w (omega (arith, all_bits v)) (omega (arith, all_bits v)) (omega (arith, all_bits w)) (omega (arith, all_bits w))

  -- what is not in the first group
  others : Bool → ℕ
  others last = difference rest (group last s.lower s.upper rest)

  far : ℕ
  far = undecided s.lower s.upper rest

  far_part : (last : Bool) → Subset far (others last)
  unfolding far others
  far_part true u = omega (arith, all_bits u, bit_difference rest (forbidden s.upper rest) u)
  far_part false u = omega (arith, all_bits u, bit_difference rest (required s.lower s.upper rest) u)

  far_front : (last : Bool) (v w : ℕ) → bit far v ≡ 1 → bit (others last) w ≡ 1 → bit far w ≡ 0 → toward last (ranks_before n i (s ∷ ss)) v w ≡ true
  unfolding far others
  far_front true v w p q r =
      required_first_lem n i s ss h w v (omega (arith, all_bits w, bit_difference rest (forbidden s.upper rest) w)) (omega (arith, all_bits w, bit_difference rest (forbidden s.upper rest) w)) (omega (arith, all_bits v))
  far_front false v w p q r =
      allowed_first n i s ss h v w (omega (arith, all_bits v)) (omega (arith, all_bits w, bit_difference rest (required s.lower s.upper rest) w))

  far_open : (last : Bool) (v w : ℕ) → bit far v ≡ 1 → bit far w ≡ 1 → toward last (ranks_before n i (s ∷ ss)) v w ≡ toward last (ranks_before n (i + 1) ss) v w
  unfolding far
  far_open true v w p q = open_ranked n i s ss h tie_order w v (omega (arith, all_bits w)) (omega (arith, all_bits w)) (omega (arith, all_bits v)) (omega (arith, all_bits v))
  far_open false v w p q = open_ranked n i s ss h tie_order v w (omega (arith, all_bits v)) (omega (arith, all_bits v)) (omega (arith, all_bits w)) (omega (arith, all_bits w))

  end_is : (last : Bool) → difference (others last) far ≡ group (not last) s.lower s.upper rest
  unfolding far others
  end_is true =
      set_ext (difference (others true) far) (required s.lower s.upper rest)
      (λ u. omega (arith, all_bits u, bit_difference (others true) far u, bit_difference rest (forbidden s.upper rest) u))
  end_is false =
      set_ext (difference (others false) far) (forbidden s.upper rest)
      (λ u. omega (arith, all_bits u, bit_difference (others false) far u, bit_difference rest (required s.lower s.upper rest) u))

  end_tied : (last : Bool) (v w : ℕ) → bit (group (not last) s.lower s.upper rest) v ≡ 1 → bit (group (not last) s.lower s.upper rest) w ≡ 1
      → toward last (ranks_before n i (s ∷ ss)) v w ≡ toward last tie_order v w
  end_tied true v w p q =
      required_tied n i s ss h tie_order w v (omega (arith, all_bits w)) (omega (arith, all_bits w)) (omega (arith, all_bits v)) (omega (arith, all_bits v))
  end_tied false v w p q = forbidden_tied n i s ss h tie_order v w (omega (arith, all_bits v)) (omega (arith, all_bits w))

  module _ (last : Bool) (k : ℕ) where
    ranked : Ordered (toward last (ranks_before n i (s ∷ ss)))
    ranked = toward_ordered last (ranks_ordered tie_ordered n i (s ∷ ss))

    -- all are in the first group
    pub taken_first : k ≤ size (group last s.lower s.upper rest)
        → taken (toward last (ranks_before n i (s ∷ ss))) k rest ≡ taken (toward last tie_order) k (group last s.lower s.upper rest)
    taken_first l =
        taken_front ranked rest (group last s.lower s.upper rest) (group_within last s.lower s.upper rest) (first_front last) k l
        ∙ taken_same ranked (tie_toward last) k (group last s.lower s.upper rest) l (first_tied last)

    module _ (l : size (group last s.lower s.upper rest) ≤ k) (m : k ≤ size rest) where
      past_first : taken (toward last (ranks_before n i (s ∷ ss))) k rest
          ≡ union (group last s.lower s.upper rest) (taken (toward last (ranks_before n i (s ∷ ss))) (k - size (group last s.lower s.upper rest)) (others last))
      unfolding others
      past_first = taken_past ranked rest (group last s.lower s.upper rest) (group_within last s.lower s.upper rest) (first_front last) k l m

      room : k - size (group last s.lower s.upper rest) ≤ size (others last)
      unfolding others
      room = omega (arith, size_difference rest (group last s.lower s.upper rest) (group_within last s.lower s.upper rest))

      -- the first group is, and the others are among those left open
      pub taken_far : k - size (group last s.lower s.upper rest) ≤ size (undecided s.lower s.upper rest)
          → taken (toward last (ranks_before n i (s ∷ ss))) k rest
          ≡ union (group last s.lower s.upper rest) (taken (toward last (ranks_before n (i + 1) ss)) (k - size (group last s.lower s.upper rest)) (undecided s.lower s.upper rest))
      unfolding far
      taken_far p =
          past_first
          ∙ ap (union (group last s.lower s.upper rest))
          (taken_front ranked (others last) far (far_part last) (far_front last) (k - size (group last s.lower s.upper rest)) p
          ∙ taken_same ranked (toward_ordered last (ranks_ordered tie_ordered n (i + 1) ss)) (k - size (group last s.lower s.upper rest)) far p (far_open last))

      end_room : size (undecided s.lower s.upper rest) ≤ k - size (group last s.lower s.upper rest)
          → k - size (group last s.lower s.upper rest) - size (undecided s.lower s.upper rest) ≤ size (group (not last) s.lower s.upper rest)
      unfolding far
      end_room p = omega (arith, room, size_difference (others last) far (far_part last), ap size (end_is last))

      -- the first group and those left open are, and the others are in the last group
      pub taken_end : size (undecided s.lower s.upper rest) ≤ k - size (group last s.lower s.upper rest)
          → taken (toward last (ranks_before n i (s ∷ ss))) k rest
          ≡ union (group last s.lower s.upper rest) (union (undecided s.lower s.upper rest) (taken (toward last tie_order) (k - size (group last s.lower s.upper rest) - size (undecided s.lower s.upper rest)) (group (not last) s.lower s.upper rest)))
      unfolding far
      taken_end p =
          past_first
          ∙ ap (union (group last s.lower s.upper rest))
          (taken_past ranked (others last) far (far_part last) (far_front last) (k - size (group last s.lower s.upper rest)) p room
          ∙ ap (λ x. union far (taken (toward last (ranks_before n i (s ∷ ss))) (k - size (group last s.lower s.upper rest) - size far) x)) (end_is last)
          ∙ ap (union far) (taken_same ranked (tie_toward last) (k - size (group last s.lower s.upper rest) - size far) (group (not last) s.lower s.upper rest) (end_room p) (end_tied last)))

-- ---- by the tie order, one unit after the other

-- what the first `left` units leave of `rest` is what the first k leave of c
pub record Cleared (before : ℕ → ℕ → Bool) (c k rest left : ℕ) : Type 0 where
  pub enough : left ≤ size rest
  pub leaves : difference rest (taken before left rest) ≡ difference c (taken before k c)

pub clear_on : {before : ℕ → ℕ → Bool} → Ordered before → (c k rest left : ℕ) → 0 < left → Cleared before c k rest left
    → Cleared before c k (remove rest (first_in before (members rest))) (left - 1)
unfolding taken
clear_on {before} o c k rest left pos g =
    record {
      enough = omega (arith, size_remove rest u (first_of_set o rest (omega (arith, g.enough))).member, g.enough);
      leaves = sym (difference_insert rest (taken before (left - 1) (remove rest u)) u) ∙ ap (λ (m : ℕ). difference rest (taken before m rest)) sum ∙ g.leaves;
    }
  where
    u : ℕ
    u = first_in before (members rest)

    sum : suc (left - 1) ≡ left
    sum = omega arith

pub clear_done : (before : ℕ → ℕ → Bool) (c k rest left : ℕ) → left ≡ 0 → Cleared before c k rest left → rest ≡ difference c (taken before k c)
unfolding taken
clear_done before c k rest left e g =
    sym (difference_empty rest) ∙ ap (λ (m : ℕ). difference rest (taken before m rest)) (sym e) ∙ g.leaves

-- a set without what its first units leave is those units
pub taken_cleared : (last : Bool) (k c : ℕ) → k ≤ size c → difference c (difference c (taken (toward last tie_order) k c)) ≡ taken (toward last tie_order) k c
taken_cleared last k c h =
    difference_twice c (taken (toward last tie_order) k c) (taken_chosen (tie_toward last) k c h).inside

-- and the first k units are what is left when all the others, the last ones, are cleared
pub taken_others : (last : Bool) (k c : ℕ) → k ≤ size c → difference c (taken (toward (not last) tie_order) (size c - k) c) ≡ taken (toward last tie_order) k c
taken_others last k c h =
    let rest = taken (toward (not last) tie_order) (size c - k) c in
    let others = taken_chosen (tie_toward (not last)) (size c - k) c (omega arith) in
    chosen_unique (tie_toward last) {h = taken (toward last tie_order) k c}
    (record {
      inside = λ u. omega (arith, bit_difference c rest u);
      counted = omega (arith, size_difference c rest others.inside, others.counted);
      ahead = λ v w p q r.
          mirrored last v w
          (others.ahead w v (omega (arith, bit_difference c rest w, bit_le rest w)) (omega (arith, bit_difference c rest v, bit_le c v)) (omega (arith, bit_difference c rest v, bit_le c v)));
    })
    (taken_chosen (tie_toward last) k c h)
  where
    mirrored : (b : Bool) (v w : ℕ) → toward (not b) tie_order w v ≡ true → toward b tie_order v w ≡ true
    mirrored true v w e = e
    mirrored false v w e = e

-- ---- a look at one step

-- What a look finds of the first units: with those that go first in what is left, by the ranking from the next step
-- on, it is all of them.
pub record Finds (last : Bool) (lower upper rest left found others more : ℕ) : Type 0 where
  pub same : (m g n i : ℕ) (ss : List Limits) → i + length ss ≡ n
      → union found (taken (toward last (ranks_before n (i + 1) ss)) more others)
      ≡ taken (toward last (ranks_before n i (limits lower upper m g ∷ ss))) left rest

module _ (last : Bool) (lower upper rest left : ℕ) (m : left ≤ size rest) where
  nothing_left : (before : ℕ → ℕ → Bool) (found others : ℕ) → union found (taken before 0 others) ≡ found
  unfolding taken
  nothing_left before found others = union_empty_right found

  pub finds_first : left ≤ size (group last lower upper rest) → (others : ℕ)
      → Finds last lower upper rest left (taken (toward last tie_order) left (group last lower upper rest)) others 0
  finds_first l others =
      record {
        same = λ k g n i ss h.
            nothing_left (toward last (ranks_before n (i + 1) ss)) _ others
            ∙ sym (taken_first n i (limits lower upper k g) ss (omega arith) rest last left l);
      }

  module _ (l : size (group last lower upper rest) ≤ left) where
    pub finds_far : left - size (group last lower upper rest) ≤ size (undecided lower upper rest)
        → Finds last lower upper rest left (group last lower upper rest) (undecided lower upper rest) (left - size (group last lower upper rest))
    finds_far p = record { same = λ k g n i ss h. sym (taken_far n i (limits lower upper k g) ss (omega arith) rest last left l m p) }

    pub finds_end : size (undecided lower upper rest) ≤ left - size (group last lower upper rest) → (others : ℕ)
        → Finds last lower upper rest left (union (group last lower upper rest) (union (undecided lower upper rest) (taken (toward last tie_order) (left - size (group last lower upper rest) - size (undecided lower upper rest)) (group (not last) lower upper rest)))) others 0
    finds_end p others =
        record {
          same = λ k g n i ss h.
              nothing_left (toward last (ranks_before n (i + 1) ss)) _ others
              ∙ sym (taken_end n i (limits lower upper k g) ss (omega arith) rest last left l m p);
        }

    -- the last group has as many as are still wanted
    pub end_has : size (undecided lower upper rest) ≤ left - size (group last lower upper rest)
        → left - size (group last lower upper rest) - size (undecided lower upper rest) ≤ size (group (not last) lower upper rest)
    end_has p =
        omega (arith, end_room 1 1 (limits lower upper 0 0) [] refl rest last left l m p)

  -- where all are undecided, nothing is decided
  pub finds_none : undecided lower upper rest ≡ rest → Finds last lower upper rest left 0 rest left
  finds_none e =
      let empty = size_none (group last lower upper rest) (group_none last lower upper rest e) in
      subst₃ (λ (x y z : ℕ). Finds last lower upper rest left x y z) empty e
      (omega (arith, group_none last lower upper rest e))
      (finds_far (omega (arith, group_none last lower upper rest e)) (omega (arith, group_none last lower upper rest e, ap size e)))

-- what was found before, and by the look, is found
pub looked : (s : Stretch) (before after : Pick) (found : ℕ) → after.last ≡ before.last → after.found ≡ union before.found found
    → Finds before.last s.lower s.upper before.rest before.left found after.rest after.left → Looked s before after
looked s before after found e f finds =
    record {
      same = λ m g n i ss h.
          ap₂ (λ (b : Bool) (x : ℕ). union x (taken (toward b (ranks_before n (i + 1) ss)) after.left after.rest)) e f
          ∙ union_assoc before.found found _
          ∙ ap (union before.found) (finds.same m g n i ss h);
    }

-- and where it ends
pub looked_ended : (s : Stretch) (before after : Pick) (found : ℕ) → after.last ≡ before.last → after.found ≡ union before.found found → after.left ≡ 0
    → Finds before.last s.lower s.upper before.rest before.left found after.rest 0 → Looked s before after
looked_ended s before after found e f none finds =
    looked s before after found e f
    (subst (λ (m : ℕ). Finds before.last s.lower s.upper before.rest before.left found after.rest m) (sym none) finds)
