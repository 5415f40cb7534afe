-- FindSupport, the plan that is handed out, and the order that breaks its ties. Steps have their numbers from 1 in the
-- whole campaign of n steps; a list of steps is the rest of it from the step with number i on.
use Rattle.std.specs.Prelude.{ℕ, zero, suc, ◌+◌, ◌-◌, ◌≡◌, ◌⊎◌, Bool, true, false, cond, ◌||◌, ◌&&◌, List, [], ◌∷◌, ltb, eqb, length}
use Rattle.units.specs.Sets.{union, intersection, difference, contains, insert, remove, size, units_below}
use Rattle.plans.specs.declared.Limits.{Limits}

-- the earliest step from i on whose lower set has unit u, or n + 2 (need)
unfoldable pub next_required : ℕ → ℕ → List Limits → ℕ → ℕ
next_required n i [] u = n + 2
next_required n i (s ∷ ss) u =
    let later = next_required n (i + 1) ss u in
    cond (contains s.lower u) i later

-- the earliest step from i on whose upper set lacks unit u, or n + 1 (ban)
unfoldable pub next_forbidden : ℕ → ℕ → List Limits → ℕ → ℕ
next_forbidden n i [] u = n + 1
next_forbidden n i (s ∷ ss) u =
    let later = next_forbidden n (i + 1) ss u in
    cond (contains s.upper u) later i

-- unit u is required before it is forbidden (wanted)
unfoldable pub required_first : ℕ → ℕ → List Limits → ℕ → Bool
required_first n i ss u = ltb (next_required n i ss u) (next_forbidden n i ss u)

-- ---- the ranking

-- a strict total order of the units, as a test: no unit goes before itself, one that goes before a second goes before
-- all that the second goes before, and of two units one goes before the other
pub record Ordered (before : ℕ → ℕ → Bool) : Type 0 where
  pub irreflexive : (u : ℕ) → before u u ≡ false
  pub transitive : (u v w : ℕ) → before u v ≡ true → before v w ≡ true → before u w ≡ true
  pub total : (u v : ℕ) → (u ≡ v → ⊥) → (before u v ≡ true) ⊎ (before v u ≡ true)

-- the house rule, which of two tied units goes first (on a tie, in docs/FORMAT.md): the higher number
abbrev pub tie_order : ℕ → ℕ → Bool
tie_order u v = ltb v u

-- Unit u ranks before unit v. Those required first go before the rest; among them, the one required earlier; among the
-- rest, the one forbidden later; on a tie, the order `tie` decides.
unfoldable pub ranks_by : (ℕ → ℕ → Bool) → ℕ → ℕ → List Limits → ℕ → ℕ → Bool
ranks_by tie n i ss u v =
    cond (required_first n i ss u)
    (cond (required_first n i ss v) (earlier (next_required n i ss u) (next_required n i ss v)) true)
    (cond (required_first n i ss v) false (earlier (next_forbidden n i ss v) (next_forbidden n i ss u)))
  where
    earlier : ℕ → ℕ → Bool
    earlier a b = ltb a b || (eqb a b && tie u v)

-- the ranking by the house rule
abbrev pub ranks_before : ℕ → ℕ → List Limits → ℕ → ℕ → Bool
ranks_before n i ss u v = ranks_by tie_order n i ss u v

-- ---- the first units of a set in an order

-- all units of a set: it has none from its own number up
abbrev pub members : ℕ → List ℕ
members c = units_below c c

-- the one of the units that goes first in the order, where there are any
unfoldable pub first_in : (ℕ → ℕ → Bool) → List ℕ → ℕ
first_in before [] = 0
first_in before (u ∷ []) = u
first_in before (u ∷ v ∷ us) = let w = first_in before (v ∷ us) in cond (before w u) w u

-- the k units of c that go first in the order
unfoldable pub taken : (ℕ → ℕ → Bool) → ℕ → ℕ → ℕ
taken before zero c = 0
taken before (suc k) c =
    let u = first_in before (members c) in
    insert (taken before k (remove c u)) u

-- ---- the plan

-- what is on in step s where `before` was on and `ranks` is the ranking: what was on and may be, and what must be. If
-- that is too much, units outside the lower set leave, last in rank first; if it is too little, units of the upper set
-- join, first in rank first.
unfoldable pub support_set : (ℕ → ℕ → Bool) → Limits → ℕ → ℕ
support_set ranks s before =
    let begun = union (intersection before s.upper) s.lower in
    let kept = difference begun (taken (λ u v. ranks v u) (size begun - s.greatest) (difference begun s.lower)) in
    union kept (taken ranks (s.least - size kept) (difference s.upper kept))

-- the sets of the steps from i on, where the order `ties i` breaks the ties of step i
unfoldable pub support_from : (ℕ → ℕ → ℕ → Bool) → ℕ → ℕ → ℕ → List Limits → List ℕ
support_from ties n i before [] = []
support_from ties n i before (s ∷ ss) =
    let x = support_set (ranks_by (ties i) n i (s ∷ ss)) s before in
    x ∷ support_from ties n (i + 1) x ss

-- FindSupport with an order for the ties of each step
unfoldable pub find_support_by : (ℕ → ℕ → ℕ → Bool) → ℕ → List Limits → List ℕ
find_support_by ties start ss = support_from ties (length ss) 1 start ss

-- with the house rule at every step: the plan that is handed out
abbrev pub find_support : ℕ → List Limits → List ℕ
find_support start ss = find_support_by (λ i. tie_order) start ss
