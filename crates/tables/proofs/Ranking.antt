-- The ranking as a recursion over the steps, for any tie order: units go by their classes in the step, those that the
-- step leaves free as from the next step on, and the tie order decides among the required and among the forbidden. It
-- fits the steps (`rank_refines`), and it is FindSupport's with that tie order (`ranks_are`). Forcing a unit on raises
-- it and nothing else (`raised_on`), forcing it off lowers it (`raised_off`).
use mathlib.Core.Path.{◌≡◌, refl, sym, ◌∙◌, fun_ext}
use mathlib.Core.Logic.{◌⊎◌, inl, inr}
use mathlib.Core.Bool.{Bool, true, false, false≢true}
use mathlib.Core.List.{List, [], ◌∷◌}
use Prim.Native.Nat.{ℕ, ◌+◌, ◌≤◌, ◌<◌}
use native.Mathlib.Decide.{ℕ_discrete, dec_lt}
use native.Mathlib.Omega.{arith}
use lib.Dec.{eqb}
use lib.ListN.{length}
use borrow.Author.Tests.{lt-ltb, le-ltb, eq-eqb, ne_eqb}
use Rattle.units.specs.Sets.{bit, Subset}
use Rattle.units.proofs.Limits.{some_feasible}
use Rattle.units.proofs.Sets.{bit_cases, bit_le, bit_insert, bit_insert_other, bit_remove, bit_remove_other}
use Rattle.plans.specs.declared.Limits.{Limits}
use Rattle.plans.specs.Switch.{Satisfiable}
use Rattle.plans.specs.Support.{ranks_by}
use Rattle.plans.proofs.Orders.{Ordered, asymmetric, lexical, lexical_ordered, classed, classed_ordered}
use Rattle.plans.proofs.Ranks.{Refines, better, better_ranks, ranks_ordered, required_better, allowed_better, required_tied, forbidden_tied, open_ranked, ended_tied}
use Rattle.plans.proofs.Stands.{StandsFor}
use Rattle.tables.proofs.Forced.{forced}
use Rattle.tables.proofs.Raised.{class, Raised}

-- the test that a step leaves a unit free
unfoldable pub is_free : Limits → ℕ → Bool
is_free s u = eqb (class s u) 1

-- unit u ranks before unit v
unfoldable pub rank : (ℕ → ℕ → Bool) → List Limits → ℕ → ℕ → Bool
rank tie [] u v = tie u v
rank tie (s ∷ ss) u v = lexical (class s) (λ x y. classed (is_free s x) (is_free s y) (rank tie ss x y) (tie x y)) u v

-- this is an order
pub rank_ordered : {tie : ℕ → ℕ → Bool} → Ordered tie → (ss : List Limits) → Ordered (rank tie ss)
unfolding rank
rank_ordered o [] = o
rank_ordered o (s ∷ ss) = lexical_ordered (class s) (classed_ordered (is_free s) (rank_ordered o ss) o)

-- ---- one step

module _ (tie : ℕ → ℕ → Bool) (s : Limits) (ss : List Limits) (u v : ℕ) where
  -- a unit of a lower class goes first
  pub rank_class : class s u < class s v → rank tie (s ∷ ss) u v ≡ true
  unfolding rank
  rank_class h = rw (lt-ltb (class s u) (class s v) h)

  -- so none goes before a unit of a lower class
  pub rank_classes : rank tie (s ∷ ss) u v ≡ true → class s u ≤ class s v
  unfolding rank
  rank_classes h = go (dec_lt (class s v) (class s u))
    where
      go : Dec (class s v < class s u) → class s u ≤ class s v
      go (yes l) =
          absurd (false≢true (rw (le-ltb (class s u) (class s v) (omega arith), ne_eqb (class s u) (class s v) (λ e. omega arith)) at h))
      go (no g) = omega arith

  -- units that are free now are ranked as from the next step on
  pub rank_free : class s u ≡ 1 → class s v ≡ 1 → rank tie (s ∷ ss) u v ≡ rank tie ss u v
  unfolding rank is_free
  rank_free p q = rw (p, q)

  -- the tie order decides among the required and among the forbidden
  pub rank_tied : class s u ≡ class s v → (class s u ≡ 1 → ⊥) → rank tie (s ∷ ss) u v ≡ tie u v
  unfolding rank is_free
  rank_tied p n =
      rw (sym p, le-ltb (class s u) (class s u) (omega arith), eq-eqb (class s u) (class s u) refl, ne_eqb (class s u) 1 n)

-- ---- the ranking fits the steps

-- A unit stands for each that it ranks before. If it is not required now and the other is allowed, then both are free,
-- as its class is not higher.
rank_stands : (tie : ℕ → ℕ → Bool) (ss : List Limits) (v w : ℕ) → rank tie ss v w ≡ true → StandsFor ss v w
unfolding StandsFor class
rank_stands tie [] v w r = tt
rank_stands tie (s ∷ ss) v w r = λ lv uw.
    let c = rank_classes tie s ss v w r in
    let b = bit_le s.upper v in
    let lw : bit s.lower w ≡ 0 = omega arith in
    let uv : bit s.upper v ≡ 1 = omega arith in
    (lw, (uv, rank_stands tie ss v w (sym (rank_free tie s ss v w (omega arith) (omega arith)) ∙ r)))

-- and so it fits
pub rank_refines : {tie : ℕ → ℕ → Bool} → Ordered tie → (ss : List Limits) → Refines ss (rank tie ss)
rank_refines {tie} o ss = record { ordered = rank_ordered o ss; stands = rank_stands tie ss }

-- ---- FindSupport's ranking

module _ (tie : ℕ → ℕ → Bool) (n i : ℕ) (s : Limits) (ss : List Limits) (h : i + length (s ∷ ss) ≡ n + 1) (within : Subset s.lower s.upper) where
  -- FindSupport has a unit of a lower class first too
  class_ranks : (u v : ℕ) → class s u < class s v → ranks_by tie n i (s ∷ ss) u v ≡ true
  unfolding class
  class_ranks u v l = better_ranks tie n i (s ∷ ss) u v (go (bit_cases s.upper v))
    where
      au : (bit s.lower u ≤ bit s.upper u) × (bit s.upper u ≤ 1)
      au = (within u, bit_le s.upper u)

      go : (bit s.upper v ≡ 0) ⊎ (bit s.upper v ≡ 1) → better n i (s ∷ ss) u v ≡ true
      go (inl e) = allowed_better n i s ss h u v (omega (arith, au)) e
      go (inr e) = required_better n i s ss h u v (omega (arith, au)) (omega (arith, au)) (omega (arith, au))

  -- and ranks those of one class as `rank` does, if it does so from the next step on
  same_ranks : (u v : ℕ) → class s u ≡ class s v → ranks_by tie n (i + 1) ss u v ≡ rank tie ss u v
      → ranks_by tie n i (s ∷ ss) u v ≡ rank tie (s ∷ ss) u v
  unfolding class
  same_ranks u v e ih = go (bit_cases s.lower u) (bit_cases s.upper u)
    where
      av : (bit s.lower v ≤ bit s.upper v) × (bit s.upper v ≤ 1)
      av = (within v, bit_le s.upper v)

      go : (bit s.lower u ≡ 0) ⊎ (bit s.lower u ≡ 1) → (bit s.upper u ≡ 0) ⊎ (bit s.upper u ≡ 1)
          → ranks_by tie n i (s ∷ ss) u v ≡ rank tie (s ∷ ss) u v
      go (inl a) (inl b) =
          forbidden_tied n i s ss h tie u v b (omega (arith, av)) ∙ sym (rank_tied tie s ss u v e (λ c. omega arith))
      go (inl a) (inr b) =
          open_ranked n i s ss h tie u v a b (omega (arith, av)) (omega (arith, av)) ∙ ih ∙ sym (rank_free tie s ss u v (omega arith) (omega arith))
      go (inr a) (inl b) = absurd (omega (arith, within u))
      go (inr a) (inr b) =
          required_tied n i s ss h tie u v a b (omega (arith, av)) (omega (arith, av)) ∙ sym (rank_tied tie s ss u v e (λ c. omega arith))

-- so both say the same of each two units
ranks_alike : {tie : ℕ → ℕ → Bool} → Ordered tie → (n i : ℕ) (ss : List Limits) → Satisfiable ss → i + length ss ≡ n + 1
    → (u v : ℕ) → ranks_by tie n i ss u v ≡ rank tie ss u v
unfolding rank
ranks_alike {tie} o n i [] f h u v = ended_tied tie n i u v
ranks_alike {tie} o n i (s ∷ ss) f h u v =
    go (ranks_alike o n (i + 1) ss f.1 (omega arith) u v) (dec_lt (class s u) (class s v)) (dec_lt (class s v) (class s u))
  where
    within : Subset s.lower s.upper
    within w = let (x, a) = (some_feasible s.lower s.upper s.least s.greatest).0 f.0 in omega (arith, a.includes w, a.within w)

    go : ranks_by tie n (i + 1) ss u v ≡ rank tie ss u v → Dec (class s u < class s v) → Dec (class s v < class s u)
        → ranks_by tie n i (s ∷ ss) u v ≡ rank tie (s ∷ ss) u v
    go ih (yes l) d = class_ranks tie n i s ss h within u v l ∙ sym (rank_class tie s ss u v l)
    go ih (no g) (yes l) =
        asymmetric (ranks_ordered o n i (s ∷ ss)) v u (class_ranks tie n i s ss h within v u l)
        ∙ sym (asymmetric (rank_ordered o (s ∷ ss)) v u (rank_class tie s ss v u l))
    go ih (no g) (no k) = same_ranks tie n i s ss h within u v (omega arith) ih

-- so they are one ranking
pub ranks_are : {tie : ℕ → ℕ → Bool} → Ordered tie → (n i : ℕ) (ss : List Limits) → Satisfiable ss → i + length ss ≡ n + 1 → ranks_by tie n i ss ≡ rank tie ss
ranks_are o n i ss f h = fun_ext (λ u. fun_ext (ranks_alike o n i ss f h u))

-- ---- one unit higher

-- on one unit twice the ranking says what the tie order says
rank_self : (tie : ℕ → ℕ → Bool) (ss : List Limits) (u : ℕ) → rank tie ss u u ≡ tie u u
unfolding rank
rank_self tie [] u = refl
rank_self tie (s ∷ ss) u =
    rw (le-ltb (class s u) (class s u) (omega arith), eq-eqb (class s u) (class s u) refl, rank_self tie ss u) (same (is_free s u))
  where
    same : (a : Bool) → classed a a (tie u u) (tie u u) ≡ tie u u
    same true = refl
    same false = refl

module _ (tie : ℕ → ℕ → Bool) (u : ℕ) (s s' : Limits) (ss ss' : List Limits) where
  -- two units of the same classes are ranked the same, if they are from the next step on
  rank_same : (v w : ℕ) → class s v ≡ class s' v → class s w ≡ class s' w → rank tie ss v w ≡ rank tie ss' v w
      → rank tie (s ∷ ss) v w ≡ rank tie (s' ∷ ss') v w
  unfolding rank is_free
  rank_same v w a b e = rw (a, b, e)

  -- a unit stays before another, if its class is no higher and that of the other no lower
  rank_up : (w : ℕ) → class s' u ≤ class s u → class s w ≤ class s' w → (rank tie ss u w ≡ true → rank tie ss' u w ≡ true)
      → rank tie (s ∷ ss) u w ≡ true → rank tie (s' ∷ ss') u w ≡ true
  rank_up w a b f r = go (rank_classes tie s ss u w r) (dec_lt (class s' u) (class s' w)) (ℕ_discrete (class s u) 1)
    where
      go : class s u ≤ class s w → Dec (class s' u < class s' w) → Dec (class s u ≡ 1) → rank tie (s' ∷ ss') u w ≡ true
      go c (yes l) d = rank_class tie s' ss' u w l
      go c (no g) (yes e) =
          rank_free tie s' ss' u w (omega arith) (omega arith) ∙ f (sym (rank_free tie s ss u w e (omega arith)) ∙ r)
      go c (no g) (no n) =
          rank_tied tie s' ss' u w (omega arith) (λ e. n (omega arith)) ∙ sym (rank_tied tie s ss u w (omega arith) n) ∙ r

  -- A unit is raised, if it is from the next step on and its class now is no higher, while the other units have the
  -- same classes.
  raised_by : ((w : ℕ) → (w ≡ u → ⊥) → class s w ≡ class s' w) → class s' u ≤ class s u → Raised u (rank tie ss) (rank tie ss')
      → Raised u (rank tie (s ∷ ss)) (rank tie (s' ∷ ss'))
  raised_by same l r = record {
    others = λ v w m n. rank_same v w (same v m) (same w n) (r.others v w m n);
    up = λ w. up w (ℕ_discrete w u);
  }
    where
      up : (w : ℕ) → Dec (w ≡ u) → rank tie (s ∷ ss) u w ≡ true → rank tie (s' ∷ ss') u w ≡ true
      up w (yes e) h = rw e (rank_self tie (s' ∷ ss') u ∙ sym (rank_self tie (s ∷ ss) u) ∙ (rw e at h))
      up w (no n) h = rank_up w l (omega (arith, same w n)) (r.up w) h

-- the same step before both
pub raised_same : (tie : ℕ → ℕ → Bool) (u : ℕ) (s : Limits) (ss ss' : List Limits) → Raised u (rank tie ss) (rank tie ss')
    → Raised u (rank tie (s ∷ ss)) (rank tie (s ∷ ss'))
raised_same tie u s ss ss' r = raised_by tie u s s ss ss' (λ w n. refl) (omega arith) r

-- a unit forced in a step leaves the classes of the others
class_forced : (on : Bool) (u : ℕ) (s : Limits) (w : ℕ) → (w ≡ u → ⊥) → class s w ≡ class (forced on u s) w
unfolding class
class_forced true u s w n = rw (bit_insert_other s.lower u w n)
class_forced false u s w n = rw (bit_remove_other s.upper u w n)

-- every ranking against itself
raised_self : (u : ℕ) (r : ℕ → ℕ → Bool) → Raised u r r
raised_self u r = record { others = λ v w m n. refl; up = λ w h. h }

-- a unit forced on is raised
pub raised_on : (tie : ℕ → ℕ → Bool) (u : ℕ) (s : Limits) (ss : List Limits) → Raised u (rank tie (s ∷ ss)) (rank tie (forced true u s ∷ ss))
unfolding class
raised_on tie u s ss =
    raised_by tie u s (forced true u s) ss ss (class_forced true u s) (omega (arith, bit_insert s.lower u, bit_le s.lower u))
    (raised_self u (rank tie ss))

-- and raised from where it is forced off
pub raised_off : (tie : ℕ → ℕ → Bool) (u : ℕ) (s : Limits) (ss : List Limits) → Raised u (rank tie (forced false u s ∷ ss)) (rank tie (s ∷ ss))
unfolding class
raised_off tie u s ss =
    raised_by tie u (forced false u s) s ss ss (λ w n. sym (class_forced false u s w n)) (omega (arith, bit_remove s.upper u))
    (raised_self u (rank tie ss))
