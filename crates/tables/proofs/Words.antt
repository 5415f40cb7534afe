-- The units of words: when a unit is in a union, an intersection, a difference or a choice of sets, in gathered rows,
-- and among passing units. Beside them, what the tests of a step say.
use mathlib.Core.Path.{◌≡◌, refl, sym, ap, ap₂, ◌∙◌}
use mathlib.Core.Logic.{◌⊎◌, inl, inr, ⊎_elim, ⊎_map, ◌↔◌}
use mathlib.Core.Bool.{Bool, true, false, cond, not, ◌&&◌, ◌||◌, false≢true, and-eq-true_iff}
use Prim.Native.Nat.{ℕ, zero, suc, ◌<◌}
use native.Mathlib.Decide.{ℕ_discrete}
use native.Mathlib.Omega.{arith}
use lib.Dec.{eqb}
use borrow.Author.Tests.{ltb-true, lt-ltb, eqb-true, eq-eqb, ne_eqb}
use Rattle.units.specs.Sets.{bit, union, intersection, difference, meets, all, contains, insert, size}
use Rattle.units.proofs.Sets.{bit_cases, bit_le, bit_empty, bit_union, bit_intersection, bit_difference, bit_insert, bit_insert_other, bit_full, outside, some_unit}
use Rattle.plans.specs.declared.Limits.{Limits}
use Rattle.tables.specs.Tables.{gathered, passing, free, held, new, more, less}

-- ---- tests

-- one of two tests holds
pub or_true : (s t : Bool) → (s || t ≡ true) ↔ ((s ≡ true) ⊎ (t ≡ true))
or_true true t = (λ h. inl refl, λ h. refl)
or_true false t = (λ h. inr h, λ h. ⊎_elim (λ e. absurd (false≢true e)) (λ e. e) h)

-- one of three
pub or_true₃ : (r s t : Bool) → (r || (s || t) ≡ true) ↔ ((r ≡ true) ⊎ ((s ≡ true) ⊎ (t ≡ true)))
or_true₃ r s t = (λ h. ⊎_map (λ e. e) (or_true s t).0 ((or_true r (s || t)).0 h), λ h. (or_true r (s || t)).1 (⊎_map (λ e. e) (or_true s t).1 h))

-- the test that a unit is in a set
pub contains_bit : (s u : ℕ) → (contains s u ≡ true) ↔ (bit s u ≡ 1)
unfolding contains
contains_bit s u = (eqb-true (bit s u) 1, eq-eqb (bit s u) 1)

-- and what it is for a unit that is in the set, and for one that is not
pub contains_in : (s u : ℕ) → bit s u ≡ 1 → contains s u ≡ true
contains_in s u = (contains_bit s u).1

pub contains_out : (s u : ℕ) → bit s u ≡ 0 → contains s u ≡ false
unfolding contains
contains_out s u e = ne_eqb (bit s u) 1 (λ h. omega arith)

-- a step allows one unit more, or one less
pub more_true : (s : Limits) (t : ℕ) → (more s t ≡ true) ↔ (size t < s.greatest)
unfolding more
more_true s t = (ltb-true (size t) s.greatest, lt-ltb (size t) s.greatest)

pub less_true : (s : Limits) (t : ℕ) → (less s t ≡ true) ↔ (s.least < size t)
unfolding less
less_true s t = (ltb-true s.least (size t), lt-ltb s.least (size t))

-- ---- units

pub in_union : (a b u : ℕ) → (bit (union a b) u ≡ 1) ↔ ((bit a u ≡ 1) ⊎ (bit b u ≡ 1))
in_union a b u = (λ h. found h (bit_cases a u), λ h. ⊎_elim (λ e. joined e) (λ e. joined' e) h)
  where
    found : bit (union a b) u ≡ 1 → (bit a u ≡ 0) ⊎ (bit a u ≡ 1) → (bit a u ≡ 1) ⊎ (bit b u ≡ 1)
    found h (inl e) = inr (omega (arith, bit_union a b u))
    found h (inr e) = inl e

    joined : bit a u ≡ 1 → bit (union a b) u ≡ 1
    joined e = omega (arith, bit_union a b u, bit_le b u)

    joined' : bit b u ≡ 1 → bit (union a b) u ≡ 1
    joined' e = omega (arith, bit_union a b u, bit_le a u)

pub in_union₃ : (a b c u : ℕ) → (bit (union a (union b c)) u ≡ 1) ↔ ((bit a u ≡ 1) ⊎ ((bit b u ≡ 1) ⊎ (bit c u ≡ 1)))
in_union₃ a b c u =
    let (f, g) = in_union a (union b c) u in
    let (h, k) = in_union b c u in
    (λ e. ⊎_map (λ x. x) h (f e), λ e. g (⊎_map (λ x. x) k e))

pub in_intersection : (a b u : ℕ) → (bit (intersection a b) u ≡ 1) ↔ ((bit a u ≡ 1) × (bit b u ≡ 1))
in_intersection a b u = omega (arith, bit_intersection a b u, bit_le a u, bit_le b u)

pub in_difference : (a b u : ℕ) → (bit (difference a b) u ≡ 1) ↔ ((bit a u ≡ 1) × (bit b u ≡ 0))
in_difference a b u = omega (arith, bit_difference a b u, bit_le a u, bit_le b u)

-- those that may be on in a step and are not, those that are on and need not be, those that are switched on, and those
-- that may be on and were not
pub in_free : (s : Limits) (t u : ℕ) → (bit (free s t) u ≡ 1) ↔ ((bit s.upper u ≡ 1) × (bit t u ≡ 0))
unfolding free
in_free s t u = in_difference s.upper t u

pub in_held : (s : Limits) (t u : ℕ) → (bit (held s t) u ≡ 1) ↔ ((bit t u ≡ 1) × (bit s.lower u ≡ 0))
unfolding held
in_held s t u = in_difference t s.lower u

pub in_new : (p t u : ℕ) → (bit (new p t) u ≡ 1) ↔ ((bit t u ≡ 1) × (bit p u ≡ 0))
unfolding new
in_new p t u = in_difference t p u

-- the units of a set that is taken if a test holds
pub in_cond : (t : Bool) (x u : ℕ) → (bit (cond t x 0) u ≡ 1) ↔ ((t ≡ true) × (bit x u ≡ 1))
in_cond true x u = (λ h. (refl, h), λ h. h.1)
in_cond false x u = (λ h. absurd (omega (arith, bit_empty u)), λ h. absurd (false≢true h.0))

-- if another unit is in another set, or if it is not
pub in_given : (s v x u : ℕ) → (bit (cond (contains s v) x 0) u ≡ 1) ↔ ((bit s v ≡ 1) × (bit x u ≡ 1))
in_given s v x u =
    let (f, g) = in_cond (contains s v) x u in
    let (c, d) = contains_bit s v in
    (λ h. (c (f h).0, (f h).1), λ h. g (d h.0, h.1))

pub in_lacking : (s v x u : ℕ) → (bit (cond (contains s v) 0 x) u ≡ 1) ↔ ((bit s v ≡ 0) × (bit x u ≡ 1))
in_lacking s v x u = (λ h. found (contains s v) refl h, λ h. rw (contains_out s v h.0) h.1)
  where
    found : (t : Bool) → contains s v ≡ t → bit (cond t 0 x) u ≡ 1 → (bit s v ≡ 0) × (bit x u ≡ 1)
    found true e h = absurd (omega (arith, bit_empty u))
    found false e h = (outside s v e, h)

-- a word has all units below 64
pub bit_all : (u : ℕ) → u < 64 → bit all u ≡ 1
bit_all u h = bit_full 64 u h

-- two sets have a common unit exactly if the test holds
pub meets_some : (a b : ℕ) → (meets a b ≡ true) ↔ ((u : ℕ) × ((bit a u ≡ 1) × (bit b u ≡ 1)))
unfolding meets
meets_some a b = (found, tested)
  where
    filled : (c : ℕ) → not (eqb c 0) ≡ true → 0 < c
    filled zero h = absurd (false≢true h)
    filled (suc c) h = omega arith

    found : not (eqb (intersection a b) 0) ≡ true → (u : ℕ) × ((bit a u ≡ 1) × (bit b u ≡ 1))
    found h =
        let r = some_unit (intersection a b) (filled (intersection a b) h) in
        (r.0, (in_intersection a b r.0).0 r.1)

    tested : ((u : ℕ) × ((bit a u ≡ 1) × (bit b u ≡ 1))) → not (eqb (intersection a b) 0) ≡ true
    tested (u, h) =
        ap not (ne_eqb (intersection a b) 0 (λ e. omega (arith, (in_intersection a b u).1 h, ap (λ (x : ℕ). bit x u) e, bit_empty u)))

-- ---- gathered rows

-- a unit is in the rows of a set's units below k exactly if it is in one of them
pub bit_gathered : (k set : ℕ) (rows : ℕ → ℕ) (a : ℕ)
    → (bit (gathered k set rows) a ≡ 1) ↔ ((b : ℕ) × ((b < k) × ((bit set b ≡ 1) × (bit (rows b) a ≡ 1))))
unfolding gathered
bit_gathered zero set rows a = (λ h. absurd (omega (arith, bit_empty a)), λ w. absurd (omega (arith, w.1.0)))
bit_gathered (suc k) set rows a =
    let ih = bit_gathered k set rows a in
    (λ h. found ih.0 ((in_union rest last a).0 h), λ w. (in_union rest last a).1 (joined ih.1 w (ℕ_discrete w.0 k)))
  where
    rest : ℕ
    rest = gathered k set rows

    last : ℕ
    last = cond (contains set k) (rows k) 0

    found : (bit rest a ≡ 1 → (b : ℕ) × ((b < k) × ((bit set b ≡ 1) × (bit (rows b) a ≡ 1)))) → (bit rest a ≡ 1) ⊎ (bit last a ≡ 1)
        → (b : ℕ) × ((b < suc k) × ((bit set b ≡ 1) × (bit (rows b) a ≡ 1)))
    found ih (inl h) = let (b, (l, w)) = ih h in (b, (omega arith, w))
    found ih (inr h) = (k, (omega arith, (in_given set k (rows k) a).0 h))

    joined : (((b : ℕ) × ((b < k) × ((bit set b ≡ 1) × (bit (rows b) a ≡ 1)))) → bit rest a ≡ 1)
        → (w : (b : ℕ) × ((b < suc k) × ((bit set b ≡ 1) × (bit (rows b) a ≡ 1)))) → Dec (w.0 ≡ k) → (bit rest a ≡ 1) ⊎ (bit last a ≡ 1)
    joined ih (b, (l, w)) (yes e) = inr ((in_given set k (rows k) a).1 (rw e at w))
    joined ih (b, (l, w)) (no n) = inl (ih (b, (omega arith, w)))

-- rows that agree on those units come to the same
pub gathered_same : (k set : ℕ) (rows rows' : ℕ → ℕ) → ((b : ℕ) → b < k → bit set b ≡ 1 → rows b ≡ rows' b)
    → gathered k set rows ≡ gathered k set rows'
unfolding gathered
gathered_same zero set rows rows' h = refl
gathered_same (suc k) set rows rows' h =
    ap₂ union (gathered_same k set rows rows' (λ b l. h b (omega arith))) (go (contains set k) (λ t. h k (omega arith) ((contains_bit set k).0 t)))
  where
    go : (t : Bool) → (t ≡ true → rows k ≡ rows' k) → cond t (rows k) 0 ≡ cond t (rows' k) 0
    go true f = f refl
    go false f = refl

-- ---- passing units

-- a unit passes exactly if it is below k, in the set, and the test holds of it
pub bit_passing : (k set : ℕ) (test : ℕ → Bool) (b : ℕ)
    → (bit (passing k set test) b ≡ 1) ↔ ((b < k) × ((bit set b ≡ 1) × (test b ≡ true)))
unfolding passing
bit_passing zero set test b = (λ h. absurd (omega (arith, bit_empty b)), λ w. absurd (omega (arith, w.0)))
bit_passing (suc k) set test b = go (contains set k && test k) refl (bit_passing k set test b) (ℕ_discrete b k)
  where
    rest : ℕ
    rest = passing k set test

    Passes : ℕ → Type 0
    Passes u = (bit set u ≡ 1) × (test u ≡ true)

    both : (contains set k && test k ≡ true) ↔ Passes k
    both =
        let (f, g) = and-eq-true_iff (contains set k) (test k) in
        let (c, d) = contains_bit set k in
        (λ e. (c (f e).0, (f e).1), λ w. g (d w.0, w.1))

    wider : (b < k) × Passes b → (b < suc k) × Passes b
    wider (l, w) = (omega arith, w)

    narrower : (b ≡ k → ⊥) → (b < suc k) × Passes b → (b < k) × Passes b
    narrower n (l, w) = (omega arith, w)

    go : (t : Bool) → contains set k && test k ≡ t → (bit rest b ≡ 1) ↔ ((b < k) × Passes b) → Dec (b ≡ k)
        → (bit (cond t (insert rest k) rest) b ≡ 1) ↔ ((b < suc k) × Passes b)
    go true e ih (yes q) = (λ h. (omega arith, rw q (both.0 e)), λ w. rw q (bit_insert rest k))
    go true e ih (no n) =
        let same = bit_insert_other rest k b n in
        (λ h. wider (ih.0 (sym same ∙ h)), λ w. same ∙ ih.1 (narrower n w))
    go false e ih (yes q) = (λ h. absurd (omega (arith, (ih.0 h).0)), λ w. absurd (false≢true (sym e ∙ both.1 (rw q at w.1))))
    go false e ih (no n) = (λ h. wider (ih.0 h), λ w. ih.1 (narrower n w))

-- tests that agree on those units let the same pass
pub passing_same : (k set : ℕ) (test test' : ℕ → Bool) → ((b : ℕ) → b < k → bit set b ≡ 1 → test b ≡ test' b)
    → passing k set test ≡ passing k set test'
unfolding passing
passing_same zero set test test' h = refl
passing_same (suc k) set test test' h =
    ap₂ (λ (t : Bool) (x : ℕ). cond t (insert x k) x) (go (contains set k) (λ t. h k (omega arith) ((contains_bit set k).0 t)))
    (passing_same k set test test' (λ b l. h b (omega arith)))
  where
    go : (t : Bool) → (t ≡ true → test k ≡ test' k) → t && test k ≡ t && test' k
    go true f = f refl
    go false f = refl
