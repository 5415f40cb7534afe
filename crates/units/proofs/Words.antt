-- The machine's operations on words of k bits, as sets: a shifted one is a single unit, and a mask with a complement
-- is a difference.
use mathlib.Core.Path.{◌≡◌, refl, sym, ap, ◌∙◌, subst}
use mathlib.Core.Logic.{◌⊎◌, inl, inr, ⊎_elim}
use mathlib.Core.Bool.{not}
use Prim.Native.Nat.{ℕ, zero, suc, ◌+◌, ◌-◌, ◌*◌, ◌/◌, ◌%◌, ◌^◌, ◌≤◌, ◌<◌, min}
use native.Mathlib.Nat.{pow-suc, mod-lt, div-eq_of_lt}
use native.Mathlib.Decide.{ℕ_discrete, dec_le}
use native.Mathlib.Omega.{arith}
use borrow.Author.Tests.{eq-eqb, ne_eqb, le-leb, lt-leb}
use lib.Bits.{bit_and, and_step, and_le_l}
use lib.Count.{count_trailing_zeros, count_leading_zeros, leading_top, under}
use lib.Dec.{eqb, leb, lit<}
use lib.Pow.{pow_pos, shl_exact, split}
use Rattle.units.specs.Sets.{bit, intersection, difference, contains, remove, Lowest, Highest}
use Rattle.units.proofs.Sets.{bit_zero, bit_suc, bit_above, below_pow, bit_cases, bit_intersection, bit_single, bit_single_other, bit_empty, bit_remove, bit_remove_other, by_unit, set_ext}

-- a one shifted by a unit's number is that unit's weight
pub one_shifted : (u : ℕ) → u < 64 → 1 * 2 ^ u % 2 ^ 64 ≡ 2 ^ u
one_shifted u h = shl_exact {a = 1} 1 u 64 (lit< tt) (omega arith) ∙ omega arith

-- what a mask with a complement is, from its halves
joined : (a b low rest odd : ℕ) {both apart : ℕ} → rest ≡ a / 2 - low → odd ≡ 1 - b % 2 → low ≤ a / 2
    → both ≡ low * 2 + min (a % 2) (b % 2) → apart ≡ rest * 2 + min (a % 2) odd → apart ≡ a - both
joined a b low rest odd p q l e f = omega arith

-- a mask with a complement is a difference
pub and_not : (k a b : ℕ) → a < 2 ^ k → b < 2 ^ k → bit_and a ((2 ^ k - 1) - b) ≡ difference a b
unfolding difference
and_not zero a b p q =
    let e : a ≡ 0 = omega arith in
    omega (arith, and_le_l a (2 ^ 0 - 1 - b), and_le_l a b)
and_not (suc k) a b p q =
    let half : (2 ^ suc k - 1 - b) / 2 ≡ 2 ^ k - 1 - b / 2 = omega (arith, pow-suc 2 k, pow_pos k) in
    let odd : (2 ^ suc k - 1 - b) % 2 ≡ 1 - b % 2 = omega (arith, pow-suc 2 k, pow_pos k) in
    let rest : bit_and (a / 2) ((2 ^ suc k - 1 - b) / 2) ≡ a / 2 - bit_and (a / 2) (b / 2) =
    ap (λ (x : ℕ). bit_and (a / 2) x) half ∙ and_not k (a / 2) (b / 2) (omega (arith, pow-suc 2 k)) (omega (arith, pow-suc 2 k)) in
    joined a b (bit_and (a / 2) (b / 2)) (bit_and (a / 2) ((2 ^ suc k - 1 - b) / 2)) ((2 ^ suc k - 1 - b) % 2) rest odd (and_le_l (a / 2) (b / 2)) (and_step a b) (and_step a (2 ^ suc k - 1 - b))

-- a mask with a single unit is not 0 exactly if the unit is in the set
pub and_single : (s u : ℕ) → not (eqb (intersection s (2 ^ u)) 0) ≡ contains s u
unfolding contains
and_single s u = go (bit_cases s u)
  where
    go : (bit s u ≡ 0) ⊎ (bit s u ≡ 1) → not (eqb (intersection s (2 ^ u)) 0) ≡ eqb (bit s u) 1
    go (inl e) =
        ap not (eq-eqb (intersection s (2 ^ u)) 0 (set_ext (intersection s (2 ^ u)) 0 (λ v. none v (ℕ_discrete v u) ∙ sym (bit_empty v)))) ∙ sym (ne_eqb (bit s u) 1 (omega arith))
      where
        none : (v : ℕ) → Dec (v ≡ u) → bit (intersection s (2 ^ u)) v ≡ 0
        none v (yes q) = omega (arith, bit_intersection s (2 ^ u) v, ap (λ (w : ℕ). bit s w) q)
        none v (no n) = omega (arith, bit_intersection s (2 ^ u) v, bit_single_other u v n)
    go (inr e) =
        ap not (ne_eqb (intersection s (2 ^ u)) 0 (λ z. omega (arith, bit_intersection s (2 ^ u) u, bit_single u, ap (λ (x : ℕ). bit x u) z, bit_empty u)))
        ∙ sym (eq-eqb (bit s u) 1 e)

-- a shift leaves something exactly if the number is as large as the shifted-out digits can not be
pub shifted_out : (s d : ℕ) → not (eqb (s / 2 ^ d) 0) ≡ leb (2 ^ d) s
shifted_out s d = go (dec_le (2 ^ d) s)
  where
    go : Dec (2 ^ d ≤ s) → not (eqb (s / 2 ^ d) 0) ≡ leb (2 ^ d) s
    go (yes h) = ap not (ne_eqb (s / 2 ^ d) 0 (λ e. omega (arith, split s d, mod-lt s (pow_pos d), ap (λ (q : ℕ). q * 2 ^ d) e, h))) ∙ sym (le-leb (2 ^ d) s h)
    go (no n) = ap not (eq-eqb (s / 2 ^ d) 0 (div-eq_of_lt (omega arith))) ∙ sym (lt-leb (2 ^ d) s (omega arith))

-- the zeros below the lowest digit that is set are as many as the number of the lowest unit
pub trailing_lowest : (k a : ℕ) → 0 < a → a < 2 ^ k → Lowest a (count_trailing_zeros k a)
unfolding count_trailing_zeros
trailing_lowest zero a p h = absurd (omega arith)
trailing_lowest (suc k) a p h = go (a % 2) refl (λ q. trailing_lowest k (a / 2) q (omega (arith, pow-suc 2 k)))
  where
    go : (x : ℕ) → a % 2 ≡ x → (0 < a / 2 → Lowest (a / 2) (count_trailing_zeros k (a / 2))) → Lowest a (under x (count_trailing_zeros k (a / 2)))
    go zero e ih =
        let r = ih (omega arith) in
        record { has = bit_suc a (count_trailing_zeros k (a / 2)) ∙ r.has; first = λ v l. below v l r.first }
      where
        below : (v : ℕ) → v < suc (count_trailing_zeros k (a / 2)) → ((w : ℕ) → w < count_trailing_zeros k (a / 2) → bit (a / 2) w ≡ 0) → bit a v ≡ 0
        below zero l f = bit_zero a ∙ e
        below (suc v) l f = bit_suc a v ∙ f v (omega arith)
    go (suc x) e ih = record { has = bit_zero a ∙ omega arith; first = λ v l. absurd (omega arith) }

-- one less than a number has no digit where its lowest one stands, and the same digits above
one_less : (u s : ℕ) → Lowest s u → (bit (s - 1) u ≡ 0) × ((v : ℕ) → u < v → bit (s - 1) v ≡ bit s v)
one_less zero s l =
    let odd : s % 2 ≡ 1 = sym (bit_zero s) ∙ l.has in
    (bit_zero (s - 1) ∙ omega arith, λ v h. above v h)
  where
    above : (v : ℕ) → 0 < v → bit (s - 1) v ≡ bit s v
    above zero h = absurd (omega arith)
    above (suc v) h =
        let half : (s - 1) / 2 ≡ s / 2 = omega (arith, bit_zero s, l.has) in
        bit_suc (s - 1) v ∙ ap (λ (x : ℕ). bit x v) half ∙ sym (bit_suc s v)
one_less (suc u) s l = go (one_less u (s / 2) (record { has = sym (bit_suc s u) ∙ l.has; first = λ v h. sym (bit_suc s v) ∙ l.first (suc v) (omega arith) }))
  where
    some : 0 < s
    some = ⊎_elim (λ e. absurd (omega (arith, l.has, ap (λ (x : ℕ). bit x (suc u)) e, bit_empty (suc u)))) (λ h. h) (zero_or s)
      where
        zero_or : (x : ℕ) → (x ≡ 0) ⊎ (0 < x)
        zero_or zero = inl refl
        zero_or (suc x) = inr (omega arith)

    half : (s - 1) / 2 ≡ s / 2 - 1
    half = omega (arith, bit_zero s, l.first 0 (omega arith), some)

    go : (bit (s / 2 - 1) u ≡ 0) × ((v : ℕ) → u < v → bit (s / 2 - 1) v ≡ bit (s / 2) v)
        → (bit (s - 1) (suc u) ≡ 0) × ((v : ℕ) → suc u < v → bit (s - 1) v ≡ bit s v)
    go (a, b) = (bit_suc (s - 1) u ∙ ap (λ (x : ℕ). bit x u) half ∙ a, above)
      where
        above : (v : ℕ) → suc u < v → bit (s - 1) v ≡ bit s v
        above zero h = absurd (omega arith)
        above (suc v) h = bit_suc (s - 1) v ∙ ap (λ (x : ℕ). bit x v) half ∙ b v (omega arith) ∙ sym (bit_suc s v)

-- a mask with one less takes the lowest unit away
pub and_one_less : (s u : ℕ) → Lowest s u → intersection s (s - 1) ≡ remove s u
and_one_less s u l = set_ext (intersection s (s - 1)) (remove s u) (by_unit u (λ v. bit (intersection s (s - 1)) v ≡ bit (remove s u) v) this others)
  where
    less : (bit (s - 1) u ≡ 0) × ((v : ℕ) → u < v → bit (s - 1) v ≡ bit s v)
    less = one_less u s l

    this : bit (intersection s (s - 1)) u ≡ bit (remove s u) u
    this = omega (arith, bit_intersection s (s - 1) u, less.0, bit_remove s u)

    others : (v : ℕ) → (v ≡ u → ⊥) → bit (intersection s (s - 1)) v ≡ bit (remove s u) v
    others v n = go (dec_le u v)
      where
        go : Dec (u ≤ v) → bit (intersection s (s - 1)) v ≡ bit (remove s u) v
        go (yes h) = omega (arith, bit_intersection s (s - 1) v, less.1 v (omega arith), bit_remove_other s u v n)
        go (no h) = omega (arith, bit_intersection s (s - 1) v, l.first v (omega arith), bit_remove_other s u v n)

-- the highest digit of a number is set
top_bit : (a j : ℕ) → 2 ^ j ≤ a → a < 2 ^ suc j → bit a j ≡ 1
top_bit a j l u = go (bit_cases a j)
  where
    go : (bit a j ≡ 0) ⊎ (bit a j ≡ 1) → bit a j ≡ 1
    go (inr e) = e
    go (inl e) = absurd (omega (arith, l, below_pow j a none))
      where
        none : (v : ℕ) → j ≤ v → bit a v ≡ 0
        none = by_unit j (λ v. j ≤ v → bit a v ≡ 0) (λ h. e) (λ v n h. bit_above (suc j) a v u (omega arith))

-- the zeros above the highest digit that is set, with the number of the highest unit and one, are all k digits
pub leading_highest : (k a j : ℕ) → count_leading_zeros k a + suc j ≡ k → 0 < a → a < 2 ^ k → Highest a j
leading_highest k a j e p h =
    let t = leading_top k a p h in
    let same : t.0 ≡ j = omega (arith, t.1) in
    subst (Highest a) same
    (record {
      has = top_bit a t.0 t.2 t.3;
      first = λ v l. bit_above (suc t.0) a v t.3 (omega arith);
    })
