-- FindSupport's set of a step hardly changes if one unit ranks higher, may be on or must be, and the set before has
-- one other unit less: then it has one unit more at the most, and one less (`stable`). A set so near has one unit in
-- place of another, or one unit more, or one less, or is the same (`near_swap`, `near_in`, `near_out`).
use mathlib.Core.Path.{◌≡◌, refl, sym, ap, ◌∙◌}
use mathlib.Core.Logic.{◌⊎◌, inl, inr, ⊎_map}
use mathlib.Core.Bool.{Bool, true, false, false≢true}
use Prim.Native.Nat.{ℕ, ◌+◌, ◌^◌, ◌≤◌, ◌<◌}
use native.Mathlib.Decide.{ℕ_discrete, dec_le, dec_lt}
use native.Mathlib.Omega.{arith}
use Rattle.units.specs.Sets.{bit, intersection, difference, Subset, insert, remove, size}
use Rattle.units.proofs.Sets.{bit_le, bit_cases, bit_intersection, bit_difference, bit_single, bit_insert, bit_insert_other, bit_remove, bit_remove_other, bit_le_size, by_unit, remove_subset, set_ext, size_mono, size_remove, size_single, size_split, subset_insert, subset_or_missing, Missing}
use Rattle.plans.specs.declared.Limits.{Limits}
use Rattle.plans.specs.Switch.{Allows}
use Rattle.plans.proofs.Orders.{Ordered, asymmetric}
use Rattle.plans.proofs.Stands.{GreedyIn}
use Rattle.tables.proofs.Forced.{forced}
use Rattle.tables.proofs.Raised.{Raised, Near}

-- ---- sets near to each other

-- the units that each of two sets has and the other lacks, and the sizes
pub size_both : (a b : ℕ) → size (difference a b) + size b ≡ size (difference b a) + size a
size_both a b =
    omega (
      arith,
      size_split a b,
      size_split b a,
      ap size (set_ext (intersection a b) (intersection b a) (λ u. omega (arith, bit_intersection a b u, bit_intersection b a u))),
    )

-- a set of one unit at the most has no other than the one it has
only_unit : (x v w : ℕ) → size x ≤ 1 → bit x v ≡ 1 → (w ≡ v → ⊥) → bit x w ≡ 0
only_unit x v w h p n = omega (arith, size_remove x v p, bit_le_size (remove x v) w, bit_remove_other x v w n)

-- so two units of it are the same
pub near_units : (x v w : ℕ) → size x ≤ 1 → bit x v ≡ 1 → bit x w ≡ 1 → v ≡ w
near_units x v w h p q = go (ℕ_discrete w v)
  where
    go : Dec (w ≡ v) → v ≡ w
    go (yes e) = sym e
    go (no n) = absurd (omega (arith, only_unit x v w h p n))

-- a set that lacks one unit of a at the most, and lacks e, has all others
others_kept : (a b e v : ℕ) → size (difference a b) ≤ 1 → bit a e ≡ 1 → bit b e ≡ 0 → (v ≡ e → ⊥) → bit a v ≤ bit b v
others_kept a b e v h ae be n =
    omega (arith, only_unit (difference a b) e v h (omega (arith, bit_difference a b e)) n, bit_difference a b v)

-- x has no unit v that y lacks
pub bit_within : (x y v : ℕ) → (bit x v ≡ 1 → bit y v ≡ 0 → ⊥) → bit x v ≤ bit y v
bit_within x y v h = go (bit_cases x v) (bit_cases y v)
  where
    go : (bit x v ≡ 0) ⊎ (bit x v ≡ 1) → (bit y v ≡ 0) ⊎ (bit y v ≡ 1) → bit x v ≤ bit y v
    go (inl a) b = omega arith
    go (inr a) (inl b) = absurd (h a b)
    go (inr a) (inr b) = omega arith

-- a difference with no unit but those of another has as many at the most
difference_few : (a b c d : ℕ) → ((v : ℕ) → bit a v ≡ 1 → bit b v ≡ 0 → (bit c v ≡ 1) × (bit d v ≡ 0))
    → size (difference a b) ≤ size (difference c d)
difference_few a b c d h =
    size_mono (difference a b) (difference c d) (λ v. bit_within (difference a b) (difference c d) v (λ p q.
    omega (arith, h v (omega (arith, bit_difference a b v, bit_le a v)) (omega (arith, bit_difference a b v, bit_le a v)), bit_difference c d v)))

-- a difference with no other unit than v has one at the most
pub one_at_most : (a b v : ℕ) → ((w : ℕ) → (w ≡ v → ⊥) → bit a w ≤ bit b w) → size (difference a b) ≤ 1
one_at_most a b v h =
    omega (
      arith,
      size_single v,
      size_mono (difference a b) (2 ^ v)
          (by_unit v (λ w. bit (difference a b) w ≤ bit (2 ^ v) w) (omega (arith, bit_single v, bit_le (difference a b) v))
          (λ w n. omega (arith, bit_difference a b w, h w n))),
    )

module _ (t x : ℕ) (n : Near t x) where
  -- a near set that has a, where t lacks it, and lacks b, where t has it, is t with a in place of b
  pub near_swap : (b a : ℕ) → bit t b ≡ 1 → bit x b ≡ 0 → bit x a ≡ 1 → bit t a ≡ 0 → x ≡ insert (remove t b) a
  near_swap b a tb xb xa ta =
      set_ext x (insert (remove t b) a) (by_unit a (λ v. bit x v ≡ bit (insert (remove t b) a) v) (omega (arith, bit_insert (remove t b) a))
      (λ v m. omega (arith, bit_insert_other (remove t b) a v m, others v m)))
    where
      others : (v : ℕ) → (v ≡ a → ⊥) → bit x v ≡ bit (remove t b) v
      others =
          by_unit b (λ v. (v ≡ a → ⊥) → bit x v ≡ bit (remove t b) v) (λ m. omega (arith, bit_remove t b))
          (λ v k m. omega (arith, bit_remove_other t b v k, others_kept t x b v n.0 tb xb k, others_kept x t a v n.1 xa ta m))

  -- one that has a, where t lacks it, is t with a, or t with a in place of another unit
  pub near_in : (a : ℕ) → bit x a ≡ 1 → bit t a ≡ 0 → (x ≡ insert t a) ⊎ ((b : ℕ) × ((bit t b ≡ 1) × (x ≡ insert (remove t b) a)))
  near_in a xa ta = ⊎_map grown (λ (b, (tb, xb)). (b, (tb, near_swap b a tb xb xa ta))) (subset_or_missing t x)
    where
      grown : Subset t x → x ≡ insert t a
      grown h =
          set_ext x (insert t a) (by_unit a (λ v. bit x v ≡ bit (insert t a) v) (omega (arith, bit_insert t a))
          (λ v m. omega (arith, bit_insert_other t a v m, h v, others_kept x t a v n.1 xa ta m)))

  -- one that lacks b, where t has it, is t without b, or t with another unit in place of b
  pub near_out : (b : ℕ) → bit t b ≡ 1 → bit x b ≡ 0 → (x ≡ remove t b) ⊎ ((a : ℕ) × ((bit t a ≡ 0) × (x ≡ insert (remove t b) a)))
  near_out b tb xb = ⊎_map shrunk (λ (a, (xa, ta)). (a, (ta, near_swap b a tb xb xa ta))) (subset_or_missing x t)
    where
      shrunk : Subset x t → x ≡ remove t b
      shrunk h =
          set_ext x (remove t b) (by_unit b (λ v. bit x v ≡ bit (remove t b) v) (omega (arith, bit_remove t b))
          (λ v m. omega (arith, bit_remove_other t b v m, h v, others_kept t x b v n.0 tb xb m)))

-- ---- steps alike

-- the step s' is as s, but may require unit u, or let it be on, where s does not
pub record Wider (u : ℕ) (s s' : Limits) : Type 0 where
  pub least : s.least ≡ s'.least
  pub greatest : s.greatest ≡ s'.greatest
  pub lower : Subset s.lower s'.lower
  pub upper : Subset s.upper s'.upper
  pub others : (v : ℕ) → (v ≡ u → ⊥) → (bit s.lower v ≡ bit s'.lower v) × (bit s.upper v ≡ bit s'.upper v)

-- a step is so itself
pub wider_same : (u : ℕ) (s : Limits) → Wider u s s
wider_same u s =
    record { least = refl; greatest = refl; lower = λ v. omega arith; upper = λ v. omega arith; others = λ v n. (refl, refl) }

-- and if u is forced on in the second, or off in the first
pub wider_on : (u : ℕ) (s : Limits) → Wider u s (forced true u s)
wider_on u s = record {
  least = refl;
  greatest = refl;
  lower = subset_insert s.lower u;
  upper = λ v. omega arith;
  others = λ v n. (sym (bit_insert_other s.lower u v n), refl);
}

pub wider_off : (u : ℕ) (s : Limits) → Wider u (forced false u s) s
wider_off u s = record {
  least = refl;
  greatest = refl;
  lower = λ v. omega arith;
  upper = remove_subset s.upper u;
  others = λ v n. (refl, bit_remove_other s.upper u v n);
}

-- ---- rankings

-- what ranks before a unit other than u does so still when u is raised
pub raised_keeps : (u : ℕ) (r r' : ℕ → ℕ → Bool) → Raised u r r' → (v w : ℕ) → (w ≡ u → ⊥) → r v w ≡ true → r' v w ≡ true
raised_keeps u r r' up v w n h = go (ℕ_discrete v u)
  where
    go : Dec (v ≡ u) → r' v w ≡ true
    go (yes e) = rw e (up.up w (rw e at h))
    go (no m) = sym (up.others v w m n) ∙ h

-- no two units rank each before the other
pub not_both : {r : ℕ → ℕ → Bool} → Ordered r → (v w : ℕ) → r v w ≡ true → r w v ≡ true → ⊥
not_both o v w h k = false≢true (sym (asymmetric o v w h) ∙ k)

-- ---- greedy sets

-- a step leaves unit v free
abbrev pub Free : Limits → ℕ → Type 0
Free s v = (bit s.lower v ≡ 0) × (bit s.upper v ≡ 1)

-- as it does if it allows a set with v and a set without
pub free_unit : (s : Limits) (x y v : ℕ) → Allows s x → Allows s y → bit x v ≡ 1 → bit y v ≡ 0 → Free s v
free_unit s x y v a b xv yv = omega (arith, a.within v, b.includes v, bit_le s.upper v)

-- of two free units, a greedy set has the one in place of the other only if it was on before and the other was not, or
-- if it ranks before the other
pub in_turn_lem : (r : ℕ → ℕ → Bool) (s : Limits) (p g v w : ℕ) → GreedyIn r s p g → Free s v → Free s w → bit g v ≡ 1 → bit g w ≡ 0
    → (bit p w ≤ bit p v) × (bit p v ≤ bit p w → r v w ≡ true)
in_turn_lem r s p g v w G (lv, uv) (lw, uw) gv gw = go (bit_cases p v) (bit_cases p w)
  where
    go : (bit p v ≡ 0) ⊎ (bit p v ≡ 1) → (bit p w ≡ 0) ⊎ (bit p w ≡ 1) → (bit p w ≤ bit p v) × (bit p v ≤ bit p w → r v w ≡ true)
    go (inl a) (inl b) = (omega arith, λ h. (G.joins v gv a lv).1 w uw gw)
    go (inr a) (inl b) = (omega arith, λ h. absurd (omega arith))
    go a (inr b) = let left = (G.leaves w b uw gw).1 v gv lv in (omega (arith, left.0, bit_le p w), λ h. left.1)

-- if a greedy set has more units than another, no free unit joined it, and none left the other
pub larger : (r r' : ℕ → ℕ → Bool) (s s' : Limits) (p p' g g' v : ℕ) → s.least ≡ s'.least → s.greatest ≡ s'.greatest
    → GreedyIn r s p g → GreedyIn r' s' p' g' → size g' < size g → bit s.lower v ≡ 0 → bit s'.upper v ≡ 1
    → (bit g v ≤ bit p v) × (bit p' v ≤ bit g' v)
larger r r' s s' p p' g g' v least greatest G G' h lv uv = (
  bit_within g p v (λ a b. omega (arith, (G.joins v a b lv).0, G'.allowed.enough)),
  bit_within p' g' v (λ a b. omega (arith, (G'.leaves v a uv b).0, G.allowed.few)),
)

-- Two greedy sets g and g': in the second, unit u is raised, the step may require or allow it, and no other unit
-- joined the set before.
module _ (u : ℕ) (s s' : Limits) (r r' : ℕ → ℕ → Bool) (p p' g g' : ℕ) (o : Ordered r') (up : Raised u r r') (wide : Wider u s s')
    (drops : (v : ℕ) → (v ≡ u → ⊥) → bit p' v ≤ bit p v) (G : GreedyIn r s p g) (G' : GreedyIn r' s' p' g') where
  -- Where a unit w other than u takes the place of v, v was on before the first alone. Else v would rank before w in
  -- the first, and w before v in the second.
  pub taken_place : (v w : ℕ) → bit g v ≡ 1 → bit g' v ≡ 0 → bit g w ≡ 0 → bit g' w ≡ 1 → (w ≡ u → ⊥) → (bit p v ≡ 1) × (bit p' v ≡ 0)
  taken_place v w gv gv' gw gw' n =
      let lw : bit s.lower w ≡ 0 = omega (arith, G.allowed.includes w) in
      let uv : bit s.upper v ≡ 1 = omega (arith, G.allowed.within v, bit_le s.upper v) in
      let lv' : bit s'.lower v ≡ 0 = omega (arith, G'.allowed.includes v) in
      let uw' : bit s'.upper w ≡ 1 = omega (arith, G'.allowed.within w, bit_le s'.upper w) in
      go (in_turn_lem r s p g v w G (omega (arith, wide.lower v), uv) (lw, omega (arith, wide.others w n)) gv gw)
      (in_turn_lem r' s' p' g' w v G' (omega (arith, wide.others w n), uw') (lv', omega (arith, wide.upper v, bit_le s'.upper v)) gw' gv')
      (dec_le (bit p v) (bit p w)) (dec_le (bit p' w) (bit p' v))
    where
      go : (bit p w ≤ bit p v) × (bit p v ≤ bit p w → r v w ≡ true) → (bit p' v ≤ bit p' w) × (bit p' w ≤ bit p' v → r' w v ≡ true)
          → Dec (bit p v ≤ bit p w) → Dec (bit p' w ≤ bit p' v) → (bit p v ≡ 1) × (bit p' v ≡ 0)
      go (a, h) (b, k) (yes c) (yes d) = absurd (not_both o v w (raised_keeps u r r' up v w n (h c)) (k d))
      go (a, h) (b, k) (yes c) (no d) = omega (arith, drops w n, bit_le p v, bit_le p' w)
      go (a, h) (b, k) (no c) d = omega (arith, drops w n, bit_le p v)

  -- if the second has more units, it has no other than u more
  pub if_more : size g < size g' → (w : ℕ) → (w ≡ u → ⊥) → bit g' w ≤ bit g w
  if_more h w n = bit_within g' g w (λ a b. omega (
    arith,
    drops w n,
    larger r' r s' s p' p g' g w (sym wide.least) (sym wide.greatest) G' G h
        (omega (arith, wide.others w n, G.allowed.includes w)) (omega (arith, wide.others w n, G'.allowed.within w, bit_le s.upper w)),
  ))

  -- if it has fewer, each that it has less was on before the first alone
  pub if_fewer : size g' < size g → (v : ℕ) → bit g v ≡ 1 → bit g' v ≡ 0 → (bit p v ≡ 1) × (bit p' v ≡ 0)
  if_fewer h v gv gv' =
      omega (
        arith,
        bit_le p v,
        larger r r' s s' p p' g g' v wide.least wide.greatest G G' h
            (omega (arith, wide.lower v, G'.allowed.includes v)) (omega (arith, wide.upper v, G.allowed.within v, bit_le s'.upper v)),
      )

  -- the two are near
  pub stable : size (difference p p') ≤ 1 → Near g g'
  stable d = go (dec_lt (size g) (size g')) (dec_lt (size g') (size g))
    where
      even : size g ≡ size g' → Subset g' (insert g u) ⊎ Missing g' (insert g u) → Near g g'
      even e (inl a) = omega (arith, size_both g g', one_at_most g' g u (λ v n. omega (arith, a v, bit_insert_other g u v n)))
      even e (inr (w, (has, lacks))) =
          let gw : bit g w ≡ 0 = omega (arith, subset_insert g u w) in
          let places = difference_few g g' p p' (λ v a b. taken_place v w a b gw has (λ q. omega (arith, bit_insert g u, ap (bit (insert g u)) q))) in
          omega (arith, size_both g g')

      go : Dec (size g < size g') → Dec (size g' < size g) → Near g g'
      go (yes h) e = omega (arith, size_both g g', one_at_most g' g u (if_more h))
      go (no n) (yes h) = omega (arith, size_both g g', difference_few g g' p p' (if_fewer h))
      go (no n) (no m) = even (omega arith) (subset_or_missing g' (insert g u))
