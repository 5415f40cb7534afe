-- The words of the chart have every unit of a set near the plan's that keeps within the total (`on_complete`,
-- `off_complete`). No feasible set of the step takes fewer switches than the plan's does, be it from a set in which
-- one unit has taken the place of another (`no_fewer`), and one with a unit more takes one switch more (`one_dearer`).
use mathlib.Core.Path.{◌≡◌, refl, ap, subst}
use mathlib.Core.Logic.{◌⊎◌, inl, inr, ⊎_elim, ⊎_map}
use mathlib.Core.Bool.{Bool, cond}
use Prim.Native.Nat.{ℕ, ◌+◌, ◌≤◌, ◌<◌}
use native.Mathlib.Decide.{ℕ_discrete, dec_le}
use native.Mathlib.Omega.{arith}
use Rattle.units.specs.Sets.{bit, intersection, difference, Subset, insert, remove, size}
use Rattle.units.proofs.Sets.{bit_cases, bit_difference, bit_insert_other, bit_intersection, bit_le, bit_remove, bit_remove_other, remove_subset, size_except, size_insert, size_mono, size_remove, size_split, subset_or_missing, Missing}
use Rattle.plans.specs.declared.Limits.{Limits}
use Rattle.plans.specs.Switch.{Allows, switches}
use Rattle.plans.proofs.Stands.{GreedyIn}
use Rattle.plans.proofs.Totals.{switches_insert}
use Rattle.tables.specs.Tables.{Later}
use Rattle.tables.proofs.Changed.{lacks_old, has_new, switches_on}
use Rattle.tables.proofs.Forward.{Turns, Moved, row_member}
use Rattle.tables.proofs.Raised.{class, Near}
use Rattle.tables.proofs.Sound.{Stage, Cheap, Replaces, Added, Dropped, CanBeOn, CanBeOff}
use Rattle.tables.proofs.Stable.{bit_within, near_in, near_out}
use Rattle.tables.proofs.Words.{in_intersection, in_difference}

-- ---- the switches of the step

module _ (r : ℕ → ℕ → Bool) (s : Limits) (p t : ℕ) (G : GreedyIn r s p t) where
  -- The greedy set takes no more switches from p than any feasible set x from q, if q has of the required units none
  -- that p lacks, and no more of those that may be on. Either all units that are switched on are required: then they
  -- are on in x too, and off in q. Or else t has the least number of units, and among them every unit of p that may be
  -- on.
  fewest_from : (q x : ℕ) → Allows s x → ((v : ℕ) → bit s.lower v ≡ 1 → bit q v ≤ bit p v)
      → size (intersection q s.upper) ≤ size (intersection p s.upper) → switches p t ≤ switches q x
  unfolding switches
  fewest_from q x a required may = go (subset_or_missing (difference t p) s.lower)
    where
      go : Subset (difference t p) s.lower ⊎ Missing (difference t p) s.lower → size (difference t p) ≤ size (difference x q)
      go (inl h) =
          size_mono (difference t p) (difference x q) (λ v. bit_within (difference t p) (difference x q) v (λ k n.
          let (tv, pv) = (in_difference t p v).0 k in
          let lv : bit s.lower v ≡ 1 = omega (arith, h v, bit_le s.lower v) in
          omega (arith, bit_difference x q v, required v lv, a.includes v)))
      go (inr (v, (d, lv))) =
          let (tv, pv) = (in_difference t p v).0 d in
          omega (
            arith,
            (G.joins v tv pv lv).0,
            a.enough,
            size_split t p,
            size_split x q,
            size_mono (intersection p s.upper) (intersection t p) (λ u. bit_within (intersection p s.upper) (intersection t p) u (λ k n.
                let (pu, uu) = (in_intersection p s.upper u).0 k in
                omega (arith, ((G.leaves u pu uu (omega (arith, bit_intersection t p u))).1 v tv lv).0))),
            size_mono (intersection x q) (intersection q s.upper)
                (λ u. omega (arith, bit_intersection x q u, bit_intersection q s.upper u, a.within u)),
          )

  -- q is p, or has a in place of b, where b may be on and a is not required
  abbrev pub Beside : ℕ → Type 0
  Beside q = (q ≡ p) ⊎ ((b : ℕ) × (a : ℕ) × ((bit p b ≡ 1) × ((bit p a ≡ 0) × ((q ≡ insert (remove p b) a) × ((class s b ≤ 1) × (1 ≤ class s a))))))

  -- so it is from these sets
  pub no_fewer : (q x : ℕ) → Allows s x → Beside q → switches p t ≤ switches q x
  unfolding class
  no_fewer q x fits (inl e) =
      fewest_from q x fits (λ v k. omega (arith, ap (λ (y : ℕ). bit y v) e)) (omega (arith, ap (λ (y : ℕ). size (intersection y s.upper)) e))
  no_fewer q x fits (inr (b, a, (pb, (pa, (e, (cb, ca)))))) =
      let r = remove p b in
      let up = s.upper in
      let ub : bit up b ≡ 1 = omega (arith, bit_le up b, fits.includes b, fits.within b) in
      let la : bit s.lower a ≡ 0 = omega (arith, bit_le up a, fits.includes a, fits.within a) in
      fewest_from q x fits
      (λ v l. omega (arith, ap (λ (y : ℕ). bit y v) e, bit_insert_other r a v (λ k. omega (arith, ap (bit s.lower) k)), remove_subset p b v))
      (omega (
        arith,
        ap (λ (y : ℕ). size (intersection y up)) e,
        size_except (intersection (insert r a) up) (intersection r up) a
            (λ v n. omega (arith, bit_intersection (insert r a) up v, bit_intersection r up v, bit_insert_other r a v n)),
        size_except (intersection p up) (intersection r up) b
            (λ v n. omega (arith, bit_intersection p up v, bit_intersection r up v, bit_remove_other p b v n)),
        bit_le (intersection (insert r a) up) a,
        bit_intersection p up b,
        bit_intersection r up b,
        bit_remove p b,
      ))

  -- and with a free unit more there is one switch more: where the step allows one more, no unit that was on and may be
  -- on has left
  pub one_dearer : (q u : ℕ) → bit t u ≡ 0 → bit s.upper u ≡ 1 → size t < s.greatest → Beside q → switches p t + 1 ≤ switches q (insert t u)
  unfolding class
  one_dearer q u tu uu room beside = go beside
    where
      stays : (v : ℕ) → bit p v ≡ 1 → bit s.upper v ≡ 1 → bit t v ≡ 1
      stays v pv uv = ⊎_elim (λ e. absurd (omega (arith, (G.leaves v pv uv e).0))) (λ e. e) (bit_cases t v)

      was_off : bit p u ≡ 0
      was_off = ⊎_elim (λ e. e) (λ e. absurd (omega (arith, stays u e uu))) (bit_cases p u)

      go : Beside q → switches p t + 1 ≤ switches q (insert t u)
      go (inl e) = rw e (omega (arith, switches_insert p t u tu, was_off))
      go (inr (b, a, (pb, (pa, (e, (cb, ca)))))) =
          let tb = stays b pb (omega (arith, bit_le s.upper b, G.allowed.includes b, G.allowed.within b)) in
          omega (arith, switches_insert q t u tu, switches_on p q b a pb pa e t, one (ℕ_discrete u a))
        where
          one : Dec (u ≡ a) → bit t a + bit q u ≤ 1
          one (yes d) = omega (arith, ap (bit t) d, bit_le q u)
          one (no n) =
              omega (arith, bit_le t a, ap (λ (y : ℕ). bit y u) e, bit_insert_other (remove p b) a u n, remove_subset p b u, was_off)

-- ---- the words

module _ (tight : Bool) {s : Limits} {p t h : ℕ} {f : ℕ → ℕ} {w : Later} {due : ℕ → ℕ} (g : Stage s p t h f w due)
    (q x : ℕ) (fits : Allows s x) (near : Near t x) (cost : switches q x + due x ≤ switches p t + due t + cond tight 0 1) where
  -- x is cheap, if it takes no fewer switches than t
  cheap_by : (y : ℕ) (Reached : Type 0) → x ≡ y → switches p t ≤ switches q x → (switches q x ≤ switches p t → Reached) → Cheap tight due t y Reached
  cheap_by y Reached e far reach = subst (λ (z : ℕ). Cheap tight due t z Reached) e (go (dec_le (switches q x) (switches p t)))
    where
      go : Dec (switches q x ≤ switches p t) → Cheap tight due t x Reached
      go (yes k) = inl (reach k, omega arith)
      go (no n) = inr (omega arith)

  placed_by : (b a : ℕ) → bit t b ≡ 1 → bit t a ≡ 0 → x ≡ insert (remove t b) a → switches p t ≤ switches q x
      → (q ≡ p) ⊎ ((c : ℕ) × (d : ℕ) × (Moved h f p q c d × ((d ≡ a) ⊎ (c ≡ b)))) → Replaces tight g b a
  placed_by b a tb ta e far from = cheap_by (insert (remove t b) a) (Turns p t h f b a) e far (row_member p t h f q x b a tb ta e from)

  -- if x has a unit, then this can be on
  pub on_complete : (u : ℕ) → bit x u ≡ 1 → (bit t u ≡ 0 → switches p t ≤ switches q x)
      → (bit t u ≡ 0 → size t < s.greatest → switches p t + 1 ≤ switches q (insert t u)) → (q ≡ p) ⊎ ((b : ℕ) × Moved h f p q b u) → CanBeOn tight g u
  on_complete u xu far dear from = ⊎_elim off inl (bit_cases t u)
    where
      off : bit t u ≡ 0 → CanBeOn tight g u
      off tu = inr ((omega (arith, fits.within u, bit_le s.upper u), tu), ⊎_map added placed (near_in t x near u xu tu))
        where
          added : x ≡ insert t u → Added tight g u
          added e =
              let room : size t < s.greatest = omega (arith, fits.few, ap size e, size_insert t u tu) in
              (room, omega (arith, dear tu room, ap (switches q) e, ap due e))

          placed : (b : ℕ) × ((bit t b ≡ 1) × (x ≡ insert (remove t b) u)) → (b : ℕ) × (((bit t b ≡ 1) × (bit s.lower b ≡ 0)) × Replaces tight g b u)
          placed (b, (tb, e)) = (
            b,
            (
              (tb, omega (arith, fits.includes b, lacks_old t x b u tb tu e)),
              placed_by b u tb tu e (far tu) (⊎_map (λ k. k) (λ (c, m). (c, u, (m, inl refl))) from),
            ),
          )

  -- and if it lacks it, then this can be off
  pub off_complete : (u : ℕ) → bit x u ≡ 0 → (bit t u ≡ 1 → switches p t ≤ switches q x) → (q ≡ p) ⊎ ((a : ℕ) × Moved h f p q u a) → CanBeOff tight g u
  off_complete u xu far from = ⊎_elim inl on (bit_cases t u)
    where
      on : bit t u ≡ 1 → CanBeOff tight g u
      on tu = inr ((tu, omega (arith, fits.includes u)), ⊎_map dropped placed (near_out t x near u tu xu))
        where
          dropped : x ≡ remove t u → Dropped tight g u
          dropped e = (omega (arith, fits.enough, ap size e, size_remove t u tu), omega (arith, far tu, ap due e))

          placed : (a : ℕ) × ((bit t a ≡ 0) × (x ≡ insert (remove t u) a)) → (a : ℕ) × (((bit s.upper a ≡ 1) × (bit t a ≡ 0)) × Replaces tight g u a)
          placed (a, (ta, e)) = (
            a,
            (
              (omega (arith, fits.within a, has_new t x u a tu ta e, bit_le s.upper a), ta),
              placed_by u a tu ta e (far tu) (⊎_map (λ k. k) (λ (d, m). (u, d, (m, inr refl))) from),
            ),
          )
