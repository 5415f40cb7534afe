-- The cells of the chart: `can_be_on` and `can_be_off` have unit u in step i exactly if some feasible plan within the
-- bound has it on there, or off (`cell`, `cell_on`); there is one for each step (`cell_count`), and none has a unit
-- from d up (`cell_beyond`).
use mathlib.Core.Path.{◌≡◌, refl, sym, ap, ◌∙◌, fun_ext}
use mathlib.Core.Logic.{⊎_elim, ◌↔◌}
use mathlib.Core.Bool.{Bool, true, false}
use mathlib.Core.List.Memᴰ
use mathlib.Core.List.{List, [], ◌∷◌, map, map-id, Memᴰ}
use Prim.Native.Nat.{ℕ, zero, suc, ◌+◌, ◌-◌, ◌^◌, ◌≤◌, ◌<◌, max}
use native.Mathlib.Omega.{arith}
use lib.Dec.{leb}
use lib.ListN.{length, get_or, length-replicate, get_or-replicate}
use lib.Pow.{pow_pos}
use borrow.Author.Tests.{leb-true, le-leb}
use Rattle.units.specs.Sets.{bit, difference}
use Rattle.units.proofs.Sets.{bit_le, bit_cases, bit_empty, bit_full, bit_union, bit_difference, unit_below}
use Rattle.plans.specs.declared.Limits.{Limits}
use Rattle.plans.specs.Switch.{Allows, Throughout, total}
use Rattle.plans.specs.Plans.{allows, Below, plans_of, plans_within, joined, joined_all, can_be_on, can_be_off, can_be}
use Rattle.plans.proofs.AllPlans.{Shows, SomePlanBy, SomePlan, Low, below_low, allows_exactly, select_member, any_length, plan_low, listed_feasible, feasible_listed}

-- ---- joined plans

-- all of the plans have n sets
abbrev pub Long : ℕ → List (List ℕ) → Type 0
Long n ps = (p : List ℕ) → Memᴰ p ps → length p ≡ n

-- f is what the chart takes of a set of a plan
module _ (f : ℕ → ℕ) where
  -- one plan joined to what the others come to
  joined_length : (p r : List ℕ) → length p ≡ length r → length (joined (map f p) r) ≡ length r
  unfolding joined
  joined_length [] r e = e
  joined_length (x ∷ p) [] e = refl
  joined_length (x ∷ p) (y ∷ r) e = ap suc (joined_length p r (omega arith))

  bit_joined : (p r : List ℕ) (i u : ℕ) → i < length p → i < length r
      → bit (get_or (joined (map f p) r) i 0) u ≡ max (bit (f (get_or p i 0)) u) (bit (get_or r i 0) u)
  unfolding joined
  bit_joined [] r i u l k = absurd (omega arith)
  bit_joined (x ∷ p) [] i u l k = absurd (omega arith)
  bit_joined (x ∷ p) (y ∷ r) zero u l k = bit_union (f x) y u
  bit_joined (x ∷ p) (y ∷ r) (suc i) u l k = bit_joined p r i u (omega arith) (omega arith)

  -- all plans joined
  pub all_length : (n : ℕ) (ps : List (List ℕ)) → Long n ps → length (joined_all n (map (map f) ps)) ≡ n
  unfolding joined_all
  all_length n [] h = length-replicate n 0
  all_length n (p ∷ ps) h =
      let ih = all_length n ps (λ q m. h q (Memᴰ.tail m)) in
      joined_length p (joined_all n (map (map f) ps)) (h p (Memᴰ.head refl) ∙ sym ih) ∙ ih

  -- joined they have a unit exactly if f takes it of one of them
  pub all_member : (n i u : ℕ) (ps : List (List ℕ)) → i < n → Long n ps
      → (bit (get_or (joined_all n (map (map f) ps)) i 0) u ≡ 1) ↔ ((p : List ℕ) × Memᴰ p ps × (bit (f (get_or p i 0)) u ≡ 1))
  unfolding joined_all
  all_member n i u [] l h = (
    λ e. absurd (omega (arith, ap (λ (x : ℕ). bit x u) (get_or-replicate n i 0 0 l), bit_empty u)),
    λ r. absurd (Memᴰ.not-nil r.1),
  )
  all_member n i u (p ∷ ps) l h =
      let rest = joined_all n (map (map f) ps) in
      let h' : Long n ps = λ q m. h q (Memᴰ.tail m) in
      let ih = all_member n i u ps l h' in
      let e = bit_joined p rest i u (omega (arith, h p (Memᴰ.head refl))) (omega (arith, all_length n ps h')) in (
        λ o.
            ⊎_elim (λ z. let r = ih.0 (omega arith) in (r.0, Memᴰ.tail r.1, r.2)) (λ z. (p, Memᴰ.head refl, z))
            (bit_cases (f (get_or p i 0)) u),
        λ r.
            ⊎_elim (λ q. omega (arith, ap (λ (x : List ℕ). bit (f (get_or x i 0)) u) q, bit_le (get_or rest i 0) u))
            (λ m. omega (arith, ih.1 (r.0, m, r.2), bit_le (f (get_or p i 0)) u)) (Memᴰ.cases_cons r.1),
      )

-- ---- the chart

-- what the chart takes of a set x: its units, or the units below d that it lacks
abbrev charted : Bool → ℕ → ℕ → ℕ
charted true d x = x
charted false d x = difference (2 ^ d - 1) x

-- steps of any kind
module _ {S : Type 0} (test : S → ℕ → Bool) (A : S → ℕ → Type 0) (exact : (s : S) (x : ℕ) → test s x ≡ true ↔ A s x)
    (d bound start : ℕ) (ss : List S) where
  -- this is the one definition of both
  can_be_is : (on : Bool) → can_be test on d bound start ss ≡ joined_all (length ss) (map (map (charted on d)) (plans_within test d bound start ss))
  unfolding can_be_on can_be_off
  can_be_is true =
      let ps = plans_within test d bound start ss in
      ap (joined_all (length ss)) (sym (ap (λ (f : List ℕ → List ℕ). map f ps) (fun_ext map-id) ∙ map-id ps))
  can_be_is false = refl

  -- the plans within the bound are feasible, and each feasible plan within it is among them
  within_feasible : (p : List ℕ) → Memᴰ p (plans_within test d bound start ss) → Throughout A ss p × (total start p ≤ bound)
  unfolding plans_within
  within_feasible p m =
      let r = (select_member (λ q. leb (total start q) bound) p (plans_of test d ss)).0 m in
      (listed_feasible test A exact d ss p r.0, leb-true _ _ r.1)

  feasible_within : (p : List ℕ) → Low A d ss → Throughout A ss p → total start p ≤ bound → Memᴰ p (plans_within test d bound start ss)
  unfolding plans_within
  feasible_within p b f h =
      (select_member (λ q. leb (total start q) bound) p (plans_of test d ss)).1 (feasible_listed test A exact d ss p b f, le-leb _ _ h)

  within_long : Long (length ss) (plans_within test d bound start ss)
  within_long p m = any_length A ss p (within_feasible p m).0

  -- there is a cell for each step
  pub count : (on : Bool) → length (can_be test on d bound start ss) ≡ length ss
  count on = rw can_be_is (all_length (charted on d) (length ss) (plans_within test d bound start ss) within_long)

  module _ (i u : ℕ) (l : i < length ss) (b : Low A d ss) where
    -- a cell has a unit exactly if the chart takes it of some feasible plan within the bound
    charted_cell : (on : Bool) → (bit (get_or (can_be test on d bound start ss) i 0) u ≡ 1) ↔ SomePlanBy A bound start ss i (λ x. bit (charted on d x) u ≡ 1)
    charted_cell on =
        let cell = all_member (charted on d) (length ss) i u (plans_within test d bound start ss) l within_long in (
          λ e. let (p, m, o) = cell.0 (rw (can_be_is on) at e) in let f = within_feasible p m in (p, (f.0, (f.1, o))),
          λ (p, (f, (h, o))). rw (can_be_is on) (cell.1 (p, feasible_within p b f h, o)),
        )

    -- unit u can be on, or off, in step i exactly if it is so there in some feasible plan within the bound
    pub any_cell : (on : Bool) → u < d → (bit (get_or (can_be test on d bound start ss) i 0) u ≡ 1) ↔ SomePlanBy A bound start ss i (Shows on u)
    any_cell true k = charted_cell true
    any_cell false k =
        let lacks : (x : ℕ) → bit (charted false d x) u + bit x u ≡ 1 =
        λ x. omega (arith, bit_difference (2 ^ d - 1) x u, bit_full d u k, bit_le x u) in (
          λ e. let (p, (f, (h, o))) = (charted_cell false).0 e in (p, (f, (h, omega (arith, lacks (get_or p i 0))))),
          λ (p, (f, (h, o))). (charted_cell false).1 (p, (f, (h, omega (arith, lacks (get_or p i 0))))),
        )

    -- that it can be on holds of units from d up too
    pub any_on : (bit (get_or (can_be_on test d bound start ss) i 0) u ≡ 1) ↔ SomePlanBy A bound start ss i (Shows true u)
    any_on = charted_cell true

    -- and a cell has none of these
    pub any_beyond : (on : Bool) → d ≤ u → bit (get_or (can_be test on d bound start ss) i 0) u ≡ 0
    any_beyond on h = ⊎_elim (λ e. e) (λ e. absurd (never on ((charted_cell on).0 e))) (bit_cases (get_or (can_be test on d bound start ss) i 0) u)
      where
        never : (on : Bool) → SomePlanBy A bound start ss i (λ x. bit (charted on d x) u ≡ 1) → ⊥
        never true (p, (f, (k, o))) = omega (arith, unit_below d (get_or p i 0) u (plan_low test A exact d ss p i l b f) o)
        never false (p, (f, (k, o))) =
            let full : bit (2 ^ d - 1) u ≡ 1 = omega (arith, bit_difference (2 ^ d - 1) (get_or p i 0) u, bit_le (2 ^ d - 1) u) in
            omega (arith, unit_below d (2 ^ d - 1) u (omega (arith, pow_pos d)) full)

-- ---- one chamber

module _ (d bound start : ℕ) (ss : List Limits) where
  pub cell_count : (on : Bool) → length (can_be allows on d bound start ss) ≡ length ss
  cell_count = count allows Allows allows_exactly d bound start ss

  module _ (i u : ℕ) (l : i < length ss) (b : Below d ss) where
    pub cell : (on : Bool) → u < d → (bit (get_or (can_be allows on d bound start ss) i 0) u ≡ 1) ↔ SomePlan bound start ss i (Shows on u)
    cell = any_cell allows Allows allows_exactly d bound start ss i u l (below_low d ss b)

    pub cell_on : (bit (get_or (can_be_on allows d bound start ss) i 0) u ≡ 1) ↔ SomePlan bound start ss i (Shows true u)
    cell_on = any_on allows Allows allows_exactly d bound start ss i u l (below_low d ss b)

    pub cell_beyond : (on : Bool) → d ≤ u → bit (get_or (can_be allows on d bound start ss) i 0) u ≡ 0
    cell_beyond = any_beyond allows Allows allows_exactly d bound start ss i u l (below_low d ss b)
