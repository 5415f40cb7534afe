-- Laws on sets of units. A set is known by its units (`set_ext`), each operation by the units of its result
-- (`bit_union` and so on), and a size by what one unit more or less does to it and by the list of the units
-- (`size_insert`, `size_units`). Sets that differ in one unit are compared at that unit and at the others (`by_unit`),
-- and their sizes by what they are at it (`size_except`). On digits the intersection is `min`, the union `max` and the
-- difference `-`, so that omega proves each identity of sets unit by unit.
use mathlib.Core.Path.{◌≡◌, refl, sym, ap, ap₂, ◌∙◌, subst}
use mathlib.Core.Logic.{◌⊎◌, inl, inr, ⊎_elim, ◌↔◌}
use mathlib.Core.Bool.{true, false, cond}
use mathlib.Core.List.Memᴰ
use mathlib.Core.List.{[], ◌∷◌, ◌++◌, Memᴰ}
use Prim.Native.Nat.{ℕ, zero, suc, ◌+◌, ◌-◌, ◌*◌, ◌/◌, ◌%◌, ◌^◌, ◌≤◌, ◌<◌, min, max}
use native.Mathlib.Nat.{pow-suc, mod-lt}
use native.Mathlib.Numerals.{one-add}
use native.Mathlib.Decide.{ℕ_discrete, dec_le}
use native.Mathlib.Omega.{arith}
use lib.Arith.{bin_ind}
use lib.Bits.{and_step, or_step, and_le_l}
use lib.Count.{ones, ones_step, ones-le}
use lib.Dec.{eqb, leb}
use lib.ListN.{length, length-append}
use lib.Pow.{pow_pos, shr-shr, split}
use borrow.Author.Tests.{eqb-true, eqb-false, eq-eqb, leb-true, le-leb}
use Rattle.units.specs.Sets.{bit, union, intersection, difference, Subset, is_subset, contains, insert, remove, size, units_below, has_unit_from}

-- ---- the digits of a number

pub bit_zero : (s : ℕ) → bit s 0 ≡ s % 2
unfolding bit
bit_zero s = omega arith

pub bit_suc : (s u : ℕ) → bit s (suc u) ≡ bit (s / 2) u
unfolding bit
bit_suc s u = ap (λ (x : ℕ). x % 2) (ap (λ (k : ℕ). s / 2 ^ k) (sym (one-add u)) ∙ sym (shr-shr s 1 u))

pub bit_le : (s u : ℕ) → bit s u ≤ 1
unfolding bit
bit_le s u = omega arith

pub bit_cases : (s u : ℕ) → (bit s u ≡ 0) ⊎ (bit s u ≡ 1)
bit_cases s u = go (bit s u) (bit_le s u)
  where
    go : (x : ℕ) → x ≤ 1 → (x ≡ 0) ⊎ (x ≡ 1)
    go zero h = inl refl
    go (suc x) h = inr (omega arith)

halved : (v : ℕ) → 2 ^ suc v / 2 ≡ 2 ^ v
halved v = omega (arith, pow-suc 2 v)

-- 0 has no unit
pub bit_empty : (u : ℕ) → bit 0 u ≡ 0
bit_empty zero = bit_zero 0
bit_empty (suc u) = bit_suc 0 u ∙ bit_empty u

-- an operation on numbers that works digit by digit
module _ (f g : ℕ → ℕ → ℕ) (half : (a b : ℕ) → f a b / 2 ≡ f (a / 2) (b / 2)) (odd : (a b : ℕ) → f a b % 2 ≡ g (a % 2) (b % 2)) where
  by_digits : (u a b : ℕ) → bit (f a b) u ≡ g (bit a u) (bit b u)
  by_digits zero a b = bit_zero (f a b) ∙ odd a b ∙ sym (ap₂ g (bit_zero a) (bit_zero b))
  by_digits (suc u) a b =
      bit_suc (f a b) u ∙ ap (λ (x : ℕ). bit x u) (half a b) ∙ by_digits u (a / 2) (b / 2) ∙ sym (ap₂ g (bit_suc a u) (bit_suc b u))

intersection_half : (a b : ℕ) → intersection a b / 2 ≡ intersection (a / 2) (b / 2)
unfolding intersection
intersection_half a b = omega (arith, and_step a b)

intersection_odd : (a b : ℕ) → intersection a b % 2 ≡ min (a % 2) (b % 2)
unfolding intersection
intersection_odd a b = omega (arith, and_step a b)

union_half : (a b : ℕ) → union a b / 2 ≡ union (a / 2) (b / 2)
unfolding union
union_half a b = omega (arith, or_step a b)

union_odd : (a b : ℕ) → union a b % 2 ≡ max (a % 2) (b % 2)
unfolding union
union_odd a b = omega (arith, or_step a b)

difference_half : (a b : ℕ) → difference a b / 2 ≡ difference (a / 2) (b / 2)
unfolding difference
difference_half a b = omega (arith, and_step a b, and_le_l (a / 2) (b / 2))

difference_odd : (a b : ℕ) → difference a b % 2 ≡ a % 2 - b % 2
unfolding difference
difference_odd a b = omega (arith, and_step a b, and_le_l (a / 2) (b / 2))

pub bit_intersection : (a b u : ℕ) → bit (intersection a b) u ≡ min (bit a u) (bit b u)
bit_intersection a b u = by_digits intersection min intersection_half intersection_odd u a b

pub bit_union : (a b u : ℕ) → bit (union a b) u ≡ max (bit a u) (bit b u)
bit_union a b u = by_digits union max union_half union_odd u a b

pub bit_difference : (a b u : ℕ) → bit (difference a b) u ≡ bit a u - bit b u
bit_difference a b u = by_digits difference (λ x y. x - y) difference_half difference_odd u a b

-- two sets with the same units are equal
pub set_ext : (a b : ℕ) → ((u : ℕ) → bit a u ≡ bit b u) → a ≡ b
set_ext a =
    bin_ind (λ (n : ℕ). (b : ℕ) → ((u : ℕ) → bit n u ≡ bit b u) → n ≡ b)
    (λ b h. empty b h)
    (λ n ih b h. joined n b (ih (b / 2) (λ u. sym (bit_suc n u) ∙ h (suc u) ∙ bit_suc b u)) (sym (bit_zero n) ∙ h 0 ∙ bit_zero b))
    a
  where
    joined : (n b : ℕ) → n / 2 ≡ b / 2 → n % 2 ≡ b % 2 → n ≡ b
    joined n b p q = omega arith

    empty : (b : ℕ) → ((u : ℕ) → bit 0 u ≡ bit b u) → 0 ≡ b
    empty b =
        bin_ind (λ (m : ℕ). ((u : ℕ) → bit 0 u ≡ bit m u) → 0 ≡ m)
        (λ h. refl)
        (λ m ih h. joined 0 m (ih (λ u. sym (bit_suc 0 u) ∙ h (suc u) ∙ bit_suc m u)) (sym (bit_zero 0) ∙ h 0 ∙ bit_zero m))
        b

-- ---- unions and differences

pub union_assoc : (a b c : ℕ) → union (union a b) c ≡ union a (union b c)
union_assoc a b c =
    set_ext (union (union a b) c) (union a (union b c)) (λ u. omega (arith, bit_union (union a b) c u, bit_union a b u, bit_union a (union b c) u, bit_union b c u))

pub union_empty_left : (a : ℕ) → union 0 a ≡ a
union_empty_left a = set_ext (union 0 a) a (λ u. omega (arith, bit_union 0 a u, bit_empty u))

pub union_empty_right : (a : ℕ) → union a 0 ≡ a
union_empty_right a = set_ext (union a 0) a (λ u. omega (arith, bit_union a 0 u, bit_empty u))

pub difference_empty : (a : ℕ) → difference a 0 ≡ a
difference_empty a = set_ext (difference a 0) a (λ u. omega (arith, bit_difference a 0 u, bit_empty u))

-- ---- subsets

pub subset_holds : (a b : ℕ) → is_subset a b ≡ true → Subset a b
unfolding is_subset
subset_holds a b t u = omega (arith, bit_intersection a b u, ap (λ (x : ℕ). bit x u) (eqb-true (intersection a b) a t))

pub subset_test : (a b : ℕ) → Subset a b → is_subset a b ≡ true
unfolding is_subset
subset_test a b h = eq-eqb (intersection a b) a (set_ext (intersection a b) a (λ u. omega (arith, bit_intersection a b u, h u)))

-- ---- one unit

-- the set 2 ^ v has the unit v alone
pub bit_single : (v : ℕ) → bit (2 ^ v) v ≡ 1
bit_single zero = bit_zero 1
bit_single (suc v) = bit_suc (2 ^ suc v) v ∙ ap (λ (x : ℕ). bit x v) (halved v) ∙ bit_single v

pub bit_single_other : (v u : ℕ) → (u ≡ v → ⊥) → bit (2 ^ v) u ≡ 0
bit_single_other zero zero h = absurd (h refl)
bit_single_other zero (suc u) h = bit_suc 1 u ∙ bit_empty u
bit_single_other (suc v) zero h = bit_zero (2 ^ suc v) ∙ omega (arith, pow-suc 2 v)
bit_single_other (suc v) (suc u) h =
    bit_suc (2 ^ suc v) u ∙ ap (λ (x : ℕ). bit x u) (halved v) ∙ bit_single_other v u (λ e. h (ap suc e))

pub bit_insert : (s v : ℕ) → bit (insert s v) v ≡ 1
unfolding insert
bit_insert s v = omega (arith, bit_union s (2 ^ v) v, bit_single v, bit_le s v)

pub bit_insert_other : (s v u : ℕ) → (u ≡ v → ⊥) → bit (insert s v) u ≡ bit s u
unfolding insert
bit_insert_other s v u h = omega (arith, bit_union s (2 ^ v) u, bit_single_other v u h)

pub bit_remove : (s v : ℕ) → bit (remove s v) v ≡ 0
unfolding remove
bit_remove s v = omega (arith, bit_difference s (2 ^ v) v, bit_single v, bit_le s v)

pub bit_remove_other : (s v u : ℕ) → (u ≡ v → ⊥) → bit (remove s v) u ≡ bit s u
unfolding remove
bit_remove_other s v u h = omega (arith, bit_difference s (2 ^ v) u, bit_single_other v u h)

pub contains_insert : (s v : ℕ) → contains (insert s v) v ≡ true
unfolding contains
contains_insert s v = eq-eqb (bit (insert s v) v) 1 (bit_insert s v)

pub contains_insert_other : (s v u : ℕ) → (u ≡ v → ⊥) → contains (insert s v) u ≡ contains s u
unfolding contains
contains_insert_other s v u h = ap (λ (x : ℕ). eqb x 1) (bit_insert_other s v u h)

pub contains_empty : (u : ℕ) → contains 0 u ≡ false
unfolding contains
contains_empty u = ap (λ (x : ℕ). eqb x 1) (bit_empty u)

pub outside : (s u : ℕ) → contains s u ≡ false → bit s u ≡ 0
unfolding contains
outside s u h = ⊎_elim (λ e. e) (λ e. absurd (eqb-false (bit s u) 1 h e)) (bit_cases s u)

pub remove_le : (s v : ℕ) → remove s v ≤ s
unfolding remove difference
remove_le s v = omega arith

-- ---- one unit more or less

-- what holds of unit v and of every other unit holds of all
pub by_unit : (v : ℕ) (F : ℕ → Type 0) → F v → ((u : ℕ) → (u ≡ v → ⊥) → F u) → (u : ℕ) → F u
by_unit v F one others u = go (ℕ_discrete u v)
  where
    go : Dec (u ≡ v) → F u
    go (yes e) = subst F (sym e) one
    go (no n) = others u n

pub subset_insert : (x v : ℕ) → Subset x (insert x v)
unfolding insert
subset_insert x v u = omega (arith, bit_union x (2 ^ v) u)

pub insert_subset : (x y v : ℕ) → Subset x y → bit y v ≡ 1 → Subset (insert x v) y
insert_subset x y v h e =
    by_unit v (λ u. bit (insert x v) u ≤ bit y u) (omega (arith, bit_le (insert x v) v)) (λ u n. omega (arith, bit_insert_other x v u n, h u))

-- y is within x, if it is within x with v and lacks v
pub subset_without : (x y v : ℕ) → Subset y (insert x v) → bit y v ≡ 0 → Subset y x
subset_without x y v h e = by_unit v (λ u. bit y u ≤ bit x u) (omega arith) (λ u n. omega (arith, bit_insert_other x v u n, h u))

pub remove_subset : (y v : ℕ) → Subset (remove y v) y
unfolding remove
remove_subset y v u = omega (arith, bit_difference y (2 ^ v) u)

pub subset_remove : (x y v : ℕ) → Subset x y → bit x v ≡ 0 → Subset x (remove y v)
subset_remove x y v h e = by_unit v (λ u. bit x u ≤ bit (remove y v) u) (omega arith) (λ u n. omega (arith, bit_remove_other y v u n, h u))

pub insert_remove : (x v : ℕ) → bit x v ≡ 1 → insert (remove x v) v ≡ x
insert_remove x v e =
    set_ext (insert (remove x v) v) x
    (by_unit v (λ u. bit (insert (remove x v) v) u ≡ bit x u) (omega (arith, bit_insert (remove x v) v))
    (λ u n. bit_insert_other (remove x v) v u n ∙ bit_remove_other x v u n))

-- v taken out of a set that lacks it
remove_none : (x v : ℕ) → bit x v ≡ 0 → remove x v ≡ x
remove_none x v e =
    set_ext (remove x v) x (by_unit v (λ u. bit (remove x v) u ≡ bit x u) (omega (arith, bit_remove x v)) (bit_remove_other x v))

pub union_insert : (a b u : ℕ) → union (insert a u) b ≡ union a (insert b u)
unfolding insert
union_insert a b u =
    set_ext (union (union a (2 ^ u)) b) (union a (union b (2 ^ u)))
    (λ v. omega (arith, bit_union (union a (2 ^ u)) b v, bit_union a (2 ^ u) v, bit_union a (union b (2 ^ u)) v, bit_union b (2 ^ u) v))

pub difference_insert : (a b u : ℕ) → difference a (insert b u) ≡ difference (remove a u) b
unfolding insert remove
difference_insert a b u =
    set_ext (difference a (union b (2 ^ u))) (difference (difference a (2 ^ u)) b)
    (λ v. omega (arith, bit_difference a (union b (2 ^ u)) v, bit_union b (2 ^ u) v, bit_difference (difference a (2 ^ u)) b v, bit_difference a (2 ^ u) v, bit_le a v, bit_le b v))

-- a without (a without b) is b, where b lies within a
pub difference_twice : (a b : ℕ) → Subset b a → difference a (difference a b) ≡ b
difference_twice a b h =
    set_ext (difference a (difference a b)) b (λ u. omega (arith, bit_difference a (difference a b) u, bit_difference a b u, h u))

-- ---- sizes

pub size_step : (s : ℕ) → size s ≡ s % 2 + size (s / 2)
unfolding size
size_step s = ones_step s

pub size_empty : size 0 ≡ 0
unfolding size ones
size_empty = refl

-- a set is made of its units in b and its units outside b
pub size_split : (a b : ℕ) → size a ≡ size (intersection a b) + size (difference a b)
size_split a =
    bin_ind (λ (n : ℕ). (b : ℕ) → size n ≡ size (intersection n b) + size (difference n b))
    (λ b. empty b)
    (λ n ih b. joined n b (ih (b / 2)))
    a
  where
    empty : (b : ℕ) → size 0 ≡ size (intersection 0 b) + size (difference 0 b)
    empty b =
        omega (arith, size_empty) ∙ ap₂ (λ x y. size x + size y) (set_ext 0 (intersection 0 b) (λ u. omega (arith, bit_intersection 0 b u, bit_empty u)))
        (set_ext 0 (difference 0 b) (λ u. omega (arith, bit_difference 0 b u, bit_empty u)))

    joined : (n b : ℕ) → size (n / 2) ≡ size (intersection (n / 2) (b / 2)) + size (difference (n / 2) (b / 2))
        → size n ≡ size (intersection n b) + size (difference n b)
    joined n b h =
        let p : size (intersection n b) ≡ min (n % 2) (b % 2) + size (intersection (n / 2) (b / 2)) =
        size_step (intersection n b) ∙ ap₂ (λ x y. x + size y) (intersection_odd n b) (intersection_half n b) in
        let q : size (difference n b) ≡ (n % 2 - b % 2) + size (difference (n / 2) (b / 2)) =
        size_step (difference n b) ∙ ap₂ (λ x y. x + size y) (difference_odd n b) (difference_half n b) in
        omega (arith, size_step n)

-- without a part of it, a set has just so many units less
pub size_difference : (a b : ℕ) → Subset b a → size a ≡ size (difference a b) + size b
size_difference a b h =
    omega (arith, size_split a b, ap size (set_ext (intersection a b) b (λ u. omega (arith, bit_intersection a b u, h u))))

-- a larger set of a chain has as many units at least
pub size_mono : (a b : ℕ) → Subset a b → size a ≤ size b
size_mono a b h = omega (arith, size_difference b a h)

-- without the units of any set, it has at the most so many less
pub size_difference_le : (a b : ℕ) → size a ≤ size (difference a b) + size b
size_difference_le a b = omega (arith, size_split a b, size_mono (intersection a b) b (λ u. omega (arith, bit_intersection a b u)))

-- sets without a common unit have together as many as both
pub size_union : (a b : ℕ) → ((u : ℕ) → bit a u + bit b u ≤ 1) → size (union a b) ≡ size a + size b
size_union a b h =
    omega (
      arith,
      size_difference (union a b) a (λ u. omega (arith, bit_union a b u)),
      ap size (set_ext (difference (union a b) a) b (λ u. omega (arith, bit_difference (union a b) a u, bit_union a b u, h u))),
    )

pub size_single : (v : ℕ) → size (2 ^ v) ≡ 1
size_single zero = size_step 1 ∙ omega (arith, size_empty)
size_single (suc v) = size_step (2 ^ suc v) ∙ ap (λ (x : ℕ). 2 ^ suc v % 2 + size x) (halved v) ∙ omega (arith, size_single v, pow-suc 2 v)

-- a unit less is one less
pub size_remove : (s v : ℕ) → bit s v ≡ 1 → size s ≡ size (remove s v) + 1
unfolding remove
size_remove s v h = omega (arith, size_difference s (2 ^ v) inside, size_single v)
  where
    inside : Subset (2 ^ v) s
    inside = by_unit v (λ u. bit (2 ^ v) u ≤ bit s u) (omega (arith, bit_le (2 ^ v) v)) (λ u n. omega (arith, bit_single_other v u n))

-- the sizes of two sets that differ in unit v alone
pub size_except : (a b v : ℕ) → ((u : ℕ) → (u ≡ v → ⊥) → bit a u ≡ bit b u) → size a + bit b v ≡ size b + bit a v
size_except a b v same = omega (arith, size_at a (bit_cases a v), size_at b (bit_cases b v), ap size (set_ext (remove a v) (remove b v) alike))
  where
    size_at : (x : ℕ) → (bit x v ≡ 0) ⊎ (bit x v ≡ 1) → size x ≡ size (remove x v) + bit x v
    size_at x (inl e) = omega (arith, ap size (remove_none x v e))
    size_at x (inr e) = omega (arith, size_remove x v e)

    alike : (u : ℕ) → bit (remove a v) u ≡ bit (remove b v) u
    alike =
        by_unit v (λ u. bit (remove a v) u ≡ bit (remove b v) u) (omega (arith, bit_remove a v, bit_remove b v))
        (λ u n. omega (arith, bit_remove_other a v u n, bit_remove_other b v u n, same u n))

-- a unit more is one more
pub size_insert : (s v : ℕ) → bit s v ≡ 0 → size (insert s v) ≡ size s + 1
size_insert s v h = omega (arith, size_except (insert s v) s v (bit_insert_other s v), bit_insert s v)

pub bit_le_size : (s u : ℕ) → bit s u ≤ size s
bit_le_size s u = ⊎_elim (λ e. omega arith) (λ e. omega (arith, size_remove s u e)) (bit_cases s u)

-- units below k are k at the most
pub size_below : (k s : ℕ) → s < 2 ^ k → size s ≤ k
unfolding size
size_below k s h = ones-le k s h

-- a set without units is 0, and one with units is not
pub size_none : (s : ℕ) → size s ≡ 0 → s ≡ 0
size_none s e = set_ext s 0 (λ u. omega (arith, bit_le_size s u, bit_empty u))

pub size_pos : (s : ℕ) → 0 < size s → 0 < s
size_pos zero h = absurd (omega (arith, size_empty))
size_pos (suc s) h = omega arith

-- ---- a unit that is there

-- a set that is not empty has a unit
pub some_unit : (s : ℕ) → 0 < s → (u : ℕ) × (bit s u ≡ 1)
some_unit s =
    bin_ind (λ (n : ℕ). 0 < n → (u : ℕ) × (bit n u ≡ 1)) (λ h. absurd (omega arith)) (λ n ih h. step n ih h (n % 2) refl) s
  where
    step : (n : ℕ) → (0 < n / 2 → (u : ℕ) × (bit (n / 2) u ≡ 1)) → 0 < n → (x : ℕ) → n % 2 ≡ x → (u : ℕ) × (bit n u ≡ 1)
    step n ih h zero e = let r = ih (omega arith) in (suc r.0, bit_suc n r.0 ∙ r.1)
    step n ih h (suc x) e = (0, bit_zero n ∙ omega arith)

-- a unit of a that b lacks
abbrev pub Missing : ℕ → ℕ → Type 0
Missing a b = (u : ℕ) × ((bit a u ≡ 1) × (bit b u ≡ 0))

pub subset_or_missing : (a b : ℕ) → Subset a b ⊎ Missing a b
subset_or_missing a b = go (difference a b) refl
  where
    go : (d : ℕ) → difference a b ≡ d → Subset a b ⊎ Missing a b
    go zero e = inl (λ u. omega (arith, bit_difference a b u, ap (λ (d : ℕ). bit d u) e, bit_empty u))
    go (suc d) e =
        let r = some_unit (difference a b) (omega arith) in
        inr (r.0, omega (arith, bit_difference a b r.0, bit_le a r.0))

-- a set with more units than another has one that the other lacks
pub unit_outside : (a b : ℕ) → size b < size a → Missing a b
unit_outside a b h = ⊎_elim (λ s. absurd (omega (arith, size_mono a b s))) (λ m. m) (subset_or_missing a b)

-- if a has a unit that b lacks, and no more units, then b has one that a lacks
pub other_unit : (a b u : ℕ) → bit a u ≡ 1 → bit b u ≡ 0 → size a ≤ size b → Missing b a
other_unit a b u au bu h =
    let out = unit_outside b (remove a u) (omega (arith, size_remove a u au)) in
    (out.0, (out.1.0, sym (bit_remove_other a u out.0 (λ e. omega (arith, out.1.0, ap (bit b) e))) ∙ out.1.1))

-- ---- sets of units below k

-- a set is below 2 ^ k exactly if it has no unit from k up
pub unit_below : (k s u : ℕ) → s < 2 ^ k → bit s u ≡ 1 → u < k
unit_below zero s u h b = absurd (omega (arith, b, bit_empty u, ap (λ (x : ℕ). bit x u) (zero_is s h)))
  where
    zero_is : (s : ℕ) → s < 2 ^ zero → s ≡ 0
    zero_is s h = omega arith
unit_below (suc k) s zero h b = omega arith
unit_below (suc k) s (suc u) h b = omega (arith, unit_below k (s / 2) u (omega (arith, h, pow-suc 2 k)) (sym (bit_suc s u) ∙ b))

pub bit_above : (k s u : ℕ) → s < 2 ^ k → k ≤ u → bit s u ≡ 0
bit_above k s u h l = ⊎_elim (λ e. e) (λ e. absurd (omega (arith, unit_below k s u h e))) (bit_cases s u)

pub below_pow : (k s : ℕ) → ((u : ℕ) → k ≤ u → bit s u ≡ 0) → s < 2 ^ k
below_pow zero s h = omega (arith, set_ext s 0 (λ u. h u (omega arith) ∙ sym (bit_empty u)))
below_pow (suc k) s h = omega (arith, below_pow k (s / 2) (λ u l. sym (bit_suc s u) ∙ h (suc u) (omega arith)), pow-suc 2 k)

pub subset_below : (k a b : ℕ) → Subset a b → b < 2 ^ k → a < 2 ^ k
subset_below k a b h l = below_pow k a (λ u m. omega (arith, h u, bit_above k b u l m))

-- a set has no unit from its own number up
pub below_own_power : (s : ℕ) → s < 2 ^ s
below_own_power zero = omega arith
below_own_power (suc s) = omega (arith, below_own_power s, pow-suc 2 s)

-- the set 2 ^ k - 1 has all units below k
pub bit_full : (k u : ℕ) → u < k → bit (2 ^ k - 1) u ≡ 1
bit_full zero u l = absurd (omega arith)
bit_full (suc k) zero l = omega (arith, bit_zero (2 ^ suc k - 1), pow-suc 2 k, pow_pos k)
bit_full (suc k) (suc u) l =
    bit_suc (2 ^ suc k - 1) u ∙ ap (λ (x : ℕ). bit x u) (omega (arith, pow-suc 2 k, pow_pos k)) ∙ bit_full k u (omega arith)

-- and each set below 2 ^ k lies within it
pub subset_full : (k s : ℕ) → s < 2 ^ k → Subset s (2 ^ k - 1)
subset_full k s h u = ⊎_elim (λ e. omega (arith, e)) (λ e. omega (arith, e, bit_full k u (unit_below k s u h e))) (bit_cases s u)

-- the test that a set has a unit from d up holds exactly if there is one
pub some_unit_from : (s d : ℕ) → has_unit_from s d ≡ true ↔ ((u : ℕ) × ((d ≤ u) × (bit s u ≡ 1)))
unfolding has_unit_from bit
some_unit_from s d = (found, tested)
  where
    filled : (q : ℕ) → s / 2 ^ d ≡ q → 2 ^ d ≤ s → 0 < q
    filled zero e h = absurd (omega (arith, split s d, mod-lt s (pow_pos d), ap (λ (x : ℕ). x * 2 ^ d) e))
    filled (suc q) e h = omega arith

    found : leb (2 ^ d) s ≡ true → (u : ℕ) × ((d ≤ u) × (bit s u ≡ 1))
    found t =
        let r = some_unit (s / 2 ^ d) (filled (s / 2 ^ d) refl (leb-true (2 ^ d) s t)) in
        (d + r.0, (omega arith, ap (λ (x : ℕ). x % 2) (sym (shr-shr s d r.0)) ∙ r.1))

    tested : ((u : ℕ) × ((d ≤ u) × (bit s u ≡ 1))) → leb (2 ^ d) s ≡ true
    tested w = go (dec_le (2 ^ d) s)
      where
        go : Dec (2 ^ d ≤ s) → leb (2 ^ d) s ≡ true
        go (yes h) = le-leb (2 ^ d) s h
        go (no n) = absurd (omega (arith, unit_below d s w.0 (omega arith) w.1.1, w.1.0))

-- ---- the list of the units that a set names

units_count : (k s : ℕ) → length (units_below (suc k) s) ≡ length (units_below k s) + bit s k
unfolding units_below contains
units_count k s =
    length-append (units_below k s) (cond (eqb (bit s k) 1) (k ∷ []) []) ∙ ap (λ (x : ℕ). length (units_below k s) + x) (go (bit_cases s k))
  where
    go : (bit s k ≡ 0) ⊎ (bit s k ≡ 1) → length (cond (eqb (bit s k) 1) (k ∷ []) []) ≡ bit s k
    go (inl e) = rw e
    go (inr e) = rw e

units_low : (k s : ℕ) → length (units_below (suc k) s) ≡ s % 2 + length (units_below k (s / 2))
unfolding units_below
units_low zero s = units_count zero s ∙ omega (arith, bit_zero s)
units_low (suc k) s = omega (arith, units_count (suc k) s, units_low k s, units_count k (s / 2), bit_suc s k)

-- the size is the length of the list
pub size_units : (k s : ℕ) → s < 2 ^ k → length (units_below k s) ≡ size s
unfolding units_below
size_units zero s h = sym size_empty ∙ ap size (omega arith)
size_units (suc k) s h = omega (arith, units_low k s, size_units k (s / 2) (omega (arith, h, pow-suc 2 k)), size_step s)

-- the list has a unit below k exactly if the set has it
pub units_named : (k s u : ℕ) → Memᴰ u (units_below k s) → (u < k) × (bit s u ≡ 1)
unfolding units_below contains
units_named zero s u m = absurd (Memᴰ.not-nil m)
units_named (suc k) s u m = go (λ m'. units_named k s u m') (bit_cases s k) (Memᴰ.append_cases (units_below k s) m)
  where
    last : (x : ℕ) → bit s k ≡ x → Memᴰ u (cond (eqb (bit s k) 1) (k ∷ []) []) → Memᴰ u (cond (eqb x 1) (k ∷ []) [])
    last x e m' = subst (λ (y : ℕ). Memᴰ u (cond (eqb y 1) (k ∷ []) [])) e m'

    go : (Memᴰ u (units_below k s) → (u < k) × (bit s u ≡ 1)) → (bit s k ≡ 0) ⊎ (bit s k ≡ 1)
        → Memᴰ u (units_below k s) ⊎ Memᴰ u (cond (eqb (bit s k) 1) (k ∷ []) []) → (u < suc k) × (bit s u ≡ 1)
    go ih d (inl m') = let r = ih m' in (omega arith, r.1)
    go ih (inl e) (inr m') = absurd (Memᴰ.not-nil (last 0 e m'))
    go ih (inr e) (inr m') = let q = Memᴰ.eq_of_singleton (last 1 e m') in (omega arith, ap (λ (v : ℕ). bit s v) q ∙ e)

pub named_units : (k s u : ℕ) → u < k → bit s u ≡ 1 → Memᴰ u (units_below k s)
unfolding units_below contains
named_units zero s u l e = absurd (omega arith)
named_units (suc k) s u l e = go (λ l'. named_units k s u l' e) (ℕ_discrete u k)
  where
    go : (u < k → Memᴰ u (units_below k s)) → Dec (u ≡ k) → Memᴰ u (units_below k s ++ cond (eqb (bit s k) 1) (k ∷ []) [])
    go ih (yes q) =
        Memᴰ.append_right (units_below k s)
        (subst (λ (x : ℕ). Memᴰ u (cond (eqb x 1) (k ∷ []) [])) (sym (ap (λ (v : ℕ). bit s v) (sym q) ∙ e)) (Memᴰ.head q))
    go ih (no n) = Memᴰ.append_left (cond (eqb (bit s k) 1) (k ∷ []) []) (ih (omega arith))
