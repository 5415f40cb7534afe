-- A set and a plan in parts. `all` has the units of some chambers; where no two have a unit in common (`Apart`), a set
-- that fits in them is one that fits in the first chamber (`first_fits`) and in the rest (`rest_fits`), and such sets
-- together fit (`both_fit`). The switches of a plan are those of its parts (`total_split`).
use mathlib.Core.Path.{◌≡◌, refl, sym, ap, ap₂, ◌∙◌, subst}
use mathlib.Core.List.{List, [], ◌∷◌}
use Prim.Native.Nat.{ℕ, ◌+◌, ◌≤◌, min, max}
use native.Mathlib.Omega.{arith}
use lib.ListN.{length}
use Rattle.units.specs.Sets.{bit, union, intersection, difference, Subset, size}
use Rattle.units.proofs.Sets.{bit_le, bit_union, bit_intersection, bit_difference, set_ext, size_union}
use Rattle.plans.specs.Plans.{joined}
use Rattle.plans.specs.Switch.{Allows, switches, total}
use Rattle.chambers.specs.Chambers.{Chamber, ChamberLimits, least_in, greatest_in, Counted, Fits, part_of}
use Rattle.chambers.specs.Parts.{cut}
use Rattle.chambers.proofs.Joining.{joined_comm}

-- ---- chambers

-- the units of all of them
unfoldable pub all : List Chamber → ℕ
all [] = 0
all (c ∷ cs) = union c.units (all cs)

-- a unit of all is one of the first or one of the rest
pub bit_all : (c : Chamber) (cs : List Chamber) (u : ℕ) → bit (all (c ∷ cs)) u ≡ max (bit c.units u) (bit (all cs) u)
unfolding all
bit_all c cs u = bit_union c.units (all cs) u

-- two sets have no common unit
abbrev pub Disjoint : ℕ → ℕ → Type 0
Disjoint a b = (u : ℕ) → bit a u + bit b u ≤ 1

-- no two of them have a common unit
abbrev pub Apart : List Chamber → Type 0
Apart [] = Unit {0}
Apart (c ∷ cs) = Disjoint c.units (all cs) × Apart cs

-- ---- one step

-- x fits in some chambers: it is a feasible set of their units
pub record FitsIn (cs : List Chamber) (s : ChamberLimits) (x : ℕ) : Type 0 where
  pub includes : Subset (intersection s.lower (all cs)) x
  pub within : Subset x (intersection s.upper (all cs))
  pub counted : Counted cs s x

-- sets that are the same in the chambers are counted the same
pub same_counted : (cs : List Chamber) (s : ChamberLimits) (x y : ℕ) → ((u : ℕ) → min (bit x u) (bit (all cs) u) ≡ min (bit y u) (bit (all cs) u))
    → Counted cs s x → Counted cs s y
same_counted [] s x y h k = tt
same_counted (c ∷ cs) s x y h (l, (g, k)) = (
  subst (λ (z : ℕ). least_in c s ≤ size z) here l,
  (subst (λ (z : ℕ). size z ≤ greatest_in c s) here g, same_counted cs s x y (λ u. omega (arith, h u, bit_all c cs u)) k),
)
  where
    here : intersection x c.units ≡ intersection y c.units
    here =
        set_ext (intersection x c.units) (intersection y c.units)
        (λ u. omega (arith, bit_intersection x c.units u, bit_intersection y c.units u, h u, bit_all c cs u))

-- what a set that is counted has in the chambers is counted the same
pub cut_counted : (cs : List Chamber) (s : ChamberLimits) (x : ℕ) → Counted cs s x → Counted cs s (intersection x (all cs))
cut_counted cs s x k = same_counted cs s x (intersection x (all cs)) (λ u. omega (arith, bit_intersection x (all cs) u)) k

-- a set that fits in the chambers has units of theirs alone
pub fits_inside : (cs : List Chamber) (s : ChamberLimits) (x : ℕ) → FitsIn cs s x → Subset x (all cs)
fits_inside cs s x f u = omega (arith, f.within u, bit_intersection s.upper (all cs) u)

-- where the upper set has units of the chambers alone, the feasible sets are those that fit in the chambers
module _ (cs : List Chamber) (s : ChamberLimits) (own : Subset s.upper (all cs)) (x : ℕ) where
  pub fits_in : Fits cs s x → FitsIn cs s x
  fits_in f =
      record {
        includes = λ u. omega (arith, bit_intersection s.lower (all cs) u, f.includes u);
        within = λ u. omega (arith, bit_intersection s.upper (all cs) u, f.within u, own u);
        counted = f.counted;
      }

  pub in_fits : Subset s.lower s.upper → FitsIn cs s x → Fits cs s x
  in_fits sub f =
      record {
        includes = λ u. omega (arith, bit_intersection s.lower (all cs) u, f.includes u, sub u, own u);
        within = λ u. omega (arith, bit_intersection s.upper (all cs) u, f.within u);
        counted = f.counted;
      }

module _ (c : Chamber) (cs : List Chamber) (s : ChamberLimits) where
  -- the units that a set has in the first chamber, in the rest, and in both
  own : (x u : ℕ) → bit (intersection x c.units) u ≡ min (bit x u) (bit c.units u)
  own x = bit_intersection x c.units

  others : (x u : ℕ) → bit (intersection x (all cs)) u ≡ min (bit x u) (bit (all cs) u)
  others x = bit_intersection x (all cs)

  both : (x u : ℕ) → bit (intersection x (all (c ∷ cs))) u ≡ min (bit x u) (bit (all (c ∷ cs)) u)
  both x = bit_intersection x (all (c ∷ cs))

  -- a set that fits, in the first chamber and in the rest
  pub first_fits : (x : ℕ) → FitsIn (c ∷ cs) s x → Allows (part_of c s) (intersection x c.units)
  first_fits x f =
      record {
        includes = λ u. omega (arith, own s.lower u, own x u, f.includes u, both s.lower u, bit_all c cs u);
        within = λ u. omega (arith, own s.upper u, own x u, f.within u, both s.upper u);
        enough = f.counted.0;
        few = f.counted.1.0;
      }

  pub rest_fits : (x : ℕ) → FitsIn (c ∷ cs) s x → FitsIn cs s (intersection x (all cs))
  rest_fits x f =
      record {
        includes = λ u. omega (arith, others s.lower u, others x u, f.includes u, both s.lower u, bit_all c cs u);
        within = λ u. omega (arith, others s.upper u, others x u, f.within u, both s.upper u);
        counted = cut_counted cs s x f.counted.1.1;
      }

  -- and two such sets together
  pub both_fit : Disjoint c.units (all cs) → (x y : ℕ) → Allows (part_of c s) x → FitsIn cs s y → FitsIn (c ∷ cs) s (union x y)
  both_fit apart x y a f =
      record {
        includes =
            λ u. omega (arith, bit_union x y u, a.includes u, f.includes u, own s.lower u, others s.lower u, both s.lower u, bit_all c cs u);
        within = λ u. omega (arith, bit_union x y u, a.within u, f.within u, own s.upper u, others s.upper u, both s.upper u, bit_all c cs u);
        counted = (
          subst (λ (z : ℕ). least_in c s ≤ size z) (sym first) a.enough,
          (
            subst (λ (z : ℕ). size z ≤ greatest_in c s) (sym first) a.few,
            same_counted cs s y (union x y)
                (λ u. omega (arith, bit_union x y u, a.within u, own s.upper u, apart u)) f.counted,
          ),
        );
      }
    where
      first : intersection (union x y) c.units ≡ x
      first =
          set_ext (intersection (union x y) c.units) x
          (λ u. omega (arith, own (union x y) u, bit_union x y u, a.within u, own s.upper u, fits_inside cs s y f u, apart u))

-- ---- units of a set

-- of two sets without a common unit, x has as many units as of each
pub size_parts : (m n : ℕ) → Disjoint m n → (x : ℕ) → size (intersection x (union m n)) ≡ size (intersection x m) + size (intersection x n)
size_parts m n apart x =
    ap size
    (set_ext (intersection x (union m n)) (union (intersection x m) (intersection x n))
    (λ u.
    omega (
      arith,
      bit_intersection x (union m n) u,
      bit_union m n u,
      bit_union (intersection x m) (intersection x n) u,
      bit_intersection x m u,
      bit_intersection x n u,
    )))
    ∙ size_union (intersection x m) (intersection x n) (λ u. omega (arith, bit_intersection x m u, bit_intersection x n u, apart u))

-- a set of units of m has all of them in m
pub inside_whole : (m x : ℕ) → Subset x m → intersection x m ≡ x
inside_whole m x h = set_ext (intersection x m) x (λ u. omega (arith, bit_intersection x m u, h u))

-- all units of a plan are units of m
abbrev pub Inside : ℕ → List ℕ → Type 0
Inside m [] = Unit {0}
Inside m (x ∷ p) = Subset x m × Inside m p

-- what such a plan has of m is the plan
pub inside_cut : (m : ℕ) (p : List ℕ) → Inside m p → cut m p ≡ p
inside_cut m [] h = refl
inside_cut m (x ∷ p) h = ap₂ ◌∷◌ (inside_whole m x h.0) (inside_cut m p h.1)

-- ---- switches

-- those of a plan of units of m, where some units were on before
abbrev pub total_in : ℕ → ℕ → List ℕ → ℕ
total_in m start p = total (intersection start m) p

-- the switches of a step among the units of k
switches_cut : (k b x : ℕ) → switches (intersection b k) (intersection x k) ≡ size (intersection (difference x b) k)
unfolding switches
switches_cut k b x =
    ap size
    (set_ext (difference (intersection x k) (intersection b k)) (intersection (difference x b) k)
    (λ u.
    omega (
      arith,
      bit_difference (intersection x k) (intersection b k) u,
      bit_intersection x k u,
      bit_intersection b k u,
      bit_intersection (difference x b) k u,
      bit_difference x b u,
      bit_le x u,
      bit_le k u,
    )))

module _ (m n : ℕ) (apart : Disjoint m n) where
  switches_split : (b x : ℕ) → switches (intersection b (union m n)) (intersection x (union m n))
      ≡ switches (intersection b m) (intersection x m) + switches (intersection b n) (intersection x n)
  switches_split b x =
      switches_cut (union m n) b x ∙ size_parts m n apart (difference x b) ∙ sym (ap₂ ◌+◌ (switches_cut m b x) (switches_cut n b x))

  -- the switches of a plan in two parts
  pub total_split : (b : ℕ) (p : List ℕ) → total_in (union m n) b (cut (union m n) p) ≡ total_in m b (cut m p) + total_in n b (cut n p)
  unfolding total
  total_split b [] = refl
  total_split b (x ∷ p) = omega (arith, switches_split b x, total_split x p)

-- of two plans put together, one of units of m, the other of units of n, the part in m is the first
pub joined_left : (m n : ℕ) → Disjoint m n → (p q : List ℕ) → length p ≡ length q → Inside m p → Inside n q → cut m (joined p q) ≡ p
unfolding joined
joined_left m n apart [] q e f g = refl
joined_left m n apart (x ∷ p) [] e f g = absurd (omega arith)
joined_left m n apart (x ∷ p) (y ∷ q) e f g =
    ap₂ ◌∷◌
    (set_ext (intersection (union x y) m) x (λ u. omega (arith, bit_intersection (union x y) m u, bit_union x y u, f.0 u, g.0 u, apart u)))
    (joined_left m n apart p q (omega arith) f.1 g.1)

module _ (m n : ℕ) (apart : Disjoint m n) (p q : List ℕ) (e : length p ≡ length q) (f : Inside m p) (g : Inside n q) where
  -- and the part in n is the second
  pub joined_right : cut n (joined p q) ≡ q
  joined_right = ap (cut n) (joined_comm p q) ∙ joined_left n m (λ u. omega (arith, apart u)) q p (sym e) g f
