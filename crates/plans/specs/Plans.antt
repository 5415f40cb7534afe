-- What is said of all plans: the fewest switches of any feasible plan, and which units some plan within a bound has
-- on, or off, in a step. It is said of steps of any kind, of which a test says what a step allows; `allows` is the
-- test of the steps that `Limits` describes.
use Rattle.std.specs.Prelude.{ℕ, zero, suc, ◌-◌, ◌^◌, ◌<◌, min, Bool, true, false, cond, ◌&&◌, List, [], ◌∷◌, ◌++◌, map, leb, length, replicate}
use Rattle.units.specs.Sets.{union, difference, is_subset, size}
use Rattle.plans.specs.declared.Limits.{Limits}
use Rattle.plans.specs.Switch.{total}

-- ---- steps with limits

-- the test of `Allows`
unfoldable pub allows : Limits → ℕ → Bool
allows s x = is_subset s.lower x && is_subset x s.upper && leb s.least (size x) && leb (size x) s.greatest

-- each step's upper set has units below d alone
abbrev pub Below : ℕ → List Limits → Type 0
Below d [] = Unit {0}
Below d (s ∷ ss) = (s.upper < 2 ^ d) × Below d ss

-- ---- lists

-- the elements of a list that pass a test
unfoldable pub select : {A : Type 0} → (A → Bool) → List A → List A
select test [] = []
select test (a ∷ rest) = let kept = select test rest in cond (test a) (a ∷ kept) kept

-- the numbers below k: the sets of units below d are those below 2 ^ d
unfoldable pub below : ℕ → List ℕ
below zero = []
below (suc k) = below k ++ (k ∷ [])

-- every plan with one of the sets first and one of the plans after it
unfoldable pub prefixed : List ℕ → List (List ℕ) → List (List ℕ)
prefixed [] plans = []
prefixed (x ∷ xs) plans = map (λ p. x ∷ p) plans ++ prefixed xs plans

-- the least number of a list, where it has any
unfoldable pub least_of : List ℕ → ℕ
least_of [] = 0
least_of (x ∷ []) = x
least_of (x ∷ y ∷ xs) = min x (least_of (y ∷ xs))

-- step by step, the units that some of two plans has
unfoldable pub joined : List ℕ → List ℕ → List ℕ
joined [] ys = []
joined (x ∷ xs) [] = []
joined (x ∷ xs) (y ∷ ys) = union x y ∷ joined xs ys

-- step by step, the units that some plan of a list has; n is the number of steps
unfoldable pub joined_all : ℕ → List (List ℕ) → List ℕ
joined_all n [] = replicate n 0
joined_all n (p ∷ ps) = joined p (joined_all n ps)

-- ---- all plans, for steps of any kind

module _ {S : Type 0} (test : S → ℕ → Bool) where
  -- the test that each set of a plan is one that its step allows
  unfoldable pub is_feasible : List S → List ℕ → Bool
  is_feasible [] [] = true
  is_feasible [] (x ∷ xs) = false
  is_feasible (s ∷ ss) [] = false
  is_feasible (s ∷ ss) (x ∷ xs) = test s x && is_feasible ss xs

  -- all feasible plans with units below d
  unfoldable pub plans_of : ℕ → List S → List (List ℕ)
  plans_of d [] = [] ∷ []
  plans_of d (s ∷ ss) = prefixed (select (test s) (below (2 ^ d))) (plans_of d ss)

  -- the fewest switches of any feasible plan (fewest, in docs/FORMAT.md)
  unfoldable pub fewest : ℕ → ℕ → List S → ℕ
  fewest d start ss = least_of (map (total start) (plans_of d ss))

  -- the plans within the bound: those that meet the sheet
  unfoldable pub plans_within : ℕ → ℕ → ℕ → List S → List (List ℕ)
  plans_within d bound start ss = select (λ p. leb (total start p) bound) (plans_of d ss)

  -- the chart: the units that can be on in each step, and those that can be off
  unfoldable pub can_be_on : ℕ → ℕ → ℕ → List S → List ℕ
  can_be_on d bound start ss = joined_all (length ss) (plans_within d bound start ss)

  unfoldable pub can_be_off : ℕ → ℕ → ℕ → List S → List ℕ
  can_be_off d bound start ss = joined_all (length ss) (map (map (difference (2 ^ d - 1))) (plans_within d bound start ss))

  -- the one or the other
  abbrev pub can_be : Bool → ℕ → ℕ → ℕ → List S → List ℕ
  can_be true d bound start ss = can_be_on d bound start ss
  can_be false d bound start ss = can_be_off d bound start ss
