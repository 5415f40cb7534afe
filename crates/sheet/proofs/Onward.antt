-- Laws on the steps that are still to come after a record: where one is left, it is that of the next record, and the
-- others follow that record; and the first of them lie within the sheet as all do.
use Rattle.std.proofs.Common.{◌≡◌, ℕ, zero, suc, ◌-◌, ◌≤◌, ◌<◌, List, [], ◌∷◌, length, refl, ap, subst, arith}
use Rattle.format.specs.Chain.{Within, Inside, steps_from}
use Rattle.format.specs.Format.{next_of, step_of}

pub none_left : (s : List ℕ) (at left : ℕ) → left ≡ 0 → steps_from s at left ≡ []
unfolding steps_from
none_left s at left e = ap (steps_from s at) e

-- the record and the next lie whole within the sheet, and so do those that follow
pub record Onward (s : List ℕ) (at left : ℕ) : Type 0 where
  pub here : Within s at
  pub some : 0 < next_of s at
  pub there : Within s (next_of s at)
  pub others : Inside s (next_of s at) (left - 1)
  pub steps : steps_from s at left ≡ step_of s (next_of s at) ∷ steps_from s (next_of s at) (left - 1)

pub onward : (s : List ℕ) (at left : ℕ) → (left ≡ 0 → ⊥) → Inside s at left → Onward s at left
unfolding Inside steps_from
onward s at zero n h = absurd (n refl)
onward s at (suc left) n h =
    let less : left ≡ suc left - 1 = omega arith in
    record {
      here = h.0;
      some = h.1.0.0;
      there = h.1.0.1;
      others = subst (Inside s (next_of s at)) less h.1.1;
      steps = ap (λ (k : ℕ). step_of s (next_of s at) ∷ steps_from s (next_of s at) k) less;
    }

-- how many they are
pub steps_long : (s : List ℕ) (at n : ℕ) → length (steps_from s at n) ≡ n
unfolding steps_from
steps_long s at zero = refl
steps_long s at (suc n) = ap suc (steps_long s (next_of s at) n)

-- where so many records after a record lie whole within the sheet, so do the first k of them
pub first_inside : (s : List ℕ) (at n k : ℕ) → k ≤ n → Inside s at n → Inside s at k
unfolding Inside
first_inside s at n zero h all = tt
first_inside s at zero (suc k) h all = absurd (omega (arith, h))
first_inside s at (suc n) (suc k) h all = (all.0, (all.1.0, first_inside s (next_of s at) n k (omega (arith, h)) all.1.1))
