-- The step back: the loop that turns back the rows of a set's units in place, and what a step's words come to in
-- terms of the tables.
use mathlib.Core.Path.{◌≡◌, refl, ap, ◌∙◌}
use mathlib.Core.Logic.{◌⊎◌, inl, inr, ⊎_elim, ⊎_map, ◌↔◌}
use mathlib.Core.Bool.{Bool, true, false, cond, ◌&&◌, ◌||◌}
use mathlib.Core.List.{List}
use Prim.Native.Nat.{ℕ, ◌<◌, ◌^◌}
use native.Mathlib.Omega.{arith}
use lib.ListN.{length, set}
use lib.Seq.{get_or-set_same, get_or-set_other}
use Rattle.units.specs.Members.{Taken}
use Rattle.units.specs.Sets.{bit, union, intersection, difference, contains, meets}
use Rattle.units.proofs.Sets.{bit_empty}
use Rattle.plans.specs.declared.Limits.{Limits}
use Rattle.tables.specs.Places.{rows_of}
use Rattle.tables.specs.Tables.{row_count, gathered, passing, free, held, new, more, less, Later, saves_before, dispensable_before}
use Rattle.tables.proofs.Gathering.{done_on, left_then, none_left, equal_units}
use Rattle.tables.proofs.Words.{bit_gathered, contains_out, in_union, in_difference, in_lacking, passing_same}
use Rattle.backward.specs.Backs.{left_row}
use Rattle.backward.proofs.Finding.{passing_loose}

-- ---- rows that are turned back in place

-- the units of a set that are not left have their rows turned back, and those that are left have theirs as before
pub record TurnedBack (before now : List ℕ) (row : ℕ → ℕ → ℕ) (units left : ℕ) : Type 0 where
  pub done : (b : ℕ) → bit units b ≡ 1 → bit left b ≡ 0 → rows_of now b ≡ row b (rows_of before b)
  pub still : (b : ℕ) → bit left b ≡ 1 → rows_of now b ≡ rows_of before b

-- none is turned back
pub turned_back_none : (l : List ℕ) (row : ℕ → ℕ → ℕ) (units : ℕ) → TurnedBack l l row units units
turned_back_none l row units = record { done = λ b h z. absurd (omega arith); still = λ b h. refl }

-- one more, from its row as it stands
pub turned_back_on : {before now : List ℕ} {row : ℕ → ℕ → ℕ} {units left b rest : ℕ} → TurnedBack before now row units left → Taken left b rest
    → b < length now → (x : ℕ) → x ≡ row b (rows_of now b) → TurnedBack before (set now b x) row units rest
turned_back_on {before} {now} {row} {units} {left} {b} w taken room x e =
    record {
      done =
          done_on taken units (λ v. rows_of (set now b x) v ≡ row v (rows_of before v))
          (λ v h z. get_or-set_other now b v x 0 (λ q. omega (arith, taken.1.has, ap (bit left) q)) ∙ w.done v h z)
          (λ h. get_or-set_same now b x 0 room ∙ e ∙ ap (row b) (w.still b taken.1.has));
      still = λ v h. let (other, before) = left_then taken v h in get_or-set_other now b v x 0 other ∙ w.still v before;
    }

-- none is left
pub turned_back_done : {before now : List ℕ} {row : ℕ → ℕ → ℕ} {units left : ℕ} → TurnedBack before now row units left → left ≡ 0
    → (b : ℕ) → bit units b ≡ 1 → rows_of now b ≡ row b (rows_of before b)
turned_back_done {left} w e b h = w.done b h (none_left left b e)

-- ---- the words of a step

-- what the rows of the units held can save, joined: the even ones of those that were not on, and the gains of all
pub left_gathered : (held p : ℕ) (even gain : ℕ → ℕ)
    → gathered row_count held (left_row p even gain) ≡ union (gathered row_count (difference held p) even) (gathered row_count held gain)
unfolding left_row
left_gathered held p even gain = equal_units (gathered row_count held row) (union evens gains) forth back
  where
    row : ℕ → ℕ
    row b = union (cond (contains p b) 0 (even b)) (gain b)

    evens : ℕ
    evens = gathered row_count (difference held p) even

    gains : ℕ
    gains = gathered row_count held gain

    in_row : (b a : ℕ) → (bit (row b) a ≡ 1) ↔ ((bit (cond (contains p b) 0 (even b)) a ≡ 1) ⊎ (bit (gain b) a ≡ 1))
    in_row b a = in_union (cond (contains p b) 0 (even b)) (gain b) a

    forth : (a : ℕ) → bit (gathered row_count held row) a ≡ 1 → bit (union evens gains) a ≡ 1
    forth a h =
        let (b, (l, (i, r))) = (bit_gathered row_count held row a).0 h in
        (in_union evens gains a).1
        (⊎_map
        (λ x.
        let (o, y) = (in_lacking p b (even b) a).0 x in
        (bit_gathered row_count (difference held p) even a).1 (b, (l, ((in_difference held p b).1 (i, o), y))))
        (λ x. (bit_gathered row_count held gain a).1 (b, (l, (i, x))))
        ((in_row b a).0 r))

    back : (a : ℕ) → bit (union evens gains) a ≡ 1 → bit (gathered row_count held row) a ≡ 1
    back a h =
        ⊎_elim
        (λ x.
        let (b, (l, (i, y))) = (bit_gathered row_count (difference held p) even a).0 x in
        let (j, o) = (in_difference held p b).0 i in
        (bit_gathered row_count held row a).1 (b, (l, (j, (in_row b a).1 (inl ((in_lacking p b (even b) a).1 (o, y)))))))
        (λ x.
        let (b, (l, (i, y))) = (bit_gathered row_count held gain a).0 x in
        (bit_gathered row_count held row a).1 (b, (l, (i, (in_row b a).1 (inr y)))))
        ((in_union evens gains a).0 h)

-- a unit of a set that is taken if a test holds
pub contains_given : (t : Bool) (s b : ℕ) → contains (cond t s 0) b ≡ t && contains s b
contains_given true s b = refl
contains_given false s b = contains_out 0 b (bit_empty b)

module _ (s : Limits) (p t : ℕ) (w : Later) where
  -- the word of the units that save
  pub saves_back : union (new p t) (intersection (free s t) (union (cond (more s t) w.saves 0) (gathered row_count (held s t) (left_row p w.even w.gain))))
      ≡ saves_before s p t w
  unfolding saves_before
  saves_back =
      ap (λ (x : ℕ). union (new p t) (intersection (free s t) (union (cond (more s t) w.saves 0) x))) (left_gathered (held s t) p w.even w.gain)

  -- the word of the units that are dispensable
  pub dispensable_back : held s t < 2 ^ 64
      → union (difference p t)
      (union (intersection (held s t) (cond (less s t) w.dispensable 0))
      (passing row_count (held s t) (λ b. meets (w.even b) (intersection (free s t) p) || meets (w.gain b) (free s t))))
      ≡ dispensable_before s p t w
  unfolding dispensable_before
  dispensable_back word =
      ap (union (difference p t))
      (passing_loose (held s t) (cond (less s t) w.dispensable 0) (λ b. meets (w.even b) (intersection (free s t) p) || meets (w.gain b) (free s t)) word
      ∙ passing_same 64 (held s t) _ _ (λ b k i. rw (contains_given (less s t) w.dispensable b)))
