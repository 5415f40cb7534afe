-- The backward walk over the steps: tables that agree on the units held give the same words and the same tables before
-- the step.
use mathlib.Core.Path.{◌≡◌, ap, ap₂, ◌∙◌}
use mathlib.Core.Logic.{◌⊎◌, inl, inr}
use mathlib.Core.Bool.{Bool, cond, not, ◌&&◌, ◌||◌}
use mathlib.Core.List.{List}
use Prim.Native.Nat.{ℕ, suc, ◌≤◌, ◌<◌}
use native.Mathlib.Omega.{arith}
use lib.ListN.{length, get_or, drop, drop_of_length-le}
use lib.Seq.{drop-cons}
use Rattle.units.specs.Sets.{bit, union, intersection, difference, meets, all, contains}
use Rattle.units.proofs.Sets.{bit_cases, bit_difference, bit_le}
use Rattle.plans.specs.Steps.{step_at}
use Rattle.plans.specs.declared.Limits.{Limits}
use Rattle.plans.proofs.Laid.{steps_from_lem}
use Rattle.tables.specs.Tables.{held, free, more, less, set_at, held_at, rows_at, Later, ended, saves_before, dispensable_before, even_row, gain_row, even_before, gain_before, stepped, later_from, in_place, on_word, off_word, later_at, on_at, off_at}
use Rattle.tables.proofs.Words.{contains_in, contains_out, gathered_same, passing_same}
use Rattle.backward.specs.Backs.{SameOn}

-- ---- tables that agree

module _ (s : Limits) (p t : ℕ) (v w : Later) (a : SameOn (held s t) v w) where
  -- the same words
  module _ (tight : Bool) (f g : ℕ → ℕ) (same : (b : ℕ) → b < 64 → bit (held s t) b ≡ 1 → f b ≡ g b) where
    place_same : (b : ℕ) → b < 64 → bit (held s t) b ≡ 1 → in_place tight f v b ≡ in_place tight g w b
    unfolding in_place
    place_same b h e = rw (same b h e, a.even b h e, a.gain b h e)

    pub on_same : on_word tight s t f v ≡ on_word tight s t g w
    unfolding on_word
    on_same =
        ap₂ (λ (i j : ℕ). union t (intersection (free s t) (union (cond (more s t) (cond tight i all) 0) j))) a.saves
        (gathered_same 64 (held s t) (in_place tight f v) (in_place tight g w) place_same)

    pub off_same : (us : ℕ) → off_word tight us s t f v ≡ off_word tight us s t g w
    unfolding off_word
    off_same us =
        ap (union (difference us t))
        (passing_same 64 (held s t) (λ b. (less s t && (not tight || contains v.dispensable b)) || meets (in_place tight f v b) (free s t))
        (λ b. (less s t && (not tight || contains w.dispensable b)) || meets (in_place tight g w b) (free s t))
        (λ b h e.
        ap₂ (λ (i j : ℕ). (less s t && (not tight || contains i b)) || meets j (free s t)) a.dispensable (place_same b h e)))

  -- the same tables before the step
  pub saves_same : saves_before s p t v ≡ saves_before s p t w
  unfolding saves_before
  saves_same =
      rw (a.saves, gathered_same 64 (held s t) v.gain w.gain a.gain, gathered_same 64 (difference (held s t) p) v.even w.even some)
    where
      some : (b : ℕ) → b < 64 → bit (difference (held s t) p) b ≡ 1 → v.even b ≡ w.even b
      some b h e = a.even b h (omega (arith, bit_difference (held s t) p b, bit_le (held s t) b))

  pub dispensable_same : dispensable_before s p t v ≡ dispensable_before s p t w
  unfolding dispensable_before
  dispensable_same =
      ap (union (difference p t))
      (passing_same 64 (held s t)
      (λ b. (less s t && contains v.dispensable b) || (meets (v.even b) (intersection (free s t) p) || meets (v.gain b) (free s t)))
      (λ b. (less s t && contains w.dispensable b) || (meets (w.even b) (intersection (free s t) p) || meets (w.gain b) (free s t)))
      (λ b h e. rw (a.dispensable, a.even b h e, a.gain b h e)))

  -- the row of a unit counts if it is held
  row_agrees : (f g : ℕ → ℕ) (b y : ℕ) → (bit (held s t) b ≡ 1 → f b ≡ g b)
      → cond (contains (held s t) b) (intersection (f b) y) 0 ≡ cond (contains (held s t) b) (intersection (g b) y) 0
  row_agrees f g b y same = go (bit_cases (held s t) b)
    where
      go : (bit (held s t) b ≡ 0) ⊎ (bit (held s t) b ≡ 1)
          → cond (contains (held s t) b) (intersection (f b) y) 0 ≡ cond (contains (held s t) b) (intersection (g b) y) 0
      go (inl e) = rw (contains_out (held s t) b e)
      go (inr e) = rw (contains_in (held s t) b e, same e)

  pub even_same : (b : ℕ) → b < 64 → even_before s p t v b ≡ even_before s p t w b
  unfolding even_before even_row
  even_same b h = rw (saves_same, dispensable_same, row_agrees v.even w.even b (free s t) (a.even b h))

  pub gain_same : (b : ℕ) → b < 64 → gain_before s p t v b ≡ gain_before s p t w b
  unfolding gain_before gain_row
  gain_same b h = rw (saves_same, dispensable_same, row_agrees v.gain w.gain b (free s t) (a.gain b h))

-- ---- along the plan

-- what is still to come, over one step and after the last
pub later_on : (start : ℕ) (ss : List Limits) (plan : List ℕ) (i : ℕ) → i < length ss → i < length plan
    → later_at start ss plan i ≡ stepped (step_at ss i) (set_at start plan i) (get_or plan i 0) (later_at start ss plan (suc i))
unfolding later_at later_from set_at
later_on start ss plan i h k = ap₂ (later_from (set_at start plan i)) (steps_from_lem ss i h) (drop-cons plan i 0 k)

pub later_end : (start : ℕ) (ss : List Limits) (plan : List ℕ) (i : ℕ) → length ss ≤ i → later_at start ss plan i ≡ ended
unfolding later_at later_from
later_end start ss plan i h = ap (λ rest. later_from (set_at start plan i) rest (drop i plan)) (drop_of_length-le ss h)

module _ (start : ℕ) (ss : List Limits) (plan : List ℕ) (i : ℕ) (h : i < length ss) (k : i < length plan) (w : Later)
    (a : SameOn (held_at ss plan (suc i)) w (later_at start ss plan (suc i))) where
  -- the step at i, the plan's sets before and after it, and what is still to come
  abbrev s : Limits
  s = step_at ss i

  abbrev p : ℕ
  p = set_at start plan i

  abbrev t : ℕ
  t = get_or plan i 0

  abbrev v : Later
  v = later_at start ss plan (suc i)

  -- it agrees on the units held after the step
  agrees : SameOn (held s t) w v
  unfolding held_at
  agrees = a

  -- so do the words of the step
  module _ (tight : Bool) (f : ℕ → ℕ) (after : (b : ℕ) → b < 64 → bit (held_at ss plan (suc i)) b ≡ 1 → f b ≡ rows_at start ss plan (suc i) b) where
    pub on_here : on_word tight s t f w ≡ on_at tight start ss plan i
    unfolding on_at set_at held_at
    on_here = on_same s p t w v agrees tight f (rows_at start ss plan (suc i)) after

    pub off_here : (us : ℕ) → off_word tight us s t f w ≡ off_at tight us start ss plan i
    unfolding off_at set_at held_at
    off_here us = off_same s p t w v agrees tight f (rows_at start ss plan (suc i)) after us

  -- and what is still to come before the step
  pub agrees_before : (x : Later) → SameOn (held_at ss plan i) x (stepped s p t w) → SameOn (held_at ss plan i) x (later_at start ss plan i)
  unfolding stepped
  agrees_before x g =
      rw (later_on start ss plan i h k)
      (record {
        saves = g.saves ∙ saves_same s p t w v agrees;
        dispensable = g.dispensable ∙ dispensable_same s p t w v agrees;
        even = λ u l m. g.even u l m ∙ even_same s p t w v agrees u l;
        gain = λ u l m. g.gain u l m ∙ gain_same s p t w v agrees u l;
      })
