-- The words of the chart at a step, from what is found of the units held.
use mathlib.Core.Path.{◌≡◌, refl, ap, ◌∙◌}
use mathlib.Core.Bool.{Bool, true, false, cond, not, ◌&&◌, ◌||◌}
use Prim.Native.Nat.{ℕ, ◌<◌, ◌^◌}
use Rattle.units.specs.Sets.{union, intersection, difference, contains, meets, all}
use Rattle.units.proofs.Sets.{contains_empty}
use Rattle.plans.specs.declared.Limits.{Limits}
use Rattle.tables.specs.Tables.{row_count, passing, free, held, less, Later, in_place, off_word}
use Rattle.tables.proofs.Words.{bit_all, contains_in, passing_same}
use Rattle.backward.proofs.Finding.{passing_loose}

-- a unit is loose if the step allows one less and there is a switch to spare or it is dispensable
loose_is : (tight less_of : Bool) (dispensable b : ℕ) → b < 64
    → contains (cond less_of (cond tight dispensable all) 0) b ≡ (less_of && (not tight || contains dispensable b))
loose_is true true dispensable b h = refl
loose_is false true dispensable b h = contains_in all b (bit_all b h)
loose_is tight false dispensable b h = contains_empty b

-- the units that can be off
pub off_read : (tight : Bool) (us : ℕ) (s : Limits) (t : ℕ) (turns : ℕ → ℕ) (w : Later) → held s t < 2 ^ 64
    → union (difference us t)
    (union (intersection (held s t) (cond (less s t) (cond tight w.dispensable all) 0))
    (passing row_count (held s t) (λ b. meets (in_place tight turns w b) (free s t))))
    ≡ off_word tight us s t turns w
unfolding off_word
off_read tight us s t turns w word =
    ap (union (difference us t))
    (passing_loose (held s t) (cond (less s t) (cond tight w.dispensable all) 0) (λ b. meets (in_place tight turns w b) (free s t)) word
    ∙ passing_same 64 (held s t) _ _ (λ b k i. rw (loose_is tight (less s t) w.dispensable b k)))
