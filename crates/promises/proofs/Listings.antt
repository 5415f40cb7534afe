-- Laws on the listings of a sheet: what they are by what the reader says and by the plan's total.
use mathlib.Core.Path.{◌≡◌, refl, sym, ap, ◌∙◌}
use mathlib.Core.List.{List, [], ◌∷◌, ◌++◌, map}
use Prim.Native.Nat.{ℕ, ◌+◌, ◌≤◌, ◌<◌}
use Rattle.std.specs.Prelude.{Option}
use Rattle.units.specs.declared.Sizes.{Sizes}
use Rattle.chambers.specs.Chambers.{Chamber, ChamberLimits, sizes_in}
use Rattle.plans.specs.Switch.{total}
use Rattle.format.specs.declared.Summary.{Summary}
use Rattle.format.specs.Answer.{Answer, Refused, Given, unless}
use Rattle.format.specs.Chain.{steps_from}
use Rattle.format.specs.Format.{limits_of, bound_of, start_of, chambers_in}
use Rattle.format.specs.Reading.{read_causes}
use Rattle.format.specs.Stages.{summary_of, summary_read}
use Rattle.format.proofs.Answers.{unless_append, refused_whatever}
use Rattle.promises.specs.Common.{limits_on}
use Rattle.promises.specs.Plan.{support_on, bound_causes}
use Rattle.promises.proofs.Plans.{over_bound, in_bound}
use Rattle.promises.proofs.Read.{was_opened, many_steps, start_is, bound_is, units_are, was_read}
use Rattle.promises.specs.Listing.{refused_line, plan_lines, listing_refusals, listed, listing, sizes_line, sizes_lines, sizes_listed, sizes_listing}

pub listing_staged : (s : List ℕ) → listing s ≡ listed s (unless (read_causes s) (unless (bound_causes s) (Given (support_on s))))
unfolding listing listing_refusals
listing_staged s = ap (listed s) (unless_append (read_causes s) (bound_causes s) (Given (support_on s)))

-- a sheet that the reader refuses
pub listing_unread : (s : List ℕ) {n p : ℕ} → summary_read s ≡ Refused n p → refused_line n p ≡ listing s
unfolding listed
listing_unread s e = ap (listed s) (refused_whatever (read_causes s) (summary_of s) (sym e) _) ∙ sym (listing_staged s)

module _ (s : List ℕ) {x : Summary} (e : summary_read s ≡ Given x) where
  abbrev many : ℕ
  many = total (start_of s) (support_on s)

  told : (a : Answer (List ℕ)) → a ≡ unless (bound_causes s) (Given (support_on s)) → listed s a ≡ listing s
  told a h = ap (listed s) (h ∙ was_read s e _) ∙ sym (listing_staged s)

  -- refusal 9
  pub listing_refused : bound_of s < many → refused_line 9 many ≡ listing s
  unfolding listed
  listing_refused h = told (Refused 9 many) (over_bound s e h)

  -- the plan
  pub listing_planned : many ≤ bound_of s
      → plan_lines x.header.units x.steps x.header.bound x.header.start (support_on s) many ≡ listing s
  unfolding listed
  listing_planned h = rw (units_are s e, sym (many_steps s e), bound_is s e, start_is s e) (told (Given (support_on s)) (in_bound s e h (Given (support_on s))))

-- ---- the sizes of the steps

-- a sheet that the reader refuses
pub sizes_unread : (s : List ℕ) {n p : ℕ} → summary_read s ≡ Refused n p → refused_line n p ≡ sizes_listing s
unfolding sizes_listed sizes_listing
sizes_unread s e = ap (sizes_listed (chambers_in s)) (refused_whatever (read_causes s) (summary_of s) (sym e) (Given (limits_on s)))

-- and one that was read: the sizes of the steps along its chain
pub sizes_read : (s : List ℕ) {x : Summary} → summary_read s ≡ Given x
    → sizes_lines (chambers_in s) 1 (map limits_of (steps_from s 0 x.steps)) ≡ sizes_listing s
unfolding sizes_listed sizes_listing
sizes_read s e = ap (λ xs. sizes_lines (chambers_in s) 1 (map limits_of xs)) (was_opened s e).steps ∙ ap (sizes_listed (chambers_in s)) (was_read s e (Given (limits_on s)))

-- the lines are made of the sizes alone
pub lines_by_sizes : (cs ds : List Chamber) (i : ℕ) (ss ts : List ChamberLimits) → map (sizes_in cs) ss ≡ map (sizes_in ds) ts → sizes_lines cs i ss ≡ sizes_lines ds i ts
unfolding sizes_lines
lines_by_sizes cs ds i ss ts e = lines cs i ss ∙ ap (lines_of i) e ∙ sym (lines ds i ts)
  where
    lines_of : ℕ → List (Option Sizes) → List ℕ
    lines_of i [] = []
    lines_of i (z ∷ zs) = sizes_line i z ++ lines_of (i + 1) zs

    lines : (cs : List Chamber) (i : ℕ) (ss : List ChamberLimits) → sizes_lines cs i ss ≡ lines_of i (map (sizes_in cs) ss)
    lines cs i [] = refl
    lines cs i (s ∷ ss) = ap (λ rest. sizes_line i (sizes_in cs s) ++ rest) (lines cs (i + 1) ss)
