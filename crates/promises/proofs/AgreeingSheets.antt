-- Sheets that differ only in job tags and in records off the chain (`Agree` in specs/Agreement.antt of `format`)
-- get the same replies, refusals included. The steps list is the same but for the tags that it repeats; what the
-- sheets are converted to has their own tags and unused records.
use mathlib.Core.Path.{◌≡◌, ap}
use mathlib.Core.Bool.{Bool}
use mathlib.Core.List.{List, map}
use Prim.Native.Nat.{ℕ}
use native.Mathlib.Omega.{arith}
use lib.ListN.{length}
use Rattle.format.specs.declared.ChamberStep.{ChamberStep}
use Rattle.format.specs.Agreement.{Agree, untagged, read_untagged}
use Rattle.format.proofs.Agreements.{same_records, same_read}
use Rattle.promises.specs.Chart.{warm_chart}
use Rattle.promises.specs.Convert.{warm_convert}
use Rattle.promises.specs.Plan.{warm_plan}
use Rattle.promises.specs.Listing.{printed, list_plan, list_sizes}
use Rattle.promises.specs.Steps.{warm_steps}
use Rattle.promises.specs.Verdict.{warm_verdict}
use Rattle.promises.proofs.Converts.{same_reply}
use Rattle.promises.proofs.Likeness.{untagged_alike, alike_reply, alike_list, alike_plan, alike_chart, alike_verdict, alike_listing, alike_sizes}

-- They get the same refusal of the reader, or say the same but for tags, and whatever is made of that is the same.
pub agreeing_sheets : (s t : List ℕ) → Agree s t → read_untagged s ≡ read_untagged t
agreeing_sheets s t g = same_read s t g

-- so `warm_steps` gives the same reply, and the same list but for tags
pub agreeing_steps : (s t : List ℕ) (out : List ChamberStep) → Agree s t
    → ((warm_steps s out).0 ≡ (warm_steps t out).0) × (map untagged (warm_steps s out).1 ≡ map untagged (warm_steps t out).1)
unfolding warm_steps
agreeing_steps s t out g = let e = agreeing_sheets s t g in (alike_reply s t e (length out), alike_list s t e out)

-- and the others give the same in all
pub agreeing_plan : (s t out : List ℕ) → Agree s t → warm_plan s out ≡ warm_plan t out
agreeing_plan s t out g = alike_plan s t _ _ (agreeing_sheets s t g) (untagged_alike s t) out

pub agreeing_chart : (s t on off : List ℕ) → Agree s t → warm_chart s on off ≡ warm_chart t on off
agreeing_chart s t on off g = alike_chart s t _ _ (agreeing_sheets s t g) (untagged_alike s t) on off

pub agreeing_verdict : (s t plan : List ℕ) → Agree s t → warm_verdict s plan ≡ warm_verdict t plan
agreeing_verdict s t plan g = alike_verdict s t _ _ (agreeing_sheets s t g) (untagged_alike s t) plan

-- what they are converted to has their own tags and unused records, but the reply is the same
pub agreeing_convert : (first : Bool) (s t out : List ℕ) → Agree s t → (warm_convert first s out).0 ≡ (warm_convert first t out).0
agreeing_convert first s t out g = same_reply first s t (agreeing_sheets s t g) (same_records (omega arith) s t g) out

pub agreeing_listing : (s t out : List ℕ) → Agree s t → list_plan s out ≡ list_plan t out
agreeing_listing s t out g = ap (λ text. printed text out) (alike_listing s t _ _ (agreeing_sheets s t g) (untagged_alike s t))

pub agreeing_sizes : (s t out : List ℕ) → Agree s t → list_sizes s out ≡ list_sizes t out
agreeing_sizes s t out g = ap (λ text. printed text out) (alike_sizes s t _ _ (agreeing_sheets s t g) (untagged_alike s t))
