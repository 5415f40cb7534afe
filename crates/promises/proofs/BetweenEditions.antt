-- Request Seven: between editions. A sheet that was converted says the same as before, and so it gets the same
-- plan, chart, verdict and listings (`Converted` in specs/Statements.antt); a sheet of edition 1 that goes up and
-- then down is the same to the byte. The bytes of a converted sheet are `in_edition` in specs/Editions.antt of
-- `format`. When a sheet is converted, and what is replied if not, says `demand_1_convert`.
use mathlib.Core.Path.{◌≡◌, refl, sym, ap, subst, ◌∙◌}
use mathlib.Core.Logic.{inl, inr}
use mathlib.Core.Bool.{Bool, true, false}
use mathlib.Core.List.{List}
use Prim.Native.Nat.{ℕ, ◌≤◌}
use native.Mathlib.Omega.{arith}
use lib.ListN.{length, take, drop}
use lib.Seq.{take_at}
use Rattle.format.specs.declared.ChamberStep.{ChamberStep}
use Rattle.format.specs.Answer.{Given}
use Rattle.format.specs.Editions.{in_edition}
use Rattle.format.specs.Format.{sheet_length, is_first, units_of, records_of, sizes}
use Rattle.format.proofs.Answers.{none_holds}
use Rattle.format.proofs.Remade.{copied}
use Rattle.promises.specs.Common.{written, full_written, wrote}
use Rattle.promises.specs.Convert.{convert_refusals, warm_convert}
use Rattle.promises.specs.declared.Written.{Written}
use Rattle.promises.specs.Statements.{Passes, Converted}
use Rattle.promises.specs.Steps.{warm_steps}
use Rattle.promises.proofs.Converts.{converted_length, convert_gives, converted_from, raised_steps, lowered_again}
use Rattle.promises.proofs.Demand1.{ConvertNumber, demand_1_convert}
use Rattle.promises.proofs.Exactly.{no_first}
use Rattle.promises.proofs.Read.{passed}

-- a sheet already of the wanted edition is copied unaltered
pub copied_unaltered : (first : Bool) (s : List ℕ) → is_first s ≡ first → in_edition first s ≡ s
copied_unaltered first s same = copied first s same

-- the length of a converted sheet, which is the place of refusal 8, is that of a sheet in that edition with as many
-- records
pub needed_length : (first : Bool) (s : List ℕ) → Passes s → length (in_edition first s) ≡ sheet_length first (records_of s)
needed_length first s ok = converted_length first s (passed s ok)

-- Where a sheet was converted, with a reply whose refusal is 0, the first bytes of the output, as many as the reply
-- says, are the sheet in that edition.
the_conversion : (first : Bool) (s out : List ℕ) → (warm_convert first s out).0.refusal ≡ 0
    → (take (warm_convert first s out).0.length (warm_convert first s out).1 ≡ in_edition first s) × (Passes s × (first ≡ true → units_of s ≤ (sizes s).first))
the_conversion first s out handed =
    let t = in_edition first s in
    let exactly = demand_1_convert first s out in
    let none = no_first exactly (λ (r : Written × List ℕ). r.0.refusal) (λ n p number e. some n number e) handed in (
      ap (λ (r : Written × List ℕ). take r.0.length r.1) (exactly.replies none) ∙ take_at t (drop (length t) out) (length t) refl,
      convert_gives first s (length out) (none_holds (convert_refusals first s (length out)) (Given t) none),
    )
  where
    some : (n : ℕ) → ConvertNumber first n → n ≡ 0 → ⊥
    some n (inl (inl (inl (l, h)))) e = omega arith
    some n (inl (inl (inr (l, h)))) e = omega arith
    some n (inl (inr h)) e = omega arith
    some n (inr (down, h)) e = omega arith

-- It passes the checks, and has the same units, bound, start set, chambers, records and steps, but for how numbers are
-- written; so it gets the same plan, chart, verdict and listings.
pub converted_says_the_same : (first : Bool) (s out : List ℕ) → (warm_convert first s out).0.refusal ≡ 0
    → Converted first s (take (warm_convert first s out).0.length (warm_convert first s out).1)
converted_says_the_same first s out handed =
    let (bytes, (ok, low)) = the_conversion first s out handed in
    subst (Converted first s) (sym bytes) (converted_from first s ok low)

-- Going up, `warm_steps` gives the same to the letter.
pub going_up_same_steps : (s out : List ℕ) (list : List ChamberStep) → is_first s ≡ true → (warm_convert false s out).0.refusal ≡ 0
    → warm_steps (take (warm_convert false s out).0.length (warm_convert false s out).1) list ≡ warm_steps s list
going_up_same_steps s out list first handed =
    let (bytes, (ok, low)) = the_conversion false s out handed in
    ap (λ t. warm_steps t list) bytes ∙ raised_steps s ok first list

-- A sheet of edition 1 goes up and then down, into an output with room for it: it is the sheet, to the byte.
pub up_and_down_again : (s out back : List ℕ) → is_first s ≡ true → (warm_convert false s out).0.refusal ≡ 0 → length s ≤ length back
    → warm_convert true (take (warm_convert false s out).0.length (warm_convert false s out).1) back ≡ (full_written (length s), written s back)
unfolding warm_convert wrote
up_and_down_again s out back first handed room =
    let (bytes, (ok, low)) = the_conversion false s out handed in
    ap (λ t. warm_convert true t back) bytes ∙ ap (wrote back) (lowered_again s ok first (length back) room)
