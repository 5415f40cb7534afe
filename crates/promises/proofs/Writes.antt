-- Laws on the answer of `warm_write`: the numbers of its refusals, and what is known where nothing is refused.
use mathlib.Core.Path.{◌≡◌}
use mathlib.Core.Bool.{true, false}
use Prim.Native.Nat.{ℕ, ◌≤◌, ◌<◌}
use native.Mathlib.Omega.{arith}
use borrow.Author.Tests.{ltb-false, eqb-false}
use Rattle.units.specs.Sets.{has_unit_from}
use Rattle.format.specs.Answer.{Answer, Given, unless}
use Rattle.format.specs.Format.{unit_limit, record_limit, sheet_length}
use Rattle.format.proofs.Answers.{passed_first, Numbered}
use Rattle.promises.specs.Write.{write_refusals}

-- 11 and 12 and no other
pub write_numbers : (P : ℕ → Type 0) → P 11 → P 12 → (d start n places : ℕ) → Numbered P (write_refusals d start n places)
unfolding write_refusals Numbered
write_numbers P eleven twelve d start n places = (eleven, (eleven, (eleven, (eleven, (twelve, tt)))))

-- d, the start set and n are within the sheet's limits, and the output has room for the sheet
pub record Limited (d start n places : ℕ) : Type 0 where
  pub some : 0 < d
  pub most : d ≤ unit_limit
  pub own : has_unit_from start d ≡ false
  pub few : n ≤ record_limit
  pub room : sheet_length true n ≤ places

pub limited : {A : Type 0} (d start n places : ℕ) (a : Answer A) {v : A} → unless (write_refusals d start n places) a ≡ Given v → Limited d start n places
unfolding write_refusals
limited d start n places a e =
    let no-unit = passed_first _ _ _ e in
    let units = passed_first _ _ _ no-unit.1 in
    let foreign = passed_first _ _ _ units.1 in
    let steps = passed_first _ _ _ foreign.1 in
    let short = passed_first _ _ _ steps.1 in
    let positive = eqb-false d 0 no-unit.0 in
    record {
      some = omega arith;
      most = ltb-false unit_limit d units.0;
      own = foreign.0;
      few = ltb-false record_limit n steps.0;
      room = ltb-false places (sheet_length true n) short.0;
    }
