-- A sheet with all of its units in the first chamber is the case of one chamber (`single`), whatever its edition: the
-- other chambers have no unit, and what its steps say of them plays no part. A sheet of edition 1 is such a sheet
-- (`first_is_single`).
use mathlib.Core.Path.{◌≡◌, sym, ap, ap₂, ◌∙◌, subst}
use mathlib.Core.Bool.{Bool, true, false, cond}
use mathlib.Core.List.{List, map}
use Prim.Native.Nat.{ℕ, ◌^◌, ◌≤◌, ◌<◌}
use native.Mathlib.Omega.{arith}
use borrow.Author.Tests.{leb-false}
use Rattle.units.specs.Sets.{has_unit_from}
use Rattle.chambers.specs.Chambers.{chambers_of, sum, Fits, fits, sizes_in, support_in}
use Rattle.chambers.specs.Parts.{one_chamber}
use Rattle.chambers.proofs.Bench.{Sound}
use Rattle.chambers.proofs.One.{one_plan_fits, one_fewest, one_chart, one_sizes_all, one_plan}
use Rattle.plans.specs.Plans.{fewest, can_be_on, can_be_off}
use Rattle.plans.specs.Switch.{Throughout}
use Rattle.format.specs.declared.ChamberSizes.{ChamberSizes}
use Rattle.format.specs.Format.{is_first, units_of, bound_of, start_of, one_size, four_sizes, sizes, sizes_list, chambers_in}
use Rattle.promises.specs.Chart.{on_words, off_words}
use Rattle.promises.specs.Common.{limits_on}
use Rattle.promises.specs.Plan.{fewest_on, support_on}
use Rattle.promises.specs.Statements.{Passes, OneChamber}
use Rattle.promises.proofs.Read.{passed, was_opened, start_is, units_are, all_dealt, bench}

-- where the first chamber has no fewer units than the sheet, it has all
pub first_has_all : (s : List ℕ) → Passes s → units_of s ≤ (sizes s).first → sizes s ≡ one_size (units_of s)
unfolding sum
first_has_all s ok h =
    let dealt = all_dealt s (passed s ok) in
    let z = sizes s in
    let first : z.first ≡ units_of s = omega (arith, dealt) in
    let second : z.second ≡ 0 = omega (arith, dealt) in
    let third : z.third ≡ 0 = omega (arith, dealt) in
    let fourth : z.fourth ≡ 0 = omega (arith, dealt) in
    λ i. record { first = first i; second = second i; third = third i; fourth = fourth i }

-- so it has in edition 1
pub first_is_single : (s : List ℕ) → is_first s ≡ true → sizes s ≡ one_size (units_of s)
unfolding sizes
first_is_single s edition = ap (λ (b : Bool). cond b (one_size (units_of s)) (four_sizes s)) edition

module _ (s : List ℕ) (ok : Passes s) (one : sizes s ≡ one_size (units_of s)) where
  chambers_one : chambers_in s ≡ one_chamber (units_of s)
  chambers_one = ap (λ (z : ChamberSizes). chambers_of (sizes_list z)) one

  pub single : OneChamber s
  unfolding fewest_on support_on on_words off_words has_unit_from
  single =
      let e = passed s ok in
      let d = units_of s in
      let ss = limits_on s in
      let sound = subst (λ cs. Sound cs d ss) chambers_one (bench s e).sound in
      let own : start_of s < 2 ^ d = leb-false (2 ^ d) (start_of s) (sym (ap₂ has_unit_from (start_is s e) (units_are s e)) ∙ (was_opened s e).sound.own_start) in
      record {
        chambers = ap sizes_list one;
        feasible =
            λ plan.
            let f = one_plan_fits d ss plan sound in (
              λ g. f.0 (subst (λ cs. Throughout (Fits cs) ss plan) chambers_one g),
              λ g. subst (λ cs. Throughout (Fits cs) ss plan) (sym chambers_one) (f.1 g),
            );
        fewest = (λ i. fewest (fits (chambers_one i)) d (start_of s) ss) ∙ one_fewest d (start_of s) ss sound;
        support = (λ i. support_in (chambers_one i) (start_of s) ss) ∙ one_plan d (start_of s) ss own sound;
        on = (λ i. can_be_on (fits (chambers_one i)) d (bound_of s) (start_of s) ss) ∙ one_chart d true (bound_of s) (start_of s) ss sound;
        off = (λ i. can_be_off (fits (chambers_one i)) d (bound_of s) (start_of s) ss) ∙ one_chart d false (bound_of s) (start_of s) ss sound;
        sizes = (λ i. map (sizes_in (chambers_one i)) ss) ∙ one_sizes_all d ss sound;
      }
