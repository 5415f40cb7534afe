-- Request Three: how few and how many units may be on in a step. Of each step of a sheet that passes the checks, the
-- two sizes that are listed are the least and the greatest size of a feasible set (`the_printed_sizes`), and every
-- number between them is the size of one too (`the_sizes`). Which lines are listed says `demand_1_sizes`.
use mathlib.Core.Path.{◌≡◌, refl, sym, subst}
use mathlib.Core.Logic.{◌↔◌}
use mathlib.Core.List.{List, Memᴰ}
use Prim.Native.Nat.{ℕ, ◌^◌, ◌≤◌, ◌<◌}
use native.Mathlib.Omega.{arith}
use Rattle.std.specs.Prelude.{Some, IfSome}
use Rattle.units.specs.Limits.{HasSize, InOrder}
use Rattle.units.specs.Sets.{size}
use Rattle.units.specs.declared.Sizes.{Sizes}
use Rattle.chambers.specs.Chambers.{ChamberLimits, sum, chambers_of, Fits, sizes_in}
use Rattle.chambers.proofs.Bench.{below_in, sound_at}
use Rattle.chambers.proofs.Dealt.{dealt_apart, dealt_whole}
use Rattle.chambers.proofs.Sizes.{sizes_in_exact, sizes_in_ordered, some_sizes_in}
use Rattle.format.specs.declared.ChamberStep.{ChamberStep}
use Rattle.format.specs.Format.{limits_of, units_of, chambers_in}
use Rattle.promises.specs.Common.{limits_on}
use Rattle.promises.specs.Statements.{Passes, LeastAndGreatest}
use Rattle.promises.proofs.Read.{bench, passed}

-- The sizes of a step, which are listed, where its upper set has no unit from d up. A number is the size of some
-- feasible set exactly if it lies from the least to the greatest; if the step has no sizes (`None`), no set is
-- feasible.
pub the_sizes : (d : ℕ) (sizes : List ℕ) → sum sizes ≡ d → (x : ChamberStep) → x.upper < 2 ^ d
    → (k : ℕ) → ((set : ℕ) × (Fits (chambers_of sizes) (limits_of x) set × (size set ≡ k))) ↔ HasSize (sizes_in (chambers_of sizes) (limits_of x)) k
the_sizes d sizes all x own =
    sizes_in_exact (chambers_of sizes) (limits_of x) (dealt_apart 0 0 sizes) (below_in d (chambers_of sizes) (dealt_whole d sizes all) x.upper own)

-- the least is at the most the greatest, so that both are sizes of feasible sets
pub the_sizes_in_order : (sizes : List ℕ) (x : ChamberStep) → IfSome (sizes_in (chambers_of sizes) (limits_of x)) (λ z. z.few ≤ z.many)
the_sizes_in_order sizes x = sizes_in_ordered (chambers_of sizes) (limits_of x)

-- Each step of a sheet that passes the checks has a line, and the two sizes in it are the least and the greatest size
-- of a feasible set of the step.
pub the_printed_sizes : (s : List ℕ) → Passes s → (x : ChamberLimits) → Memᴰ x (limits_on s)
    → (z : Sizes) × ((sizes_in (chambers_in s) x ≡ Some z) × LeastAndGreatest (chambers_in s) x z.few z.many)
the_printed_sizes s ok x m =
    let cs = chambers_in s in
    let b = bench s (passed s ok) in
    let (own, some) = sound_at cs (units_of s) (limits_on s) b.sound x m in
    let (z, e) = some_sizes_in cs x some in
    let ordered = subst InOrder e (sizes_in_ordered cs x) in
    let exact = sizes_in_exact cs x b.apart (below_in (units_of s) cs b.whole x.upper own) in
    let of_size : (k : ℕ) → (z.few ≤ k) × (k ≤ z.many) → (set : ℕ) × (Fits cs x set × (size set ≡ k)) =
    λ k h. (exact k).1 (subst (λ y. HasSize y k) (sym e) h) in (
      z,
      (
        e,
        record {
          least = of_size z.few (omega arith, ordered);
          greatest = of_size z.many (ordered, omega arith);
          all = λ set f. subst (λ y. HasSize y (size set)) e ((exact (size set)).0 (set, (f, refl)));
        },
      ),
    )
