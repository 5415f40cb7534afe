-- Two sheets that agree but for the start set: s passes the checks, and the start set of t holds all units. So t
-- passes the checks too, since the one cause that looks at the start set holds of neither, and it has the bound, the
-- chambers and, but for tags, the steps of s (`restarted`). From the start set of t, loading the first step makes no
-- switch (`total_restarted`).
use mathlib.Core.Path.{◌≡◌, sym, ap, ap₂, ◌∙◌, subst}
use mathlib.Core.Logic.{◌↔◌}
use mathlib.Core.Bool.{false}
use mathlib.Core.List.{List, map}
use Prim.Native.Nat.{ℕ, ◌-◌, ◌^◌}
use native.Mathlib.Omega.{arith}
use lib.ListN.{length}
use lib.Pow.{pow_pos}
use borrow.Author.Tests.{lt-leb}
use Rattle.units.specs.Sets.{has_unit_from}
use Rattle.plans.specs.Switch.{Throughout, total, later_total}
use Rattle.plans.proofs.Loading.{total_later}
use Rattle.chambers.specs.Chambers.{Chamber, ChamberLimits, chambers_of, Fits}
use Rattle.chambers.proofs.Bench.{bench_low}
use Rattle.format.specs.Agreement.{AgreeButStart, untagged}
use Rattle.format.specs.Format.{units_at, units_of, bound_of, start_of, chambers_in}
use Rattle.format.specs.Reading.{steps_of, read_causes}
use Rattle.format.proofs.Agreements.{same_but_start}
use Rattle.format.proofs.Answers.{given_same, given_passes, none_holds, unless_given}
use Rattle.promises.specs.Common.{limits_on, FeasibleOn}
use Rattle.promises.specs.Statements.{Passes}
use Rattle.promises.proofs.Likeness.{untagged_many, untagged_limits}
use Rattle.promises.proofs.Read.{passed, was_opened, bench}

-- all units below d are none from d up
none_beyond : (d : ℕ) → has_unit_from (2 ^ d - 1) d ≡ false
unfolding has_unit_from
none_beyond d = lt-leb (2 ^ d) (2 ^ d - 1) (omega (arith, pow_pos d))

-- the same chambers and the same steps have the same feasible plans
same_feasible : {cs ds : List Chamber} {ss ts : List ChamberLimits} (p : List ℕ) → cs ≡ ds → ss ≡ ts → Throughout (Fits cs) ss p → Throughout (Fits ds) ts p
same_feasible {ds} {ss} p e f h = subst (λ ts. Throughout (Fits ds) ts p) f (subst (λ cs. Throughout (Fits cs) ss p) e h)

-- t passes the checks, and has this in common with s
pub record Restarted (s t : List ℕ) : Type 0 where
  pub passes : Passes t
  pub bound : bound_of t ≡ bound_of s
  pub many : length (steps_of t) ≡ length (steps_of s)
  pub feasible : (p : List ℕ) → FeasibleOn t p ↔ FeasibleOn s p

module _ (s t : List ℕ) (ok : Passes s) (g : AgreeButStart s t) (all : start_of t ≡ 2 ^ units_of s - 1) where
  pub restarted : Restarted s t
  restarted =
      let units : units_of s ≡ units_of t = g.headers units_at (omega arith) in
      let own = (was_opened s (passed s ok)).sound.own_start ∙ sym (ap₂ has_unit_from all (sym units) ∙ none_beyond (units_of s)) in
      let given = sym (same_but_start (omega arith) s t g own 0) ∙ none_holds (read_causes s) _ ok in
      let same = given_same (unless_given (read_causes t) _ given) in
      let steps : map untagged (steps_of t) ≡ map untagged (steps_of s) = λ i. (same i).steps in
      let chambers : chambers_in t ≡ chambers_in s = λ i. chambers_of (same i).chambers in
      let limits = untagged_limits (steps_of t) (steps_of s) steps in
      record {
        passes = given_passes (read_causes t) _ given;
        bound = λ i. (same i).bound;
        many = untagged_many (steps_of t) (steps_of s) steps;
        feasible = λ p. (same_feasible p chambers limits, same_feasible p (sym chambers) (sym limits));
      }

  pub total_restarted : (p : List ℕ) → FeasibleOn s p → total (start_of t) p ≡ later_total p
  total_restarted p f = ap (λ (x : ℕ). total x p) all ∙ total_later (Fits (chambers_in s)) (units_of s) (limits_on s) p (bench_low (chambers_in s) (units_of s) (limits_on s) (bench s (passed s ok)).sound) f
