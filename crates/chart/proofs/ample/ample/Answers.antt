use Rattle.std.proofs.Common.{ℕ, ◌≡◌, ◌-◌, suc, ap, ◌∙◌, arith, get_or}
use Rattle.units.specs.Sets.{union}
use Rattle.plans.specs.Steps.{step_at}
use Rattle.chart.proofs.Joins.{joined_none, joined_on, joined_all_lem}
use Rattle.chart.proofs.ample.ample.Goals as goal

pub loop-i-init : goal.loop-i-init
loop-i-init c = (joined_none _, joined_none _)

pub loop-i-preserved : goal.loop-i-preserved
unfolding step_at
loop-i-preserved c =
    let l = c.loop-i in
    let j = l.i - 1 in
    let e : l.i ≡ suc j = omega arith in (
      joined_on l.invariant.0 j c.union.result e l.auto.i (c.union.ensures ∙ ap (λ (x : ℕ). union x (get_or l.on j 0)) c.ample_on.ensures),
      joined_on l.invariant.1 j c.union-in-loop-i.result e l.auto.i
          (c.union-in-loop-i.ensures ∙ ap (λ (x : ℕ). union x (get_or l.off j 0)) c.ample_off.ensures),
    )

pub returns : goal.returns
returns c =
    let none : ◌≡◌ {A = ℕ} c.loop-i.i 0 = omega arith in record {
      on_after = joined_all_lem c.loop-i.invariant.0 none;
      off_after = joined_all_lem c.loop-i.invariant.1 none;
    }
