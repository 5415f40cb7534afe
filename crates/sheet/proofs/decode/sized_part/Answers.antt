-- `sheet::decode::sized_part` meets its contract.
use Rattle.std.proofs.Common.{◌≡◌, ℕ, Option, sym, ap, ap₂, ◌∙◌}
use Rattle.units.specs.declared.Sizes.{Sizes}
use Rattle.plans.specs.declared.Limits.{Limits}
use Rattle.plans.specs.Steps.{limits}
use Rattle.chambers.specs.Chambers.{part_of}
use Rattle.format.specs.Format.{limits_of}
use Rattle.plans.specs.Switch.{sizes_of, sized_by, sized}
use Rattle.sheet.proofs.FourParts.{same_sizes}
use Rattle.sheet.proofs.decode.sized_part.Goals.{in-Some, in-None}
use Rattle.sheet.proofs.decode.sized_part.Goals as goal

-- the part, from its two sets and its sizes as they were found
made : (s : Limits) {l u : ℕ} {n m : ℕ × ℕ} {z : Option Sizes} → l ≡ s.lower → u ≡ s.upper → z ≡ sizes_of s → n ≡ m
    → limits l u m.0 m.1 ≡ sized_by (limits l u s.least s.greatest) z → limits l u n.0 n.1 ≡ sized s
unfolding sized
made s {l = l} {u = u} p q e both f = ap (λ (n : ℕ × ℕ). limits l u n.0 n.1) both ∙ f ∙ (λ i. sized_by (limits (p i) (q i) s.least s.greatest) (e i))

pub returns : goal.returns
returns c =
    let s = limits_of c.args.x in
    let found = same_sizes s (sym c.chamber.view_is) c.part_sizes.ensures.value in
    elim c.match-part_sizes.branch [
      | in-Some w ↦ made _ c.intersection.ensures c.intersection-2.ensures (sym w.in-Some.is ∙ found) w.least-is (ap₂ (limits _ _) w.from.ensures w.from-in-Some.ensures)
      | in-None w ↦ made _ c.intersection.ensures c.intersection-2.ensures (sym w.in-None.is ∙ found) w.least-is (ap₂ (limits _ _) w.from-in-None.ensures w.from-in-None-2.ensures)
    ]
    ∙ ap (λ chamber. sized (part_of chamber s)) c.chamber.view_is
