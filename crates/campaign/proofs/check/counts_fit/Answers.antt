-- `campaign::check::counts_fit` meets its contract: `four_counts`, where each `&&` gives the first of its two tests,
-- if that is false, or else the second.
use Rattle.std.proofs.Common.{Bool, true, false, ◌&&◌, ◌≡◌, ℕ, get_or, refl, sym, ap, ◌∙◌, rules}
use Rattle.format.specs.Format.{limits_of}
use Rattle.chambers.specs.Chambers.{Chamber, chamber, count_fits}
use Rattle.campaign.proofs.Checking.{four_counts}
use Rattle.campaign.proofs.check.counts_fit.Goals.{then-count_fits, else-count_fits, then-count_fits-2, else-count_fits-2}
use Rattle.campaign.proofs.check.counts_fit.Goals as goal

first : {a v p : Bool} (q : Bool) → a ≡ p → a ≡ false → v ≡ a → v ≡ (p && q)
first q e f g = g ∙ f ∙ (λ i. (sym f ∙ e) i && q)

second : {a b v p q : Bool} → a ≡ p → a ≡ true → v ≡ b → b ≡ q → v ≡ (p && q)
second {q = q} e t f g = f ∙ g ∙ (λ i. (sym t ∙ e) i && q)

pub returns-then-count_fits-3 : goal.returns-then-count_fits-3
returns-then-count_fits-3 c =
    let us = c.args.chambers.units in
    let fit : ℕ → Bool = λ n. count_fits (chamber n (get_or us n 0)) (limits_of c.args.x) c.args.set in
    let test : Chamber → Bool = λ here. count_fits here (limits_of c.args.x) c.args.set in
    let two : c.if-count_fits.value ≡ (fit 0 && fit 1) =
    elim c.if-count_fits.branch [
      | then-count_fits w ↦ second (c.count_fits.ensures ∙ ap test c.at.ensures) w.if-count_fits.true w.value-is (w.count_fits-then-count_fits.ensures ∙ ap test w.at-then-count_fits.ensures)
      | else-count_fits w ↦ first _ (c.count_fits.ensures ∙ ap test c.at.ensures) w.if-count_fits.false w.value-is
    ] in
    let three : c.if-count_fits-2.value ≡ (fit 0 && fit 1 && fit 2) =
    elim c.if-count_fits-2.branch [
      | then-count_fits-2 w ↦ second two w.if-count_fits-2.true w.value-is (w.count_fits-then-count_fits-2.ensures ∙ ap test w.at-then-count_fits-2.ensures)
      | else-count_fits-2 w ↦ first _ two w.if-count_fits-2.false w.value-is
    ] in
    second three c.if-count_fits-3.true refl (c.count_fits-then-count_fits-3.ensures ∙ ap test c.at-then-count_fits-3.ensures) ∙ four_counts us (limits_of c.args.x) c.args.set (search rules)

pub returns-else-count_fits-3 : goal.returns-else-count_fits-3
returns-else-count_fits-3 c =
    let us = c.args.chambers.units in
    let fit : ℕ → Bool = λ n. count_fits (chamber n (get_or us n 0)) (limits_of c.args.x) c.args.set in
    let test : Chamber → Bool = λ here. count_fits here (limits_of c.args.x) c.args.set in
    let two : c.if-count_fits.value ≡ (fit 0 && fit 1) =
    elim c.if-count_fits.branch [
      | then-count_fits w ↦ second (c.count_fits.ensures ∙ ap test c.at.ensures) w.if-count_fits.true w.value-is (w.count_fits-then-count_fits.ensures ∙ ap test w.at-then-count_fits.ensures)
      | else-count_fits w ↦ first _ (c.count_fits.ensures ∙ ap test c.at.ensures) w.if-count_fits.false w.value-is
    ] in
    let three : c.if-count_fits-2.value ≡ (fit 0 && fit 1 && fit 2) =
    elim c.if-count_fits-2.branch [
      | then-count_fits-2 w ↦ second two w.if-count_fits-2.true w.value-is (w.count_fits-then-count_fits-2.ensures ∙ ap test w.at-then-count_fits-2.ensures)
      | else-count_fits-2 w ↦ first _ two w.if-count_fits-2.false w.value-is
    ] in
    first _ three c.if-count_fits-3.false refl ∙ four_counts us (limits_of c.args.x) c.args.set (search rules)
