-- `campaign::check::count_fits` meets its contract: the count is one of the sizes of the chamber's part, or there is
-- none.
use Rattle.campaign.proofs.Checking.{counted_by}
use Rattle.chambers.specs.Chambers.{size_in}
use Rattle.format.specs.Format.{limits_of}
use Rattle.std.proofs.Common.{◌≡◌, ◌&&◌, refl, sym, ap, ◌∙◌, arith}
use Rattle.std.proofs.Math.Dec.{leb}
use Rattle.std.proofs.lemmas.Grind.{common_steps}
use Rattle.std.proofs.lemmas.Bool.Decides.{nat_tests}
use Rattle.campaign.proofs.check.count_fits.Goals as goal

pub returns-in_default : goal.returns-in_default
returns-in_default c =
    let a = c.args in
    counted_by a.chamber (limits_of a.x) a.set {k = size_in a.chamber a.set} c.requires.lower_in_set c.requires.set_in_upper refl
    (sym c.in_default.is ∙ c.part_sizes.ensures.value)

pub returns : goal.returns
returns c =
    let a = c.args in
    let z = c.in-Some.sizes in
    let k = c.count_in.result in
    let test : c.contains.result ≡ (leb z.few k && leb k z.many) = grind (arith, common_steps, nat_tests, c.new.ensures.start, c.new.ensures.end, c.new.ensures.exhausted, c.contains.ensures.value) in
    let counted = c.count_in.ensures ∙ ap (λ chamber. size_in chamber a.set) c.chamber.view_is in
    test ∙ counted_by a.chamber (limits_of a.x) a.set c.requires.lower_in_set c.requires.set_in_upper counted
    (sym c.in-Some.is ∙ c.part_sizes.ensures.value)
