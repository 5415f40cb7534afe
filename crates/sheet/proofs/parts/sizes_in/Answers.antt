-- `sheet::parts::sizes_in` meets its contract.
use mathlib.Core.Path.{sym, ap, ◌∙◌, subst}
use native.Mathlib.Omega.{arith}
use borrow.Author.Rules.{rules}
use Rattle.chambers.specs.Chambers.{plus, sizes_in}
use Rattle.format.specs.Format.{limits_of}
use Rattle.sheet.specs.Few.{AtMost}
use Rattle.sheet.proofs.FourParts.{same_sizes, four_sums, at_most_mono, plus_at_most}
use Rattle.sheet.proofs.parts.sizes_in.Goals.{After-plus-second, After-plus-third}
use Rattle.sheet.proofs.parts.sizes_in.Goals as goal

pub returns-then-not-is_subset : goal.returns-then-not-is_subset
unfolding sizes_in
returns-then-not-is_subset c = simp (sym c.is_subset.ensures ∙ c.if-not-is_subset.true)

pub plus-third-requires : goal.plus-third-requires
plus-third-requires c =
    record {
      a_at_most_1000 = at_most_mono 64 1000 c.part_sizes.result (omega arith) c.part_sizes.ensures.at_most_64;
      b_at_most_1000 = at_most_mono 64 1000 c.part_sizes-fourth.result (omega arith) c.part_sizes-fourth.ensures.at_most_64;
    }

-- the sums of two chambers, and of three
two : (c : After-plus-third) → AtMost 128 c.plus-third.result
two c =
    let a = c.part_sizes in
    let b = c.part_sizes-fourth in
    subst (AtMost 128) (sym c.plus-third.ensures) (plus_at_most 64 64 a.result b.result a.ensures.at_most_64 b.ensures.at_most_64)

three : (c : After-plus-second) → AtMost 192 c.plus-second.result
three c =
    let a = c.part_sizes-2 in
    subst (AtMost 192) (sym c.plus-second.ensures) (plus_at_most 64 128 a.result c.plus-third.result a.ensures.at_most_64 (subst (AtMost 128) (sym c.plus-third.ensures) (plus_at_most 64 64 c.part_sizes.result c.part_sizes-fourth.result c.part_sizes.ensures.at_most_64 c.part_sizes-fourth.ensures.at_most_64)))

pub plus-second-requires : goal.plus-second-requires
plus-second-requires c =
    record {
      a_at_most_1000 = at_most_mono 64 1000 c.part_sizes-2.result (omega arith) c.part_sizes-2.ensures.at_most_64;
      b_at_most_1000 = at_most_mono 128 1000 c.plus-third.result (omega arith) (two (goal.at.plus-second-requires c).After-plus-third);
    }

pub plus-requires : goal.plus-requires
plus-requires c =
    record {
      a_at_most_1000 = at_most_mono 64 1000 c.part_sizes-3.result (omega arith) c.part_sizes-3.ensures.at_most_64;
      b_at_most_1000 = at_most_mono 192 1000 c.plus-second.result (omega arith) (three (goal.at.plus-requires c).After-plus-second);
    }

pub returns : goal.returns
unfolding sizes_in
returns c =
    let s = limits_of c.args.x in
    let second = c.plus-second.ensures ∙ ap (plus _) c.plus-third.ensures in
    simp (sym c.is_subset.ensures ∙ c.if-not-is_subset.false)
    (c.plus.ensures ∙ ap (plus _) second
    ∙ four_sums c.args.chambers.units s (search rules) (same_sizes s c.at-4.ensures c.part_sizes-3.ensures.value) (same_sizes s c.at-3.ensures c.part_sizes-2.ensures.value)
    (same_sizes s c.at-2.ensures c.part_sizes.ensures.value) (same_sizes s c.at.ensures c.part_sizes-fourth.ensures.value))
