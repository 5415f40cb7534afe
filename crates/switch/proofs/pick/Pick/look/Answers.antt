-- `switch::pick::Pick::look` meets its contract: laws of `Picking` say what each way out gives.
use mathlib.Core.Path.{◌≡◌, refl, sym, ap, ap₂, ◌∙◌, subst₃}
use Prim.Native.Nat.{ℕ, ◌-◌}
use native.Mathlib.Omega.{arith}
use Rattle.units.specs.Sets.{union, size}
use Rattle.units.proofs.Sets.{union_assoc, union_empty_right}
use Rattle.plans.specs.Support.{taken, tie_order}
use Rattle.switch.specs.Groups.{undecided}
use Rattle.switch.specs.Toward.{toward}
use Rattle.switch.proofs.Picking.{Finds, finds_none, finds_first, finds_far, finds_end, end_has, looked, looked_ended}
use Rattle.switch.proofs.pick.Pick.look.Goals as goal

pub returns-then-later-self : goal.returns-then-later-self
returns-then-later-self c =
    let p = c.args.self in
    let s = c.args.s in
    let same : undecided s.lower s.upper p.rest ≡ p.rest = sym c.undecided-later.ensures ∙ c.if-later-self.true in
    looked s p p 0 refl (sym (union_empty_right p.found)) (finds_none p.last s.lower s.upper p.rest p.left p.enough same)

pub returns-then-self-many : goal.returns-then-self-many
returns-then-self-many c =
    let p = c.args.self in
    let s = c.args.s in
    let after = c.ended.result in
    let first = c.group-first.ensures in
    let many = c.size-many.ensures ∙ ap size first in
    looked_ended s p after _ c.ended.ensures.last
    (c.ended.ensures.found ∙ c.by_tie.ensures ∙ ap (λ (x : ℕ). union p.found (taken (toward p.last tie_order) p.left x)) first)
    c.ended.ensures.none_left
    (finds_first p.last s.lower s.upper p.rest p.left p.enough (omega arith) after.rest)

pub invariant_of-end : goal.invariant_of-end
invariant_of-end c =
    let p = c.args.self in
    let s = c.args.s in
    let many = c.size-many.ensures ∙ ap size c.group-first.ensures in
    let others = c.size-others.ensures ∙ ap size c.undecided-later.ensures in
    record {
      enough = omega (arith, ap size c.group.ensures, end_has p.last s.lower s.upper p.rest p.left p.enough (omega arith) (omega arith));
    }

pub returns-then-others-after : goal.returns-then-others-after
returns-then-others-after c =
    let p = c.args.self in
    let s = c.args.s in
    let after = c.ended-then-others-after.result in
    let told = c.ended-then-others-after.ensures in
    let first = c.group-first.ensures in
    let many = c.size-many.ensures ∙ ap size first in
    let far = c.undecided-later.ensures in
    let others = c.size-others.ensures ∙ ap size far in
    let found = c.union-then-others-after.ensures ∙ ap (union p.found) (c.union.ensures ∙ ap₂ union first far) in
    let end = ap₂ (λ (x y : ℕ). taken (toward p.last tie_order) x y) (ap₂ (λ (x y : ℕ). p.left - x - y) many others) c.group.ensures in
    looked_ended s p after _ told.last
    (told.found ∙ c.by_tie-then-others-after.ensures ∙ ap₂ union found end ∙ union_assoc p.found _ _ ∙ ap (union p.found) (union_assoc _ _ _))
    told.none_left
    (finds_end p.last s.lower s.upper p.rest p.left p.enough (omega arith) (omega arith) after.rest)

pub returns : goal.returns
returns c =
    let p = c.args.self in
    let s = c.args.s in
    let first = c.group-first.ensures in
    let many = c.size-many.ensures ∙ ap size first in
    let far = c.undecided-later.ensures in
    let others = c.size-others.ensures ∙ ap size far in
    looked s p _ c.group-first.result refl c.union-2.ensures
    (subst₃ (λ (x y z : ℕ). Finds p.last s.lower s.upper p.rest p.left x y z)
    (sym first) (sym far) (sym (ap (λ (x : ℕ). p.left - x) many))
    (finds_far p.last s.lower s.upper p.rest p.left p.enough (omega arith) (omega arith)))
