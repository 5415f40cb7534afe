-- `switch::pick::Pick::by_tie` meets its contract: what clearing the units leaves, taken away, is those units
-- (`taken_cleared`), and what clearing the others leaves is those units too (`taken_others`).
use mathlib.Core.Path.{ap, ◌∙◌}
use mathlib.Core.Bool.{not}
use Prim.Native.Nat.{ℕ, ◌-◌}
use Rattle.units.specs.Sets.{union, difference}
use Rattle.plans.specs.Support.{taken, tie_order}
use Rattle.switch.specs.Toward.{toward}
use Rattle.switch.proofs.Picking.{taken_cleared, taken_others}
use Rattle.switch.proofs.pick.Pick.by_tie.Goals as goal

pub returns-then-self-others : goal.returns-then-self-others
returns-then-self-others c =
    let p = c.args.self in
    c.union.ensures
    ∙ ap (union p.found) (c.difference.ensures ∙ ap (difference p.rest) c.cleared-without.ensures ∙ taken_cleared p.last p.left p.rest p.enough)

pub returns : goal.returns
returns c =
    let p = c.args.self in
    c.union-2.ensures
    ∙ ap (union p.found)
    (c.cleared.ensures
    ∙ ap (λ (m : ℕ). difference p.rest (taken (toward (not p.last) tie_order) (m - p.left) p.rest)) c.size.ensures
    ∙ taken_others p.last p.left p.rest p.enough)
