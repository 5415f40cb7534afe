-- The loop that makes the plan: what holds after some steps.
use mathlib.Core.Path.{◌≡◌, refl, sym, ap, ap₂, ◌∙◌}
use mathlib.Core.List.{List, [], ◌∷◌}
use Prim.Native.Nat.{ℕ, suc, ◌+◌, ◌*◌, ◌≤◌, ◌<◌}
use native.Mathlib.Numerals.{add-one}
use native.Mathlib.Omega.{arith}
use lib.ListN.{length, length-set, get_or, drop, set, drop_of_length-le}
use lib.Seq.{sets, drop-cons, get_or-set_other}
use Rattle.units.specs.Sets.{union, difference, size}
use Rattle.plans.specs.declared.Limits.{Limits}
use Rattle.plans.specs.Plans.{joined}
use Rattle.plans.specs.Support.{tie_order, ranks_before, support_set, support_from, find_support_by, find_support}
use Rattle.plans.specs.Switch.{switches, total}

-- The plan from the step at i on, where `before` is on before it.
abbrev pub rest : List Limits → ℕ → ℕ → List ℕ
rest ss i before = support_from (λ k. tie_order) (length ss) (i + 1) before (drop i ss)

-- the set of the step at i, and the plan after it
pub rest_at : (ss : List Limits) (i before x : ℕ) {s : Limits} → drop i ss ≡ s ∷ drop (i + 1) ss
    → x ≡ support_set (ranks_before (length ss) (i + 1) (drop i ss)) s before → rest ss i before ≡ x ∷ rest ss (i + 1) x
unfolding support_from
rest_at ss i before x {s} e is =
    ap (support_from (λ k. tie_order) (length ss) (i + 1) before) e
    ∙ ap (λ (y : ℕ). y ∷ rest ss (i + 1) y) (ap (λ t. support_set (ranks_before (length ss) (i + 1) t) s before) (sym e) ∙ sym is)

-- After i steps: with the sets still to come joined to what the other places hold, the output holds the plan joined to
-- what it held, and the number, with the switches still to come, is the total.
pub record Planned (ss : List Limits) (start : ℕ) (entry now : List ℕ) (i before sum : ℕ) : Type 0 where
  pub same_long : length now ≡ length entry
  pub kept : (j : ℕ) → i ≤ j → get_or now j 0 ≡ get_or entry j 0
  pub ends : sets now i (joined (rest ss i before) (drop i entry)) ≡ sets entry 0 (joined (find_support start ss) entry)
  pub counted : sum + total before (rest ss i before) ≡ total start (find_support start ss)
  pub small : sum ≤ 64 * i

pub plan_begun : (ss : List Limits) (start : ℕ) (entry : List ℕ) → Planned ss start entry entry 0 start 0
unfolding find_support_by
plan_begun ss start entry = record { same_long = refl; kept = λ j h. refl; ends = refl; counted = omega arith; small = omega arith }

module _ {ss : List Limits} {start : ℕ} {entry now : List ℕ} {i before sum : ℕ} (g : Planned ss start entry now i before sum) where
  pub plan_on_lem : {s : Limits} (x : ℕ) → drop i ss ≡ s ∷ drop (i + 1) ss
      → x ≡ support_set (ranks_before (length ss) (i + 1) (drop i ss)) s before → size (difference x before) ≤ 64 → i < length entry
      → Planned ss start entry (set now i (union x (get_or now i 0))) (i + 1) x (sum + size (difference x before))
  unfolding total switches joined
  plan_on_lem {s} x e is few room =
      let new = rest_at ss i before x e is in
      let word = union x (get_or now i 0) in
      let here : drop i entry ≡ get_or entry i 0 ∷ drop (suc i) entry = drop-cons entry i 0 room in
      record {
        same_long = length-set now i word ∙ g.same_long;
        kept = λ j h. get_or-set_other now i j word 0 (omega arith) ∙ g.kept j (omega arith);
        ends =
            ap₂ (λ (k m : ℕ). sets (set now i word) k (joined (rest ss (i + 1) x) (drop m entry))) (add-one i) (add-one i)
            ∙ ap (λ (w : ℕ). sets (set now i (union x w)) (suc i) (joined (rest ss (i + 1) x) (drop (suc i) entry))) (g.kept i (omega arith))
            ∙ ap₂ (λ p q. sets now i (joined p q)) (sym new) (sym here)
            ∙ g.ends;
        counted = omega (arith, ap (total before) new, g.counted);
        small = omega (arith, g.small);
      }

  pub plan_done : i ≡ length ss → (now ≡ sets entry 0 (joined (find_support start ss) entry)) × (sum ≡ total start (find_support start ss))
  unfolding total support_from joined
  plan_done e =
      let none : length ss ≤ i = omega arith in
      let over : rest ss i before ≡ [] = ap (support_from (λ k. tie_order) (length ss) (i + 1) before) (drop_of_length-le ss none) in
      (ap (λ p. sets now i (joined p (drop i entry))) (sym over) ∙ g.ends, omega (arith, ap (total before) over, g.counted))
