-- No feasible set of a step is better than a greedy one, with the steps that follow in view.
use mathlib.Core.Path.{◌≡◌, ap, subst}
use mathlib.Core.Logic.{◌⊎◌, inl, inr}
use mathlib.Core.List.{List}
use Prim.Native.Nat.{ℕ, zero, suc, ◌+◌, ◌≤◌, ◌<◌}
use native.Mathlib.Omega.{arith}
use Rattle.units.specs.Sets.{bit, Subset, insert, remove}
use Rattle.units.proofs.Sets.{Missing, bit_cases, bit_insert, bit_le, bit_remove, insert_remove, insert_subset, set_ext, size_insert, size_mono, subset_insert, subset_or_missing, subset_without}
use Rattle.plans.specs.declared.Limits.{Limits}
use Rattle.plans.specs.Switch.{Allows, switches, total}
use Rattle.plans.proofs.Stands.{Greedy, StandsFor}
use Rattle.plans.proofs.Totals.{switches_from, switches_insert, total_from}
use Rattle.plans.proofs.Exchange.{NoWorse, allows_exchange, exchange}

-- in how many units two sets differ
abbrev apart : ℕ → ℕ → ℕ
apart x y = switches x y + switches y x

-- x is as good a set as y for a step, where `before` was on and the steps ss follow
abbrev pub AsGood : List Limits → ℕ → ℕ → ℕ → Type 0
AsGood ss before x y = NoWorse ss (λ P. switches before x + total x P) (λ P. switches before y + total y P)

-- From any feasible set x one can walk to the greedy set g, each time to a set that is feasible, nearer to g and as
-- good. There are three moves. Where x has a unit w outside g and lacks a unit v of g, v takes the place of w. Either
-- v was on before and w was off: then v spares a switch now, and w can spare but one later, so that the plan may stay.
-- Or v stands for w, as `Greedy` says, and `exchange` gives a plan. Where x is within g, a unit of g joins. It was on
-- before, for g takes in others only at the least number, and x has fewer units than g. So it costs nothing. Where g
-- is within x, a unit outside g leaves. It was off before, for g gives up others only at the greatest number, and x
-- has more units than g. So it spares a switch now, and could spare but one later.
module _ (ss : List Limits) {s : Limits} {before g : ℕ} (greedy : Greedy s ss before g) where
  -- what a move from x leads to
  record Nearer (x : ℕ) : Type 0 where
    set : ℕ
    allowed : Allows s set
    nearer : apart set g < apart x g
    as_good : AsGood ss before set x

  -- v takes the place of w
  swapped : (x v w : ℕ) → bit x v ≡ 0 → bit x w ≡ 0 → bit g v ≡ 1 → bit g w ≡ 0 → Allows s (insert x w) → Nearer (insert x w)
  swapped x v w xv xw gv gw a =
      record {
        set = insert x v;
        allowed = allows_exchange s x v w xv xw lw uv a;
        nearer = omega (arith, switches_insert g x v xv, switches_insert g x w xw, switches_from x g v, switches_from x g w);
        as_good = go (bit_cases before w) (bit_cases before v);
      }
    where
      lw : bit s.lower w ≡ 0
      lw = omega (arith, greedy.allowed.includes w)

      lv : bit s.lower v ≡ 0
      lv = omega (arith, subset_without x s.lower w a.includes lw v)

      uv : bit s.upper v ≡ 1
      uv = omega (arith, greedy.allowed.within v, bit_le s.upper v)

      uw : bit s.upper w ≡ 1
      uw = omega (arith, a.within w, bit_insert x w, bit_le s.upper w)

      exchanged : bit before w ≤ bit before v → StandsFor ss v w → AsGood ss before (insert x v) (insert x w)
      exchanged h st P f =
          let r = exchange ss x v w xv xw st P f in
          (r.0, (r.1.0, omega (arith, switches_insert before x v xv, switches_insert before x w xw)))

      go : (bit before w ≡ 0) ⊎ (bit before w ≡ 1) → (bit before v ≡ 0) ⊎ (bit before v ≡ 1) → AsGood ss before (insert x v) (insert x w)
      go (inr bw) d = let r = (greedy.leaves w bw uw gw).1 v gv lv in exchanged (omega arith) r.1
      go (inl bw) (inl bv) = exchanged (omega arith) ((greedy.joins v gv bv lv).1 w uw gw)
      go (inl bw) (inr bv) =
          λ P f. (P, (f, omega (arith, switches_insert before x v xv, switches_insert before x w xw, total_from x v P, total_from x w P)))

  -- v joins
  grown : (x v : ℕ) → Subset x g → bit x v ≡ 0 → bit g v ≡ 1 → Allows s x → Nearer x
  grown x v sub xv gv a =
      record {
        set = insert x v;
        allowed = record {
          includes = λ u. omega (arith, a.includes u, subset_insert x v u);
          within = λ u. omega (arith, still u, greedy.allowed.within u);
          enough = omega (arith, size_insert x v xv);
          few = omega (arith, size_mono (insert x v) g still);
        };
        nearer = omega (arith, switches_insert g x v xv, switches_from x g v);
        as_good = λ P f. (P, (f, omega (arith, was_on (bit_cases before v), switches_insert before x v xv, total_from x v P)));
      }
    where
      still : Subset (insert x v) g
      still = insert_subset x g v sub gv

      was_on : (bit before v ≡ 0) ⊎ (bit before v ≡ 1) → bit before v ≡ 1
      was_on (inl e) =
          let least_on = (greedy.joins v gv e (omega (arith, a.includes v))).0 in
          absurd (omega (arith, size_mono (insert x v) g still, size_insert x v xv))
      was_on (inr e) = e

  -- w leaves
  shrunk : (x w : ℕ) → Subset g (insert x w) → bit x w ≡ 0 → bit g w ≡ 0 → Allows s (insert x w) → Nearer (insert x w)
  shrunk x w sub xw gw a =
      record {
        set = x;
        allowed = record {
          includes = λ u. omega (arith, still u, greedy.allowed.includes u);
          within = λ u. omega (arith, a.within u, subset_insert x w u);
          enough = omega (arith, size_mono g x still);
          few = omega (arith, size_insert x w xw);
        };
        nearer = omega (arith, switches_insert g x w xw, switches_from x g w);
        as_good = λ P f. (P, (f, omega (arith, was_off (bit_cases before w), switches_insert before x w xw, total_from x w P)));
      }
    where
      still : Subset g x
      still = subset_without x g w sub gw

      was_off : (bit before w ≡ 0) ⊎ (bit before w ≡ 1) → bit before w ≡ 0
      was_off (inl e) = e
      was_off (inr e) =
          let greatest-on = (greedy.leaves w e (omega (arith, a.within w, bit_insert x w, bit_le s.upper w)) gw).0 in
          absurd (omega (arith, size_mono g x still, size_insert x w xw))

  -- from each feasible set other than g there is a move
  move : (x : ℕ) → Allows s x → (x ≡ g) ⊎ Nearer x
  move x a = go (subset_or_missing x g) (subset_or_missing g x)
    where
      less : (y w : ℕ) → bit y w ≡ 0 → bit g w ≡ 0 → Allows s (insert y w) → Subset g (insert y w) ⊎ Missing g (insert y w) → Nearer (insert y w)
      less y w yw gw a (inl sub) = shrunk y w sub yw gw a
      less y w yw gw a (inr (v, (gv, xv))) = swapped y v w (omega (arith, subset_insert y w v)) yw gv gw a

      go : Subset x g ⊎ Missing x g → Subset g x ⊎ Missing g x → (x ≡ g) ⊎ Nearer x
      go (inl p) (inl q) = inl (set_ext x g (λ u. omega (arith, p u, q u)))
      go (inl p) (inr (v, (gv, xv))) = inr (grown x v p xv gv a)
      go (inr (w, (xw, gw))) q =
          inr (subst (λ (y : ℕ). Allows s y → Subset g y ⊎ Missing g y → Nearer y) (insert_remove x w xw) (less (remove x w) w (bit_remove x w) gw) a q)

  -- k is more than the units in which x differs from g, so that the moves come to an end
  walk : (k x : ℕ) → apart x g < k → Allows s x → AsGood ss before g x
  walk zero x h a = absurd (omega arith)
  walk (suc k) x h a = go (λ n. walk k n.set (omega arith) n.allowed) (move x a)
    where
      go : ((n : Nearer x) → AsGood ss before g n.set) → (x ≡ g) ⊎ Nearer x → AsGood ss before g x
      go ih (inl e) P f = (P, (f, omega (arith, ap (λ (y : ℕ). switches before y + total y P) e)))
      go ih (inr n) P f =
          let q = n.as_good P f in
          let r = ih n q.0 q.1.0 in
          (r.0, (r.1.0, omega arith))

  -- g is as good as every feasible set
  pub improve : (x : ℕ) → Allows s x → AsGood ss before g x
  improve x = walk (suc (apart x g)) x (omega arith)
