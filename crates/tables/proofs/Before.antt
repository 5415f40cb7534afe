-- What one step does to two runs, of which the second ranks unit u higher, before the step in which u is forced
-- (`before_step`): if they are at the same set, or the second has u in place of another unit, then so it is after the
-- step, and both make as many switches in it.
use mathlib.Core.Path.{◌≡◌, refl, sym, ap, ◌∙◌, subst}
use mathlib.Core.Logic.{◌⊎◌, inl, inr}
use mathlib.Core.Bool.{Bool, true}
use Prim.Native.Nat.{ℕ, ◌+◌, ◌≤◌, ◌<◌}
use native.Mathlib.Decide.{ℕ_discrete, dec_le, dec_lt}
use native.Mathlib.Omega.{arith}
use Rattle.units.specs.Sets.{bit, difference, Subset, insert, remove, size}
use Rattle.units.proofs.Sets.{bit_le, bit_le_size, bit_cases, bit_difference, by_unit, insert_subset, set_ext, size_insert, size_mono, subset_or_missing, Missing, unit_outside}
use Rattle.plans.specs.declared.Limits.{Limits}
use Rattle.plans.specs.Switch.{Allows, switches}
use Rattle.plans.proofs.Orders.{Ordered}
use Rattle.plans.proofs.Stands.{GreedyIn}
use Rattle.tables.proofs.Changed.{lacks_old, has_new, same_else, switches_to, switches_on}
use Rattle.tables.proofs.Raised.{class, Raised, Near, Swapped, Led}
use Rattle.tables.proofs.Stable.{Free, free_unit, in_turn_lem, larger, near_swap, near_units, not_both, one_at_most, raised_keeps, size_both, stable, taken_place, wider_same}

-- ---- the sets of two runs

module _ (r r' : ℕ → ℕ → Bool) (u p p' : ℕ) where
  -- the second run has no other unit than u more
  pub led_drops : Led r r' u p p' → (v : ℕ) → (v ≡ u → ⊥) → bit p' v ≤ bit p v
  led_drops (inl e) v n = rw e (omega arith)
  led_drops (inr (b, w)) v n =
      by_unit b (λ v. (v ≡ u → ⊥) → bit p' v ≤ bit p v) (λ n. omega (arith, lacks_old p p' b u w.has w.lacks w.swapped))
      (λ v m n. omega (arith, same_else p p' b u w.has w.lacks w.swapped v m n)) v n

  -- and lacks one at the most
  pub led_few : Led r r' u p p' → size (difference p p') ≤ 1
  led_few (inl e) = one_at_most p p' u (λ v n. rw e (omega arith))
  led_few (inr (b, w)) = one_at_most p p' b (by_unit u (λ v. (v ≡ b → ⊥) → bit p v ≤ bit p' v) (λ n. omega (arith, w.lacks))
      (λ v m n. omega (arith, same_else p p' b u w.has w.lacks w.swapped v n m)))

-- ---- greedy sets of a step

-- a set is greedy from another set too, if that has the same free units
greedy_alike : (r : ℕ → ℕ → Bool) (s : Limits) (p p' g : ℕ) → ((v : ℕ) → Free s v → bit p v ≡ bit p' v) → GreedyIn r s p g → GreedyIn r s p' g
greedy_alike r s p p' g same G = record {
  allowed = G.allowed;
  leaves = λ w pw uw gw.
      let left = G.leaves w (same w (omega (arith, G.allowed.includes w), uw) ∙ pw) uw gw in (
        left.0,
        λ v gv lv. let on = left.1 v gv lv in
            (sym (same v (lv, omega (arith, G.allowed.within v, bit_le s.upper v))) ∙ on.0, on.1),
      );
  joins = λ v gv pv lv. G.joins v gv (same v (lv, omega (arith, G.allowed.within v, bit_le s.upper v)) ∙ pv) lv;
}

-- a greedy set has no more units than another from the same set
same_size : (r r' : ℕ → ℕ → Bool) (s : Limits) (p g g' : ℕ) → GreedyIn r s p g → GreedyIn r' s p g' → size g ≤ size g'
same_size r r' s p g g' G G' = go (dec_lt (size g') (size g))
  where
    go : Dec (size g' < size g) → size g ≤ size g'
    go (no n) = omega arith
    go (yes h) =
        let (v, (gv, gv')) = unit_outside g g' h in
        let f = free_unit s g g' v G.allowed G'.allowed gv gv' in
        absurd (omega (arith, larger r r' s s p p g g' v refl refl G G' h f.0 f.1))

-- and no more than one from a set that has a free unit more, if it has one unit at the most that the other lacks
near_size : (r r' : ℕ → ℕ → Bool) (s : Limits) (p p' g g' v : ℕ) → GreedyIn r s p g → GreedyIn r' s p' g' → size (difference g g') ≤ 1
    → Free s v → bit p v ≡ 0 → bit p' v ≡ 1 → size g ≤ size g'
near_size r r' s p p' g g' v G G' d f pv pv' = go (dec_lt (size g') (size g))
  where
    go : Dec (size g' < size g) → size g ≤ size g'
    go (no n) = omega arith
    go (yes h) =
        absurd (omega (
          arith,
          larger r r' s s p p' g g' v refl refl G G' h f.0 f.1,
          size_both g g',
          bit_le_size (difference g' g) v,
          bit_difference g' g v,
        ))

-- x is t with a unit c in place of e
abbrev Exchanged : ℕ → ℕ → Type 0
Exchanged t x = (e : ℕ) × ((c : ℕ) × ((bit t e ≡ 1) × ((bit t c ≡ 0) × (x ≡ insert (remove t e) c))))

-- near sets of the same size are the same, or the one has a unit in place of one of the other
even_cases : (t x : ℕ) → Near t x → size t ≡ size x → (x ≡ t) ⊎ Exchanged t x
even_cases t x n h = go (subset_or_missing t x) (subset_or_missing x t)
  where
    go : Subset t x ⊎ Missing t x → Subset x t ⊎ Missing x t → (x ≡ t) ⊎ Exchanged t x
    go (inl a) (inl b) = inl (set_ext x t (λ v. omega (arith, a v, b v)))
    go (inl a) (inr (c, (xc, tc))) = absurd (omega (arith, size_mono (insert t c) x (insert_subset t x c a xc), size_insert t c tc))
    go (inr (e, (te, xe))) (inl b) = absurd (omega (arith, size_mono (insert x e) t (insert_subset x t e b te), size_insert x e xe))
    go (inr (e, (te, xe))) (inr (c, (xc, tc))) = inr (e, (c, (te, (tc, near_swap t x n e c te xe xc tc))))

-- ---- a step

-- free units have class 1
free_class : (s : Limits) (v : ℕ) → Free s v → class s v ≡ 1
unfolding class
free_class s v f = omega arith

-- units of the same class are required alike and allowed alike
class_alike : (s : Limits) (x v w : ℕ) → Allows s x → class s v ≡ class s w
    → (bit s.lower v ≡ bit s.lower w) × (bit s.upper v ≡ bit s.upper w)
unfolding class
class_alike s x v w a e =
    omega (arith, a.includes v, a.within v, a.includes w, a.within w, bit_le s.upper v, bit_le s.upper w)

-- The step s: r and r' rank the units from it on, and q and q' from the next step on. In r' unit u is raised. Each of
-- r and r' ranks units of a lower class first, and the free units as q and q' do.
module _ (u : ℕ) (s : Limits) (r r' q q' : ℕ → ℕ → Bool) (o : Ordered r) (o' : Ordered r') (up : Raised u r r')
    (classes : (v w : ℕ) → r v w ≡ true → class s v ≤ class s w) (classes' : (v w : ℕ) → r' v w ≡ true → class s v ≤ class s w)
    (free : (v w : ℕ) → class s v ≡ 1 → class s w ≡ 1 → r v w ≡ q v w) (free' : (v w : ℕ) → class s v ≡ 1 → class s w ≡ 1 → r' v w ≡ q' v w) where
  -- what is to be shown of a step from p to g, and from p' to g'
  abbrev Onward : ℕ → ℕ → ℕ → ℕ → Type 0
  Onward p p' g g' = Led q q' u g g' × (switches p g ≡ switches p' g')

  -- u takes the place of e
  led_on : (g g' e : ℕ) → Free s e → Free s u → bit g e ≡ 1 → bit g u ≡ 0 → g' ≡ insert (remove g e) u → r e u ≡ true → r' u e ≡ true
      → Led q q' u g g'
  led_on g g' e fe fu ge gu is h k = inr (
    e,
    record {
      lacks = gu;
      has = ge;
      swapped = is;
      first = sym (free e u (free_class s e fe) (free_class s u fu)) ∙ h;
      then = sym (free' u e (free_class s u fu) (free_class s e fe)) ∙ k;
    },
  )

  -- From the same set: the sizes are the same, a unit that takes the place of another is u, and both units were on
  -- before, or both off.
  from_same : (p g g' : ℕ) → GreedyIn r s p g → GreedyIn r' s p g' → Onward p p g g'
  from_same p g g' G G' =
      go (even_cases g g' (stable u s s r r' p p g g' o' up (wider_same u s) (λ v n. omega arith) G G' (one_at_most p p u (λ v n. omega arith)))
      (omega (arith, same_size r r' s p g g' G G', same_size r' r s p g' g G' G)))
    where
      placed : (e : ℕ) → bit g e ≡ 1 → bit g u ≡ 0 → g' ≡ insert (remove g e) u → Onward p p g g'
      placed e ge gu is =
          let ge' = lacks_old g g' e u ge gu is in
          let gu' = has_new g g' e u ge gu is in
          let fe = free_unit s g g' e G.allowed G'.allowed ge ge' in
          let fu = free_unit s g' g u G'.allowed G.allowed gu' gu in
          let turn = in_turn_lem r s p g e u G fe fu ge gu in
          let turn' = in_turn_lem r' s p g' u e G' fu fe gu' ge' in
          (led_on g g' e fe fu ge gu is (turn.1 turn'.0) (turn'.1 turn.0), omega (arith, switches_to g g' e u ge gu is p))

      swap : (e c : ℕ) → bit g e ≡ 1 → bit g c ≡ 0 → g' ≡ insert (remove g e) c → Dec (c ≡ u) → Onward p p g g'
      swap e c ge gc is (yes d) = placed e ge (rw d at gc) (rw d at is)
      swap e c ge gc is (no n) =
          absurd (omega (
            arith,
            taken_place u s s r r' p p g g' o' up (wider_same u s) (λ v n. omega arith) G G' e c ge (lacks_old g g' e c ge gc is) gc
                (has_new g g' e c ge gc is) n,
          ))

      go : (g' ≡ g) ⊎ Exchanged g g' → Onward p p g g'
      go (inl e) = (inl e, ap (switches p) (sym e))
      go (inr (e, (c, (ge, (gc, is))))) = swap e c ge gc is (ℕ_discrete c u)

  -- from sets with u in place of b, where both units are free
  module _ (p p' g g' b : ℕ) (G : GreedyIn r s p g) (G' : GreedyIn r' s p' g') (W : Swapped r r' u p p' b) (fb : Free s b) (fu : Free s u) where
    -- what is on before the second run
    lacks_b : bit p' b ≡ 0
    lacks_b = lacks_old p p' b u W.has W.lacks W.swapped

    has_u : bit p' u ≡ 1
    has_u = has_new p p' b u W.has W.lacks W.swapped

    alike : (v : ℕ) → (v ≡ b → ⊥) → (v ≡ u → ⊥) → bit p' v ≡ bit p v
    alike = same_else p p' b u W.has W.lacks W.swapped

    -- free units are taken in turn
    turn : (v w : ℕ) → Free s v → Free s w → bit g v ≡ 1 → bit g w ≡ 0 → (bit p w ≤ bit p v) × (bit p v ≤ bit p w → r v w ≡ true)
    turn v w = in_turn_lem r s p g v w G

    turn' : (v w : ℕ) → Free s v → Free s w → bit g' v ≡ 1 → bit g' w ≡ 0 → (bit p' w ≤ bit p' v) × (bit p' v ≤ bit p' w → r' v w ≡ true)
    turn' v w = in_turn_lem r' s p' g' v w G'

    -- a set that both runs come to has both units or neither
    both_same : g' ≡ g → bit g b ≡ bit g u
    both_same e = go (bit_cases g b) (bit_cases g u)
      where
        go : (bit g b ≡ 0) ⊎ (bit g b ≡ 1) → (bit g u ≡ 0) ⊎ (bit g u ≡ 1) → bit g b ≡ bit g u
        go (inl x) (inl y) = omega arith
        go (inl x) (inr y) = absurd (omega (arith, (turn u b fu fb y x).0, W.lacks, W.has))
        go (inr x) (inl y) = absurd (omega (arith, (turn' b u fb fu (rw e x) (rw e y)).0, lacks_b, has_u))
        go (inr x) (inr y) = omega arith

    -- No unit c but u takes the place of b. Else, if u is on after both, it joined the first run, so that c was off
    -- and ranks after u, which ranks after b; but c joined the second run, so that it ranks before b. If u is off
    -- after both, it left the second run, so that c was on and ranks before u, which ranks before b; but c left the
    -- first run, so that b ranks before it.
    no_other : (c : ℕ) → (c ≡ u → ⊥) → bit g b ≡ 1 → bit g' b ≡ 0 → bit g c ≡ 0 → bit g' c ≡ 1 → bit g' u ≡ bit g u → ⊥
    no_other c n gb gb' gc gc' e = go (bit_cases g u)
      where
        fc : Free s c
        fc = free_unit s g' g c G'.allowed G.allowed gc' gc

        same : bit p' c ≡ bit p c
        same = alike c (λ d. omega (arith, ap (bit g) d)) n

        go : (bit g u ≡ 0) ⊎ (bit g u ≡ 1) → ⊥
        go (inr gu) =
            let t = turn u c fu fc gu gc in
            let r-uc = t.1 (omega (arith, W.lacks)) in
            let r-cb = (turn' c b fc fb gc' gb').1 (omega (arith, same, W.lacks)) in
            not_both o' b c (raised_keeps u r r' up b c n (o.transitive b u c W.first r-uc)) r-cb
        go (inl gu) =
            let t = turn' c u fc fu gc' (e ∙ gu) in
            let r-cu = t.1 (omega (arith, has_u, bit_le p' c)) in
            let r-bc = (turn b c fb fc gb gc).1 (omega (arith, same, has_u, bit_le p b)) in
            not_both o' u b W.then (o'.transitive b c u (raised_keeps u r r' up b c n r-bc) r-cu)

    -- If u takes the place of e, they rank as they should. Let e be another unit than b. If e was on, it left the
    -- second run, so that u ranks before it; b is off and left the first run, so that e ranks before b, which ranks
    -- before u. If e was off, it joined the first run, so that it ranks before u; b is on and joined the second run,
    -- so that it ranks before e, and u ranks before b.
    in_place : (e : ℕ) → bit g e ≡ 1 → bit g u ≡ 0 → g' ≡ insert (remove g e) u → Onward p p' g g'
    in_place e ge gu is = by (ℕ_discrete e b)
      where
        ge' : bit g' e ≡ 0
        ge' = lacks_old g g' e u ge gu is

        gu' : bit g' u ≡ 1
        gu' = has_new g g' e u ge gu is

        fe : Free s e
        fe = free_unit s g g' e G.allowed G'.allowed ge ge'

        led : r e u ≡ true → r' u e ≡ true → bit g' b + bit p e ≡ 1 → Onward p p' g g'
        led h k d = (
          led_on g g' e fe fu ge gu is h k,
          omega (arith, switches_to g g' e u ge gu is p, switches_on p p' b u W.has W.lacks W.swapped g', W.lacks, gu'),
        )

        go : bit g' b ≡ bit g b → bit p' e ≡ bit p e → (bit p e ≡ 0) ⊎ (bit p e ≡ 1) → (bit g b ≡ 0) ⊎ (bit g b ≡ 1)
            → Onward p p' g g'
        go x y (inl pe) (inl gb) = absurd (omega (arith, (turn e b fe fb ge gb).0, W.has))
        go x y (inl pe) (inr gb) =
            led ((turn e u fe fu ge gu).1 (omega arith))
            (o'.transitive u b e W.then ((turn' b e fb fe (x ∙ gb) ge').1 (omega (arith, lacks_b)))) (omega arith)
        go x y (inr pe) (inl gb) =
            led (o.transitive e b u ((turn e b fe fb ge gb).1 (omega (arith, W.has))) W.first)
            ((turn' u e fu fe gu' ge').1 (omega (arith, has_u))) (omega arith)
        go x y (inr pe) (inr gb) = absurd (omega (arith, (turn' b e fb fe (x ∙ gb) ge').0, lacks_b))

        by : Dec (e ≡ b) → Onward p p' g g'
        by (yes d) = led (rw d W.first) (rw d W.then) (omega (arith, ap (bit g') d, ge', ap (bit p) d, W.has))
        by (no n) =
            let m : e ≡ u → ⊥ = λ d. omega (arith, ap (bit g) d) in
            let same = same_else g g' e u ge gu is b (λ d. n (sym d)) (λ d. omega (arith, ap (bit p) d, W.has, W.lacks)) in
            go same (alike e n m) (bit_cases p e) (bit_cases g b)

    -- the sizes are the same, and a unit that takes the place of another is u
    from_swapped : Onward p p' g g'
    from_swapped = go (even_cases g g' near (omega (
      arith,
      near_size r r' s p p' g g' u G G' near.0 fu W.lacks has_u,
      near_size r' r s p' p g' g b G' G near.1 fb lacks_b W.has,
    )))
      where
        drops : (v : ℕ) → (v ≡ u → ⊥) → bit p' v ≤ bit p v
        drops = led_drops r r' u p p' (inr (b, W))

        near : Near g g'
        near = stable u s s r r' p p' g g' o' up (wider_same u s) drops G G' (led_few r r' u p p' (inr (b, W)))

        swap : (e c : ℕ) → bit g e ≡ 1 → bit g c ≡ 0 → g' ≡ insert (remove g e) c → Dec (c ≡ u) → Onward p p' g g'
        swap e c ge gc is (yes d) = in_place e ge (rw d at gc) (rw d at is)
        swap e c ge gc is (no n) =
            let ge' = lacks_old g g' e c ge gc is in
            let gc' = has_new g g' e c ge gc is in
            let (pe, pe') = taken_place u s s r r' p p' g g' o' up (wider_same u s) drops G G' e c ge ge' gc gc' n in
            let m : u ≡ e → ⊥ = λ d. omega (arith, ap (bit p) d, W.lacks) in
            let d : e ≡ b = near_units (difference p p') e b (led_few r r' u p p' (inr (b, W))) (omega (arith, bit_difference p p' e))
            (omega (arith, bit_difference p p' b, W.has, lacks_b)) in
            absurd (no_other c n (rw d at ge) (rw d at ge') gc gc' (same_else g g' e c ge gc is u m (λ x. n (sym x))))

        go : (g' ≡ g) ⊎ Exchanged g g' → Onward p p' g g'
        go (inl e) = (inl e, rw e (omega (arith, both_same e, switches_on p p' b u W.has W.lacks W.swapped g)))
        go (inr (e, (c, (ge, (gc, is))))) = swap e c ge gc is (ℕ_discrete c u)

  -- What the step does to two runs. If u is in place of b before it, both units are of the same class. If they are not
  -- free, it does not matter which of them was on, and both sets have both of them or neither.
  pub before_step : (p p' g g' : ℕ) → GreedyIn r s p g → GreedyIn r' s p' g' → Led r r' u p p'
      → Led q q' u g g' × (switches p g ≡ switches p' g')
  before_step p p' g g' G G' (inl e) = rw e (from_same p g g' G (subst (λ x. GreedyIn r' s x g') e G'))
  before_step p p' g g' G G' (inr (b, W)) = go (dec_le (bit s.upper b) (bit s.lower b))
    where
      classed : (bit s.lower b ≡ bit s.lower u) × (bit s.upper b ≡ bit s.upper u)
      classed = class_alike s g b u G.allowed (omega (arith, classes b u W.first, classes' u b W.then))

      go : Dec (bit s.upper b ≤ bit s.lower b) → Onward p p' g g'
      go (no n) =
          let fb : Free s b = omega (arith, bit_le s.upper b) in
          from_swapped p p' g g' b G G' W fb (omega (arith, classed))
      go (yes h) =
          let others : (v : ℕ) → Free s v → bit p' v ≡ bit p v = λ v f.
          same_else p p' b u W.has W.lacks W.swapped v (λ d. omega (arith, ap (bit s.lower) d, ap (bit s.upper) d))
          (λ d. omega (arith, classed, ap (bit s.lower) d, ap (bit s.upper) d)) in
          let (l, e) = from_same p g g' G (greedy_alike r' s p' p g' others G') in
          let a = G'.allowed in
          let on = switches_on p p' b u W.has W.lacks W.swapped g' in
          (l, omega (arith, classed, a.includes b, a.within b, a.includes u, a.within u))
