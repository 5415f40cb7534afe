-- What the words of the chart say of one step, in which the plan goes from the set p to the set t: which neighbours of
-- t are so cheap that the plan's total is kept, or exceeded by one where there is one to spare (`on_word_lem`,
-- `off_word_lem`). So for each unit in a word there is a set of the step that has it so and is good enough
-- (`on_sound`, `off_sound`).
use mathlib.Core.Path.{◌≡◌, refl, ap}
use mathlib.Core.Logic.{◌⊎◌, inl, inr, ⊎_map, ◌↔◌}
use mathlib.Core.Bool.{Bool, true, false, cond, not, ◌&&◌, ◌||◌, and-eq-true_iff}
use Prim.Native.Nat.{ℕ, ◌+◌, ◌^◌, ◌≤◌, ◌<◌}
use native.Mathlib.Omega.{arith}
use Rattle.units.specs.Sets.{bit, union, intersection, difference, meets, all, contains, insert, remove, size}
use Rattle.units.proofs.Sets.{bit_le, bit_insert, bit_remove, insert_remove, unit_below}
use Rattle.plans.specs.declared.Limits.{Limits}
use Rattle.plans.specs.Switch.{Allows, switches}
use Rattle.plans.proofs.Totals.{switches_insert}
use Rattle.tables.specs.Tables.{row_count, Later, gathered, passing, free, held, more, less, turned, in_place, on_word, off_word}
use Rattle.tables.proofs.Backward.{Right}
use Rattle.tables.proofs.Changed.{to_less, lacks_old, switches_to, allows_more, allows_less, allows_swap}
use Rattle.tables.proofs.Forward.{Row, Turns, Moved, in_turned, turn_to}
use Rattle.tables.proofs.Words.{or_true, contains_bit, more_true, less_true, in_union, in_intersection, in_difference, in_free, in_held, in_cond, bit_all, meets_some, bit_gathered, bit_passing}

-- What is known of a step s from p to t: h has the units held before it, f their rows, `due` the switches still to
-- come from each set, and w the tables of them around t.
pub record Stage (s : Limits) (p t h : ℕ) (f : ℕ → ℕ) (w : Later) (due : ℕ → ℕ) : Type 0 where
  pub word : s.upper < 2 ^ 64
  pub allowed : Allows s t
  pub right : Right due t w
  pub one_more : (x a : ℕ) → (due (insert x a) ≤ due x) × (due x ≤ due (insert x a) + 1)
  pub kept : h < 2 ^ 64
  pub held_on : (b : ℕ) → bit h b ≡ 1 → bit p b ≡ 1
  pub row_off : (b a : ℕ) → Row h f b a → bit p a ≡ 0

-- ---- what the words say

-- from x no more switches are to come than from t and to spare, if it is reached at the plan's switches, and one less
-- else
abbrev pub Cheap : Bool → (ℕ → ℕ) → ℕ → ℕ → Type 0 → Type 0
Cheap tight due t x Reached = (Reached × (due x ≤ due t + cond tight 0 1)) ⊎ (due x + 1 ≤ due t + cond tight 0 1)

module _ (tight : Bool) {s : Limits} {p t h : ℕ} {f : ℕ → ℕ} {w : Later} {due : ℕ → ℕ} (g : Stage s p t h f w due) where
  -- unit a may be on and is not
  abbrev IsFree : ℕ → Type 0
  IsFree a = (bit s.upper a ≡ 1) × (bit t a ≡ 0)

  -- unit b is on and need not be
  abbrev IsHeld : ℕ → Type 0
  IsHeld b = (bit t b ≡ 1) × (bit s.lower b ≡ 0)

  -- t is cheap with a in place of b, with a, and without b
  abbrev pub Replaces : ℕ → ℕ → Type 0
  Replaces b a = Cheap tight due t (insert (remove t b) a) (Turns p t h f b a)

  abbrev pub Added : ℕ → Type 0
  Added a = (size t < s.greatest) × (due (insert t a) + 1 ≤ due t + cond tight 0 1)

  abbrev pub Dropped : ℕ → Type 0
  Dropped b = (s.least < size t) × (due (remove t b) ≤ due t + cond tight 0 1)

  -- u is on in t, or can be
  abbrev pub CanBeOn : ℕ → Type 0
  CanBeOn u = (bit t u ≡ 1) ⊎ (IsFree u × (Added u ⊎ ((b : ℕ) × (IsHeld b × Replaces b u))))

  -- u is off in t, or can be
  abbrev pub CanBeOff : ℕ → Type 0
  CanBeOff u = (bit t u ≡ 0) ⊎ (IsHeld u × (Dropped u ⊎ ((a : ℕ) × (IsFree a × Replaces u a))))

  -- units that may be on are units of a word
  low_up : (u : ℕ) → bit s.upper u ≡ 1 → u < 64
  low_up u = unit_below 64 s.upper u g.word

  low_on : (u : ℕ) → bit t u ≡ 1 → u < 64
  low_on u e = low_up u (omega (arith, g.allowed.within u, bit_le s.upper u))

  -- one unit less costs one switch at the most
  due_less : (b : ℕ) → bit t b ≡ 1 → due (remove t b) ≤ due t + 1
  due_less b e = omega (arith, g.one_more (remove t b) b, ap due (insert_remove t b e))

  -- a in place of b
  in_place_lem : (b a : ℕ) → bit t b ≡ 1 → bit s.upper a ≡ 1 → bit t a ≡ 0
      → (bit (in_place tight (turned s p t h f) w b) a ≡ 1) ↔ Replaces b a
  unfolding in_place
  in_place_lem b a tb ua ta = go tight
    where
      row : ℕ
      row = turned s p t h f b

      turns : (bit row a ≡ 1) ↔ Turns p t h f b a
      turns = let (to, from) = in_turned p t h f s g.kept b a in (λ k. (to k).1, λ k. from ((ua, ta), k))

      even : (bit (w.even b) a ≡ 1) ↔ (due (insert (remove t b) a) ≤ due t)
      even = g.right.even b a (low_on b tb) (low_up a ua) tb ta

      gain : (bit (w.gain b) a ≡ 1) ↔ (due (insert (remove t b) a) + 1 ≤ due t)
      gain = g.right.gain b a (low_on b tb) (low_up a ua) tb ta

      go : (tight : Bool) → (bit (cond tight (union (intersection row (w.even b)) (w.gain b)) (union row (w.even b))) a ≡ 1)
          ↔ Cheap tight due t (insert (remove t b) a) (Turns p t h f b a)
      go true =
          let (to, from) = in_union (intersection row (w.even b)) (w.gain b) a in
          let (each, both) = in_intersection row (w.even b) a in (
            λ k. ⊎_map (λ m. let (x, y) = each m in (turns.0 x, omega (arith, even.0 y))) (λ m. omega (arith, gain.0 m)) (to k),
            λ k. from (⊎_map (λ (x, y). both (turns.1 x, even.1 (omega arith))) (λ y. gain.1 (omega arith)) k),
          )
      go false =
          let (to, from) = in_union row (w.even b) a in (
            λ k. ⊎_map (λ m. (turns.0 m, omega (arith, g.one_more (remove t b) a, due_less b tb))) (λ m. omega (arith, even.0 m)) (to k),
            λ k. from (⊎_map (λ (x, y). turns.1 x) (λ y. even.1 (omega arith)) k),
          )

  -- a beside all
  in_more : (a : ℕ) → bit s.upper a ≡ 1 → bit t a ≡ 0 → (bit (cond (more s t) (cond tight w.saves all) 0) a ≡ 1) ↔ Added a
  in_more a ua ta =
      let (to, from) = in_cond (more s t) (cond tight w.saves all) a in
      let (is, tests) = more_true s t in
      (λ k. let (m, c) = to k in (is m, (go tight).0 c), λ (l, c). from (tests l, (go tight).1 c))
    where
      go : (tight : Bool) → (bit (cond tight w.saves all) a ≡ 1) ↔ (due (insert t a) + 1 ≤ due t + cond tight 0 1)
      go true = let (is, holds) = g.right.saves a (low_up a ua) ta in (λ k. omega (arith, is k), λ k. holds (omega arith))
      go false = (λ k. omega (arith, g.one_more t a), λ k. bit_all a (low_up a ua))

  -- without b
  in_less : (b : ℕ) → bit t b ≡ 1 → (less s t && (not tight || contains w.dispensable b) ≡ true) ↔ Dropped b
  in_less b tb =
      let (each, both) = and-eq-true_iff (less s t) (not tight || contains w.dispensable b) in
      let (is, tests) = less_true s t in
      (λ k. let (m, c) = each k in (is m, (go tight).0 c), λ (l, c). both (tests l, (go tight).1 c))
    where
      go : (tight : Bool) → (not tight || contains w.dispensable b ≡ true) ↔ (due (remove t b) ≤ due t + cond tight 0 1)
      go true =
          let (has, tests) = contains_bit w.dispensable b in
          let (is, holds) = g.right.dispensable b (low_on b tb) tb in
          (λ k. omega (arith, is (has k)), λ k. tests (holds (omega arith)))
      go false = (λ k. due_less b tb, λ k. refl)

  -- the units that can be on
  pub on_word_lem : (u : ℕ) → (bit (on_word tight s t (turned s p t h f) w) u ≡ 1) ↔ CanBeOn u
  unfolding on_word
  on_word_lem u =
      let beside = cond (more s t) (cond tight w.saves all) 0 in
      let rows = in_place tight (turned s p t h f) w in
      let instead = gathered row_count (held s t) rows in
      let (any, of-any) = in_union t (intersection (free s t) (union beside instead)) u in
      let (each, both) = in_intersection (free s t) (union beside instead) u in
      let (one, of_one) = in_union beside instead u in
      let (some, row) = bit_gathered row_count (held s t) rows u in (
        λ k. ⊎_map (λ m. m) (λ m.
            let (x, y) = each m in
            let (uu, tu) = (in_free s t u).0 x in (
              (uu, tu),
              ⊎_map (in_more u uu tu).0 (λ n.
                  let (b, (l, (z, c))) = some n in
                  let (tb, lb) = (in_held s t b).0 z in
                  (b, ((tb, lb), (in_place_lem b u tb uu tu).0 c))) (one y),
            )) (any k),
        λ k. of-any (⊎_map (λ m. m) (λ ((uu, tu), m). both (
          (in_free s t u).1 (uu, tu),
          of_one (⊎_map (in_more u uu tu).1
              (λ (b, ((tb, lb), c)). row (b, (low_on b tb, ((in_held s t b).1 (tb, lb), (in_place_lem b u tb uu tu).1 c)))) m),
        )) k),
      )

  -- those of `us` that can be off
  pub off_word_lem : (us u : ℕ) → bit us u ≡ 1 → (bit (off_word tight us s t (turned s p t h f) w) u ≡ 1) ↔ CanBeOff u
  unfolding off_word
  off_word_lem us u i =
      let rows = in_place tight (turned s p t h f) w in
      let test : ℕ → Bool = λ b. (less s t && (not tight || contains w.dispensable b)) || meets (rows b) (free s t) in
      let (any, of-any) = in_union (difference us t) (passing row_count (held s t) test) u in
      let (off, of-off) = in_difference us t u in
      let (pass, of-pass) = bit_passing row_count (held s t) test u in
      let (one, of_one) = or_true (less s t && (not tight || contains w.dispensable u)) (meets (rows u) (free s t)) in
      let (some, meet) = meets_some (rows u) (free s t) in (
        λ k. ⊎_map (λ m. (off m).1) (λ m.
            let (l, (z, y)) = pass m in
            let (tu, lu) = (in_held s t u).0 z in (
              (tu, lu),
              ⊎_map (in_less u tu).0 (λ n.
                  let (a, (c, x)) = some n in
                  let (ua, ta) = (in_free s t a).0 x in
                  (a, ((ua, ta), (in_place_lem u a tu ua ta).0 c))) (one y),
            )) (any k),
        λ k. of-any (⊎_map (λ m. of-off (i, m)) (λ ((tu, lu), m). of-pass (
          low_on u tu,
          (
            (in_held s t u).1 (tu, lu),
            of_one (⊎_map (in_less u tu).1
                (λ (a, ((ua, ta), c)). meet (a, ((in_place_lem u a tu ua ta).1 c, (in_free s t a).1 (ua, ta)))) m),
          ),
        )) k),
      )

  -- ---- good sets

  -- q is p, or a set by a row
  abbrev pub Origin : ℕ → Type 0
  Origin q = (q ≡ p) ⊎ ((b : ℕ) × (a : ℕ) × Moved h f p q b a)

  -- the step allows x, and from such a set it takes no more switches, with those still to come, than the plan does and
  -- those to spare
  abbrev pub Good : ℕ → Type 0
  Good x = Allows s x × ((q : ℕ) × (Origin q × (switches q x + due x ≤ switches p t + due t + cond tight 0 1)))

  -- a cheap set is good, if it takes one switch more from p at the most
  cheap_good : (x : ℕ) (Reached : Type 0) → (Reached → (q : ℕ) × (Origin q × (switches q x ≤ switches p t))) → switches p x ≤ switches p t + 1
      → Allows s x → Cheap tight due t x Reached → Good x
  cheap_good x Reached reach far a (inl (r, d)) = let (q, (from, c)) = reach r in (a, (q, (from, omega arith)))
  cheap_good x Reached reach far a (inr d) = (a, (p, (inl refl, omega arith)))

  same_good : Good t
  same_good = (g.allowed, (p, (inl refl, omega arith)))

  placed_good : (b a : ℕ) → bit t b ≡ 1 → bit s.lower b ≡ 0 → bit s.upper a ≡ 1 → bit t a ≡ 0 → Replaces b a
      → Good (insert (remove t b) a)
  placed_good b a tb lb ua ta =
      let x = insert (remove t b) a in
      cheap_good x (Turns p t h f b a) (turn_to p t h f g.held_on g.row_off x b a tb ta refl)
      (omega (arith, switches_to t x b a tb ta refl p, bit_le p b)) (allows_swap s t g.allowed b a tb ta lb ua)

  added_good : (a : ℕ) → bit s.upper a ≡ 1 → bit t a ≡ 0 → Added a → Good (insert t a)
  added_good a ua ta (l, d) = (allows_more s t g.allowed a ta ua l, (p, (inl refl, omega (arith, switches_insert p t a ta))))

  dropped_good : (b : ℕ) → bit t b ≡ 1 → bit s.lower b ≡ 0 → Dropped b → Good (remove t b)
  dropped_good b tb lb (l, d) = (allows_less s t g.allowed b tb lb l, (p, (inl refl, omega (arith, to_less p t b tb, bit_le p b))))

  -- for each unit that can be on some set that has it is good
  pub on_sound : (u : ℕ) → CanBeOn u → (x : ℕ) × (Good x × (bit x u ≡ 1))
  on_sound u (inl e) = (t, (same_good, e))
  on_sound u (inr ((uu, tu), inl c)) = (insert t u, (added_good u uu tu c, bit_insert t u))
  on_sound u (inr ((uu, tu), inr (b, ((tb, lb), c)))) = (insert (remove t b) u, (placed_good b u tb lb uu tu c, bit_insert (remove t b) u))

  -- and for each that can be off one that lacks it
  pub off_sound : (u : ℕ) → CanBeOff u → (x : ℕ) × (Good x × (bit x u ≡ 0))
  off_sound u (inl e) = (t, (same_good, e))
  off_sound u (inr ((tu, lu), inl c)) = (remove t u, (dropped_good u tu lu c, bit_remove t u))
  off_sound u (inr ((tu, lu), inr (a, ((ua, ta), c)))) =
      let x = insert (remove t u) a in
      (x, (placed_good u a tu lu ua ta c, lacks_old t x u a tu ta refl))
