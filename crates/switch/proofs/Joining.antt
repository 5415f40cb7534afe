-- Steps taken as one from the last to the first (`Joined`), and one block after the other (`Filled`).
use mathlib.Core.Path.{◌≡◌, refl, sym, ap, ◌∙◌}
use mathlib.Core.List.{List, [], ◌∷◌, ◌++◌, reverse, reverse-append}
use Prim.Native.Nat.{ℕ, ◌+◌, ◌-◌, ◌*◌, ◌≤◌, ◌<◌, min}
use native.Mathlib.Decide.{dec_lt}
use native.Mathlib.Omega.{arith}
use lib.ListN.{length, length-drop, length-set, get_or, set, take, drop, drop_of_length-le}
use lib.Seq.{drop-drop, get_or-set_same, get_or-set_other, take-append_seam, drop-append_seam}
use Rattle.std.proofs.lemmas.List.{take_more, take_all, reverse-reverse}
use Rattle.units.specs.Sets.{all, union, intersection}
use Rattle.plans.specs.Steps.{step_limit}
use Rattle.plans.specs.declared.Limits.{Limits}
use Rattle.switch.specs.Stretches.{required_in, allowed_in, as_one, block, block_size, block_end, block_count, Blocks}
use Rattle.switch.specs.declared.stretch.Stretch.{Stretch}

-- the last k steps
abbrev last_steps : List Limits → ℕ → List Limits
last_steps ss k = reverse (take k (reverse ss))

-- the sets of the last k steps
pub record Joined (ss : List Limits) (k lower upper : ℕ) : Type 0 where
  pub requires : lower ≡ required_in (last_steps ss k)
  pub allows : upper ≡ allowed_in (last_steps ss k)

pub join_begun : (ss : List Limits) → Joined ss 0 0 all
unfolding required_in allowed_in
join_begun ss = record { requires = refl; allows = refl }

module _ {ss : List Limits} {k lower upper : ℕ} (g : Joined ss k lower upper) where
  pub join_on : (s : Limits) → k < length (reverse ss) → s ≡ get_or (reverse ss) k s
      → Joined ss (k + 1) (union s.lower lower) (intersection s.upper (union s.lower upper))
  unfolding required_in allowed_in
  join_on s h e =
      let more : s ∷ last_steps ss k ≡ last_steps ss (k + 1) =
      sym (ap reverse (take_more (reverse ss) k s h ∙ ap (λ x. take k (reverse ss) ++ x ∷ []) (sym e)) ∙ reverse-append (take k (reverse ss)) (s ∷ [])) in
      record {
        requires = ap (union s.lower) g.requires ∙ ap required_in more;
        allows = ap (λ (x : ℕ). intersection s.upper (union s.lower x)) g.allows ∙ ap allowed_in more;
      }

  pub join_done : k ≡ length (reverse ss) → (lower ≡ required_in ss) × (upper ≡ allowed_in ss)
  join_done e =
      let all_steps : last_steps ss k ≡ ss = ap reverse (take_all k (reverse ss) (omega arith)) ∙ reverse-reverse ss in
      (g.requires ∙ ap required_in all_steps, g.allows ∙ ap allowed_in all_steps)

-- ---- the blocks

abbrev at : List Stretch → ℕ → Stretch
at blocks p = get_or blocks p (record { lower = 0; upper = 0 })

-- the first q blocks are there, and `left` has the steps after them
pub record Filled (ss : List Limits) (blocks : List Stretch) (q : ℕ) (left : List Limits) : Type 0 where
  pub room : length blocks ≡ block_count
  pub to_come : left ≡ drop (block_size * q) ss
  pub lowers : (p : ℕ) → p < q → (at blocks p).lower ≡ required_in (block ss p)
  pub uppers : (p : ℕ) → p < q → (at blocks p).upper ≡ allowed_in (block ss p)

pub fill_begun : (ss : List Limits) (blocks : List Stretch) → length blocks ≡ block_count → Filled ss blocks 0 ss
fill_begun ss blocks h = record { room = h; to_come = refl; lowers = λ p l. absurd (omega arith); uppers = λ p l. absurd (omega arith) }

module _ {ss : List Limits} {blocks : List Stretch} {q : ℕ} {left : List Limits} (g : Filled ss blocks q left) where
  many_left : length left ≡ length ss - block_size * q
  many_left = ap length g.to_come ∙ length-drop (block_size * q) ss

  -- where steps are left, there is a place for their block
  pub fill_room : 0 < length left → length ss ≤ step_limit → q < block_count
  fill_room h l = omega (arith, many_left)

  module _ (part later : List Limits) (parted : left ≡ part ++ later) (long : length part ≡ min block_size (length left)) where
    part_is : part ≡ block ss q
    part_is =
        let size : length part ≡ block_end (length ss) (block_size * q) - block_size * q = omega (arith, many_left) in
        sym (take-append_seam part later) ∙ ap (take (length part)) (sym parted ∙ g.to_come) ∙ ap (λ (k : ℕ). take k (drop (block_size * q) ss)) size

    later_is : later ≡ drop (block_size * (q + 1)) ss
    later_is =
        sym (drop-append_seam part later) ∙ ap (drop (length part)) (sym parted ∙ g.to_come) ∙ drop-drop (length part) (block_size * q) ss
        ∙ go (dec_lt (length left) block_size)
      where
        go : Dec (length left < block_size) → drop (block_size * q + length part) ss ≡ drop (block_size * (q + 1)) ss
        go (yes l) = drop_of_length-le ss (omega (arith, many_left)) ∙ sym (drop_of_length-le ss (omega (arith, many_left)))
        go (no l) = let same : block_size * q + length part ≡ block_size * (q + 1) = omega arith in ap (λ (k : ℕ). drop k ss) same

    pub fill_on : q < block_count → (s : Stretch) → s ≡ as_one part → Filled ss (set blocks q s) (q + 1) later
    fill_on h s is =
        record {
          room = length-set blocks q s ∙ g.room;
          to_come = later_is;
          lowers = λ p l. lower p (dec_lt p q) l;
          uppers = λ p l. upper p (dec_lt p q) l;
        }
      where
        made : s ≡ as_one (block ss q)
        made = is ∙ ap as_one part_is

        lower : (p : ℕ) → Dec (p < q) → p < q + 1 → (at (set blocks q s) p).lower ≡ required_in (block ss p)
        lower p (yes l) m = ap (λ (x : Stretch). x.lower) (get_or-set_other blocks q p s _ (λ e. omega arith)) ∙ g.lowers p l
        lower p (no l) m =
            let same : p ≡ q = omega arith in
            rw same (ap (λ (x : Stretch). x.lower) (get_or-set_same blocks q s _ (omega (arith, g.room)) ∙ made))

        upper : (p : ℕ) → Dec (p < q) → p < q + 1 → (at (set blocks q s) p).upper ≡ allowed_in (block ss p)
        upper p (yes l) m = ap (λ (x : Stretch). x.upper) (get_or-set_other blocks q p s _ (λ e. omega arith)) ∙ g.uppers p l
        upper p (no l) m =
            let same : p ≡ q = omega arith in
            rw same (ap (λ (x : Stretch). x.upper) (get_or-set_same blocks q s _ (omega (arith, g.room)) ∙ made))

  pub fill_done : length left ≡ 0 → Blocks ss blocks
  fill_done h = record { lowers = λ p l. g.lowers p (omega (arith, many_left)); uppers = λ p l. g.uppers p (omega (arith, many_left)) }
