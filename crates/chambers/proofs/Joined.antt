-- The chart of a bench is that of each chamber, put together (`chart_joined`): a chamber's chart is drawn for the
-- bound less the switches of the plans that are handed out for the others, and shows the chamber's units alone. For a
-- plan of all chambers within the bound leaves just so much to the chamber, and a plan of the chamber within so much
-- goes on to one of all (`down` and `up`).
use mathlib.Core.Path.{◌≡◌, refl, sym, ap, ◌∙◌}
use mathlib.Core.Logic.{◌↔◌}
use mathlib.Core.Bool.{Bool}
use mathlib.Core.List.Memᴰ
use mathlib.Core.List.{List, [], ◌∷◌, map, Memᴰ}
use Prim.Native.Nat.{ℕ, zero, suc, ◌+◌, ◌-◌, ◌≤◌, ◌<◌}
use native.Mathlib.Decide.{dec_lt}
use native.Mathlib.Omega.{arith}
use lib.ListN.{length, length-map, get_or}
use lib.Seq.{ext_get_or}
use Rattle.units.specs.Sets.{bit, intersection}
use Rattle.units.proofs.Sets.{bit_intersection, bit_le}
use Rattle.plans.specs.Plans.{allows, joined_all, can_be}
use Rattle.plans.specs.Switch.{Throughout}
use Rattle.plans.proofs.AllPlans.{Shows, SomePlanBy, SomePlan, any_length}
use Rattle.plans.proofs.Cells.{Long, count, any_cell, any_beyond, cell_count, cell}
use Rattle.tables.proofs.Gathering.{equal_units}
use Rattle.chambers.specs.Chambers.{Chamber, ChamberLimits, Fits, fits, part_of, parts_of}
use Rattle.chambers.specs.Parts.{cut, total_of, sum_of, chart_of}
use Rattle.chambers.proofs.Parts.{all}
use Rattle.chambers.proofs.Among.{among, in_some, sum_part, down, up}
use Rattle.chambers.proofs.Bench.{fits_exactly, Bench, unit_in, in_unit, plan_fits_in, plan_in_fits, bench_low, part_below, chambers_satisfied, total_in_lem}
use Rattle.chambers.proofs.Joining.{all_long, all_have}

-- ---- what a list has of some units

-- the word at i of what a list has of m
pub get_d_cut : (m : ℕ) (q : List ℕ) (i : ℕ) → i < length q → get_or (cut m q) i 0 ≡ intersection (get_or q i 0) m
get_d_cut m [] i l = absurd (omega arith)
get_d_cut m (x ∷ q) zero l = refl
get_d_cut m (x ∷ q) (suc i) l = get_d_cut m q i (omega arith)

-- a unit of m is in a set exactly if it is in what the set has of m
bit_cut : (m x u : ℕ) → bit m u ≡ 1 → bit (intersection x m) u ≡ bit x u
bit_cut m x u e = omega (arith, bit_intersection x m u, bit_le x u)

-- ---- the chart of one chamber

module _ (on : Bool) (d slack start : ℕ) (ss : List ChamberLimits) (c : Chamber) where
  abbrev words : List ℕ
  words = can_be allows on d (total_of c start ss + slack) (intersection start c.units) (parts_of c ss)

  -- these are as many as there are steps
  words_long : length words ≡ length ss
  words_long = cell_count d (total_of c start ss + slack) (intersection start c.units) (parts_of c ss) on ∙ length-map ss (part_of c)

  -- it has a word for each step
  pub chart_long : length (chart_of on d slack start ss c) ≡ length ss
  chart_long = length-map words (λ x. intersection x c.units) ∙ words_long

  -- which is what the word over all units below d has of the chamber's
  pub chart_at : (i : ℕ) → i < length ss → get_or (chart_of on d slack start ss c) i 0 ≡ intersection (get_or words i 0) c.units
  chart_at i l = get_d_cut c.units words i (omega (arith, words_long))

-- ---- the chart of all

module _ {d : ℕ} {cs : List Chamber} {ss : List ChamberLimits} (g : Bench d cs ss) (start bound : ℕ) (enough : sum_of cs start ss ≤ bound) (on : Bool) where
  -- the switches to spare, in all and in each chamber
  abbrev slack : ℕ
  slack = bound - sum_of cs start ss

  -- the chart of one chamber
  abbrev drawn : Chamber → List ℕ
  drawn c = chart_of on d slack start ss c

  module _ (c : Chamber) (m : Memᴰ c cs) (i u : ℕ) (l : i < length ss) (e : bit c.units u ≡ 1) where
    -- a plan shows the unit as its part in the chamber does
    shown : (q : List ℕ) → Throughout (Fits cs) ss q → bit (get_or (cut c.units q) i 0) u ≡ bit (get_or q i 0) u
    shown q f = ap (λ (x : ℕ). bit x u) (get_d_cut c.units q i (omega (arith, any_length (Fits cs) ss q f))) ∙ bit_cut c.units (get_or q i 0) u e

    -- some plan of all within the bound has u so exactly if some plan of the chamber within what is left to it does
    among_plans : SomePlanBy (Fits cs) bound start ss i (Shows on u)
        ↔ SomePlan (total_of c start ss + slack) (intersection start c.units) (parts_of c ss) i (Shows on u)
    among_plans = (
      λ (q, (f, (t, o))).
          let h = plan_fits_in d cs g.apart g.whole ss q g.sound f in
          let (p, k) = down start ss c cs m g.apart (chambers_satisfied g) q h in
          (cut c.units q, (p, (omega (arith, k, t, total_in_lem g start q h, few), shown q f ∙ o))),
      λ (p, (f, (t, o))).
          let (q, (h, (same, k))) = up start ss c cs m g.apart (chambers_satisfied g) p f in
          let r = plan_in_fits d cs g.apart g.whole ss q g.sound h in
          (q, (r, (omega (arith, k, t, total_in_lem g start q h, few), sym (shown q r) ∙ ap (λ (w : List ℕ). bit (get_or w i 0) u) same ∙ o))),
    )
      where
        few : total_of c start ss ≤ sum_of cs start ss
        few = sum_part start ss c cs m

    -- so the chamber's chart shows what the whole chart shows of its units
    chamber_cell : u < d → (bit (get_or (can_be (fits cs) on d bound start ss) i 0) u ≡ 1) ↔ (bit (get_or (drawn c) i 0) u ≡ 1)
    chamber_cell k =
        let whole = any_cell (fits cs) (Fits cs) (fits_exactly cs) d bound start ss i u l (bench_low cs d ss g.sound) on k in
        let at : i < length (parts_of c ss) = omega (arith, length-map ss (part_of c)) in
        let part = cell d (total_of c start ss + slack) (intersection start c.units) (parts_of c ss) i u at (part_below c cs d ss g.sound) on k in
        let same = ap (λ (x : ℕ). bit x u) (chart_at on d slack start ss c i l) ∙ bit_cut c.units (get_or (words on d slack start ss c) i 0) u e in
        (λ h. same ∙ part.1 (among_plans.0 (whole.0 h)), λ h. whole.1 (among_plans.1 (part.0 (sym same ∙ h))))

  -- The chart of the bench is the charts of its chambers, put together.
  pub chart_joined : can_be (fits cs) on d bound start ss ≡ joined_all (length ss) (map (chart_of on d (bound - sum_of cs start ss) start ss) cs)
  chart_joined =
      ext_get_or 0 whole together (many ∙ sym (all_long n (map drawn cs) long))
      (λ i h. let l : i < n = omega (arith, many) in equal_units (get_or whole i 0) (get_or together i 0) (forth i l) (back i l))
    where
      n : ℕ
      n = length ss

      whole : List ℕ
      whole = can_be (fits cs) on d bound start ss

      together : List ℕ
      together = joined_all (length ss) (map drawn cs)

      many : length whole ≡ n
      many = count (fits cs) (Fits cs) (fits_exactly cs) d bound start ss on

      long : Long n (map drawn cs)
      long p m = let (c, k, e) = Memᴰ.of_map drawn cs m in ap length (sym e) ∙ chart_long on d slack start ss c

      forth : (i : ℕ) → i < n → (u : ℕ) → bit (get_or whole i 0) u ≡ 1 → bit (get_or together i 0) u ≡ 1
      forth i l u h = go (dec_lt u d)
        where
          go : Dec (u < d) → bit (get_or together i 0) u ≡ 1
          go (yes k) =
              let (c, (m, e)) = in_some cs u (unit_in d cs g.whole u k) in
              (all_have n (map drawn cs) long i u l).1 (drawn c, Memᴰ.map drawn m, (chamber_cell c m i u l e k).0 h)
          go (no k) =
              absurd (omega (arith, any_beyond (fits cs) (Fits cs) (fits_exactly cs) d bound start ss i u l (bench_low cs d ss g.sound) on (omega arith), h))

      back : (i : ℕ) → i < n → (u : ℕ) → bit (get_or together i 0) u ≡ 1 → bit (get_or whole i 0) u ≡ 1
      back i l u h =
          let (p, m, o) = (all_have n (map drawn cs) long i u l).0 h in
          let (c, k, e) = Memᴰ.of_map drawn cs m in
          let has : bit (get_or (drawn c) i 0) u ≡ 1 = ap (λ (w : List ℕ). bit (get_or w i 0) u) e ∙ o in
          let word = get_or (words on d slack start ss c) i 0 in
          let own : bit c.units u ≡ 1 =
          omega (arith, ap (λ (x : ℕ). bit x u) (chart_at on d slack start ss c i l), bit_intersection word c.units u, bit_le c.units u) in
          (chamber_cell c k i u l own (in_unit d cs g.whole u (omega (arith, among c cs k u, bit_le (all cs) u)))).1 has
