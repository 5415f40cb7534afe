-- A sheet made over to the other edition: its header, a record, and one record after the other (`Remaking`).
use mathlib.Core.Path.{◌≡◌, refl, sym, ap, ap₂, ◌∙◌}
use mathlib.Core.Bool.{Bool, true, false, not, beq}
use mathlib.Core.List.{List, ◌∷◌, ◌++◌, append-nil, append_assoc}
use Prim.Native.Nat.{ℕ, zero, suc, ◌+◌, ◌-◌, ◌≤◌, ◌<◌}
use native.Mathlib.Nat.{add-zero, mul-zero, mul-one}
use native.Mathlib.Numerals.{add-one}
use native.Mathlib.Omega.{arith}
use lib.ListN.{length, take, drop, set, get_or, length-append, length-drop}
use lib.Seq.{take_at, drop-drop, drop-append_seam}
use Rattle.format.specs.Editions.{part, zeros, header_in, record_in, record_part, records_in}
use Rattle.format.specs.Format.{header_size, record_size, sheet_length, record_offset}
use Rattle.format.specs.Numbers.{byte_at}
use Rattle.format.proofs.Records.{header_within, length_mono}
use Rattle.format.proofs.Remade.{written_out, header_out, header_long, records_long}
use Rattle.promises.specs.Common.{written}
use Rattle.writer.proofs.Outputs.{written_more}

-- ---- the edition

-- what the test of two editions says
pub same_edition : (a b : Bool) → beq a b ≡ true → a ≡ b
same_edition true true e = refl
same_edition true false e = sym e
same_edition false true e = e
same_edition false false e = refl

pub other_edition : (a b : Bool) → beq a b ≡ false → a ≡ not b
other_edition true true e = e
other_edition true false e = refl
other_edition false true e = refl
other_edition false false e = sym e

-- ---- a record by its parts

-- k bytes of a list, from a place on, are others
abbrev placed : ℕ → ℕ → List ℕ → List ℕ → List ℕ
placed at k xs ys = take at xs ++ (ys ++ drop k (drop at xs))

pub first_record : (b : List ℕ) → length b ≡ record_size false
    → placed 20 4 (placed 18 2 (set (set (take 16 b ++ zeros 8) 16 (get_or b 16 0)) 17 (get_or b 20 0)) (part 24 2 b)) (take (length b - 28) (drop 28 b)) ≡ record_in true b
unfolding record_in
first_record =
    written_out 32
    (λ b. placed 20 4 (placed 18 2 (set (set (take 16 b ++ zeros 8) 16 (get_or b 16 0)) 17 (get_or b 20 0)) (part 24 2 b)) (take (length b - 28) (drop 28 b)) ≡ record_in true b) (λ f. refl)

pub second_record : (b : List ℕ) → length b ≡ record_size true
    → placed 28 4 (placed 24 2 (placed 20 4 (placed 16 4 (take 16 b ++ zeros 16) (get_or b 16 0 ∷ zeros 3)) (get_or b 17 0 ∷ zeros 3)) (part 18 2 b)) (take (length b - 20) (drop 20 b)) ≡ record_in false b
unfolding record_in
second_record =
    written_out 24
    (λ b. placed 28 4 (placed 24 2 (placed 20 4 (placed 16 4 (take 16 b ++ zeros 16) (get_or b 16 0 ∷ zeros 3)) (get_or b 17 0 ∷ zeros 3)) (part 18 2 b)) (take (length b - 20) (drop 20 b)) ≡ record_in false b) (λ f. refl)

-- ---- the header

pub first_header : (s : List ℕ) → header_size ≤ length s → placed 12 4 (set (take 24 s) 4 1) (zeros 4) ≡ header_in true s
unfolding header_in
first_header = header_out (λ s. placed 12 4 (set (take 24 s) 4 1) (zeros 4) ≡ header_in true s) (λ f rest. refl)

pub second_header : (s : List ℕ) → header_size ≤ length s → placed 12 4 (set (take 24 s) 4 2) (get_or s 5 0 ∷ zeros 3) ≡ header_in false s
unfolding header_in byte_at
second_header = header_out (λ s. placed 12 4 (set (take 24 s) 4 2) (get_or s 5 0 ∷ zeros 3) ≡ header_in false s) (λ f rest. refl)

-- ---- one record after the other

-- a record more
records_more : (first : Bool) (s : List ℕ) (j n : ℕ) → records_in first s j (suc n) ≡ records_in first s j n ++ record_in first (record_part (not first) s (j + n))
unfolding records_in
records_more first s j zero = append-nil (record_in first (record_part (not first) s j)) ∙ ap (λ (k : ℕ). record_in first (record_part (not first) s k)) (sym (add-zero j))
records_more first s j (suc n) =
    let here = record_in first (record_part (not first) s j) in
    let next : j + 1 + n ≡ j + suc n = omega arith in
    ap (λ rest. here ++ rest) (records_more first s (j + 1) n)
    ∙ sym (append_assoc here (records_in first s (j + 1) n) (record_in first (record_part (not first) s (j + 1 + n))))
    ∙ ap (λ (k : ℕ). records_in first s j (suc n) ++ record_in first (record_part (not first) s k)) next

-- the size of a record is not 0
pub some_size : (first : Bool) → 0 < record_size first
some_size true = omega arith
some_size false = omega arith

-- where the record after i of them lies
record_at : (first : Bool) (i : ℕ) → record_offset first (i + 1) ≡ sheet_length first i
record_at first i = ap (sheet_length first) (omega arith)

sheet_more : (first : Bool) (i : ℕ) → sheet_length first i + record_size first ≡ sheet_length first (i + 1)
sheet_more true i = omega arith
sheet_more false i = omega arith

-- the header and the first i records
abbrev so_far : Bool → List ℕ → ℕ → List ℕ
so_far first s i = header_in first s ++ records_in first s 1 i

module _ (first : Bool) (s : List ℕ) (r : ℕ) where
  -- after i records, where the bytes of the sheet that are left are `rest`
  pub record Remaking (before : List ℕ) (i : ℕ) (rest out : List ℕ) : Type 0 where
    pub within : i ≤ r
    pub left : rest ≡ drop (sheet_length (not first) i) s
    pub stands : out ≡ written (so_far first s i) before

module _ (first : Bool) (s : List ℕ) (r : ℕ) (whole : length s ≡ sheet_length (not first) r) where
  so_far_long : (i : ℕ) → i ≤ r → length (so_far first s i) ≡ sheet_length first i
  so_far_long i h =
      length-append (header_in first s) (records_in first s 1 i)
      ∙ ap₂ ◌+◌ (header_long first s (omega (arith, whole, header_within (not first) r))) (records_long first s r whole 1 i (omega arith) (omega arith))

  made_long : (i : ℕ) → i < r → length (record_in first (record_part (not first) s (i + 1))) ≡ record_size first
  unfolding records_in
  made_long i h =
      ap length (sym (append-nil (record_in first (record_part (not first) s (i + 1)))))
      ∙ records_long first s r whole (i + 1) 1 (omega arith) (omega arith)
      ∙ mul-one (record_size first)

  pub remaking_begun : (before : List ℕ) → Remaking first s r before 0 (drop header_size s) (header_in first s ++ drop header_size before)
  unfolding records_in
  remaking_begun before =
      let none : (b : Bool) → header_size ≡ sheet_length b 0 = λ b. omega (arith, mul-zero (record_size b)) in
      record {
        within = omega arith;
        left = ap (λ (k : ℕ). drop k s) (none (not first));
        stands =
            rw (append-nil (header_in first s), header_long first s (omega (arith, whole, header_within (not first) r)));
      }

  module _ {before : List ℕ} {i : ℕ} {rest out : List ℕ} (g : Remaking first s r before i rest out) where
    left_long : length rest ≡ sheet_length (not first) r - sheet_length (not first) i
    left_long = ap length g.left ∙ length-drop (sheet_length (not first) i) s ∙ ap (λ (k : ℕ). k - sheet_length (not first) i) whole

    -- the next record is x
    module _ (x more : List ℕ) (e : rest ≡ x ++ more) (long : length x ≡ record_size (not first)) where
      next_record : x ≡ record_part (not first) s (i + 1)
      next_record =
          sym (take_at x more (record_size (not first)) long)
          ∙ ap (take (record_size (not first))) (sym e ∙ g.left ∙ ap (λ (k : ℕ). drop k s) (sym (record_at (not first) i)))

      pub one_left : i < r
      one_left = some (not first) (omega (arith, left_long, ap length e, length-append x more, long)) (some_size (not first))
        where
          some : (b : Bool) → record_size b ≤ sheet_length b r - sheet_length b i → 0 < record_size b → i < r
          some true h k = omega arith
          some false h k = omega arith

      -- it is put after those before it
      pub record_on : sheet_length first r ≤ length before → (at k : ℕ) → at ≡ record_offset first (i + 1) → k ≡ record_size first
          → Remaking first s r before (i + 1) more (take at out ++ (record_in first x ++ drop k (drop at out)))
      record_on room at k e_at e_k =
          let bytes = record_in first x in
          let size : length bytes ≡ record_size first = ap (λ l. length (record_in first l)) next_record ∙ made_long i one_left in
          let place : length (so_far first s i) ≡ at = so_far_long i g.within ∙ sym (record_at first i) ∙ sym e_at in
          let fits : at + k ≤ length before = omega (arith, e_at, e_k, record_at first i, sheet_more first i, length_mono first (i + 1) r (omega (arith, one_left)), room) in
          let number : i + 1 ≡ 1 + i = omega arith in
          record {
            within = omega (arith, one_left);
            left =
                sym (drop-append_seam x more)
                ∙ ap₂ (λ (k : ℕ) (l : List ℕ). drop k l) long (sym e ∙ g.left)
                ∙ drop-drop (record_size (not first)) (sheet_length (not first) i) s
                ∙ ap (λ (k : ℕ). drop k s) (sheet_more (not first) i);
            stands =
                ap (λ (l : List ℕ). take at l ++ (bytes ++ drop k (drop at l))) g.stands
                ∙ written_more (so_far first s i) bytes before at k place (size ∙ sym e_k) fits
                ∙ ap (λ (l : List ℕ). written l before)
                (append_assoc (header_in first s) (records_in first s 1 i) bytes
                ∙ ap (λ (l : List ℕ). header_in first s ++ (records_in first s 1 i ++ record_in first l)) (next_record ∙ ap (record_part (not first) s) number)
                ∙ ap (λ (l : List ℕ). header_in first s ++ l) (sym (records_more first s 1 i) ∙ ap (records_in first s 1) (sym (add-one i))));
          }

    -- no bytes of a record are left
    pub all_made : length rest < record_size (not first) → out ≡ written (header_in first s ++ records_in first s 1 r) before
    all_made few =
        let none : i ≡ r = all (not first) (omega (arith, left_long, few)) in
        g.stands ∙ ap (λ (k : ℕ). written (so_far first s k) before) none
      where
        all : (b : Bool) → sheet_length b r - sheet_length b i < record_size b → i ≡ r
        all true h = omega (arith, g.within)
        all false h = omega (arith, g.within)
