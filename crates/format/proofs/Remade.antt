-- The bytes of a sheet that is made over to the other edition: its length (`remade_long`), and that record j of it is
-- record j of the sheet, made over (`remade_part`). And up and down again gives the same bytes (`up_and_down`).
--
-- What a header or one record says is computed: a list of so many bytes is written out byte by byte (`written_out`),
-- and both sides are then the same.
use mathlib.Core.Path.{◌≡◌, refl, sym, ap, ap₂, ◌∙◌, subst}
use mathlib.Core.Bool.{Bool, true, false, cond, not}
use mathlib.Core.List.{List, [], ◌∷◌, ◌++◌}
use Prim.Native.Nat.{ℕ, zero, suc, ◌+◌, ◌-◌, ◌*◌, ◌≤◌, ◌<◌}
use native.Mathlib.Nat.{add-zero, mul-zero}
use native.Mathlib.Omega.{arith}
use lib.Dec.{eqb}
use lib.ListN.{length, get_or, take, drop, length-append, length-drop, take-append-drop}
use lib.Seq.{length-take-le, take_at, take_all, drop-drop, take-add, drop-append-add}
use borrow.Author.Tests.{eqb-true}
use Rattle.format.specs.Editions.{part, header_in, record_in, record_part, records_in, remade, in_edition, narrowed}
use Rattle.format.specs.Format.{first_edition, second_edition, header_size, record_size, next_at, sheet_length, record_offset, letters_of, edition_of, is_first, units_of, records_of, first_of, bound_of, reserved_of, start_of, one_size, four_sizes, sizes, step_in}
use Rattle.format.specs.Numbers.{byte_at, u16_at, u32_at, u64_at}
use Rattle.format.specs.Writing.{widened}
use Rattle.format.proofs.Records.{header_within}

-- ---- bytes written out

-- f 0, f 1, …, n of them
abbrev pub bytes : ℕ → (ℕ → ℕ) → List ℕ
bytes zero f = []
bytes (suc n) f = f 0 ∷ bytes n (λ i. f (suc i))

listed : (n : ℕ) (l : List ℕ) → length l ≡ n → l ≡ bytes n (λ i. get_or l i 0)
listed zero [] e = refl
listed zero (x ∷ l) e = absurd (omega (arith, e))
listed (suc n) [] e = absurd (omega (arith, e))
listed (suc n) (x ∷ l) e = ap (λ r. x ∷ r) (listed n l (omega (arith, e)))

-- what holds of n bytes written out holds of any list of n bytes
pub written_out : (n : ℕ) (F : List ℕ → Type 0) → ((f : ℕ → ℕ) → F (bytes n f)) → (l : List ℕ) → length l ≡ n → F l
written_out n F h l e = subst F (sym (listed n l e)) (h (λ i. get_or l i 0))

-- what holds of a header written out and any bytes after it holds of any list that has a header
pub header_out : (F : List ℕ → Type 0) → ((f : ℕ → ℕ) (rest : List ℕ) → F (bytes header_size f ++ rest)) → (s : List ℕ) → header_size ≤ length s → F s
header_out F h s l =
    subst F (take-append-drop header_size s)
    (written_out header_size (λ b. F (b ++ drop header_size s)) (λ f. h f (drop header_size s)) (take header_size s) (length-take-le header_size s l))

-- ---- a record

record_long : (first : Bool) (b : List ℕ) → length b ≡ record_size (not first) → length (record_in first b) ≡ record_size first
unfolding record_in
record_long true = written_out 32 (λ b. length (record_in true b) ≡ 24) (λ f. refl)
record_long false = written_out 24 (λ b. length (record_in false b) ≡ 32) (λ f. refl)

-- the step that it holds has the numbers of the first chamber, and zeros for the others
pub record_step : (first : Bool) (b : List ℕ) → length b ≡ record_size (not first) → step_in first (record_in first b) 0 ≡ widened (narrowed (step_in (not first) b 0))
unfolding record_in step_in byte_at u16_at u32_at u64_at
record_step true = written_out 32 (λ b. step_in true (record_in true b) 0 ≡ widened (narrowed (step_in false b 0))) (λ f. refl)
record_step false = written_out 24 (λ b. step_in false (record_in false b) 0 ≡ widened (narrowed (step_in true b 0))) (λ f. refl)

pub record_next : (first : Bool) (b : List ℕ) → length b ≡ record_size (not first) → u16_at (record_in first b) (next_at first) ≡ u16_at b (next_at (not first))
unfolding record_in byte_at u16_at
record_next true = written_out 32 (λ b. u16_at (record_in true b) (next_at true) ≡ u16_at b (next_at false)) (λ f. refl)
record_next false = written_out 24 (λ b. u16_at (record_in false b) (next_at false) ≡ u16_at b (next_at true)) (λ f. refl)

-- up and down again
record_back : (b : List ℕ) → length b ≡ record_size true → record_in true (record_in false b) ≡ b
unfolding record_in
record_back = written_out 24 (λ b. record_in true (record_in false b) ≡ b) (λ f. refl)

-- ---- the records of a sheet

-- more bytes than the place of a record and its size
pub record_there : (first : Bool) (s : List ℕ) (r j : ℕ) → length s ≡ sheet_length first r → 0 < j → j ≤ r → length (record_part first s j) ≡ record_size first
record_there true s r j whole some l =
    length-take-le 24 (drop (record_offset true j) s) (omega (arith, length-drop (record_offset true j) s))
record_there false s r j whole some l =
    length-take-le 32 (drop (record_offset false j) s) (omega (arith, length-drop (record_offset false j) s))

-- the bytes of one record more
one_more : (first : Bool) (n : ℕ) → record_size first * suc n ≡ record_size first + record_size first * n
one_more true n = omega arith
one_more false n = omega arith

-- the part of a list from a place on that lies past its first bytes
part_past : (a b : List ℕ) (n at k : ℕ) → length a ≡ n → part (n + at) k (a ++ b) ≡ part at k b
part_past a b n at k e = ap (take k) (ap (λ (m : ℕ). drop (m + at) (a ++ b)) (sym e) ∙ drop-append-add a b at)

module _ (first : Bool) (s : List ℕ) (r : ℕ) (whole : length s ≡ sheet_length (not first) r) where
  -- its record j, made over
  abbrev made : ℕ → List ℕ
  made j = record_in first (record_part (not first) s j)

  made_long : (j : ℕ) → 0 < j → j ≤ r → length (made j) ≡ record_size first
  made_long j some l = record_long first (record_part (not first) s j) (record_there (not first) s r j whole some l)

  pub records_long : (j n : ℕ) → 0 < j → j + n ≤ suc r → length (records_in first s j n) ≡ record_size first * n
  unfolding records_in
  records_long j zero some l = sym (mul-zero (record_size first))
  records_long j (suc n) some l =
      length-append (made j) (records_in first s (j + 1) n)
      ∙ ap₂ ◌+◌ (made_long j some (omega arith)) (records_long (j + 1) n (omega arith) (omega arith))
      ∙ sym (one_more first n)

  records_part : (j n k : ℕ) → 0 < j → j + n ≤ suc r → k < n → part (record_size first * k) (record_size first) (records_in first s j n) ≡ made (j + k)
  unfolding records_in
  records_part j zero k some l h = absurd (omega arith)
  records_part j (suc n) zero some l h =
      ap (λ (m : ℕ). part m (record_size first) (made j ++ records_in first s (j + 1) n)) (mul-zero (record_size first))
      ∙ take_at (made j) (records_in first s (j + 1) n) (record_size first) (made_long j some (omega arith))
      ∙ ap made (sym (add-zero j))
  records_part j (suc n) (suc k) some l h =
      let next : j + 1 + k ≡ j + suc k = omega arith in
      ap (λ (m : ℕ). part m (record_size first) (made j ++ records_in first s (j + 1) n)) (one_more first k)
      ∙ part_past (made j) (records_in first s (j + 1) n) (record_size first) (record_size first * k) (record_size first) (made_long j some (omega arith))
      ∙ records_part (j + 1) n k (omega arith) (omega arith) (omega arith)
      ∙ ap made next

-- ---- the header

module _ (first : Bool) (s : List ℕ) (l : header_size ≤ length s) where
  pub header_long : length (header_in first s) ≡ header_size
  unfolding header_in
  header_long = header_out (λ t. length (header_in first t) ≡ header_size) (λ f rest. refl) s l

  pub remade_letters : letters_of (remade first s) ≡ letters_of s
  unfolding remade header_in
  remade_letters = header_out (λ t. letters_of (remade first t) ≡ letters_of t) (λ f rest. refl) s l

  pub edition_byte : edition_of (remade first s) ≡ cond first first_edition second_edition
  unfolding remade header_in byte_at
  edition_byte = header_out (λ t. edition_of (remade first t) ≡ cond first first_edition second_edition) (λ f rest. refl) s l

  pub remade_edition : is_first (remade first s) ≡ first
  remade_edition = ap (λ (e : ℕ). eqb e first_edition) edition_byte ∙ number first
    where
      number : (b : Bool) → eqb (cond b first_edition second_edition) first_edition ≡ b
      number true = refl
      number false = refl

  pub remade_units : units_of (remade first s) ≡ units_of s
  unfolding remade header_in byte_at
  remade_units = header_out (λ t. units_of (remade first t) ≡ units_of t) (λ f rest. refl) s l

  pub remade_records : records_of (remade first s) ≡ records_of s
  unfolding remade header_in byte_at u16_at
  remade_records = header_out (λ t. records_of (remade first t) ≡ records_of t) (λ f rest. refl) s l

  pub remade_first : first_of (remade first s) ≡ first_of s
  unfolding remade header_in byte_at u16_at
  remade_first = header_out (λ t. first_of (remade first t) ≡ first_of t) (λ f rest. refl) s l

  pub remade_bound : bound_of (remade first s) ≡ bound_of s
  unfolding remade header_in byte_at u16_at
  remade_bound = header_out (λ t. bound_of (remade first t) ≡ bound_of t) (λ f rest. refl) s l

  pub remade_start : start_of (remade first s) ≡ start_of s
  unfolding remade header_in byte_at u16_at u32_at u64_at
  remade_start = header_out (λ t. start_of (remade first t) ≡ start_of t) (λ f rest. refl) s l

  -- the bytes of the chambers
  chambers_bytes : (four_sizes (remade first s) ≡ one_size (cond first 0 (units_of s))) × (reserved_of (remade first s) ≡ cond first 0 (units_of s))
  unfolding remade header_in byte_at u16_at u32_at
  chambers_bytes =
      header_out (λ t. (four_sizes (remade first t) ≡ one_size (cond first 0 (units_of t))) × (reserved_of (remade first t) ≡ cond first 0 (units_of t)))
      (λ f rest. (refl, omega arith)) s l

-- all units are in the first chamber
pub remade_sizes : (first : Bool) (s : List ℕ) → header_size ≤ length s → sizes (remade first s) ≡ one_size (units_of s)
unfolding sizes
remade_sizes true s l = rw (remade_edition true s l) (ap one_size (remade_units true s l))
remade_sizes false s l = rw (remade_edition false s l) (chambers_bytes false s l).0

-- and in the first edition the bytes are zero
pub remade_reserved : (s : List ℕ) → header_size ≤ length s → reserved_of (remade true s) ≡ 0
remade_reserved s l = (chambers_bytes true s l).1

-- ---- the sheet

-- a sheet of the other edition
module _ (first : Bool) (s : List ℕ) (whole : length s ≡ sheet_length (not first) (records_of s)) where
  pub has_header : header_size ≤ length s
  has_header = omega (arith, whole, header_within (not first) (records_of s))

  pub remade_long : length (remade first s) ≡ sheet_length first (records_of s)
  unfolding remade
  remade_long =
      length-append (header_in first s) (records_in first s 1 (records_of s))
      ∙ ap₂ ◌+◌ (header_long first s has_header) (records_long first s (records_of s) whole 1 (records_of s) (omega arith) (omega arith))

  pub remade_part : (j : ℕ) → 0 < j → j ≤ records_of s → record_part first (remade first s) j ≡ record_in first (record_part (not first) s j)
  unfolding remade
  remade_part j some l =
      let number : 1 + (j - 1) ≡ j = omega arith in
      part_past (header_in first s) (records_in first s 1 (records_of s)) header_size (record_size first * (j - 1)) (record_size first) (header_long first s has_header)
      ∙ records_part first s (records_of s) whole 1 (records_of s) (j - 1) (omega arith) (omega arith) (omega arith)
      ∙ ap (λ (k : ℕ). record_in first (record_part (not first) s k)) number

-- a sheet in its own edition, and in the other
pub copied : (first : Bool) (s : List ℕ) → is_first s ≡ first → in_edition first s ≡ s
unfolding in_edition
copied true s e = rw e
copied false s e = rw e

pub made_over : (first : Bool) (s : List ℕ) → is_first s ≡ not first → in_edition first s ≡ remade first s
unfolding in_edition
made_over true s e = rw e
made_over false s e = rw e

-- ---- up and down again

header_back : (s : List ℕ) → edition_of s ≡ first_edition → reserved_of s ≡ 0 → header_size ≤ length s → header_in true (remade false s) ≡ take header_size s
unfolding remade header_in byte_at u16_at u32_at
header_back s e z l =
    header_out (λ t. edition_of t ≡ first_edition → reserved_of t ≡ 0 → header_in true (remade false t) ≡ take header_size t)
    (λ f rest e z.
    let a : 0 ≡ f 12 = omega arith in
    let b : 0 ≡ f 13 = omega arith in
    let c : 0 ≡ f 14 = omega arith in
    let d : 0 ≡ f 15 = omega arith in
    λ i. f 0 ∷ f 1 ∷ f 2 ∷ f 3 ∷ sym e i ∷ f 5 ∷ f 6 ∷ f 7 ∷ f 8 ∷ f 9 ∷ f 10 ∷ f 11 ∷ a i ∷ b i ∷ c i ∷ d i ∷ f 16 ∷ f 17 ∷ f 18 ∷ f 19 ∷ f 20 ∷ f 21 ∷ f 22 ∷ f 23 ∷ []) s l e z

module _ (s : List ℕ) (edition : is_first s ≡ true) (zeros : reserved_of s ≡ 0) (whole : length s ≡ sheet_length true (records_of s)) where
  abbrev raised : List ℕ
  raised = remade false s

  records_back : (j n : ℕ) → 0 < j → j + n ≤ suc (records_of s) → records_in true raised j n ≡ part (record_offset true j) (record_size true * n) s
  unfolding records_in
  records_back j zero some l = refl
  records_back j (suc n) some l =
      let at = record_offset true j in
      let next : at + record_size true ≡ record_offset true (j + 1) = omega arith in
      ap₂ ◌++◌
      (ap (record_in true) (remade_part false s whole j some (omega arith)) ∙ record_back (record_part true s j) (record_there true s (records_of s) j whole some (omega arith)))
      (records_back (j + 1) n (omega arith) (omega arith)
      ∙ ap (take (record_size true * n)) (ap (λ (k : ℕ). drop k s) (sym next) ∙ sym (drop-drop (record_size true) at s)))
      ∙ sym (take-add (record_size true) (record_size true * n) (drop at s))
      ∙ ap (λ (k : ℕ). take k (drop at s)) (sym (one_more true n))

  lowered : remade true raised ≡ s
  unfolding remade
  lowered =
      let l = has_header false s whole in
      ap₂ ◌++◌ (header_back s (eqb-true (edition_of s) first_edition edition) zeros l)
      (ap (records_in true raised 1) (remade_records false s l)
      ∙ records_back 1 (records_of s) (omega arith) (omega arith)
      ∙ take_all (record_size true * records_of s) (drop header_size s) (omega (arith, length-drop header_size s, whole)))
      ∙ take-append-drop header_size s

  pub up_and_down : in_edition true (in_edition false s) ≡ s
  up_and_down = ap (in_edition true) (made_over false s edition) ∙ made_over true raised (remade_edition false s (has_header false s whole)) ∙ lowered
