-- A sheet that is written reads as what it was written from (`written_reads`).
--
-- The bytes of a number give it back, wherever they lie. The records are followed one by one (`Followed`): record j +
-- 1 lies after the header and j records, so it holds its step, and its link is the one that was written, to the record
-- after it. So the chain is 1 to n without a fault, and its steps are those that were written. The faults of the steps
-- themselves are left to the reader.
use mathlib.Core.Path.{◌≡◌, refl, sym, ap, ap₂, ◌∙◌}
use mathlib.Core.Bool.{Bool, true, false, cond, not}
use mathlib.Core.List.{List, [], ◌∷◌, ◌++◌, map, append_assoc}
use Prim.Native.Nat.{ℕ, suc, ◌+◌, ◌*◌, ◌≤◌, ◌<◌, ◌^◌}
use native.Mathlib.Nat.{add-zero, zero-add}
use native.Mathlib.Omega.{arith}
use lib.Dec.{ltb}
use lib.ListN.{length, length-append}
use lib.Pow.{pow_mono}
use lib.Seq.{get_or-append-add}
use borrow.Author.Tests.{lt-ltb, le-ltb, eq-eqb, ne_eqb, ltb-true, leb-false}
use Rattle.units.specs.Sets.{has_unit_from}
use Rattle.chambers.specs.Chambers.{chambers_of, sum}
use Rattle.format.specs.declared.Step.{Step}
use Rattle.format.specs.Answer.{Answer, Given, unless}
use Rattle.format.specs.Chain.{following, chain_of, is_in, link_causes}
use Rattle.format.specs.Format.{header_size, record_size, unit_limit, record_limit, longest, upper_at, least_at, greatest_at, next_at, tag_at, record_offset, sheet_length, is_first, units_of, records_of, bound_of, start_of, one_size, sizes, sizes_list, chambers_in, step_in, next_of, step_of}
use Rattle.format.specs.Numbers.{byte_at, u16_at, u32_at, u64_at, bytes_of}
use Rattle.format.specs.Reading.{same, form_causes, header_causes, steps_causes, records_on, steps_of, Campaign, campaign_of, campaign_read}
use Rattle.format.specs.Writing.{header_bytes, record_bytes, link_in, records_after, sheet_of, numbers_from, widened, Wide, AllWide}
use Rattle.format.proofs.Answers.{passed_by, none_left}
use Rattle.format.proofs.Chains.{in_last_other}
use Rattle.format.proofs.Numbers.{same_u16, same_u32, same_u64, read_u16, read_u32, read_u64}
use Rattle.format.proofs.Readings.{open_staged, read_staged}
use Rattle.format.proofs.Records.{next_after}

-- ---- a record

record_length : (x : Step) (next : ℕ) → length (record_bytes x next) ≡ record_size true
unfolding record_bytes bytes_of
record_length x next = refl

-- the record after some bytes of a sheet of edition 1 that end where record j lies
module _ (before rest : List ℕ) (x : Step) (next j : ℕ) (long : length before ≡ record_offset true j) where
  abbrev bytes : List ℕ
  bytes = record_bytes x next ++ rest

  abbrev whole : List ℕ
  whole = before ++ bytes

  its_bytes : (i : ℕ) → i < record_size true → byte_at whole (record_offset true j + i) ≡ byte_at bytes (0 + i)
  unfolding byte_at
  its_bytes i h =
      ap (λ (k : ℕ). byte_at whole (k + i)) (sym long) ∙ get_or-append-add before bytes i 0 ∙ ap (byte_at bytes) (sym (zero-add i))

  step_written : is_first whole ≡ true → Wide x → step_of whole j ≡ widened x
  unfolding step_of step_in record_bytes bytes_of u64_at u32_at u16_at byte_at
  step_written first w =
      let at = record_offset true j in
      let lower : u64_at whole at ≡ x.lower =
      ap (u64_at whole) (sym (add-zero at)) ∙ same_u64 whole bytes at 0 (record_size true) its_bytes 0 (omega arith) ∙ read_u64 x.lower [] w.lower in
      let upper = same_u64 whole bytes at 0 (record_size true) its_bytes upper_at (omega arith) ∙ read_u64 x.upper [] w.upper in
      let least = its_bytes least_at (omega arith) in
      let greatest = its_bytes (greatest_at true) (omega arith) in
      let tag = same_u32 whole bytes at 0 (record_size true) its_bytes (tag_at true) (omega arith) ∙ read_u32 x.tag [] w.tag in
      ap (λ (b : Bool). step_in b whole (record_offset b j)) first
      ∙ (λ i. record { lower = lower i; upper = upper i; least = least i ∷ 0 ∷ 0 ∷ 0 ∷ []; greatest = greatest i ∷ 0 ∷ 0 ∷ 0 ∷ []; tag = tag i; reserved = 0 })

  next_written : is_first whole ≡ true → (j ≡ 0 → ⊥) → next < 2 ^ 16 → next_of whole j ≡ next
  unfolding record_bytes bytes_of u16_at byte_at
  next_written first some h =
      next_after whole j some
      ∙ ap (λ (b : Bool). u16_at whole (record_offset b j + next_at b)) first
      ∙ same_u16 whole bytes (record_offset true j) 0 (record_size true) its_bytes (next_at true) (omega arith)
      ∙ read_u16 next [] h

-- ---- the chain

link_small : (j n : ℕ) → n ≤ record_limit → link_in j n < 2 ^ 16
unfolding link_in
link_small j n h = go (ltb j n) refl
  where
    go : (t : Bool) → ltb j n ≡ t → cond t (j + 1) 0 < 2 ^ 16
    go true e = omega (arith, ltb-true j n e)
    go false e = omega arith

-- In the sheet s of edition 1 with n records, record j (the header, where j is 0) is followed by the records of the
-- last steps, and its link leads there.
record Followed (s : List ℕ) (j n : ℕ) (xs : List Step) : Type 0 where
  first : is_first s ≡ true
  left : j + length xs ≡ n
  before : List ℕ
  long : length before ≡ record_offset true (j + 1)
  all : s ≡ before ++ records_after j n xs
  link : next_of s j ≡ link_in j n

-- the next record holds the first of the steps, and is followed by the others
module _ {s : List ℕ} {j n : ℕ} {x : Step} {xs : List Step} (f : Followed s j n (x ∷ xs)) (few : n ≤ record_limit) where
  abbrev link : ℕ
  link = link_in (j + 1) n

  here : s ≡ f.before ++ (record_bytes x link ++ records_after (j + 1) n xs)
  unfolding records_after
  here = f.all

  edition : is_first (f.before ++ (record_bytes x link ++ records_after (j + 1) n xs)) ≡ true
  edition = ap is_first (sym here) ∙ f.first

  step_here : Wide x → step_of s (j + 1) ≡ widened x
  step_here w = ap (λ l. step_of l (j + 1)) here ∙ step_written f.before (records_after (j + 1) n xs) x link (j + 1) f.long edition w

  followed_on : Followed s (j + 1) n xs
  followed_on =
      record {
        first = f.first;
        left = omega (arith, f.left);
        before = f.before ++ record_bytes x link;
        long = omega (arith, length-append f.before (record_bytes x link), record_length x link, f.long);
        all = here ∙ sym (append_assoc f.before (record_bytes x link) (records_after (j + 1) n xs));
        link =
            ap (λ l. next_of l (j + 1)) here
            ∙ next_written f.before (records_after (j + 1) n xs) x link (j + 1) f.long edition (omega arith) (link_small (j + 1) n few);
      }

module _ (s : List ℕ) (n : ℕ) (few : n ≤ record_limit) where
  following_written : (j : ℕ) (xs : List Step) → Followed s j n xs → following (suc (length xs)) s j ≡ numbers_from (j + 1) (length xs)
  unfolding numbers_from following link_in
  following_written j [] f = rw (f.link, le-ltb j n (omega (arith, f.left)))
  following_written j (x ∷ xs) f =
      rw (f.link, lt-ltb j n (omega (arith, f.left)), ne_eqb (j + 1) 0 (λ e. omega arith))
      (ap (λ l. (j + 1) ∷ l) (following_written (j + 1) xs (followed_on f few)))

  steps_written_lem : (j : ℕ) (xs : List Step) → Followed s j n xs → AllWide xs → map (step_of s) (numbers_from (j + 1) (length xs)) ≡ map widened xs
  unfolding numbers_from
  steps_written_lem j [] f w = refl
  steps_written_lem j (x ∷ xs) f w = ap₂ (λ y ys. y ∷ ys) (step_here f few w.0) (steps_written_lem (j + 1) xs (followed_on f few) w.1)

-- no link leads out of the n records, or to one already met: those met have no number above j
links_written : {A : Type 0} (j n : ℕ) (met : List ℕ) (xs : List Step) (a : Answer A) → j + length xs ≡ n → ((m : ℕ) → j < m → is_in m met ≡ false)
    → unless (link_causes n met j (numbers_from (j + 1) (length xs))) a ≡ a
unfolding numbers_from link_causes
links_written j n met [] a h below = sym (none_left a)
links_written j n met (x ∷ xs) a h below =
    sym (passed_by _ _ _ (le-ltb n (j + 1) (omega (arith, h))) (passed_by _ _ _ (below (j + 1) (omega arith))
    (sym (links_written (j + 1) n (met ++ ((j + 1) ∷ [])) xs a (omega (arith, h)) (λ m l. in_last_other m (j + 1) met (λ e. omega arith) ∙ below m (omega arith))))))

-- ---- the sheet

records_length : (j n : ℕ) (xs : List Step) → length (records_after j n xs) ≡ record_size true * length xs
unfolding records_after
records_length j n [] = refl
records_length j n (x ∷ xs) =
    omega (arith, length-append (record_bytes x (link_in (j + 1) n)) (records_after (j + 1) n xs), record_length x (link_in (j + 1) n), records_length (j + 1) n xs)

module _ (d bound start : ℕ) (xs : List Step) where
  abbrev n : ℕ
  n = length xs

  abbrev s : List ℕ
  s = sheet_of d bound start xs

  pub sheet_length_lem : length s ≡ sheet_length true n
  unfolding sheet_of header_bytes bytes_of
  sheet_length_lem = omega (arith, records_length 0 n xs)

  module _ (few : n ≤ record_limit) where
    pub records_written : records_of s ≡ n
    unfolding sheet_of header_bytes bytes_of u16_at byte_at
    records_written = read_u16 n [] (omega (arith, few))

    followed : Followed s 0 n xs
    unfolding sheet_of header_bytes bytes_of u16_at byte_at next_of
    followed =
        record {
          first = refl;
          left = omega arith;
          before = header_bytes d n (link_in 0 n) bound start;
          long = refl;
          all = refl;
          link = read_u16 (link_in 0 n) [] (link_small 0 n few);
        }

    pub chain_written : records_on s ≡ numbers_from 1 n
    unfolding chain_of
    chain_written = ap (λ (r : ℕ). following (suc r) s 0) records_written ∙ following_written s n few 0 xs followed

    module _ (some : 0 < d) (most : d ≤ unit_limit) (own : has_unit_from start d ≡ false) (narrow : bound < 2 ^ 16) (wide : AllWide xs) where
      -- what it says, but for faults of its steps
      abbrev said : Campaign
      said = record { units = d; bound = bound; start = start; chambers = sizes_list (one_size d); steps = map widened xs }

      start_written : start_of s ≡ start
      unfolding sheet_of header_bytes bytes_of u64_at u32_at u16_at byte_at has_unit_from
      start_written = read_u64 start [] (omega (arith, leb-false (2 ^ d) start own, pow_mono most))

      bound_written : bound_of s ≡ bound
      unfolding sheet_of header_bytes bytes_of u16_at byte_at
      bound_written = read_u16 bound [] narrow

      steps_read : steps_of s ≡ map widened xs
      steps_read = ap (map (step_of s)) chain_written ∙ steps_written_lem s n few 0 xs followed wide

      -- all units are in the first chamber
      sizes_written : sizes s ≡ one_size d
      unfolding sizes sheet_of header_bytes bytes_of byte_at
      sizes_written = refl

      campaign_written : campaign_of s ≡ said
      unfolding campaign_of sheet_of header_bytes bytes_of byte_at
      campaign_written =
          λ i. record { units = d; bound = bound_written i; start = start_written i; chambers = sizes_list (sizes_written i); steps = steps_read i }

      header_written : {A : Type 0} (a : Answer A) → unless (form_causes s ++ header_causes s) a ≡ a
      unfolding sizes sum sheet_of header_bytes bytes_of u32_at u16_at byte_at same
      header_written a =
          sym (passed_by _ _ _ (le-ltb (length s) header_size (omega (arith, sheet_length_lem))) (passed_by _ _ _ (le-ltb longest (length s) (omega (arith, sheet_length_lem, few)))
          (passed_by _ _ _ refl (passed_by _ _ _ refl
          (passed_by _ _ _ (ne_eqb d 0 (λ e. omega arith)) (passed_by _ _ _ (le-ltb unit_limit d most)
          (passed_by _ _ _ (le-ltb record_limit (records_of s) (omega (arith, records_written, few))) (passed_by _ _ _ refl
          (passed_by _ _ _ (ap not (eq-eqb (sum (sizes_list (one_size d))) d (omega arith)))
          (passed_by _ _ _ (ap (λ (x : ℕ). has_unit_from x d) start_written ∙ own)
          (passed_by _ _ _ (ap not (eq-eqb (length s) (sheet_length true (records_of s)) (sheet_length_lem ∙ ap (sheet_length true) (sym records_written))))
          (none_left a))))))))))))

      -- the reader gives the refusal that the steps get, 6 or 7, or the same units, bound, start set and steps
      pub written_reads : campaign_read s ≡ unless (steps_causes (chambers_of (sizes_list (one_size d))) d 1 (map widened xs)) (Given said)
      unfolding sheet_of header_bytes bytes_of byte_at is_in
      written_reads =
          read_staged s (Given (campaign_of s))
          ∙ open_staged s _
          ∙ header_written _
          ∙ ap₂ (λ (r : ℕ) on. unless (link_causes r [] 0 on) (unless (steps_causes (chambers_in s) (units_of s) 1 (steps_of s)) (Given (campaign_of s)))) records_written chain_written
          ∙ links_written 0 n [] xs _ (omega arith) (λ m l. refl)
          ∙ (λ i. unless (steps_causes (chambers_of (sizes_list (sizes_written i))) d 1 (steps_read i)) (Given (campaign_written i)))
