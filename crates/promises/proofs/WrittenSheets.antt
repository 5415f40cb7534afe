-- Request One: a sheet that was written. It has a record for each step, in their order, and reads back: the reader
-- says of it what it was written from, or else the refusal of its first faulty step. The bytes of a sheet are
-- `sheet_of` in specs/Writing.antt of `format`. When a sheet is written, and what is replied if not, says
-- `demand_1_write`.
use mathlib.Core.Path.{◌≡◌, refl, ap, ◌∙◌}
use mathlib.Core.Bool.{true}
use mathlib.Core.List.{List, map}
use Prim.Native.Nat.{ℕ, ◌^◌, ◌<◌}
use native.Mathlib.Omega.{arith}
use lib.ListN.{length, take, drop}
use lib.Seq.{take_at}
use Rattle.chambers.specs.Chambers.{chambers_of}
use Rattle.format.specs.declared.Step.{Step}
use Rattle.format.specs.Answer.{Given, unless}
use Rattle.format.specs.Format.{sheet_length, records_of, one_size, sizes_list}
use Rattle.format.specs.Reading.{steps_causes, records_on, campaign_read}
use Rattle.format.specs.Writing.{sheet_of, numbers_from, widened, AllWide}
use Rattle.format.proofs.Answers.{none_holds}
use Rattle.format.proofs.Writings.{sheet_length_lem, records_written, chain_written, written_reads}
use Rattle.promises.specs.declared.Written.{Written}
use Rattle.promises.specs.Write.{write_refusals, warm_write}
use Rattle.promises.proofs.Demand1.{demand_1_write}
use Rattle.promises.proofs.Exactly.{no_first}
use Rattle.promises.proofs.Writes.{Limited, limited}

-- its length, which is the place of refusal 12, is that of a sheet with a record for each step
pub written_length : (d bound start : ℕ) (xs : List Step) → length (sheet_of d bound start xs) ≡ sheet_length true (length xs)
written_length d bound start xs = sheet_length_lem d bound start xs

-- Where it was written, with a reply whose refusal is 0, the first bytes of the output, as many as the reply says, are
-- the sheet, within its limits.
the_sheet : (d bound start : ℕ) (xs : List Step) (out : List ℕ) → (warm_write d bound start xs out).0.refusal ≡ 0
    → (take (warm_write d bound start xs out).0.length (warm_write d bound start xs out).1 ≡ sheet_of d bound start xs) × Limited d start (length xs) (length out)
the_sheet d bound start xs out handed =
    let s = sheet_of d bound start xs in
    let exactly = demand_1_write d bound start xs out in
    let none = no_first exactly (λ (r : Written × List ℕ). r.0.refusal) (λ n p number e. omega (arith, number, e)) handed in (
      ap (λ (r : Written × List ℕ). take r.0.length r.1) (exactly.replies none) ∙ take_at s (drop (length s) out) (length s) refl,
      limited d start (length xs) (length out) (Given s) (none_holds (write_refusals d start (length xs) (length out)) (Given s) none),
    )

-- It has a record for each step, and its chain goes through the records from 1 to n, in this order.
pub written_in_order : (d bound start : ℕ) (xs : List Step) (out : List ℕ) → (warm_write d bound start xs out).0.refusal ≡ 0
    → let s = take (warm_write d bound start xs out).0.length (warm_write d bound start xs out).1 in
    (records_of s ≡ length xs) × (records_on s ≡ numbers_from 1 (length xs))
written_in_order d bound start xs out handed =
    let (bytes, l) = the_sheet d bound start xs out handed in (
      ap records_of bytes ∙ records_written d bound start xs l.few,
      ap records_on bytes ∙ chain_written d bound start xs l.few,
    )

-- Where each number is as wide as its field, which the types of `warm_write` see to, the reader says of it the refusal
-- of the first faulty step, 6 or 7, or else the same units, bound, start set and steps, tags included: all units are
-- in one chamber, and each step has its two numbers there, and zeros for the other chambers.
pub written_reads_back : (d bound start : ℕ) (xs : List Step) (out : List ℕ) → bound < 2 ^ 16 → AllWide xs → (warm_write d bound start xs out).0.refusal ≡ 0
    → campaign_read (take (warm_write d bound start xs out).0.length (warm_write d bound start xs out).1)
    ≡ unless (steps_causes (chambers_of (sizes_list (one_size d))) d 1 (map widened xs))
    (Given (record { units = d; bound = bound; start = start; chambers = sizes_list (one_size d); steps = map widened xs }))
written_reads_back d bound start xs out narrow wide handed =
    let (bytes, l) = the_sheet d bound start xs out handed in
    ap campaign_read bytes ∙ written_reads d bound start xs l.few l.some l.most l.own narrow wide
