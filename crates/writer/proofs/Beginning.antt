-- What is known of a reply and an output once a sheet has begun: a refusal is that of the whole sheet (`refused`), and
-- where a length is given, the sheet is whole once its records stand after the header (`records_put`).
use Rattle.std.proofs.Common.{◌≡◌, refl, sym, ap, ap₂, ◌∙◌, ℕ, true, [], ◌-◌, ◌≤◌, Result, Ok, Err, List, length, take, drop, append-nil, length-append, arith}
use Rattle.std.proofs.lemmas.List.{length-drop, take_all, drop_all}
use borrow.Rule.Slice.PartMut.{put_mid}
use Rattle.format.specs.declared.Refusal.{Refusal}
use Rattle.format.specs.declared.Step.{Step}
use Rattle.format.specs.Answer.{Answer, Refused, Given}
use Rattle.format.specs.Format.{header_size, sheet_length}
use Rattle.format.specs.Numbers.{bytes_of}
use Rattle.format.specs.Writing.{header_bytes, link_in, records_after, sheet_of}
use Rattle.format.proofs.Answers.{refused_exactly, refused_whatever, given_same, unless_given, all_passed, numbered_first}
use Rattle.format.proofs.Writings.{sheet_length_lem}
use Rattle.promises.specs.declared.Written.{Written}
use Rattle.promises.specs.Common.{written, wrote, full_written}
use Rattle.promises.specs.Replies.{bytes_reply}
use Rattle.promises.specs.Write.{warm_write}
use Rattle.promises.proofs.Writes.{Limited, limited, write_numbers}
use Rattle.writer.specs.Begun.{length_answer, begun}
use Rattle.writer.proofs.Outputs.{written_more}

module _ (d bound start : ℕ) (xs : List Step) (out : List ℕ) where
  abbrev header : List ℕ
  header = let n = length xs in header_bytes d n (link_in 0 n) bound start

  abbrev answer : Answer ℕ
  answer = length_answer d start (length xs) (length out)

  module _ {new : List ℕ} {r : Result ℕ Refusal} (begins : (bytes_reply r, new) ≡ begun header out answer) where
    same : (s : Result ℕ Refusal) → r ≡ s → (a : Answer ℕ) → answer ≡ a → (bytes_reply s, new) ≡ begun header out a
    same s e a h = sym (ap (λ s. (bytes_reply s, new)) e) ∙ begins ∙ ap (begun header out) h

    pub refused : {x : Refusal} → r ≡ Err x → (bytes_reply (Err x), new) ≡ warm_write d bound start xs out
    unfolding begun wrote warm_write
    refused {x} e = go answer refl
      where
        go : (a : Answer ℕ) → answer ≡ a → (bytes_reply (Err x), new) ≡ warm_write d bound start xs out
        go (Refused m q) h = same (Err x) e _ h ∙ ap (wrote out) (refused_whatever _ (sheet_length true (length xs)) (sym h) (Given (sheet_of d bound start xs)))
        go (Given l) h = let none : 0 ≡ l = ap (λ w. w.0.length) (same (Err x) e _ h) in absurd (omega (arith, given_same (unless_given _ _ h)))

    module _ {long : ℕ} (e : r ≡ Ok long) where
      given : (answer ≡ Given long) × (new ≡ written header out)
      unfolding begun
      given = go answer refl
        where
          go : (a : Answer ℕ) → answer ≡ a → (answer ≡ Given long) × (new ≡ written header out)
          go (Refused m q) h =
              absurd (numbered_first (λ k. k ≡ 0 → ⊥) ((refused_exactly _ (sheet_length true (length xs)) m q).0 h)
              (write_numbers _ (λ z. omega arith) (λ z. omega arith) d start (length xs) (length out)) (sym (ap (λ w. w.0.refusal) (same (Ok long) e _ h))))
          go (Given l) h = let s = same (Ok long) e _ h in (h ∙ ap Given (sym (ap (λ w. w.0.length) s)), ap (λ w. w.1) s)

      pub within : Limited d start (length xs) (length out)
      within = limited d start (length xs) (length out) _ given.0

      pub room_left : sheet_length true (length xs) ≤ length new
      unfolding header_bytes bytes_of
      room_left = omega (arith, ap length given.1, length-drop header_size out, within.room)

      -- the records, put where the output's first places hold the header
      abbrev filled : List ℕ
      filled = let left = length new - header_size in put_mid header_size left new (written (records_after 0 (length xs) xs) (take left (drop header_size new)))

      whole : filled ≡ written (sheet_of d bound start xs) out
      unfolding sheet_of header_bytes bytes_of
      whole =
          let records = records_after 0 (length xs) xs in
          let left = length new - header_size in
          let long = length-drop header_size new in
          let rest : take left (drop header_size new) ≡ drop header_size new = take_all left _ (omega (arith, long)) in
          let none : drop left (drop header_size new) ≡ [] = drop_all left _ (omega (arith, long)) in
          rw (rest, none, append-nil, given.1)
          (written_more header records out header_size (length records) refl refl
          (omega (arith, sheet_length_lem d bound start xs, length-append header records, within.room)))

      pub records_put : (full_written long, filled) ≡ warm_write d bound start xs out
      unfolding wrote warm_write
      records_put =
          let given_all = all_passed _ _ given.0 in
          let says : long ≡ length (sheet_of d bound start xs) = given_same (sym given.0 ∙ given_all (Given (sheet_length true (length xs)))) ∙ sym (sheet_length_lem d bound start xs) in
          ap₂ {C = Written × List ℕ} (λ l o. (full_written l, o)) says whole ∙ ap (wrote out) (sym (all_passed _ _ given.0 (Given (sheet_of d bound start xs))))
