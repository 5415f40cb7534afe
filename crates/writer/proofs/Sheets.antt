-- The records of a sheet, which are put one by one: what stands in the output once the first i are put (`so_far`).
use Rattle.std.proofs.Common.{◌≡◌, refl, sym, true, ℕ, zero, suc, ◌+◌, ◌*◌, ◌<◌, ◌≤◌, List, [], ◌∷◌, ◌++◌, length, take, drop, get_or, append_assoc, append-nil, add-one, zero-add, arith}
use Rattle.writer.proofs.Outputs.{written_more}
use Rattle.format.specs.declared.Step.{Step}
use Rattle.format.specs.Format.{record_size}
use Rattle.format.specs.Numbers.{bytes_of}
use Rattle.format.specs.Writing.{record_bytes, link_in, records_after}
use Rattle.promises.specs.Common.{written}

-- what would be read past the last step
abbrev pub no_step : Step
no_step = record { lower = 0; upper = 0; least = 0; greatest = 0; tag = 0 }

-- one record more
records_more : (j n i : ℕ) (xs : List Step) → i < length xs
    → records_after j n (take (suc i) xs) ≡ records_after j n (take i xs) ++ record_bytes (get_or xs i no_step) (link_in (j + suc i) n)
unfolding records_after
records_more j n i [] h = absurd (omega arith)
records_more j n zero (x ∷ xs) h = append-nil _
records_more j n (suc i) (x ∷ xs) h =
    let place : j + 1 + suc i ≡ j + suc (suc i) = omega arith in
    rw (records_more (j + 1) n i xs (omega arith), place) (sym (append_assoc (record_bytes x (link_in (j + 1) n)) (records_after (j + 1) n (take i xs)) (record_bytes (get_or xs i no_step) (link_in (j + suc (suc i)) n))))

records_length : (j n i : ℕ) (xs : List Step) → i ≤ length xs → length (records_after j n (take i xs)) ≡ record_size true * i
unfolding records_after record_bytes bytes_of
records_length j n zero xs h = refl
records_length j n (suc i) [] h = absurd (omega arith)
records_length j n (suc i) (x ∷ xs) h = omega (arith, records_length (j + 1) n i xs (omega arith))

module _ (xs : List Step) where
  abbrev pub so_far : ℕ → List ℕ
  so_far i = records_after 0 (length xs) (take i xs)

  -- one record more
  pub record_put : (i k : ℕ) (o : List ℕ) → i < length xs → k ≡ record_size true → record_size true * i + k ≤ length o
      → let at = record_size true * i in
      take at (written (so_far i) o) ++ (record_bytes (get_or xs i no_step) (link_in (i + 1) (length xs)) ++ drop k (drop at (written (so_far i) o))) ≡ written (so_far (i + 1)) o
  unfolding record_bytes bytes_of
  record_put i k o h e room =
      let n = length xs in
      let bytes = record_bytes (get_or xs i no_step) (link_in (suc i) n) in
      rw (
        add-one i,
        written_more (so_far i) bytes o (record_size true * i) k (records_length 0 n i xs (omega arith)) (sym e) room,
        records_more 0 n i xs h,
        zero-add (suc i),
      )
