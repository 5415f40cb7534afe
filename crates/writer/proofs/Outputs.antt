-- What an output holds once more bytes are put after those that stand in its first places.
use Rattle.std.proofs.Common.{◌≡◌, refl, sym, ap, ◌∙◌, ℕ, ◌+◌, ◌≤◌, List, ◌++◌, length, take, drop, append_assoc, length-append, arith}
use Rattle.std.proofs.lemmas.List.{drop-drop}
use Rattle.std.proofs.lemmas.Slice.{drop-append-drop}
use Rattle.std.proofs.Math.Seq.{take-append_seam}
use Rattle.promises.specs.Common.{written}

pub written_more : {A : Type 0} (a b o : List A) (at k : ℕ) → length a ≡ at → length b ≡ k → at + k ≤ length o
    → take at (written a o) ++ (b ++ drop k (drop at (written a o))) ≡ written (a ++ b) o
written_more a b o at k e f h =
    let front : take at (written a o) ≡ a = ap (λ (i : ℕ). take i (written a o)) (sym e) ∙ take-append_seam a (drop (length a) o) in
    let back : drop k (drop at (written a o)) ≡ drop (at + k) o = drop-drop k at (written a o) ∙ drop-append-drop (length a) o a (at + k) (omega arith) refl in
    let place : at + k ≡ length (a ++ b) = omega (arith, length-append a b) in
    rw (front, back, place) (sym (append_assoc a b (drop (length (a ++ b)) o)))
