-- Laws on bytes that are put into an output one after the other.
use Rattle.std.proofs.Common.{◌≡◌, refl, sym, ap, ap₂, ◌∙◌, subst, ℕ, suc, ◌+◌, ◌≤◌, List, [], ◌∷◌, ◌++◌, length, take, drop, set, append_assoc, length-append, arith}
use Rattle.std.proofs.lemmas.List.{drop-drop}
use Rattle.std.proofs.lemmas.List.Edits.{sets, sets-eq}
use Rattle.std.proofs.Math.Seq.{length-sets}
use Rattle.promises.specs.Common.{written}
use Rattle.listing.specs.declared.text.Text.{Text}
use Rattle.listing.specs.Puts.{Puts}

sets_append : (l : List ℕ) (i : ℕ) (a b : List ℕ) → sets (sets l i a) (i + length a) b ≡ sets l i (a ++ b)
sets_append l i [] b = ap (λ (k : ℕ). sets l k b) (omega arith)
sets_append l i (x ∷ a) b =
    ap (λ (k : ℕ). sets (sets (set l i x) (suc i) a) k b) (omega arith) ∙ sets_append (set l i x) (suc i) a b

-- bytes that take the place of as many
pub text_stored : (b o : List ℕ) (at k : ℕ) → k ≡ length b → at + length b ≤ length o → take at o ++ (b ++ drop k (drop at o)) ≡ sets o at b
text_stored b o at k e h =
    ap (λ (l : List ℕ). take at o ++ (b ++ l)) (ap (λ (n : ℕ). drop n (drop at o)) e ∙ drop-drop (length b) at o)
    ∙ sym (append_assoc (take at o) b (drop (at + length b) o))
    ∙ sym (sets-eq b o at h)

-- the output is as long as before
pub puts_length : {a : List ℕ} {x y : Text} → Puts a x y → length y.out.now ≡ length x.out.now
puts_length {a} {x} {y} f = ap length f.stored ∙ length-sets x.out.now x.len a

-- one piece after the other is both pieces
pub puts_then : {a b : List ℕ} {x y z : Text} → Puts a x y → Puts b y z → Puts (a ++ b) x z
puts_then {a} {b} {x} {y} {z} f g =
    record {
      stored = g.stored ∙ ap₂ (λ (l : List ℕ) (i : ℕ). sets l i b) f.stored f.ended ∙ sets_append x.out.now x.len a b;
      ended = omega (arith, f.ended, g.ended, length-append a b);
      within = omega (arith, g.within, puts_length f);
      same_output = g.same_output ∙ f.same_output;
    }

pub puts_none : {x : Text} → x.len ≤ length x.out.now → Puts [] x x
puts_none h = record { stored = refl; ended = omega arith; within = h; same_output = refl }

-- the same bytes in other words
pub puts_as : {a b : List ℕ} {x y : Text} → a ≡ b → Puts a x y → Puts b x y
puts_as {a} {b} {x} {y} e f = subst (λ (l : List ℕ). Puts l x y) e f

-- what stands in an output that was written from its first place on
pub puts_first : {a : List ℕ} {x y : Text} → x.len ≡ 0 → Puts a x y → ◌≡◌ {A = ℕ × List ℕ} (y.len, y.out.now) (length a, written a x.out.now)
puts_first {a} {x} {y} e f =
    let all : y.len ≡ length a = omega (arith, f.ended, e) in
    let stored : y.out.now ≡ sets x.out.now 0 a = f.stored ∙ ap (λ (i : ℕ). sets x.out.now i a) e in
    let first : 0 + length a ≡ length a = omega arith in
    ap₂ {C = ℕ × List ℕ} (λ (k : ℕ) (l : List ℕ). (k, l)) all (stored ∙ sets-eq a x.out.now 0 (omega (arith, f.within, all)) ∙ ap (λ (k : ℕ). a ++ drop k x.out.now) first)
