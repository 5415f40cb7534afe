-- An entry whose reply and memory are a function of its answer answers exactly: demand 1 for each entry is one
-- application. And where a result says that nothing was refused, no cause held.
use mathlib.Core.Path.{◌≡◌, sym, ap, ◌∙◌}
use mathlib.Core.List.{List}
use Prim.Native.Nat.{ℕ}
use Rattle.format.specs.Answer.{Answer, Refused, Given, Cause, unless, First}
use Rattle.format.proofs.Answers.{first_decided, first_refuses, none_holds, numbered_first, Numbered}
use Rattle.promises.specs.Statements.{Exact}

pub exact : {A R : Type 0} (cs : List Cause) (Number : ℕ → Type 0) → Numbered Number cs → (v : A) (made : Answer A → R)
    → Exact cs Number (made (unless cs (Given v))) (λ n p. made (Refused n p)) (made (Given v))
exact cs Number numbers v made =
    record {
      decided = first_decided cs;
      numbered = λ n p f. numbered_first Number f numbers;
      refusals = λ n p f. ap made (sym (first_refuses f (Given v)));
      replies = λ none. ap made (none_holds cs (Given v) none);
    }

-- of a result, `refusal` gives the number of its refusal, or 0
pub no_first : {R : Type 0} {cs : List Cause} {Number : ℕ → Type 0} {result : R} {refused : ℕ → ℕ → R} {given : R} → Exact cs Number result refused given
    → (refusal : R → ℕ) → ((n p : ℕ) → Number n → refusal (refused n p) ≡ 0 → ⊥) → refusal result ≡ 0 → (n p : ℕ) → First cs n p → ⊥
no_first e refusal some zero n p f = some n p (e.numbered n p f) (sym (ap refusal (e.refusals n p f)) ∙ zero)
