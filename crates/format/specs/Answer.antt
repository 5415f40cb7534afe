-- Answers: a value, or one refusal with its number and place. Checks run in the order of a list of causes, and the
-- first that holds is the refusal.
use Rattle.std.specs.Prelude.{ℕ, ◌≡◌, Bool, true, false, cond, List, [], ◌∷◌}

pub data Answer (A : Type 0) : Type 0 where
  Refused : ℕ → ℕ → Answer A
  Given : A → Answer A

-- a cause of refusal: whether it holds, and the number and the place that it is given
pub record Cause : Type 0 where
  pub holds : Bool
  pub number : ℕ
  pub place : ℕ

abbrev pub cause : Bool → ℕ → ℕ → Cause
cause b n p = record { holds = b; number = n; place = p }

-- the refusal of the first cause that holds, or the answer where none does
unfoldable pub unless : {A : Type 0} → List Cause → Answer A → Answer A
unless [] a = a
unless (c ∷ cs) a = cond c.holds (Refused c.number c.place) (unless cs a)

-- the first cause of the list that holds has that number and that place
pub data First : List Cause → ℕ → ℕ → Type 0 where
  here : {c : Cause} {cs : List Cause} → c.holds ≡ true → First (c ∷ cs) c.number c.place
  later : {c : Cause} {cs : List Cause} {n p : ℕ} → c.holds ≡ false → First cs n p → First (c ∷ cs) n p
