-- Laws on answers: the first cause that holds is the refusal (`refused_exactly`), and a list of causes is decided part
-- by part (`unless_append`).
use mathlib.Core.Path.{◌≡◌, refl, sym, ap, ◌∙◌, subst}
use mathlib.Core.Logic.{◌↔◌, ◌⊎◌, inl, inr}
use mathlib.Core.Bool.{Bool, true, false, cond}
use mathlib.Core.List.{List, [], ◌∷◌, ◌++◌}
use Prim.Native.Nat.{ℕ}
use native.Mathlib.Omega.{arith}
use Rattle.format.specs.Answer.{Answer, Refused, Given, Cause, unless, First, here, later}

-- the first cause holds, and so is the refusal
pub refused_by : {A : Type 0} (c : Cause) (cs : List Cause) (a : Answer A) → c.holds ≡ true → Refused c.number c.place ≡ unless (c ∷ cs) a
unfolding unless
refused_by c cs a e = rw e

-- the first cause does not hold, and the others decide
pub passed_by : {A : Type 0} (c : Cause) (cs : List Cause) (a : Answer A) {r : Answer A} → c.holds ≡ false → r ≡ unless cs a → r ≡ unless (c ∷ cs) a
unfolding unless
passed_by c cs a e h = rw e h

pub none_left : {A : Type 0} (a : Answer A) → a ≡ unless [] a
unfolding unless
none_left a = refl

-- two answers with the same first cause are equal if they are where it does not hold
pub past_first : {A : Type 0} (c : Cause) (cs ds : List Cause) (a b : Answer A) → (c.holds ≡ false → unless cs a ≡ unless ds b) → unless (c ∷ cs) a ≡ unless (c ∷ ds) b
unfolding unless
past_first c cs ds a b = go c.holds
  where
    go : (t : Bool) → (t ≡ false → unless cs a ≡ unless ds b) → cond t (Refused c.number c.place) (unless cs a) ≡ cond t (Refused c.number c.place) (unless ds b)
    go true h = refl
    go false h = h refl

-- the causes of two lists, those of the first before those of the second
pub unless_append : {A : Type 0} (cs ds : List Cause) (a : Answer A) → unless (cs ++ ds) a ≡ unless cs (unless ds a)
unfolding unless
unless_append [] ds a = refl
unless_append (c ∷ cs) ds a = ap (cond c.holds (Refused c.number c.place)) (unless_append cs ds a)

-- the first cause that holds is the refusal, whatever would be given without it
pub first_refuses : {A : Type 0} {cs : List Cause} {n p : ℕ} → First cs n p → (a : Answer A) → Refused n p ≡ unless cs a
first_refuses (here {c} {cs} h) a = refused_by c cs a h
first_refuses (later {c} {cs} h f) a = passed_by c cs a h (first_refuses f a)

-- a refusal is given exactly if its cause is the first that holds
pub refused_exactly : {A : Type 0} (cs : List Cause) (v : A) (n p : ℕ) → unless cs (Given v) ≡ Refused n p ↔ First cs n p
refused_exactly {A} cs v n p = (found cs, λ f. sym (first_refuses f (Given v)))
  where
    number : Answer A → ℕ
    number (Refused m q) = m
    number (Given w) = n

    place : Answer A → ℕ
    place (Refused m q) = q
    place (Given w) = p

    found : (cs : List Cause) → unless cs (Given v) ≡ Refused n p → First cs n p
    found [] e = absurd (let z : ◌≡◌ {A = ℕ} 0 1 = cc (none_left (Given v)) in omega arith)
    found (c ∷ cs) e = go (found cs) c.holds refl
      where
        go : (unless cs (Given v) ≡ Refused n p → First cs n p) → (t : Bool) → c.holds ≡ t → First (c ∷ cs) n p
        go ih true h = subst (λ a. First (c ∷ cs) (number a) (place a)) (refused_by c cs (Given v) h ∙ e) (here h)
        go ih false h = later h (ih (passed_by c cs (Given v) h refl ∙ e))

-- a refusal does not depend on what would be given
pub refused_whatever : {A B : Type 0} (cs : List Cause) (v : A) {n p : ℕ} → Refused n p ≡ unless cs (Given v) → (b : Answer B) → Refused n p ≡ unless cs b
refused_whatever cs v {n} {p} e b = first_refuses ((refused_exactly cs v n p).0 (sym e)) b

-- a value that is given is one
pub given_same : {A : Type 0} {v w : A} → Given v ≡ Given w → v ≡ w
given_same e = cc

-- a value is given only where no cause holds
pub passed_first : {A : Type 0} {v : A} (c : Cause) (cs : List Cause) (a : Answer A) → unless (c ∷ cs) a ≡ Given v → (c.holds ≡ false) × (unless cs a ≡ Given v)
unfolding unless
passed_first {A} {v} c cs a = go c.holds
  where
    go : (t : Bool) → cond t (Refused c.number c.place) (unless cs a) ≡ Given v → (t ≡ false) × (unless cs a ≡ Given v)
    go true e = absurd (let z : ◌≡◌ {A = ℕ} 0 1 = cc in omega arith)
    go false e = (refl, e)

-- where a value is given, no cause holds, and any other answer would be given too
pub all_passed : {A B : Type 0} (cs : List Cause) (a : Answer A) {w : A} → unless cs a ≡ Given w → (b : Answer B) → unless cs b ≡ b
all_passed [] a e b = sym (none_left b)
all_passed (c ∷ cs) a e b = let p = passed_first c cs _ e in sym (passed_by c cs b p.0 (sym (all_passed cs a p.1 b)))

pub unless_given : {A : Type 0} (cs : List Cause) (a : Answer A) {w : A} → unless cs a ≡ Given w → a ≡ Given w
unless_given cs a e = sym (all_passed cs a e a) ∙ e

-- where a value is given, no cause is the first that holds
pub given_passes : {A : Type 0} (cs : List Cause) (a : Answer A) {w : A} → unless cs a ≡ Given w → (n p : ℕ) → First cs n p → ⊥
given_passes cs a {w} e n p f = let refused : Refused n p ≡ Given w = first_refuses f a ∙ e in let z : ◌≡◌ {A = ℕ} 0 1 = cc in omega arith

-- What is made of two answers behind causes, by f and by g, is the same, if it is of each refusal, and of the answers
-- themselves where the causes let the same value pass.
pub unless_same : {A B R : Type 0} (f g : Answer A → R) (cs ds : List Cause) (a b : Answer A) (v w : B) → unless cs (Given v) ≡ unless ds (Given w)
    → ((n p : ℕ) → f (Refused n p) ≡ g (Refused n p)) → (v ≡ w → f a ≡ g b) → f (unless cs a) ≡ g (unless ds b)
unless_same {A} {B} f g cs ds a b v w e refusals values = go (unless cs (Given v)) refl
  where
    go : (x : Answer B) → unless cs (Given v) ≡ x → f (unless cs a) ≡ g (unless ds b)
    go (Refused n p) h =
        ap f (sym (refused_whatever cs v (sym h) a)) ∙ refusals n p ∙ ap g (refused_whatever ds w (sym h ∙ e) b)
    go (Given x) h =
        let k = sym e ∙ h in
        ap f (all_passed cs (Given v) h a)
        ∙ values (given_same (unless_given cs (Given v) h) ∙ sym (given_same (unless_given ds (Given w) k)))
        ∙ ap g (sym (all_passed ds (Given w) k b))

-- ---- which causes a list can give

-- some cause is the first that holds, or none holds
pub first_decided : (cs : List Cause) → ((n : ℕ) × ((p : ℕ) × First cs n p)) ⊎ ((n p : ℕ) → First cs n p → ⊥)
first_decided [] = inr (λ n p f. none f)
  where
    none : {n p : ℕ} → First [] n p → ⊥
    none f = elim f [ ]
first_decided (c ∷ cs) = go c.holds refl (first_decided cs)
  where
    past : c.holds ≡ false → {n p : ℕ} → First (c ∷ cs) n p → First cs n p
    past h (here e) = absurd (let z : true ≡ false = sym e ∙ h in let w : ◌≡◌ {A = ℕ} 0 1 = cc in omega arith)
    past h (later e f) = f

    go : (t : Bool) → c.holds ≡ t → ((n : ℕ) × ((p : ℕ) × First cs n p)) ⊎ ((n p : ℕ) → First cs n p → ⊥)
        → ((n : ℕ) × ((p : ℕ) × First (c ∷ cs) n p)) ⊎ ((n p : ℕ) → First (c ∷ cs) n p → ⊥)
    go true h d = inl (c.number, (c.place, here h))
    go false h (inl w) = inl (w.0, (w.1.0, later h w.1.1))
    go false h (inr n) = inr (λ m p f. n m p (past h f))

-- where no cause holds, the answer is given
pub none_holds : {A : Type 0} (cs : List Cause) (a : Answer A) → ((n p : ℕ) → First cs n p → ⊥) → unless cs a ≡ a
none_holds [] a h = sym (none_left a)
none_holds (c ∷ cs) a h = go c.holds refl (λ k. none_holds cs a k)
  where
    go : (t : Bool) → c.holds ≡ t → (((n p : ℕ) → First cs n p → ⊥) → unless cs a ≡ a) → unless (c ∷ cs) a ≡ a
    go true e ih = absurd (h c.number c.place (here e))
    go false e ih = sym (passed_by c cs a e (sym (ih (λ n p f. h n p (later e f)))))

-- every number of the list is one of those that P allows
unfoldable pub Numbered : (ℕ → Type 0) → List Cause → Type 0
Numbered P [] = Unit {0}
Numbered P (c ∷ cs) = P c.number × Numbered P cs

pub numbered_first : (P : ℕ → Type 0) {n p : ℕ} {cs : List Cause} → First cs n p → Numbered P cs → P n
unfolding Numbered
numbered_first P (here e) h = h.0
numbered_first P (later e f) h = numbered_first P f h.1

pub numbered_append : (P : ℕ → Type 0) (cs ds : List Cause) → Numbered P cs → Numbered P ds → Numbered P (cs ++ ds)
unfolding Numbered
numbered_append P [] ds h k = k
numbered_append P (c ∷ cs) ds h k = (h.0, numbered_append P cs ds h.1 k)
