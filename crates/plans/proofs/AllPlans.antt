-- The plans that `plans_of` lists are the feasible ones (`listed_feasible`, `feasible_listed`), and what is said of
-- all plans in the laws on the chart (`Shows`, `SomePlan`).
use mathlib.Core.Path.{◌≡◌, refl, sym, ap, ◌∙◌, subst}
use mathlib.Core.Logic.{⊎_elim, ◌↔◌}
use mathlib.Core.Bool.{Bool, true, false, cond, false≢true, and-eq-true_iff}
use mathlib.Core.List.Memᴰ
use mathlib.Core.List.{List, [], ◌∷◌, ◌++◌, map, Memᴰ}
use Prim.Native.Nat.{ℕ, zero, suc, ◌^◌, ◌≤◌, ◌<◌}
use native.Mathlib.Decide.{ℕ_discrete}
use native.Mathlib.Omega.{arith}
use lib.ListN.{length, get_or}
use borrow.Author.Tests.{leb-true, le-leb}
use Rattle.units.specs.Sets.{bit}
use Rattle.units.proofs.Sets.{subset_below, subset_holds, subset_test}
use Rattle.plans.specs.declared.Limits.{Limits}
use Rattle.plans.specs.Switch.{Allows, Throughout, FeasiblePlan, total}
use Rattle.plans.specs.Plans.{select, below, allows, prefixed, Below, is_feasible, plans_of}

-- unit u is on in the set x, or it is off
abbrev pub Shows : Bool → ℕ → ℕ → Type 0
Shows on u x = bit x u ≡ cond on 1 0

-- some plan within the bound, of steps of any kind, has a set with property Q in step i
abbrev pub SomePlanBy : {S : Type 0} → (S → ℕ → Type 0) → ℕ → ℕ → List S → ℕ → (ℕ → Type 0) → Type 0
SomePlanBy A bound start ss i Q = (p : List ℕ) × (Throughout A ss p × ((total start p ≤ bound) × Q (get_or p i 0)))

-- some feasible plan does
abbrev pub SomePlan : ℕ → ℕ → List Limits → ℕ → (ℕ → Type 0) → Type 0
SomePlan = SomePlanBy Allows

-- ---- members of lists

-- those of a selection pass the test
pub select_member : {A : Type 0} (test : A → Bool) (a : A) (l : List A) → Memᴰ a (select test l) ↔ (Memᴰ a l × (test a ≡ true))
unfolding select
select_member test a [] = (λ m. absurd (Memᴰ.not-nil m), λ m. absurd (Memᴰ.not-nil m.0))
select_member test a (b ∷ l) = go (test b) refl (select_member test a l)
  where
    go : (t : Bool) → test b ≡ t → (Memᴰ a (select test l) ↔ (Memᴰ a l × (test a ≡ true)))
        → Memᴰ a (cond t (b ∷ select test l) (select test l)) ↔ (Memᴰ a (b ∷ l) × (test a ≡ true))
    go true e ih = (
      λ m. ⊎_elim (λ q. (Memᴰ.head q, ap test q ∙ e)) (λ m'. let r = ih.0 m' in (Memᴰ.tail r.0, r.1)) (Memᴰ.cases_cons m),
      λ m. ⊎_elim (λ q. Memᴰ.head q) (λ m'. Memᴰ.tail (ih.1 (m', m.1))) (Memᴰ.cases_cons m.0),
    )
    go false e ih = (
      λ m. let r = ih.0 m in (Memᴰ.tail r.0, r.1),
      λ m. ⊎_elim (λ q. absurd (false≢true (sym e ∙ sym (ap test q) ∙ m.1))) (λ m'. ih.1 (m', m.1)) (Memᴰ.cases_cons m.0),
    )

-- those of `below k` are the numbers below k
below_member : (k x : ℕ) → Memᴰ x (below k) ↔ (x < k)
unfolding below
below_member zero x = (λ m. absurd (Memᴰ.not-nil m), λ h. absurd (omega arith))
below_member (suc k) x = (
  λ m. ⊎_elim (λ m'. omega (arith, (below_member k x).0 m')) (λ m'. omega (arith, Memᴰ.eq_of_singleton m')) (Memᴰ.append_cases (below k) m),
  λ h. go h (λ l. (below_member k x).1 l) (ℕ_discrete x k),
)
  where
    go : x < suc k → (x < k → Memᴰ x (below k)) → Dec (x ≡ k) → Memᴰ x (below k ++ (k ∷ []))
    go h ih (yes e) = Memᴰ.append_right (below k) (Memᴰ.head e)
    go h ih (no n) = Memᴰ.append_left (k ∷ []) (ih (omega arith))

-- those of `prefixed` have a set of the one list first and go on with a plan of the other
prefixed_member : {p : List ℕ} (xs : List ℕ) (ps : List (List ℕ)) → Memᴰ p (prefixed xs ps)
    → (x : ℕ) × (q : List ℕ) × Memᴰ x xs × Memᴰ q ps × (x ∷ q ≡ p)
unfolding prefixed
prefixed_member [] ps m = absurd (Memᴰ.not-nil m)
prefixed_member (x ∷ xs) ps m =
    ⊎_elim (λ m'. let r = Memᴰ.of_map (λ q. x ∷ q) ps m' in (x, r.0, Memᴰ.head refl, r.1, r.2))
    (λ m'. let r = prefixed_member xs ps m' in (r.0, r.1, Memᴰ.tail r.2, r.3, r.4))
    (Memᴰ.append_cases (map (λ q. x ∷ q) ps) m)

member_prefixed : {x : ℕ} {q xs : List ℕ} {ps : List (List ℕ)} → Memᴰ x xs → Memᴰ q ps → Memᴰ (x ∷ q) (prefixed xs ps)
unfolding prefixed
member_prefixed {q} {ps} (Memᴰ.head {x = y} {xs = xs} e) m =
    Memᴰ.append_left (prefixed xs ps) (Memᴰ.cast (ap (λ (z : ℕ). z ∷ q) e) (Memᴰ.map (λ r. y ∷ r) m))
member_prefixed {ps} (Memᴰ.tail {x = y} h) m = Memᴰ.append_right (map (λ r. y ∷ r) ps) (member_prefixed h m)

-- ---- the test of a step

-- a set passes the test exactly if the step allows it
pub allows_exactly : (s : Limits) (x : ℕ) → allows s x ≡ true ↔ Allows s x
unfolding allows
allows_exactly s x = (
  λ t.
      let few = (and-eq-true_iff _ _).0 t in
      let enough = (and-eq-true_iff _ _).0 few.0 in
      let inside = (and-eq-true_iff _ _).0 enough.0 in
      record {
        includes = subset_holds s.lower x inside.0;
        within = subset_holds x s.upper inside.1;
        enough = leb-true _ _ enough.1;
        few = leb-true _ _ few.1;
      },
  λ a. simp (subset_test s.lower x a.includes, subset_test x s.upper a.within, le-leb s.least _ a.enough, le-leb _ s.greatest a.few),
)

-- ---- the plans

-- steps of any kind, where A says which sets a step allows
module _ {S : Type 0} (A : S → ℕ → Type 0) where
  -- a plan has as many sets as there are steps
  pub any_length : (ss : List S) (p : List ℕ) → Throughout A ss p → length p ≡ length ss
  any_length [] [] f = refl
  any_length [] (x ∷ p) f = absurd f
  any_length (s ∷ ss) [] f = absurd f
  any_length (s ∷ ss) (x ∷ p) f = ap suc (any_length ss p f.1)

-- a feasible plan does
pub plan_length : (ss : List Limits) (p : List ℕ) → FeasiblePlan ss p → length p ≡ length ss
plan_length ss p f = any_length Allows ss p f

-- each step allows its set
pub allows_at : (ss : List Limits) (p : List ℕ) (i : ℕ) (s₀ : Limits) → i < length ss → FeasiblePlan ss p → Allows (get_or ss i s₀) (get_or p i 0)
allows_at [] p i s₀ l f = absurd (omega arith)
allows_at (s ∷ ss) [] i s₀ l f = absurd f
allows_at (s ∷ ss) (x ∷ p) zero s₀ l f = f.0
allows_at (s ∷ ss) (x ∷ p) (suc i) s₀ l f = allows_at ss p i s₀ (omega arith) f.1

-- each step allows sets of units below d alone
abbrev pub Low : {S : Type 0} → (S → ℕ → Type 0) → ℕ → List S → Type 0
Low A d [] = Unit {0}
Low A d (s ∷ ss) = ((x : ℕ) → A s x → x < 2 ^ d) × Low A d ss

-- so it is if the upper sets have units below d alone
pub below_low : (d : ℕ) (ss : List Limits) → Below d ss → Low Allows d ss
below_low d [] b = tt
below_low d (s ∷ ss) b = (λ x a. subset_below d x s.upper a.within b.0, below_low d ss b.1)

module _ {S : Type 0} (test : S → ℕ → Bool) (A : S → ℕ → Type 0) (exact : (s : S) (x : ℕ) → test s x ≡ true ↔ A s x) where
  -- the sets of a plan have units below d alone
  pub plan_low : (d : ℕ) (ss : List S) (p : List ℕ) (i : ℕ) → i < length ss → Low A d ss → Throughout A ss p → get_or p i 0 < 2 ^ d
  plan_low d [] p i l b f = absurd (omega arith)
  plan_low d (s ∷ ss) [] i l b f = absurd f
  plan_low d (s ∷ ss) (x ∷ p) zero l b f = b.0 x f.0
  plan_low d (s ∷ ss) (x ∷ p) (suc i) l b f = plan_low d ss p i (omega arith) b.1 f.1

  -- a plan that is listed is feasible
  pub listed_feasible : (d : ℕ) (ss : List S) (p : List ℕ) → Memᴰ p (plans_of test d ss) → Throughout A ss p
  unfolding plans_of
  listed_feasible d [] p m = rw (Memᴰ.eq_of_singleton m) tt
  listed_feasible d (s ∷ ss) p m =
      let (x, q, mx, mq, e) = prefixed_member (select (test s) (below (2 ^ d))) (plans_of test d ss) m in
      subst (Throughout A (s ∷ ss)) e ((exact s x).0 ((select_member (test s) x _).0 mx).1, listed_feasible d ss q mq)

  -- and each feasible plan is listed
  pub feasible_listed : (d : ℕ) (ss : List S) (p : List ℕ) → Low A d ss → Throughout A ss p → Memᴰ p (plans_of test d ss)
  unfolding plans_of
  feasible_listed d [] [] b f = Memᴰ.head refl
  feasible_listed d [] (x ∷ p) b f = absurd f
  feasible_listed d (s ∷ ss) [] b f = absurd f
  feasible_listed d (s ∷ ss) (x ∷ p) b f =
      member_prefixed
      ((select_member (test s) x (below (2 ^ d))).1 ((below_member (2 ^ d) x).1 (b.0 x f.0), (exact s x).1 f.0))
      (feasible_listed d ss p b.1 f.1)

  -- the test of a plan holds exactly if it is feasible
  pub feasible_exactly : (ss : List S) (plan : List ℕ) → is_feasible test ss plan ≡ true ↔ Throughout A ss plan
  unfolding is_feasible
  feasible_exactly [] [] = (λ h. tt, λ h. refl)
  feasible_exactly [] (x ∷ xs) = (λ h. absurd (false≢true h), λ h. absurd h)
  feasible_exactly (s ∷ ss) [] = (λ h. absurd (false≢true h), λ h. absurd h)
  feasible_exactly (s ∷ ss) (x ∷ xs) =
      let here = exact s x in
      let rest = feasible_exactly ss xs in
      let both = and-eq-true_iff (test s x) (is_feasible test ss xs) in
      (λ h. (here.0 (both.0 h).0, rest.0 (both.0 h).1), λ h. both.1 (here.1 h.0, rest.1 h.1))

pub plan_below : (d : ℕ) (ss : List Limits) (p : List ℕ) (i : ℕ) → i < length ss → Below d ss → FeasiblePlan ss p → get_or p i 0 < 2 ^ d
plan_below d ss p i l b f = plan_low allows Allows allows_exactly d ss p i l (below_low d ss b) f
