-- A set with one unit more, with one less, or with one unit in place of another: its units, the switches to it and
-- from it, and when a step allows it.
use mathlib.Core.Path.{◌≡◌, sym, ap, subst, ◌∙◌}
use Prim.Native.Nat.{ℕ, ◌+◌, ◌<◌}
use native.Mathlib.Omega.{arith}
use Rattle.units.specs.Sets.{bit, insert, remove, size}
use Rattle.units.proofs.Sets.{bit_insert, bit_insert_other, bit_remove, bit_remove_other, insert_remove, insert_subset, remove_subset, size_insert, size_remove, subset_insert, subset_remove}
use Rattle.plans.specs.declared.Limits.{Limits}
use Rattle.plans.specs.Switch.{Allows, switches}
use Rattle.plans.proofs.Exchange.{allows_exchange}
use Rattle.plans.proofs.Totals.{switches_insert, switches_from}

-- ---- switches

-- from a set with one unit more, or with one less
pub from_more : (p a x : ℕ) → bit p a ≡ 0 → switches (insert p a) x + bit x a ≡ switches p x
from_more p a x pa = omega (arith, switches_from p x a)

pub from_less : (p b x : ℕ) → bit p b ≡ 1 → switches (remove p b) x ≡ switches p x + bit x b
from_less p b x pb = omega (arith, from_more (remove p b) b x (bit_remove p b), ap (λ (y : ℕ). switches y x) (insert_remove p b pb))

-- to a set with one less
pub to_less : (p t e : ℕ) → bit t e ≡ 1 → switches p t + bit p e ≡ switches p (remove t e) + 1
to_less p t e te = omega (arith, switches_insert p (remove t e) e (bit_remove t e), ap (switches p) (insert_remove t e te))

-- ---- one unit in place of another

-- x is t with c in place of e
module _ (t x e c : ℕ) (te : bit t e ≡ 1) (tc : bit t c ≡ 0) (is : x ≡ insert (remove t e) c) where
  -- it lacks e, has c, and has the others as t does
  pub lacks_old : bit x e ≡ 0
  lacks_old = rw is (bit_insert_other (remove t e) c e (λ q. omega (arith, ap (bit t) q)) ∙ bit_remove t e)

  pub has_new : bit x c ≡ 1
  has_new = rw is (bit_insert (remove t e) c)

  pub same_else : (v : ℕ) → (v ≡ e → ⊥) → (v ≡ c → ⊥) → bit x v ≡ bit t v
  same_else v m n = rw is (bit_insert_other (remove t e) c v n ∙ bit_remove_other t e v m)

  -- what this does to the switches from a set to t
  pub switches_to : (p : ℕ) → switches p t + bit p e ≡ switches p x + bit p c
  switches_to p = rw is (omega (arith, to_less p t e te, switches_insert p (remove t e) c (omega (arith, remove_subset t e c))))

  -- and to those from t to a set
  pub switches_on : (g : ℕ) → switches t g + bit g e ≡ switches x g + bit g c
  switches_on g = rw is (omega (arith, from_less t e g te, from_more (remove t e) c g (omega (arith, remove_subset t e c))))

-- ---- what a step allows

module _ (s : Limits) (t : ℕ) (a : Allows s t) where
  -- one unit more, if it may be on and there is room for it
  pub allows_more : (c : ℕ) → bit t c ≡ 0 → bit s.upper c ≡ 1 → size t < s.greatest → Allows s (insert t c)
  allows_more c tc uc h = record {
    includes = λ v. omega (arith, a.includes v, subset_insert t c v);
    within = insert_subset t s.upper c a.within uc;
    enough = omega (arith, size_insert t c tc, a.enough);
    few = omega (arith, size_insert t c tc);
  }

  -- one less, if it need not be on and the others are enough
  pub allows_less : (e : ℕ) → bit t e ≡ 1 → bit s.lower e ≡ 0 → s.least < size t → Allows s (remove t e)
  allows_less e te le h = record {
    includes = subset_remove s.lower t e a.includes le;
    within = λ v. omega (arith, remove_subset t e v, a.within v);
    enough = omega (arith, size_remove t e te);
    few = omega (arith, size_remove t e te, a.few);
  }

  -- and the one in place of the other
  pub allows_swap : (e c : ℕ) → bit t e ≡ 1 → bit t c ≡ 0 → bit s.lower e ≡ 0 → bit s.upper c ≡ 1 → Allows s (insert (remove t e) c)
  allows_swap e c te tc le uc =
      allows_exchange s (remove t e) c e (omega (arith, remove_subset t e c)) (bit_remove t e) le uc
      (subst (Allows s) (sym (insert_remove t e te)) a)
