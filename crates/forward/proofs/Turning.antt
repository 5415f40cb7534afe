-- One step: the loop that writes the rows of the units of a set, and rows that agree on the units held before.
use Rattle.std.proofs.Common.{◌≡◌, ap, ◌∙◌, ◌⊎◌, inl, inr, cond, List, ℕ, ◌<◌, arith, length}
use Rattle.std.proofs.Math.ListN.{set, length-set}
use Rattle.std.proofs.Math.Seq.{get_or-set_same, get_or-set_other}
use Rattle.units.specs.Members.{Taken}
use Rattle.units.specs.Sets.{bit, contains, union, difference}
use Rattle.units.proofs.Sets.{bit_cases, bit_difference, bit_le}
use Rattle.plans.specs.declared.Limits.{Limits}
use Rattle.tables.specs.Tables.{row_count, gathered, free, new, come, row_before, turned, turned_row}
use Rattle.tables.specs.Places.{rows_of}
use Rattle.tables.proofs.Gathering.{done_on}
use Rattle.tables.proofs.Words.{contains_in, contains_out, gathered_same}

-- the units of a set that are not left have their rows in the table
pub record Written (table : List ℕ) (row : ℕ → ℕ) (units left : ℕ) : Type 0 where
  pub whole : length table ≡ row_count
  pub done : (b : ℕ) → bit units b ≡ 1 → bit left b ≡ 0 → rows_of table b ≡ row b

-- none is done
pub written_none : (table : List ℕ) (row : ℕ → ℕ) (units left : ℕ) → left ≡ units → length table ≡ row_count → Written table row units left
written_none table row units left e whole =
    record { whole = whole; done = λ b h z. absurd (omega (arith, ap (λ (x : ℕ). bit x b) e)) }

-- one more
pub written_on : {table : List ℕ} {row : ℕ → ℕ} {units left rest b : ℕ} → Written table row units left → Taken left b rest
    → (x : ℕ) → x ≡ row b → Written (set table b x) row units rest
written_on {table} {row} {units} {left} {rest} {b} w taken x e = record {
  whole = length-set table b x ∙ w.whole;
  done =
      done_on taken units (λ v. rows_of (set table b x) v ≡ row v)
      (λ v h z. get_or-set_other table b v x 0 (λ same. omega (arith, taken.1.has, ap (bit left) same)) ∙ w.done v h z)
      (λ h. get_or-set_same table b x 0 (omega (arith, w.whole, taken.0)) ∙ e);
}

-- rows that agree on the units held before make the same rows after
come_same : (p t h : ℕ) (f g : ℕ → ℕ) → ((c : ℕ) → c < row_count → bit h c ≡ 1 → f c ≡ g c) → come p t h f ≡ come p t h g
unfolding come
come_same p t h f g same =
    ap (union p) (gathered_same row_count (difference h t) f g (λ c l e. same c l (omega (arith, bit_difference h t c, bit_le h c))))

row_same : (h : ℕ) (f g : ℕ → ℕ) (b : ℕ) → (bit h b ≡ 1 → f b ≡ g b) → row_before h f b ≡ row_before h g b
unfolding row_before
row_same h f g b same = go (bit_cases h b)
  where
    go : (bit h b ≡ 0) ⊎ (bit h b ≡ 1) → cond (contains h b) (f b) 0 ≡ cond (contains h b) (g b) 0
    go (inl e) = rw (contains_out h b e)
    go (inr e) = rw (contains_in h b e, same e)

pub turned_same : (s : Limits) (p t h : ℕ) (f g : ℕ → ℕ) (b : ℕ) → b < row_count
    → ((c : ℕ) → c < row_count → bit h c ≡ 1 → f c ≡ g c) → turned s p t h f b ≡ turned s p t h g b
unfolding turned
turned_same s p t h f g b l same = rw (come_same p t h f g same, row_same h f g b (same b l))

-- a row that is turned with what the definition joins
pub step_turned : (s : Limits) (p t h : ℕ) (f : ℕ → ℕ) (b : ℕ) {able entering coming : ℕ} → able ≡ free s t → entering ≡ new p t
    → coming ≡ union p (gathered row_count (difference h t) f)
    → turned_row able entering coming (contains p b) (row_before h f b) ≡ turned s p t h f b
unfolding turned come
step_turned s p t h f b x y z = rw (x, y, z)
