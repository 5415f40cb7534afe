-- What is still to come after a step, as it is in memory; when it is the same for some units; and what is found of
-- its rows.
use Rattle.std.specs.Prelude.{◌≡◌, cond, ℕ, ◌<◌}
use Rattle.units.specs.Sets.{bit, union, contains}
use Rattle.tables.specs.Places.{rows_of}
use Rattle.tables.specs.Tables.{row_count, Later}
use Rattle.backward.specs.declared.Later as declared

-- what is still to come, as it is in memory
abbrev pub later_of : declared.Later → Later
later_of later = record {
  saves = later.saves;
  dispensable = later.dispensable;
  even = rows_of later.even;
  gain = rows_of later.gain;
}

-- what is still to come is the same, but for the rows of units outside a set
pub record SameOn (set : ℕ) (x y : Later) : Type 0 where
  pub saves : x.saves ≡ y.saves
  pub dispensable : x.dispensable ≡ y.dispensable
  pub even : (b : ℕ) → b < row_count → bit set b ≡ 1 → x.even b ≡ y.even b
  pub gain : (b : ℕ) → b < row_count → bit set b ≡ 1 → x.gain b ≡ y.gain b

-- the units that save a switch in place of b, if b was on before, or was not
unfoldable pub left_row : ℕ → (ℕ → ℕ) → (ℕ → ℕ) → ℕ → ℕ
left_row on even gain b = union (cond (contains on b) 0 (even b)) (gain b)
