-- The walk's own state: what its marks say, and what a step does to it.
use Rattle.std.specs.Prelude.{ℕ, ◌+◌, ◌-◌, ◌/◌, ◌%◌, Bool, [], ◌∷◌, get_or, set}
use Rattle.units.specs.Sets.{contains, insert}
use Rattle.sheet.specs.declared.chain.Walk.{Walk}

-- at the header, with no record met
abbrev pub at_header : Walk
at_header = record { marks = 0 ∷ 0 ∷ 0 ∷ 0 ∷ []; at = 0; steps = 0 }

-- the word and the bit of record j's mark
abbrev pub word_of : ℕ → ℕ
word_of j = (j - 1) / 64

abbrev pub bit_of : ℕ → ℕ
bit_of j = (j - 1) % 64

-- the test of record j's mark
unfoldable pub is_met : Walk → ℕ → Bool
is_met w j = contains (get_or w.marks (word_of j) 0) (bit_of j)

-- one record on, at record j, whose mark is set
unfoldable pub onto : Walk → ℕ → Walk
onto w j =
    record {
      marks = set w.marks (word_of j) (insert (get_or w.marks (word_of j) 0) (bit_of j));
      at = j;
      steps = w.steps + 1;
    }
