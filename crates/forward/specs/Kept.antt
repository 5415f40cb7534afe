-- How the forward tables of a plan lie in memory. The steps go in blocks: the tables after each step of one block
-- stand one after the other, and so do those before each block, from which the others are made again.
use Rattle.std.specs.Prelude.{◌≡◌, List, [], ℕ, ◌+◌, ◌*◌, ◌≤◌, ◌<◌, length, get_or}
use Rattle.units.specs.Sets.{bit}
use Rattle.tables.specs.Places.{rows_of}
use Rattle.tables.specs.Tables.{row_count, held_at, rows_at}
use Rattle.forward.specs.declared.Run.{Run}

-- the steps of a block
abbrev pub block_size : ℕ
block_size = 16

-- the table has the rows of the units held after i steps
abbrev pub RowsKept : Run → ℕ → List ℕ → Type 0
RowsKept run i table =
    (b : ℕ) → b < row_count → bit (held_at run.steps.now run.plan.now i) b ≡ 1 → rows_of table b ≡ rows_at run.start run.steps.now run.plan.now i b

-- the rows after each number of steps from `first` to `last`, one table after the other
abbrev pub AllKept : Run → ℕ → ℕ → List (List ℕ) → Type 0
AllKept run first last tables = (j : ℕ) → first + j ≤ last → RowsKept run (first + j) (get_or tables j [])

-- the rows before each block, one table after the other
abbrev pub CheckpointsKept : Run → List (List ℕ) → Type 0
CheckpointsKept run tables = (k : ℕ) → block_size * k < length run.plan.now → RowsKept run (block_size * k) (get_or tables k [])
