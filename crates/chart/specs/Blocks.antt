-- What the loop over blocks of steps works on.
use Rattle.std.specs.Prelude.{List, ℕ, ◌+◌, ◌≤◌, length}
use Rattle.tables.specs.Tables.{held_at, later_at}
use Rattle.forward.specs.declared.Run.{Run}
use Rattle.forward.specs.Kept.{block_size, AllKept}
use Rattle.backward.specs.Backs.{later_of, SameOn}
use Rattle.backward.specs.declared.Later.{Later}

-- what is still to come after i steps is in memory, as far as the units held then go
abbrev pub ToCome : Run → ℕ → Later → Type 0
ToCome run i later = SameOn (held_at run.steps.now run.plan.now i) (later_of later) (later_at run.start run.steps.now run.plan.now i)

-- the steps from `first` to `last` are within a block, and the forward rows after each of them are in memory
pub record Ready (run : Run) (first last : ℕ) (tables : List (List ℕ)) : Type 0 where
  pub ordered : first ≤ last
  pub few : last ≤ first + block_size
  pub inside : last ≤ length run.plan.now
  pub kept : AllKept run first last tables
