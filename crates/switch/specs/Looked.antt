-- What a look at one step, or at some steps taken as one, decides of the units that go first in a ranking.
use Rattle.std.specs.Prelude.{ℕ, ◌+◌, ◌≤◌, ◌<◌, ◌≡◌, Bool, List, ◌∷◌, length}
use Rattle.units.specs.Sets.{union}
use Rattle.switch.specs.declared.pick.Pick.{Pick}
use Rattle.switch.specs.declared.stretch.Stretch.{Stretch}
use Rattle.switch.specs.Toward.{toward}
use Rattle.plans.specs.Steps.{limits, ranking_at}
use Rattle.plans.specs.Support.{ranks_before, taken}
use Rattle.plans.specs.declared.Limits.{Limits}

-- the units of a pick by an order: those that were found, and of the rest those that go first, or last
abbrev pub picked : (ℕ → ℕ → Bool) → Pick → ℕ
picked order p = union p.found (taken (toward p.last order) p.left p.rest)

-- The units after a look at a step, by the ranking from the next step on, are those before it, by the ranking from
-- that step on.
pub record Looked (s : Stretch) (before after : Pick) : Type 0 where
  pub same : (m g n i : ℕ) (ss : List Limits) → i + length ss ≡ n
      → picked (ranks_before n (i + 1) ss) after ≡ picked (ranks_before n i (limits s.lower s.upper m g ∷ ss)) before

-- s stands for the steps from the one at j to the one before `next`: after a look at its sets the units of a pick, by
-- the ranking from the step at `next` on, are those before it, by the ranking from the step at j on.
pub record Ahead (ss : List Limits) (j : ℕ) (before : Pick) (s : Stretch) (next : ℕ) : Type 0 where
  pub further : j < next
  pub within : next ≤ length ss
  pub same : (after : Pick) → Looked s before after → picked (ranking_at ss next) after ≡ picked (ranking_at ss j) before
