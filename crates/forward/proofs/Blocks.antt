-- The forward tables in memory: those after each step of a block one after the other, and those before each block.
use Rattle.std.proofs.Common.{◌≡◌, sym, ap, ◌∙◌, subst, subst₂, List, [], ◌++◌, ℕ, suc, zero, ◌+◌, ◌*◌, ◌-◌, ◌≤◌, ◌<◌, arith, length, get_or, add-one}
use Rattle.std.proofs.Math.Decide.{dec_lt, ℕ_discrete}
use Rattle.std.proofs.Math.ListN.{set, get_or-append}
use Rattle.std.proofs.Math.Seq.{get_or-set_same, get_or-set_other}
use Rattle.std.proofs.lemmas.List.{get_or-append-add}
use Rattle.units.specs.Sets.{bit, difference}
use Rattle.units.proofs.Sets.{bit_empty}
use Rattle.plans.specs.Steps.{step_at}
use Rattle.plans.specs.declared.Limits.{Limits}
use Rattle.tables.specs.Places.{rows_of, plan_step_at}
use Rattle.tables.specs.declared.PlanStep.{PlanStep}
use Rattle.tables.specs.Tables.{held, turned, set_at, held_at, rows_at}
use Rattle.forward.specs.declared.Run.{Run}
use Rattle.forward.specs.Kept.{block_size, RowsKept, AllKept}
use Rattle.forward.proofs.Turning.{turned_same}

less_one : (i : ℕ) → suc i - 1 ≡ i
less_one i = omega arith

-- what was on and what was held before a step that is not the first
pub set_later : (start : ℕ) (plan : List ℕ) (i : ℕ) → 0 < i → get_or plan (i - 1) 0 ≡ set_at start plan i
unfolding set_at
set_later start plan zero h = absurd (omega arith)
set_later start plan (suc i) h = ap (λ (k : ℕ). get_or plan k 0) (less_one i)

pub held_later : (ss : List Limits) (plan : List ℕ) (i : ℕ) → 0 < i
    → difference (get_or plan (i - 1) 0) (step_at ss (i - 1)).lower ≡ held_at ss plan i
unfolding held_at held
held_later ss plan zero h = absurd (omega arith)
held_later ss plan (suc i) h = ap (λ (j : ℕ). difference (get_or plan j 0) (step_at ss j).lower) (less_one i)

module _ (run : Run) where
  abbrev start : ℕ
  start = run.start

  abbrev ss : List Limits
  ss = run.steps.now

  abbrev plan : List ℕ
  plan = run.plan.now

  -- before the first step no unit is held
  pub kept_begun : (table : List ℕ) → RowsKept run 0 table
  unfolding held_at
  kept_begun table b h e = absurd (omega (arith, bit_empty b))

  -- rows that are turned over the step at i
  kept_turned : (i : ℕ) (table next : List ℕ) → RowsKept run i table
      → ((b : ℕ) → bit (held (step_at ss i) (get_or plan i 0)) b ≡ 1
      → get_or next b 0 ≡ turned (step_at ss i) (set_at start plan i) (get_or plan i 0) (held_at ss plan i) (rows_of table) b)
      → RowsKept run (i + 1) next
  unfolding held_at rows_at set_at
  kept_turned i table next k rows = subst (λ (j : ℕ). RowsKept run j next) (sym (add-one i)) after
    where
      after : RowsKept run (suc i) next
      after b u e =
          rows b e
          ∙ turned_same (step_at ss i) (set_at start plan i) (get_or plan i 0) (held_at ss plan i) (rows_of table) (rows_at start ss plan i) b u k

  -- the first rows of a block
  pub block_begun : (first : ℕ) (tables : List (List ℕ)) → RowsKept run first (get_or tables 0 []) → AllKept run first first tables
  block_begun first tables k j h =
      let e : j ≡ 0 = omega arith in
      rw e (subst (λ (i : ℕ). RowsKept run i (get_or tables 0 [])) (omega arith) k)

  -- The rows after one step more: the tables are in two parts, of which the first ends with the rows before the step,
  -- and the next rows are put at the head of the second.
  pub block_on : (first i : ℕ) (tables done rest : List (List ℕ)) (next : List ℕ) (step : PlanStep) → first ≤ i
      → AllKept run first i tables → tables ≡ done ++ rest → length done ≡ i - first + 1 → 0 < length rest
      → step ≡ plan_step_at start ss plan i
      → ((b : ℕ) → bit (held step.limits step.after) b ≡ 1
      → get_or next b 0 ≡ turned step.limits step.before step.after step.held (rows_of (get_or done (i - first) [])) b)
      → AllKept run first (i + 1) (done ++ set rest 0 next)
  block_on first i tables done rest next step h all parts long room same turn j g = go (dec_lt j (length done))
    where
      in_done : (k : ℕ) → k < length done → get_or tables k [] ≡ get_or done k []
      in_done k l = ap (λ (ts : List (List ℕ)). get_or ts k []) parts ∙ get_or-append done rest [] k l

      before : RowsKept run i (get_or done (i - first) [])
      before =
          let e : first + (i - first) ≡ i = omega arith in
          subst₂ (λ (k : ℕ) (table : List ℕ). RowsKept run k table) e (in_done (i - first) (omega arith)) (all (i - first) (omega arith))

      turned-here : (b : ℕ) → bit (held (step_at ss i) (get_or plan i 0)) b ≡ 1
          → get_or next b 0
          ≡ turned (step_at ss i) (set_at start plan i) (get_or plan i 0) (held_at ss plan i) (rows_of (get_or done (i - first) [])) b
      turned-here =
          subst
          (λ (s : PlanStep).
          (b : ℕ) → bit (held s.limits s.after) b ≡ 1 → get_or next b 0 ≡ turned s.limits s.before s.after s.held (rows_of (get_or done (i - first) [])) b)
          same turn

      go : Dec (j < length done) → RowsKept run (first + j) (get_or (done ++ set rest 0 next) j [])
      go (yes l) = rw (get_or-append done (set rest 0 next) [] j l, ← in_done j l) (all j (omega arith))
      go (no n) =
          let last : first + j ≡ i + 1 = omega arith in
          let e : j ≡ length done + 0 = omega arith in
          rw (last, e, get_or-append-add done (set rest 0 next) 0 [], get_or-set_same rest 0 next [] room)
          (kept_turned i (get_or done (i - first) []) next before turned-here)

  -- the rows before each block up to the k-th
  abbrev pub CheckpointsTo : ℕ → List (List ℕ) → Type 0
  CheckpointsTo k tables = (j : ℕ) → j < k → RowsKept run (block_size * j) (get_or tables j [])

  -- before the first block no unit is held
  pub checkpoints_begun : (tables : List (List ℕ)) → CheckpointsTo 1 tables
  checkpoints_begun tables j h = let e : j ≡ 0 = omega arith in rw e (kept_begun (get_or tables 0 []))

  -- the rows before the block in front of the k-th, put at the head
  pub checkpoint_copied : (k : ℕ) (tables checkpoints : List (List ℕ)) → 0 < k → 0 < length tables → CheckpointsTo k checkpoints
      → RowsKept run (block_size * k - block_size) (get_or (set tables 0 (get_or checkpoints (k - 1) [])) 0 [])
  checkpoint_copied k tables checkpoints h room all =
      let e : block_size * (k - 1) ≡ block_size * k - block_size = omega arith in
      rw (get_or-set_same tables 0 (get_or checkpoints (k - 1) []) [] room, ← e) (all (k - 1) (omega arith))

  -- one block more
  pub checkpoints_on : (k : ℕ) (table : List ℕ) (checkpoints : List (List ℕ)) → 0 < k → k < length checkpoints → CheckpointsTo k checkpoints
      → RowsKept run (block_size * k - block_size + block_size) table → CheckpointsTo (k + 1) (set checkpoints k table)
  checkpoints_on k table checkpoints h room all last j l = go (ℕ_discrete j k)
    where
      go : Dec (j ≡ k) → RowsKept run (block_size * j) (get_or (set checkpoints k table) j [])
      go (yes e) =
          let same : block_size * k - block_size + block_size ≡ block_size * k = omega arith in
          rw (e, get_or-set_same checkpoints k table [] room, ← same) last
      go (no n) = rw (get_or-set_other checkpoints k j table [] n) (all j (omega arith))
