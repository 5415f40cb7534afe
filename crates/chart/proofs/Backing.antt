-- The loop that goes back over a block of steps, and the one over all blocks: what is still to come agrees with the
-- tables, and the words of the steps that are done are joined to the outputs.
use Rattle.std.proofs.Common.{◌≡◌, sym, ap, ◌∙◌, subst, Bool, List, [], ℕ, suc, ◌+◌, ◌-◌, ◌≤◌, ◌<◌, arith, length, get_or}
use Rattle.std.proofs.Math.ListN.{set}
use Rattle.std.proofs.Math.Seq.{sets}
use Rattle.units.specs.Sets.{bit, union, all}
use Rattle.forward.specs.declared.Run.{Run}
use Rattle.tables.specs.Places.{rows_of, plan_step_at}
use Rattle.tables.specs.Tables.{row_count, held_at, rows_at, ended, stepped, on_word, off_word, later_at, on_at, off_at}
use Rattle.tables.specs.Tables as tables
use Rattle.tables.specs.declared.PlanStep.{PlanStep}
use Rattle.tables.proofs.Words.{bit_all}
use Rattle.backward.specs.Backs.{later_of, SameOn}
use Rattle.backward.specs.declared.Later.{Later}
use Rattle.chart.specs.Blocks.{ToCome, Ready}
use Rattle.chart.specs.Joining.{joining}
use Rattle.chart.proofs.Joins.{Joined, joined_none, joined_on, joined_block}
use Rattle.chart.proofs.Walking.{later_end, on_here, off_here, agrees_before}

-- before the step at i, of the steps from `first` to `last`: what is still to come is in memory, and the words of the
-- steps from i on are joined
pub record Backed (run : Run) (tight : Bool) (us first last i : ℕ) (later : Later) (on₀ on off₀ off : List ℕ) : Type 0 where
  pub above : first ≤ i
  pub below : i ≤ last
  pub come : ToCome run i later
  pub ons : Joined (on_at tight run.start run.steps.now run.plan.now) last i on₀ on
  pub offs : Joined (off_at tight us run.start run.steps.now run.plan.now) last i off₀ off

-- after the last step
pub backed_begun : {run : Run} {tight : Bool} {us : ℕ} {later : Later} {on off : List ℕ} (first last : ℕ)
    → first ≤ last → ToCome run last later → Backed run tight us first last last later on on off off
backed_begun first last h g = record { above = h; below = omega arith; come = g; ons = joined_none last; offs = joined_none last }

-- one step more, the one at j
module _ {run : Run} {first last : ℕ} {rows : List (List ℕ)} (r : Ready run first last rows)
    {tight : Bool} {us i : ℕ} {later : Later} {on₀ on off₀ off : List ℕ}
    (g : Backed run tight us first last i later on₀ on off₀ off) (j : ℕ) (e : i ≡ suc j) (f : first ≤ j) where
  -- what is still to come after the step
  abbrev w : tables.Later
  w = later_of later

  -- the forward rows after the step
  abbrev turns : ℕ → ℕ
  turns = rows_of (get_or rows (j - first + 1) [])

  -- they and what is still to come are the tables', for the units held
  inside : j < length run.plan.now
  inside = omega (arith, g.below, r.inside)

  agrees : SameOn (held_at run.steps.now run.plan.now (suc j)) w (later_at run.start run.steps.now run.plan.now (suc j))
  agrees = subst (λ (k : ℕ). SameOn (held_at run.steps.now run.plan.now k) w (later_at run.start run.steps.now run.plan.now k)) e g.come

  after : (b : ℕ) → b < row_count → bit (held_at run.steps.now run.plan.now (suc j)) b ≡ 1 → turns b ≡ rows_at run.start run.steps.now run.plan.now (suc j) b
  after =
      let n : first + (j - first + 1) ≡ suc j = omega arith in
      rw n at (r.kept (j - first + 1) (omega (arith, g.below)))

  -- what is known of the step as x says it, and of the two words and the tables before it
  abbrev Goes : PlanStep → Type 0
  Goes x = (m n y z : ℕ) → m ≡ on_word tight x.limits x.after turns w → n ≡ off_word tight us x.limits x.after turns w
      → y ≡ union m (get_or on j 0) → z ≡ union n (get_or off j 0)
      → (before : Later) → SameOn x.held (later_of before) (stepped x.limits x.before x.after w)
      → Backed run tight us first last j before on₀ (set on j y) off₀ (set off j z)

  -- so it goes, where x is the step at j
  goes : Goes (plan_step_at run.start run.steps.now run.plan.now j)
  goes m n y z isOn isOff toOn toOff before back =
      let here = on_here run.start run.steps.now run.plan.now j (omega (arith, inside, run.planned)) inside w agrees tight turns after in
      let there = off_here run.start run.steps.now run.plan.now j (omega (arith, inside, run.planned)) inside w agrees tight turns after us in
      record {
        above = f;
        below = omega (arith, g.below);
        come = agrees_before run.start run.steps.now run.plan.now j (omega (arith, inside, run.planned)) inside w agrees (later_of before) back;
        ons = joined_on g.ons j y e g.below (toOn ∙ ap (λ (k : ℕ). union k (get_or on j 0)) (isOn ∙ here));
        offs = joined_on g.offs j z e g.below (toOff ∙ ap (λ (k : ℕ). union k (get_or off j 0)) (isOff ∙ there));
      }

  pub backed_on : (x : PlanStep) → x ≡ plan_step_at run.start run.steps.now run.plan.now j → Goes x
  backed_on x is = subst Goes (sym is) goes

-- ---- all blocks, from the last to the first

-- after the last block
pub blocks_begun : {run : Run} {tight : Bool} {us : ℕ} {later : Later} {on off : List ℕ} (n : ℕ) → length run.steps.now ≤ n
    → SameOn all (later_of later) ended → Backed run tight us 0 n n later on on off off
blocks_begun {run} n h same = backed_begun 0 n (omega arith) (rw (later_end run.start run.steps.now run.plan.now n h) (record {
  saves = same.saves;
  dispensable = same.dispensable;
  even = λ b l e. same.even b l (bit_all b l);
  gain = λ b l e. same.gain b l (bit_all b l);
}))

-- the same at a place that is said in another way
pub backed_at : {run : Run} {tight : Bool} {us first last i j : ℕ} {later : Later} {on₀ on off₀ off : List ℕ}
    → Backed run tight us first last i later on₀ on off₀ off → i ≡ j → Backed run tight us first last j later on₀ on off₀ off
backed_at g e = rw e at g

-- one block more, whose first step is the one at f
pub blocks_on : {run : Run} {tight : Bool} {us n last : ℕ} {later : Later} {on₀ on off₀ off : List ℕ}
    → Backed run tight us 0 n last later on₀ on off₀ off → (f : ℕ) {before : Later} {on' off' : List ℕ} → f ≤ last
    → ToCome run f before → on' ≡ sets on f (joining (on_at tight run.start run.steps.now run.plan.now) on f (last - f))
    → off' ≡ sets off f (joining (off_at tight us run.start run.steps.now run.plan.now) off f (last - f))
    → Backed run tight us 0 n f before on₀ on' off₀ off'
blocks_on g f h come x y = record {
  above = omega arith;
  below = omega (arith, g.below);
  come = come;
  ons = joined_block g.ons _ f h g.below x;
  offs = joined_block g.offs _ f h g.below y;
}
