-- The tables from which the chart is read. At a step with limits s the plan goes from the set p to the set t. A
-- neighbour of t has one unit more, or one unit less, or the one in place of the other; row b of a table is the set of
-- the units a of which something holds of t with a in place of b. Forward, `turned` says which neighbours are reached
-- at no more than the plan's switches so far; backward, `Later` says how the switches still to come from a neighbour
-- compare with those from t. `on_word` and `off_word` join them. At the end stand `on_by_slack` and `off_by_slack`,
-- the words of the chart with any number of switches to spare.
use Rattle.std.specs.Prelude.{Bool, cond, not, ◌&&◌, ◌||◌, List, [], ◌∷◌, ℕ, zero, suc, eqb, ltb, get_or, drop}
use Rattle.units.specs.Sets.{union, intersection, difference, meets, all, contains, insert, size}
use Rattle.plans.specs.declared.Limits.{Limits}
use Rattle.plans.specs.Steps.{step_at}

-- ---- rows

-- the rows of a table: one for each unit
abbrev pub row_count : ℕ
row_count = 64

-- the rows of the units of a set below k, joined
unfoldable pub gathered : ℕ → ℕ → (ℕ → ℕ) → ℕ
gathered zero set rows = 0
gathered (suc k) set rows = union (gathered k set rows) (cond (contains set k) (rows k) 0)

-- the units of a set below k that pass a test
unfoldable pub passing : ℕ → ℕ → (ℕ → Bool) → ℕ
passing zero set test = 0
passing (suc k) set test = let rest = passing k set test in cond (contains set k && test k) (insert rest k) rest

-- ---- a step of the plan

-- the units that may be on and are not
unfoldable pub free : Limits → ℕ → ℕ
free s t = difference s.upper t

-- the units that are on and need not be
unfoldable pub held : Limits → ℕ → ℕ
held s t = difference t s.lower

-- the units that are switched on
unfoldable pub new : ℕ → ℕ → ℕ
new p t = difference t p

-- the step allows one unit more, or one less
unfoldable pub more : Limits → ℕ → Bool
more s t = ltb (size t) s.greatest

unfoldable pub less : Limits → ℕ → Bool
less s t = ltb s.least (size t)

-- ---- forward

-- The units that can be on before the step, in place of none that is on in it, at no more switches: those that are,
-- and those that can be in place of a unit that leaves. Here `h` has the units held in the step before, and f their
-- rows.
unfoldable pub come : ℕ → ℕ → ℕ → (ℕ → ℕ) → ℕ
come p t h f = union p (gathered row_count (difference h t) f)

-- the row of a unit that is held, if it was held before, or an empty one
unfoldable pub row_before : ℕ → (ℕ → ℕ) → ℕ → ℕ
row_before h f b = cond (contains h b) (f b) 0

-- The units that can be on after the step in place of b, which is held, at no more switches: from the free units,
-- those that enter, those that come, whether b was on, and its row before.
unfoldable pub turned_row : ℕ → ℕ → ℕ → Bool → ℕ → ℕ
turned_row able entering coming on row = cond (on && not (meets row entering)) (intersection able (union coming row)) able

unfoldable pub turned : Limits → ℕ → ℕ → ℕ → (ℕ → ℕ) → ℕ → ℕ
turned s p t h f b = turned_row (free s t) (new p t) (come p t h f) (contains p b) (row_before h f b)

-- the set of the plan after i steps
unfoldable pub set_at : ℕ → List ℕ → ℕ → ℕ
set_at start plan i = get_or (start ∷ plan) i 0

-- the units held after i steps, and their rows
unfoldable pub held_at : List Limits → List ℕ → ℕ → ℕ
held_at ss plan zero = 0
held_at ss plan (suc i) = held (step_at ss i) (get_or plan i 0)

unfoldable pub rows_at : ℕ → List Limits → List ℕ → ℕ → ℕ → ℕ
rows_at start ss plan zero = λ b. 0
rows_at start ss plan (suc i) =
    turned (step_at ss i) (set_at start plan i) (set_at start plan (suc i)) (held_at ss plan i) (rows_at start ss plan i)

-- ---- backward

-- The switches still to come from a neighbour of t, against those from t: the units a with which there is one less,
-- the units b without which there are no more, and the rows of units a in place of b with which there are no more, or
-- one less.
pub record Later : Type 0 where
  pub saves : ℕ
  pub dispensable : ℕ
  pub even : ℕ → ℕ
  pub gain : ℕ → ℕ

-- after the last step there are none to come
unfoldable pub ended : Later
ended = record { saves = 0; dispensable = all; even = λ b. all; gain = λ b. 0 }

-- The rows of unit b before a step, from its row after, the units that save and those that are dispensable before the
-- step, those held after it, the free ones, and for the gain those that are on after it and those that enter.
unfoldable pub even_row : ℕ → ℕ → ℕ → ℕ → ℕ → ℕ → ℕ
even_row saving sparing staying able b row =
    union saving (union (cond (contains sparing b) all 0) (cond (contains staying b) (intersection row able) 0))

unfoldable pub gain_row : ℕ → ℕ → ℕ → ℕ → ℕ → ℕ → ℕ → ℕ → ℕ
gain_row saving sparing staying able after entering b row =
    union (cond (contains after b) 0 saving)
    (union (cond (contains sparing b) entering 0) (cond (contains staying b) (intersection row able) 0))

module _ (s : Limits) (p t : ℕ) (w : Later) where
  unfoldable pub saves_before : ℕ
  saves_before =
      union (new p t)
      (intersection (free s t)
      (union (cond (more s t) w.saves 0) (union (gathered row_count (difference (held s t) p) w.even) (gathered row_count (held s t) w.gain))))

  unfoldable pub dispensable_before : ℕ
  dispensable_before =
      union (difference p t)
      (passing row_count (held s t)
      (λ b. (less s t && contains w.dispensable b) || (meets (w.even b) (intersection (free s t) p) || meets (w.gain b) (free s t))))

  unfoldable pub even_before : ℕ → ℕ
  even_before b = even_row saves_before dispensable_before (held s t) (free s t) b (w.even b)

  unfoldable pub gain_before : ℕ → ℕ
  gain_before b = gain_row saves_before dispensable_before (held s t) (free s t) t (new p t) b (w.gain b)

  -- the same of the neighbours of p, before the step
  unfoldable pub stepped : Later
  stepped = record { saves = saves_before; dispensable = dispensable_before; even = even_before; gain = gain_before }

-- from the set p on, over the rest of the steps and of the plan
unfoldable pub later_from : ℕ → List Limits → List ℕ → Later
later_from p [] ts = ended
later_from p (s ∷ ss) [] = ended
later_from p (s ∷ ss) (t ∷ ts) = stepped s p t (later_from t ss ts)

-- ---- the words of a step

-- the units that can be on in place of b, which is held, with no switch to spare, or with one
unfoldable pub in_place : Bool → (ℕ → ℕ) → Later → ℕ → ℕ
in_place tight turns w b = cond tight (union (intersection (turns b) (w.even b)) (w.gain b)) (union (turns b) (w.even b))

-- the units that can be on, and those of the units `us` that can be off, with no switch to spare, or with one
unfoldable pub on_word : Bool → Limits → ℕ → (ℕ → ℕ) → Later → ℕ
on_word tight s t turns w =
    union t
    (intersection (free s t) (union (cond (more s t) (cond tight w.saves all) 0) (gathered row_count (held s t) (in_place tight turns w))))

unfoldable pub off_word : Bool → ℕ → Limits → ℕ → (ℕ → ℕ) → Later → ℕ
off_word tight us s t turns w =
    union (difference us t)
    (passing row_count (held s t) (λ b. (less s t && (not tight || contains w.dispensable b)) || meets (in_place tight turns w b) (free s t)))

-- With two switches or more to spare the step alone says which. The units that some set has that it allows: all that
-- may be on, if there is room for one more than must be, or those that must.
unfoldable pub ample_on : Limits → ℕ
ample_on s = cond (ltb (size s.lower) s.greatest) s.upper s.lower

-- The units of `us` that some set lacks that it allows: all that need not be on, if one less than may be on is enough,
-- or those that may not be.
unfoldable pub ample_off : ℕ → Limits → ℕ
ample_off us s = difference us (cond (ltb s.least (size s.upper)) s.lower s.upper)

-- ---- the chart

-- what is still to come after i steps
unfoldable pub later_at : ℕ → List Limits → List ℕ → ℕ → Later
later_at start ss plan i = later_from (set_at start plan i) (drop i ss) (drop i plan)

-- the units that can be on in the step at i, and those of `us` that can be off, with no switch to spare, or with one
unfoldable pub on_at : Bool → ℕ → List Limits → List ℕ → ℕ → ℕ
on_at tight start ss plan i =
    on_word tight (step_at ss i) (set_at start plan (suc i)) (rows_at start ss plan (suc i)) (later_at start ss plan (suc i))

unfoldable pub off_at : Bool → ℕ → ℕ → List Limits → List ℕ → ℕ → ℕ
off_at tight us start ss plan i =
    off_word tight us (step_at ss i) (set_at start plan (suc i)) (rows_at start ss plan (suc i)) (later_at start ss plan (suc i))

-- the same with `slack` switches to spare
unfoldable pub on_by_slack : ℕ → ℕ → List Limits → List ℕ → ℕ → ℕ
on_by_slack slack start ss plan i = cond (ltb 1 slack) (ample_on (step_at ss i)) (on_at (eqb slack 0) start ss plan i)

unfoldable pub off_by_slack : ℕ → ℕ → ℕ → List Limits → List ℕ → ℕ → ℕ
off_by_slack us slack start ss plan i = cond (ltb 1 slack) (ample_off us (step_at ss i)) (off_at (eqb slack 0) us start ss plan i)
