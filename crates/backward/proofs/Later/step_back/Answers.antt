-- `backward::Later::step_back` meets its contract: what it joins is what the tables' definitions join.
use mathlib.Core.Path.{◌≡◌, ◌∙◌}
use mathlib.Core.Bool.{◌||◌}
use native.Mathlib.Omega.{arith}
use borrow.Author.Rules.{rules}
use Rattle.units.specs.Sets.{intersection, meets}
use Rattle.tables.specs.Tables.{row_count, gathered, passing, held, free, saves_before, dispensable_before, even_before, gain_before, stepped}
use Rattle.backward.specs.Backs.{later_of, left_row}
use Rattle.backward.proofs.Returning.{saves_back, dispensable_back}
use Rattle.backward.proofs.Later.step_back.Goals.{After-turn}
use Rattle.backward.proofs.Later.step_back.Goals as goal

-- what is found of the units held, as the tables have it
found : (c : After-turn) → let s = c.args.step in let w = later_of c.args.self.now in
    (c.find-found.result.joined ≡ gathered row_count (held s.limits s.after) (left_row s.before w.even w.gain))
    × (c.find-found.result.passed
    ≡ passing row_count (held s.limits s.after) (λ b. meets (w.even b) (intersection (free s.limits s.after) s.before) || meets (w.gain b) (free s.limits s.after)))
unfolding left_row
found c =
    let w = later_of c.args.self.now in
    rw (← c.held_after-held.ensures, ← c.free-free.ensures, ← c.intersection-owned.ensures)
    (c.find-found.ensures (left_row c.args.step.before w.even w.gain) (λ b. meets (w.even b) c.intersection-owned.result || meets (w.gain b) c.free-free.result)
    (λ b r l e. search rules))

-- the two words before the step
module _ (c : After-turn) where
  saves : let s = c.args.step in c.union-self.result ≡ saves_before s.limits s.before s.after (later_of c.args.self.now)
  saves = let s = c.args.step in
      rw (c.union-self.ensures, c.entering-new.ensures, c.intersection.ensures, c.union.ensures, (found c).0, c.choose-joining.ensures, c.allows_more.ensures, c.free-free.ensures)
      (saves_back s.limits s.before s.after (later_of c.args.self.now))

  dispensable : let s = c.args.step in c.union-self-2.result ≡ dispensable_before s.limits s.before s.after (later_of c.args.self.now)
  dispensable = let s = c.args.step in
      rw (c.union-self-2.ensures, c.difference.ensures, c.union-2.ensures, c.intersection-2.ensures, (found c).1, c.choose-loose.ensures, c.allows_less.ensures, c.held_after-held.ensures)
      (dispensable_back s.limits s.before s.after (later_of c.args.self.now) (omega (arith, c.held_after-held.type_inv, c.held_after-held.ensures)))

pub returns : goal.returns
unfolding stepped even_before gain_before
returns c =
    record {
      saves = saves c;
      dispensable = dispensable c;
      even = λ b l h. c.turn.ensures.even_turned b h ∙ rw (saves c, dispensable c, c.held_after-held.ensures, c.free-free.ensures);
      gain = λ b l h. c.turn.ensures.gain_turned b h ∙ rw (saves c, dispensable c, c.held_after-held.ensures, c.free-free.ensures, c.entering-new.ensures);
    }
