-- `backward::Later::read_words` meets its contract: what it joins is what the definitions of the words join.
use mathlib.Core.Path.{◌≡◌, ap, ap₂, ◌∙◌}
use Prim.Native.Nat.{ℕ}
use native.Mathlib.Omega.{arith}
use borrow.Author.Rules.{rules}
use Rattle.units.specs.Sets.{union, intersection, meets}
use Rattle.tables.specs.Places.{rows_of}
use Rattle.tables.specs.Tables.{row_count, gathered, passing, held, free, in_place, on_word}
use Rattle.backward.specs.Backs.{later_of}
use Rattle.backward.proofs.Reading.{off_read}
use Rattle.backward.proofs.Later.read_words.Goals.{After-union-4}
use Rattle.backward.proofs.Later.read_words.Goals as goal

-- what is found, as the tables have it
module _ (c : After-union-4) where
  abbrev place : ℕ → ℕ
  place = let a = c.args in in_place a.tight (rows_of a.turns.now) (later_of a.self.now)

  found : (c.find-found.result.joined ≡ gathered row_count (held c.args.step.limits c.args.step.after) place)
      × (c.find-found.result.passed
      ≡ passing row_count (held c.args.step.limits c.args.step.after) (λ b. meets (place b) (free c.args.step.limits c.args.step.after)))
  unfolding in_place
  found = rw (← c.held_after-held.ensures, ← c.free-free.ensures) (c.find-found.ensures place (λ b. meets (place b) c.free-free.result) (λ b r l e. search rules))

pub returns-clause-on_value : goal.returns-clause-on_value
unfolding on_word
returns-clause-on_value c =
    let s = c.args.step in
    c.union-2.ensures
    ∙ ap (union s.after)
    (c.intersection.ensures
    ∙ ap₂ intersection c.free-free.ensures (c.union.ensures ∙ ap₂ union (rw (c.choose-joining.ensures, c.choose.ensures, c.allows_more.ensures)) (found c).0))

pub returns-clause-off_value : goal.returns-clause-off_value
returns-clause-off_value c =
    let a = c.args in
    let s = a.step in
    let held = c.held_after-held in
    c.union-4.ensures
    ∙ ap₂ union c.difference.ensures
    (c.union-3.ensures
    ∙ ap₂ union (c.intersection-2.ensures ∙ ap₂ intersection held.ensures (rw (c.choose-loose.ensures, c.choose-2.ensures, c.allows_less.ensures))) (found c).1)
    ∙ off_read a.tight a.us s.limits s.after (rows_of a.turns.now) (later_of a.self.now) (omega (arith, held.type_inv, held.ensures))
