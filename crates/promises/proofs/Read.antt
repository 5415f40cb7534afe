-- What is known of a sheet that was read: the numbers of its summary, and its chambers and its steps without their
-- tags (`bench`).
use mathlib.Core.Path.{◌≡◌, sym, ap, ◌∙◌, subst}
use mathlib.Core.List.{List, [], ◌∷◌, map}
use Prim.Native.Nat.{ℕ, ◌^◌, ◌≤◌, ◌<◌}
use native.Mathlib.Omega.{arith}
use lib.ListN.{length}
use borrow.Author.Tests.{lt-ltb, le-ltb, leb-false}
use Rattle.units.specs.Sets.{has_unit_from}
use Rattle.chambers.specs.Chambers.{Chamber, sum}
use Rattle.chambers.proofs.Bench.{Sound, Bench}
use Rattle.chambers.proofs.Dealt.{dealt_apart, dealt_whole}
use Rattle.format.specs.declared.ChamberStep.{ChamberStep}
use Rattle.format.specs.declared.Header.{Header}
use Rattle.format.specs.declared.Summary.{Summary}
use Rattle.format.specs.Answer.{Answer, Refused, Given, unless}
use Rattle.format.specs.Format.{unit_limit, limits_of, units_of, bound_of, start_of, sizes, sizes_list, chambers_in}
use Rattle.format.specs.Reading.{steps_of, read_causes}
use Rattle.format.specs.Stages.{summary_of, summary_read}
use Rattle.format.proofs.Answers.{refused_by, passed_by, none_left, all_passed, none_holds}
use Rattle.format.proofs.Readings.{Opened, opened, read_opens, Faultless, read_faultless}
use Rattle.promises.specs.Common.{limits_on, places_causes}
use Rattle.promises.specs.Statements.{Passes}

-- steps without a fault have feasible sets, and units below d alone
faultless_sound : (cs : List Chamber) (d : ℕ) (xs : List ChamberStep) → Faultless cs d xs → Sound cs d (map limits_of xs)
unfolding has_unit_from
faultless_sound cs d [] h = tt
faultless_sound cs d (x ∷ xs) h = ((leb-false (2 ^ d) x.upper h.1.0, h.1.1.0), faultless_sound cs d xs h.1.1.1)

module _ (s : List ℕ) {x : Summary} (e : summary_read s ≡ Given x) where
  pub was_opened : Opened s x
  was_opened = opened s (read_opens s e)

  pub many_steps : length (steps_of s) ≡ x.steps
  many_steps = ap (λ (y : Summary). y.steps) was_opened.summary

  pub start_is : x.header.start ≡ start_of s
  start_is = sym (ap (λ (y : Summary). y.header.start) was_opened.summary)

  pub bound_is : x.header.bound ≡ bound_of s
  bound_is = sym (ap (λ (y : Summary). y.header.bound) was_opened.summary)

  pub units_are : x.header.units ≡ units_of s
  units_are = sym (ap (λ (y : Summary). y.header.units) was_opened.summary)

  pub all_dealt : sum (sizes_list (sizes s)) ≡ units_of s
  all_dealt = subst (λ (h : Header). sum (sizes_list h.sizes) ≡ h.units) (sym was_opened.sound.is_header) was_opened.sound.all_dealt

  -- its chambers have all of its units, each in one of them, and each of its steps has a feasible set
  pub bench : Bench (units_of s) (chambers_in s) (limits_on s)
  bench =
      record {
        apart = dealt_apart 0 0 (sizes_list (sizes s));
        whole = dealt_whole (units_of s) (sizes_list (sizes s)) all_dealt;
        sound = faultless_sound (chambers_in s) (units_of s) (steps_of s) (read_faultless s e);
      }

  -- and there are at most 64 units
  pub few_units : units_of s ≤ unit_limit
  few_units = subst (λ (h : Header). h.units ≤ unit_limit) (sym was_opened.sound.is_header) was_opened.sound.few_units

  -- past the reader, the causes that follow decide
  pub was_read : {A : Type 0} (a : Answer A) → a ≡ unless (read_causes s) a
  was_read a = sym (all_passed (read_causes s) _ e a)

  -- refusal 8 for an output with too few places, and for no other
  pub short_output : (places : ℕ) → places < x.steps → {A : Type 0} (a : Answer A) → Refused 8 x.steps ≡ unless (places_causes s places) a
  short_output places h a = ap (Refused 8) (sym many_steps) ∙ refused_by _ _ _ (lt-ltb places (length (steps_of s)) (omega (arith, many_steps)))

  pub long_output : (places : ℕ) → x.steps ≤ places → {A : Type 0} (a : Answer A) → a ≡ unless (places_causes s places) a
  long_output places h a = passed_by _ _ _ (le-ltb places (length (steps_of s)) (omega (arith, many_steps))) (none_left a)

-- a sheet that passes the checks was read
pub passed : (s : List ℕ) → Passes s → summary_read s ≡ Given (summary_of s)
passed s ok = none_holds (read_causes s) (Given (summary_of s)) ok
