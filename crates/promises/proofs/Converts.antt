-- Laws on the answer of `warm_to_edition_1` and `warm_to_edition_2`, by its stages, and what a converted sheet has in
-- common with the one that it was converted from (`converted_from`): it is the same sheet, or both have all of their
-- units in the first chamber, and then both are the case of one chamber, with the same steps.
use mathlib.Core.Path.{◌≡◌, refl, sym, ap, ap₂, ◌∙◌, subst}
use mathlib.Core.Logic.{◌↔◌, ◌⊎◌, inl, inr}
use mathlib.Core.Bool.{Bool, true, false, not, ◌&&◌}
use mathlib.Core.List.{List, [], ◌∷◌, ◌++◌, map, map-map}
use Prim.Native.Nat.{ℕ, ◌≤◌, ◌<◌}
use native.Mathlib.Omega.{arith}
use lib.Dec.{ltb}
use lib.ListN.{length, length-map, get_or}
use borrow.Author.Tests.{lt-ltb, le-ltb, ltb-false}
use Rattle.chambers.specs.Parts.{without_chambers}
use Rattle.plans.specs.Plans.{allows, fewest, can_be_on, can_be_off}
use Rattle.plans.specs.Support.{find_support}
use Rattle.plans.specs.Switch.{FeasiblePlan, sizes_of, total}
use Rattle.format.specs.declared.ChamberSizes.{ChamberSizes}
use Rattle.format.specs.declared.ChamberStep.{ChamberStep}
use Rattle.format.specs.declared.Summary.{Summary}
use Rattle.format.specs.Agreement.{without_tags, read_untagged}
use Rattle.format.specs.Answer.{Answer, Refused, Given, cause, unless, First}
use Rattle.format.specs.Editions.{remade, in_edition, narrowed}
use Rattle.format.specs.Format.{header_size, longest, chambers_at, sheet_length, is_first, units_of, records_of, one_size, sizes, sizes_list, chambers_in, record_offset, step_in, step_of, limits_of}
use Rattle.format.specs.Reading.{records_on, steps_of, read_causes, ReaderNumber, campaign_of}
use Rattle.format.specs.Stages.{summary_of, summary_read}
use Rattle.format.specs.Writing.{widened}
use Rattle.format.proofs.Answers.{refused_by, passed_by, none_left, unless_append, first_refuses, refused_whatever, given_same, given_passes, unless_same, first_decided, none_holds, passed_first, unless_given, numbered_append, Numbered}
use Rattle.format.proofs.Converted.{was_whole, remade_next, remade_step, remade_chain, remade_steps, same_sizes, remade_passes}
use Rattle.format.proofs.Readings.{numbered_read}
use Rattle.format.proofs.Records.{length_most}
use Rattle.format.proofs.Remade.{has_header, copied, made_over, remade_edition, remade_units, remade_records, remade_bound, remade_start, remade_sizes, remade_long, up_and_down}
use Rattle.promises.specs.Common.{limits_on, FeasibleOn, full_written, wrote}
use Rattle.promises.specs.declared.Written.{Written}
use Rattle.promises.specs.Convert.{outside_causes, room_causes, convert_refusals, convert_answer, warm_convert}
use Rattle.promises.specs.Statements.{Passes, OneChamber, one_limits, Converted}
use Rattle.promises.specs.Steps.{steps_answer, steps_reply, steps_written, warm_steps}
use Rattle.promises.proofs.Likeness.{Alike, alike_plan, alike_chart, alike_verdict, alike_listing, alike_sizes}
use Rattle.promises.proofs.Listings.{lines_by_sizes}
use Rattle.promises.proofs.Read.{passed, was_opened, was_read}
use Rattle.promises.proofs.Single.{first_has_all, first_is_single, single}
use Rattle.promises.proofs.Steps.{steps_staged}
use Rattle.promises.proofs.Verdicts.{same_accepts}

-- ---- refusal 15

-- going up is not going down
not_down : {A : Type 0} → false ≡ true → A
not_down e = absurd (let z : ◌≡◌ {A = ℕ} 0 1 = cc in omega arith)

outside_refuses : {A : Type 0} (first : Bool) (s : List ℕ) (a : Answer A) → (first && ltb (sizes s).first (units_of s)) ≡ true → Refused 15 chambers_at ≡ unless (outside_causes first s) a
outside_refuses true s a h = refused_by _ _ _ h
outside_refuses false s a h = not_down h

outside_passes : {A : Type 0} (first : Bool) (s : List ℕ) (a : Answer A) → (first && ltb (sizes s).first (units_of s)) ≡ false → a ≡ unless (outside_causes first s) a
outside_passes true s a h = passed_by _ _ _ h (none_left a)
outside_passes false s a h = none_left a

-- ---- the length of a converted sheet

-- two editions are the same, or each is the other one
same_or_other : (a b : Bool) → (a ≡ b) ⊎ (a ≡ not b)
same_or_other true true = inl refl
same_or_other true false = inr refl
same_or_other false true = inr refl
same_or_other false false = inl refl

-- that of a sheet in that edition with as many records
pub converted_length : (first : Bool) (s : List ℕ) {x : Summary} → summary_read s ≡ Given x → length (in_edition first s) ≡ sheet_length first x.header.records
converted_length first s {x} e = go (same_or_other (is_first s) first)
  where
    header_is : records_of s ≡ x.header.records
    header_is = ap (λ (y : Summary). y.header.records) (was_opened s e).summary

    go : (is_first s ≡ first) ⊎ (is_first s ≡ not first) → length (in_edition first s) ≡ sheet_length first x.header.records
    go (inl same) = ap length (copied first s same) ∙ (was_opened s e).sound.whole ∙ ap (λ (b : Bool). sheet_length b x.header.records) same
    go (inr other) = ap length (made_over first s other) ∙ remade_long first s (was_whole first s other e) ∙ ap (sheet_length first) header_is

-- which is at the most that of the longest sheet
pub converted_most : (first : Bool) (s : List ℕ) {x : Summary} → summary_read s ≡ Given x → sheet_length first x.header.records ≤ longest
converted_most first s {x} e = length_most first x.header.records (was_opened s e).sound.few_records

-- ---- the stages

module _ (first : Bool) (s : List ℕ) (places : ℕ) where
  abbrev within : Answer (List ℕ)
  within = unless (room_causes first s places) (Given (in_edition first s))

  convert_staged : convert_answer first s places ≡ unless (read_causes s) (unless (outside_causes first s) within)
  unfolding convert_refusals
  convert_staged =
      unless_append (read_causes s ++ outside_causes first s) (room_causes first s places) _ ∙ unless_append (read_causes s) (outside_causes first s) within

  pub convert_unread : {n p : ℕ} → summary_read s ≡ Refused n p → Refused n p ≡ convert_answer first s places
  convert_unread e = refused_whatever (read_causes s) (summary_of s) (sym e) _ ∙ sym convert_staged

  module _ {x : Summary} (e : summary_read s ≡ Given x) where
    -- the test of refusal 15, by the header that was read
    same_test : (first && ltb x.header.sizes.first x.header.units) ≡ (first && ltb (sizes s).first (units_of s))
    same_test = ap (λ (y : Summary). first && ltb y.header.sizes.first y.header.units) (sym (was_opened s e).summary)

    pub convert_outside : (first && ltb x.header.sizes.first x.header.units) ≡ true → Refused 15 chambers_at ≡ convert_answer first s places
    convert_outside h = outside_refuses first s within (sym same_test ∙ h) ∙ was_read s e _ ∙ sym convert_staged

    module _ (h : (first && ltb x.header.sizes.first x.header.units) ≡ false) where
      inside : within ≡ convert_answer first s places
      inside = outside_passes first s within (sym same_test ∙ h) ∙ was_read s e _ ∙ sym convert_staged

      pub convert_short : places < sheet_length first x.header.records → Refused 8 (sheet_length first x.header.records) ≡ convert_answer first s places
      convert_short l =
          let long = converted_length first s e in
          ap (Refused 8) (sym long) ∙ refused_by _ _ _ (lt-ltb places (length (in_edition first s)) (omega (arith, long))) ∙ inside

      pub convert_given : sheet_length first x.header.records ≤ places → Given (in_edition first s) ≡ convert_answer first s places
      convert_given l =
          passed_by _ _ _ (le-ltb places (length (in_edition first s)) (omega (arith, converted_length first s e))) (none_left _) ∙ inside

-- where a sheet is given, it is one that passes the checks and, going down, has no unit outside the first chamber
pub convert_gives : (first : Bool) (s : List ℕ) (places : ℕ) {v : List ℕ} → convert_answer first s places ≡ Given v → Passes s × (first ≡ true → units_of s ≤ (sizes s).first)
convert_gives first s places e =
    let read = sym (convert_staged first s places) ∙ e in
    (given_passes (read_causes s) _ read, λ down. low first down (unless_given (read_causes s) _ read))
  where
    low : (b : Bool) → b ≡ true → {v : List ℕ} → unless (outside_causes b s) (within first s places) ≡ Given v → units_of s ≤ (sizes s).first
    low true down h = ltb-false (sizes s).first (units_of s) (passed_first _ _ _ h).0
    low false down h = not_down down

-- 1 to 8, 13 and 14, and 15 going down, and no other
pub convert_numbers : (P : ℕ → Type 0) (first : Bool) → ((n : ℕ) → ReaderNumber n → P n) → P 8 → (first ≡ true → P 15) → (s : List ℕ) (places : ℕ) → Numbered P (convert_refusals first s places)
unfolding convert_refusals Numbered
convert_numbers P first reader eight fifteen s places =
    numbered_append P (read_causes s ++ outside_causes first s) (room_causes first s places)
    (numbered_append P (read_causes s) (outside_causes first s) (numbered_read P reader s) (outside first fifteen)) (eight, tt)
  where
    outside : (b : Bool) → (b ≡ true → P 15) → Numbered P (outside_causes b s)
    outside true h = (h refl, tt)
    outside false h = tt

-- ---- a sheet that is made over

module _ (first : Bool) (s : List ℕ) (ok : Passes s) (edition : is_first s ≡ not first) (one : sizes s ≡ one_size (units_of s)) where
  abbrev t : List ℕ
  t = remade first s

  e : summary_read s ≡ Given (summary_of s)
  e = passed s ok

  whole : length s ≡ sheet_length (not first) (records_of s)
  whole = was_whole first s edition e

  header : header_size ≤ length s
  header = has_header first s whole

  t_passes : Passes t
  t_passes = given_passes (read_causes t) _ (remade_passes first s edition e one (Given (units_of s)))

  t_one : sizes t ≡ one_size (units_of t)
  t_one = remade_sizes first s header ∙ ap one_size (sym (remade_units first s header))

  -- without chambers, the steps are the same
  same_limits : one_limits t ≡ one_limits s
  same_limits =
      ap (λ xs. map without_chambers (map limits_of xs)) (remade_steps first s edition e)
      ∙ ap (map without_chambers) (map-map limits_of (λ x. widened (narrowed x)) (steps_of s))
      ∙ map-map without_chambers (λ x. limits_of (widened (narrowed x))) (steps_of s)
      ∙ sym (map-map without_chambers limits_of (steps_of s))

  of_t : OneChamber t
  of_t = single t t_passes t_one

  of_s : OneChamber s
  of_s = single s ok one

  same_feasible : (plan : List ℕ) → FeasibleOn t plan ↔ FeasibleOn s plan
  same_feasible plan = (
    λ f. (of_s.feasible plan).1 (subst (λ xs. FeasiblePlan xs plan) same_limits ((of_t.feasible plan).0 f)),
    λ f. (of_t.feasible plan).1 (subst (λ xs. FeasiblePlan xs plan) (sym same_limits) ((of_s.feasible plan).0 f)),
  )

  made_alike : Alike t s
  made_alike =
      let units = remade_units first s header in
      let bound = remade_bound first s header in
      let start = remade_start first s header in
      record {
        units = units;
        bound = bound;
        start = start;
        many = ap length (remade_steps first s edition e) ∙ length-map (steps_of s) (λ x. widened (narrowed x));
        fewest = of_t.fewest ∙ (λ i. fewest allows (units i) (start i) (same_limits i)) ∙ sym of_s.fewest;
        support = of_t.support ∙ (λ i. find_support (start i) (same_limits i)) ∙ sym of_s.support;
        on = of_t.on ∙ (λ i. can_be_on allows (units i) (bound i) (start i) (same_limits i)) ∙ sym of_s.on;
        off = of_t.off ∙ (λ i. can_be_off allows (units i) (bound i) (start i) (same_limits i)) ∙ sym of_s.off;
        accepts =
            λ plan. same_accepts t s plan (
              λ m. ((same_feasible plan).0 m.0, omega (arith, m.1, ap (λ (x : ℕ). total x plan) start, bound)),
              λ m. ((same_feasible plan).1 m.0, omega (arith, m.1, ap (λ (x : ℕ). total x plan) start, bound)),
            );
        sizes = lines_by_sizes (chambers_in t) (chambers_in s) 1 (limits_on t) (limits_on s) (of_t.sizes ∙ ap (map sizes_of) same_limits ∙ sym of_s.sizes);
      }

  made_converted : Converted first s t
  made_converted =
      let both = none_holds (read_causes t) (Given (units_of s)) t_passes ∙ sym (none_holds (read_causes s) (Given (units_of s)) ok) in
      record {
        passes = t_passes;
        edition = remade_edition first s header;
        units = remade_units first s header;
        bound = remade_bound first s header;
        start = remade_start first s header;
        chambers = ap sizes_list (same_sizes first s edition e one);
        records = remade_records first s header;
        links = remade_next first s edition whole;
        held = λ j some l. ap narrowed (remade_step first s edition whole j some l);
        chain = remade_chain first s edition e;
        steps = ap (map narrowed) (remade_steps first s edition e) ∙ map-map narrowed (λ x. widened (narrowed x)) (steps_of s);
        feasible = same_feasible;
        plan = alike_plan t s _ _ both (λ q. made_alike);
        chart = alike_chart t s _ _ both (λ q. made_alike);
        verdict = alike_verdict t s _ _ both (λ q. made_alike);
        plan_text = alike_listing t s _ _ both (λ q. made_alike);
        sizes_text = alike_sizes t s _ _ both (λ q. made_alike);
      }

-- ---- any sheet that is converted

-- where refusal 15 does not hold, going down
pub converted_from : (first : Bool) (s : List ℕ) → Passes s → (first ≡ true → units_of s ≤ (sizes s).first) → Converted first s (in_edition first s)
converted_from first s ok low = go (same_or_other (is_first s) first)
  where
    one : (b : Bool) → (b ≡ true → units_of s ≤ (sizes s).first) → is_first s ≡ not b → sizes s ≡ one_size (units_of s)
    one true h other = first_has_all s ok (h refl)
    one false h other = first_is_single s other

    go : (is_first s ≡ first) ⊎ (is_first s ≡ not first) → Converted first s (in_edition first s)
    go (inl same) =
        subst (Converted first s) (sym (copied first s same))
        (record {
          passes = ok;
          edition = same;
          units = refl;
          bound = refl;
          start = refl;
          chambers = refl;
          records = refl;
          links = λ j l. refl;
          held = λ j some l. refl;
          chain = refl;
          steps = refl;
          feasible = λ plan. (λ f. f, λ f. f);
          plan = λ out. refl;
          chart = λ on off. refl;
          verdict = λ plan. refl;
          plan_text = refl;
          sizes_text = refl;
        })
    go (inr other) = subst (Converted first s) (sym (made_over first s other)) (made_converted first s ok other (one first low other))

-- ---- going up

-- a step of edition 1 has zeros for the other chambers already
steps_written_so : (s : List ℕ) → is_first s ≡ true → (js : List ℕ) → map (λ x. widened (narrowed x)) (map (step_of s) js) ≡ map (step_of s) js
unfolding step_of step_in
steps_written_so s first [] = refl
steps_written_so s first (j ∷ js) =
    ap₂ ◌∷◌
    (subst (λ (b : Bool). widened (narrowed (step_in b s (record_offset b j))) ≡ step_in b s (record_offset b j)) (sym first) refl)
    (steps_written_so s first js)

-- so the sheet of edition 2 says the same to the letter
pub raised_says : (s : List ℕ) → Passes s → is_first s ≡ true → campaign_of (in_edition false s) ≡ campaign_of s
unfolding campaign_of
raised_says s ok first =
    let c = converted_from false s ok not_down in
    let steps = ap steps_of (made_over false s first) ∙ remade_steps false s first (passed s ok) ∙ steps_written_so s first (records_on s) in
    λ i. record { units = c.units i; bound = c.bound i; start = c.start i; chambers = c.chambers i; steps = steps i }

-- and `warm_steps` gives the same
pub raised_steps : (s : List ℕ) → Passes s → is_first s ≡ true → (list : List ChamberStep) → warm_steps (in_edition false s) list ≡ warm_steps s list
unfolding warm_steps campaign_of
raised_steps s ok first list =
    let t = in_edition false s in
    let places = length list in
    let says = raised_says s ok first in
    let passes = (converted_from false s ok not_down).passes in
    let answer : steps_answer t places ≡ steps_answer s places =
    steps_staged t places
    ∙ none_holds (read_causes t) _ passes
    ∙ (λ i. unless (cause (ltb places (length (says i).steps)) 8 (length (says i).steps) ∷ []) (Given (says i)))
    ∙ sym (none_holds (read_causes s) _ ok)
    ∙ sym (steps_staged s places) in
    λ i. (steps_reply (answer i), steps_written (answer i) list)

-- ---- up and down again

module _ (s : List ℕ) (ok : Passes s) (first : is_first s ≡ true) where
  pub same_again : in_edition true (in_edition false s) ≡ s
  same_again =
      let sound = (was_opened s (passed s ok)).sound in
      up_and_down s first (sound.zero_bytes first) (sound.whole ∙ ap (λ (b : Bool). sheet_length b (records_of s)) first)

  -- nothing is refused, if the output has room
  pub lowered_again : (places : ℕ) → length s ≤ places → convert_answer true (in_edition false s) places ≡ Given s
  lowered_again places room =
      let t = in_edition false s in
      let c = converted_from false s ok not_down in
      let r = passed t c.passes in
      let all : (sizes t).first ≡ units_of t = ap (λ l. get_or l 0 0) c.chambers ∙ ap (λ (z : ChamberSizes). z.first) (first_is_single s first) ∙ sym c.units in
      sym (convert_given true t places r (le-ltb (sizes t).first (units_of t) (omega (arith, all))) (omega (arith, converted_length true t r, ap length same_again)))
      ∙ ap Given same_again

-- ---- sheets that agree

-- Sheets of which the reader says the same but for tags, and which have as many records, get the same reply: the same
-- refusal, or the same length.
module _ (first : Bool) (s t : List ℕ) (same : read_untagged s ≡ read_untagged t) (many : records_of s ≡ records_of t) where
  -- 15 and 8, where the reader passes both
  same_causes : Passes s → Passes t → without_tags (campaign_of s) ≡ without_tags (campaign_of t) → (places : ℕ)
      → unless (outside_causes first s ++ room_causes first s places) (Given (length (in_edition first s)))
      ≡ unless (outside_causes first t ++ room_causes first t places) (Given (length (in_edition first t)))
  unfolding campaign_of
  same_causes ok-s ok-t a places =
      let long = converted_length first s (passed s ok-s) ∙ ap (sheet_length first) many ∙ sym (converted_length first t (passed t ok-t)) in
      λ i. unless (outside first i ++ (cause (ltb places (long i)) 8 (long i) ∷ [])) (Given (long i))
    where
      outside : (b : Bool) → outside_causes b s ≡ outside_causes b t
      outside true = λ i. cause (ltb (get_or (a i).chambers 0 0) (a i).units) 15 chambers_at ∷ []
      outside false = refl

  pub same_reply : (out : List ℕ) → (warm_convert first s out).0 ≡ (warm_convert first t out).0
  unfolding warm_convert convert_refusals wrote
  same_reply out = go (first_decided (read_causes s))
    where
      reply : Answer (List ℕ) → Written
      reply a = (wrote out a).0

      places : ℕ
      places = length out

      go : ((n : ℕ) × ((p : ℕ) × First (read_causes s) n p)) ⊎ Passes s → reply (convert_answer first s places) ≡ reply (convert_answer first t places)
      go (inl (n, (p, f))) =
          ap reply
          (convert_staged first s places ∙ sym (first_refuses f _)
          ∙ refused_whatever (read_causes t) (without_tags (campaign_of t)) (first_refuses f (Given (without_tags (campaign_of s))) ∙ same) _ ∙ sym (convert_staged first t places))
      go (inr ok-s) =
          let given = sym same ∙ none_holds (read_causes s) (Given (without_tags (campaign_of s))) ok-s in
          let ok-t = given_passes (read_causes t) _ given in
          let says = given_same (sym (unless_given (read_causes t) _ given)) in
          ap reply (read s ok-s)
          ∙ unless_same reply reply (outside_causes first s ++ room_causes first s places) (outside_causes first t ++ room_causes first t places) (Given (in_edition first s)) (Given (in_edition first t)) _ _
          (same_causes ok-s ok-t says places) (λ n p. refl) (λ long. ap full_written long)
          ∙ sym (ap reply (read t ok-t))
        where
          read : (u : List ℕ) → Passes u → convert_answer first u places ≡ unless (outside_causes first u ++ room_causes first u places) (Given (in_edition first u))
          read u ok = convert_staged first u places ∙ none_holds (read_causes u) _ ok ∙ sym (unless_append (outside_causes first u) (room_causes first u places) (Given (in_edition first u)))
