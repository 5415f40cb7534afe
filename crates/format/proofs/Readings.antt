-- Laws on what the reader reads: a header that was given is sound, the records of a chain without a fault lie within
-- the sheet, and the reader's stages decide one after the other.
use mathlib.Core.Path.{◌≡◌, refl, sym, ap, ap₂, ◌∙◌, subst}
use mathlib.Core.Logic.{inl, inr}
use mathlib.Core.Bool.{Bool, true, false, cond, not, ◌&&◌}
use mathlib.Core.List.{List, [], ◌∷◌, ◌++◌, map}
use Prim.Native.Nat.{ℕ, zero, suc, ◌+◌, ◌≤◌, ◌<◌}
use native.Mathlib.Omega.{arith}
use lib.Dec.{eqb}
use lib.ListN.{length, length-map, length-append}
use borrow.Author.Tests.{ltb-false, eq-eqb, eqb-false, eqb-true, not-false}
use Rattle.units.specs.Sets.{has_unit_from}
use Rattle.chambers.specs.Chambers.{Chamber, sum, chambers_of, some_fits}
use Rattle.format.specs.declared.Header.{Header}
use Rattle.format.specs.declared.ChamberStep.{ChamberStep}
use Rattle.format.specs.declared.Summary.{Summary}
use Rattle.format.specs.Answer.{Answer, Refused, Given, Cause, unless}
use Rattle.format.specs.Chain.{following, chain_of, link_causes, Within, Inside, steps_from}
use Rattle.format.specs.Format.{letters, unit_limit, record_limit, sheet_length, letters_of, is_first, units_of, records_of, reserved_of, sizes, sizes_list, chambers_in, header, next_of, step_of, limits_of}
use Rattle.format.specs.Reading.{same, form_causes, header_causes, steps_causes, records_on, steps_of, open_causes, read_causes, ReaderNumber}
use Rattle.format.specs.Stages.{header_read, chain_read, summary_of, open_read, summary_read}
use Rattle.format.proofs.Answers.{passed_by, none_left, unless_append, given_same, passed_first, all_passed, unless_given, refused_whatever, Numbered, numbered_append}
use Rattle.format.proofs.Chains.{Met, met_none, met_more, met_room}
use Rattle.format.proofs.Records.{length_mono}

-- ---- the header

pub record Sound (s : List ℕ) (h : Header) : Type 0 where
  pub is_header : header s ≡ h
  pub has_letters_lem : same (letters_of s) letters ≡ true
  pub some_units : 0 < h.units
  pub few_units : h.units ≤ unit_limit
  pub few_records : h.records ≤ record_limit
  pub zero_bytes : is_first s ≡ true → reserved_of s ≡ 0
  pub all_dealt : sum (sizes_list h.sizes) ≡ h.units
  pub own_start : has_unit_from h.start h.units ≡ false
  pub whole : length s ≡ sheet_length (is_first s) h.records

positive : (n : ℕ) → (n ≡ 0 → ⊥) → 0 < n
positive zero h = absurd (h refl)
positive (suc n) h = omega arith

pub header_sound : (s : List ℕ) {h : Header} → header_read s ≡ Given h → Sound s h
header_sound s {h} e =
    let form-1 = passed_first _ _ _ e in
    let form-2 = passed_first _ _ _ form-1.1 in
    let form-3 = passed_first _ _ _ form-2.1 in
    let form-4 = passed_first _ _ _ form-3.1 in
    let no-unit = passed_first _ _ _ form-4.1 in
    let units = passed_first _ _ _ no-unit.1 in
    let records = passed_first _ _ _ units.1 in
    let zeros = passed_first _ _ _ records.1 in
    let chambers = passed_first _ _ _ zeros.1 in
    let start = passed_first _ _ _ chambers.1 in
    let end = passed_first _ _ _ start.1 in
    subst (Sound s) (given_same (none_left _ ∙ end.1))
    (record {
      is_header = refl;
      has_letters_lem = not-false _ form-3.0;
      some_units = positive (units_of s) (eqb-false (units_of s) 0 no-unit.0);
      few_units = ltb-false unit_limit (units_of s) units.0;
      few_records = ltb-false record_limit (records_of s) records.0;
      zero_bytes = λ first. eqb-true (reserved_of s) 0 (not-false _ (ap (λ (b : Bool). b && not (eqb (reserved_of s) 0)) (sym first) ∙ zeros.0));
      all_dealt = eqb-true (sum (sizes_list (sizes s))) (units_of s) (not-false _ chambers.0);
      own_start = start.0;
      whole = eqb-true (length s) (sheet_length (is_first s) (records_of s)) (not-false _ end.0);
    })

-- ---- the chain

-- the steps of the records that follow are those of the records one after the other
pub following_steps : (k : ℕ) (s : List ℕ) (holder : ℕ) → map (step_of s) (following k s holder) ≡ steps_from s holder (length (following k s holder))
unfolding following steps_from
following_steps zero s holder = refl
following_steps (suc k) s holder = go (eqb (next_of s holder) 0) (following_steps k s (next_of s holder))
  where
    rest : List ℕ
    rest = following k s (next_of s holder)

    go : (t : Bool) → map (step_of s) rest ≡ steps_from s (next_of s holder) (length rest)
        → map (step_of s) (cond t [] (next_of s holder ∷ rest)) ≡ steps_from s holder (length (cond t [] (next_of s holder ∷ rest)))
    go true e = refl
    go false e = ap (λ xs. step_of s (next_of s holder) ∷ xs) e

-- Records without a fault lie within a sheet of r records, and with those met before they are r at the most.
pub record Kept (s : List ℕ) (r holder : ℕ) (on : List ℕ) (before : ℕ) : Type 0 where
  pub inside : Inside s holder (length on)
  pub few : before + length on ≤ r

module _ {A : Type 0} (v : A) (s : List ℕ) (r : ℕ) (whole : length s ≡ sheet_length (is_first s) r) where
  -- each of r records lies within the sheet
  lies : (j : ℕ) → j ≤ r → Within s j
  lies j h = omega (arith, length_mono (is_first s) j r h)

  pub links_within : (k : ℕ) (met : List ℕ) (holder : ℕ) {w : A} → Met r met → holder ≤ r
      → unless (link_causes r met holder (following k s holder)) (Given v) ≡ Given w → Kept s r holder (following k s holder) (length met)
  unfolding following link_causes Inside
  links_within zero met holder m h e = record { inside = tt; few = omega (arith, met_room m) }
  links_within (suc k) met holder {w} m h e =
      go (λ n f g. links_within k (met ++ (next_of s holder ∷ [])) (next_of s holder) {w = w} n f g) (eqb (next_of s holder) 0) refl e
    where
      next : ℕ
      next = next_of s holder

      rest : List ℕ
      rest = following k s next

      go : (Met r (met ++ (next ∷ [])) → next ≤ r → unless (link_causes r (met ++ (next ∷ [])) next rest) (Given v) ≡ Given w → Kept s r next rest (length (met ++ (next ∷ []))))
          → (t : Bool) → eqb next 0 ≡ t → unless (link_causes r met holder (cond t [] (next ∷ rest))) (Given v) ≡ Given w
          → Kept s r holder (cond t [] (next ∷ rest)) (length met)
      go ih true q f = record { inside = tt; few = omega (arith, met_room m) }
      go ih false q f =
          let a = passed_first _ _ _ f in
          let b = passed_first _ _ _ a.1 in
          let fits = ltb-false r next a.0 in
          let some = positive next (eqb-false next 0 q) in
          let more = ih (met_more next some fits b.0 m) fits b.1 in
          record {
            inside = (lies holder h, ((some, lies next fits), more.inside));
            few = omega (arith, more.few, length-append met (next ∷ []));
          }

-- the chain of a sound sheet, where its links have no fault
pub chain_within : {A : Type 0} (v : A) (s : List ℕ) {h : Header} {w : A} → Sound s h
    → unless (link_causes h.records [] 0 (chain_of s h.records)) (Given v) ≡ Given w → Kept s h.records 0 (chain_of s h.records) 0
unfolding chain_of
chain_within v s {h} g e = links_within v s h.records g.whole (suc h.records) [] 0 (met_none h.records) (omega arith) e

-- ---- the reader's stages

-- the causes of header and chain, one after the other
pub open_staged : {A : Type 0} (s : List ℕ) (a : Answer A)
    → unless (open_causes s) a ≡ unless (form_causes s ++ header_causes s) (unless (link_causes (records_of s) [] 0 (records_on s)) a)
open_staged s a = unless_append (form_causes s ++ header_causes s) (link_causes (records_of s) [] 0 (records_on s)) a

-- those of the whole sheet: after these, the steps'
pub read_staged : {A : Type 0} (s : List ℕ) (a : Answer A) → unless (read_causes s) a ≡ unless (open_causes s) (unless (steps_causes (chambers_in s) (units_of s) 1 (steps_of s)) a)
unfolding read_causes
read_staged s a = unless_append (open_causes s) (steps_causes (chambers_in s) (units_of s) 1 (steps_of s)) a

pub header_refuses : (s : List ℕ) {n p : ℕ} → header_read s ≡ Refused n p → Refused n p ≡ open_read s
header_refuses s e = refused_whatever (form_causes s ++ header_causes s) (header s) (sym e) _ ∙ sym (open_staged s (Given (summary_of s)))

module _ (s : List ℕ) {h : Header} (e : header_read s ≡ Given h) where
  is_header : header s ≡ h
  is_header = (header_sound s e).is_header

  -- past the header, the links decide
  header_passes : unless (link_causes h.records [] 0 (chain_of s h.records)) (Given (summary_of s)) ≡ open_read s
  header_passes =
      ap (λ (x : Header). unless (link_causes x.records [] 0 (chain_of s x.records)) (Given (summary_of s))) (sym is_header)
      ∙ sym (all_passed (form_causes s ++ header_causes s) _ e _)
      ∙ sym (open_staged s (Given (summary_of s)))

  pub chain_refuses : {n p : ℕ} → chain_read s h.records ≡ Refused n p → Refused n p ≡ open_read s
  chain_refuses f = refused_whatever (link_causes h.records [] 0 (chain_of s h.records)) _ (sym f) _ ∙ header_passes

  pub chain_opens : {n : ℕ} → chain_read s h.records ≡ Given n → Given (record { header = h; steps = n }) ≡ open_read s
  chain_opens {n} f =
      let many : length (steps_of s) ≡ n =
      length-map (records_on s) (step_of s)
      ∙ ap (λ (x : Header). length (chain_of s x.records)) is_header
      ∙ given_same (unless_given (link_causes h.records [] 0 (chain_of s h.records)) _ f) in
      sym (ap₂ (λ (x : Header) (m : ℕ). Given (record { header = x; steps = m })) is_header many)
      ∙ sym (all_passed (link_causes h.records [] 0 (chain_of s h.records)) _ f (Given (summary_of s)))
      ∙ header_passes

-- ---- a sheet without a fault in header and chain

-- its header is sound, and its steps are those of the records that follow the header, which lie within the sheet
pub record Opened (s : List ℕ) (x : Summary) : Type 0 where
  pub summary : summary_of s ≡ x
  pub sound : Sound s x.header
  pub inside : Inside s 0 x.steps
  pub few : x.steps ≤ record_limit
  pub steps : steps_from s 0 x.steps ≡ steps_of s

pub opened : (s : List ℕ) {x : Summary} → open_read s ≡ Given x → Opened s x
unfolding chain_of
opened s {x} e =
    let staged = sym (open_staged s (Given (summary_of s))) ∙ e in
    let sound = header_sound s (all_passed (form_causes s ++ header_causes s) _ staged (Given (header s))) in
    let kept = chain_within (summary_of s) s sound (unless_given (form_causes s ++ header_causes s) _ staged) in
    let many = length-map (records_on s) (step_of s) in
    subst (Opened s) (given_same (unless_given (open_causes s) _ e))
    (record {
      summary = refl;
      sound = sound;
      inside = subst (Inside s 0) (sym many) kept.inside;
      few = omega (arith, many, kept.few, sound.few_records);
      steps = ap (steps_from s 0) many ∙ sym (following_steps (suc (records_of s)) s 0);
    })

pub open_refuses : (s : List ℕ) {n p : ℕ} → open_read s ≡ Refused n p → Refused n p ≡ summary_read s
open_refuses s e = refused_whatever (open_causes s) (summary_of s) (sym e) _ ∙ sym (read_staged s (Given (summary_of s)))

-- past the chain, the steps decide
module _ (s : List ℕ) {x : Summary} (e : open_read s ≡ Given x) where
  abbrev causes : List Cause
  causes = steps_causes (chambers_of (sizes_list x.header.sizes)) x.header.units 1 (steps_from s 0 x.steps)

  decide : unless causes (Given x) ≡ summary_read s
  decide =
      let o = opened s e in
      ap₂ (λ (y : Summary) xs. unless (steps_causes (chambers_of (sizes_list y.header.sizes)) y.header.units 1 xs) (Given y)) (sym o.summary) o.steps
      ∙ sym (all_passed (open_causes s) _ e _)
      ∙ sym (read_staged s (Given (summary_of s)))

  pub steps_refuse : {n p : ℕ} → Refused n p ≡ unless {A = Unit {0}} causes (Given tt) → Refused n p ≡ summary_read s
  steps_refuse h = refused_whatever causes tt h (Given x) ∙ decide

  pub steps_pass : Given tt ≡ unless {A = Unit {0}} causes (Given tt) → Given x ≡ summary_read s
  steps_pass h = sym (all_passed causes (Given tt) (sym h) (Given x)) ∙ decide

-- a sheet that was read was opened
pub read_opens : (s : List ℕ) {x : Summary} → summary_read s ≡ Given x → open_read s ≡ Given x
read_opens s e =
    all_passed (open_causes s) _ (sym (read_staged s (Given (summary_of s))) ∙ e) (Given (summary_of s))
    ∙ ap Given (given_same (unless_given (read_causes s) _ e))

-- Steps without a fault: the bytes that are zero are, the upper set has no unit from d up, and some set is feasible
abbrev pub Faultless : List Chamber → ℕ → List ChamberStep → Type 0
Faultless cs d [] = Unit {0}
Faultless cs d (x ∷ xs) =
    (x.reserved ≡ 0) × ((has_unit_from x.upper d ≡ false) × ((some_fits cs (limits_of x) ≡ true) × Faultless cs d xs))

steps_faultless : {A : Type 0} (cs : List Chamber) (d i : ℕ) (xs : List ChamberStep) (a : Answer A) {w : A} → unless (steps_causes cs d i xs) a ≡ Given w → Faultless cs d xs
unfolding steps_causes
steps_faultless cs d i [] a e = tt
steps_faultless cs d i (x ∷ xs) a e =
    let zeros = passed_first _ _ _ e in
    let foreign = passed_first _ _ _ zeros.1 in
    let infeasible = passed_first _ _ _ foreign.1 in (
      eqb-true x.reserved 0 (not-false _ zeros.0),
      (foreign.0, (not-false _ infeasible.0, steps_faultless cs d (i + 1) xs a infeasible.1)),
    )

-- and such steps get no refusal
pub faultless_passes : {A : Type 0} (cs : List Chamber) (d i : ℕ) (xs : List ChamberStep) (a : Answer A) → Faultless cs d xs → unless (steps_causes cs d i xs) a ≡ a
unfolding steps_causes
faultless_passes cs d i [] a h = sym (none_left a)
faultless_passes cs d i (x ∷ xs) a h =
    sym (passed_by _ _ _ (ap not (eq-eqb x.reserved 0 h.0)) (passed_by _ _ _ h.1.0 (passed_by _ _ _ (ap not h.1.1.0)
    (sym (faultless_passes cs d (i + 1) xs a h.1.1.1)))))

pub read_faultless : (s : List ℕ) {x : Summary} → summary_read s ≡ Given x → Faultless (chambers_in s) (units_of s) (steps_of s)
read_faultless s e =
    steps_faultless (chambers_in s) (units_of s) 1 (steps_of s) _ (unless_given (open_causes s) _ (sym (read_staged s (Given (summary_of s))) ∙ e))

-- ---- the numbers of refusal that the reader can give

module _ (P : ℕ → Type 0) (some : (n : ℕ) → ReaderNumber n → P n) where
  low : (n : ℕ) → 1 ≤ n → n ≤ 7 → P n
  low n l h = some n (inl (l, h))

  numbered_links : (r : ℕ) (met : List ℕ) (holder : ℕ) (on : List ℕ) → Numbered P (link_causes r met holder on)
  unfolding link_causes Numbered
  numbered_links r met holder [] = tt
  numbered_links r met holder (j ∷ on) = (low _ (omega arith) (omega arith), (low _ (omega arith) (omega arith), numbered_links r (met ++ (j ∷ [])) j on))

  numbered_steps : (cs : List Chamber) (d i : ℕ) (xs : List ChamberStep) → Numbered P (steps_causes cs d i xs)
  unfolding steps_causes Numbered
  numbered_steps cs d i [] = tt
  numbered_steps cs d i (x ∷ xs) =
      (some 14 (inr (omega arith, omega arith)), (low 6 (omega arith) (omega arith), (low 7 (omega arith) (omega arith), numbered_steps cs d (i + 1) xs)))

  -- those of the reader and no other
  pub numbered_read : (s : List ℕ) → Numbered P (read_causes s)
  unfolding read_causes Numbered
  numbered_read s =
      numbered_append P (form_causes s ++ header_causes s ++ link_causes (records_of s) [] 0 (records_on s)) (steps_causes (chambers_in s) (units_of s) 1 (steps_of s))
      (numbered_append P (form_causes s ++ header_causes s) (link_causes (records_of s) [] 0 (records_on s))
      (one, (one, (two, (two, (three, (three, (three, (three, (some 13 (inr (omega arith, omega arith)), (three, (three, tt))))))))))) (numbered_links (records_of s) [] 0 (records_on s)))
      (numbered_steps (chambers_in s) (units_of s) 1 (steps_of s))
    where
      one : P 1
      one = low 1 (omega arith) (omega arith)

      two : P 2
      two = low 2 (omega arith) (omega arith)

      three : P 3
      three = low 3 (omega arith) (omega arith)
