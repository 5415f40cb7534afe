-- What a sheet says that is made over to the other edition, of one that passes the reader and has all of its units in
-- the first chamber: each record names the same next one and holds the same step, but for what it says of the empty
-- chambers (`remade_next`, `remade_step`). So the chain is the same (`remade_chain`), and the sheet passes the reader
-- too (`remade_passes`).
use mathlib.Core.Path.{◌≡◌, refl, sym, ap, ap₂, ◌∙◌, subst}
use mathlib.Core.Bool.{Bool, true, false, cond, not, ◌&&◌}
use mathlib.Core.List.{List, [], ◌∷◌, ◌++◌, map}
use Prim.Native.Nat.{ℕ, zero, suc, ◌+◌, ◌^◌, ◌≤◌, ◌<◌}
use native.Mathlib.Nat.{zero-add}
use native.Mathlib.Omega.{arith}
use lib.Dec.{eqb}
use lib.ListN.{length, length-map, drop}
use lib.Seq.{get_or-take, get_or-drop}
use borrow.Author.Tests.{le-ltb, eq-eqb, ne_eqb, leb-false}
use Rattle.units.specs.Sets.{has_unit_from}
use Rattle.chambers.specs.Chambers.{chambers_of, sum}
use Rattle.chambers.specs.Parts.{one_chamber}
use Rattle.chambers.proofs.One.{widened_fits}
use Rattle.format.specs.declared.ChamberSizes.{ChamberSizes}
use Rattle.format.specs.declared.ChamberStep.{ChamberStep}
use Rattle.format.specs.declared.Summary.{Summary}
use Rattle.format.specs.Answer.{Answer, Given, unless}
use Rattle.format.specs.Chain.{Within, Inside, following, chain_of, link_causes, steps_from}
use Rattle.format.specs.Editions.{part, record_part, remade, narrowed}
use Rattle.format.specs.Format.{letters, first_edition, second_edition, header_size, record_size, unit_limit, record_limit, longest, next_at, record_offset, sheet_length, is_first, units_of, records_of, reserved_of, one_size, sizes, sizes_list, chambers_in, step_in, step_of, next_of, limits_of}
use Rattle.format.specs.Numbers.{byte_at, u16_at}
use Rattle.format.specs.Reading.{same, is_edition, form_causes, header_causes, open_causes, steps_causes, records_on, steps_of, read_causes}
use Rattle.format.specs.Stages.{summary_of, summary_read}
use Rattle.format.specs.Writing.{widened}
use Rattle.format.proofs.Answers.{none_left, all_passed, unless_given, passed_by}
use Rattle.format.proofs.Numbers.{same_u16}
use Rattle.format.proofs.Readings.{Opened, opened, read_opens, open_staged, read_staged, following_steps, Faultless, faultless_passes, read_faultless}
use Rattle.format.proofs.Records.{header_within, length_most, next_first, next_after, same_step}
use Rattle.format.proofs.Remade.{record_there, record_step, record_next, has_header, remade_letters, edition_byte, remade_edition, remade_units, remade_records, remade_first, remade_start, remade_sizes, remade_reserved, remade_long, remade_part}

-- ---- a record by itself

-- a part has the bytes of the list from its place on
part_bytes : (s : List ℕ) (at k i : ℕ) → i < k → byte_at s (at + i) ≡ byte_at (part at k s) (0 + i)
unfolding byte_at
part_bytes s at k i h = sym (get_or-drop at s i 0) ∙ sym (get_or-take k (drop at s) i 0 h) ∙ ap (byte_at (part at k s)) (sym (zero-add i))

module _ (first : Bool) (s : List ℕ) (edition : is_first s ≡ first) (j : ℕ) where
  step_by_itself : step_of s j ≡ step_in first (record_part first s j) 0
  unfolding step_of
  step_by_itself =
      ap (λ (b : Bool). step_in b s (record_offset b j)) edition
      ∙ same_step s (record_part first s j) (record_offset first j) 0 (record_size first) (part_bytes s (record_offset first j) (record_size first)) first (omega arith)

  next_by_itself : (j ≡ 0 → ⊥) → next_of s j ≡ u16_at (record_part first s j) (next_at first)
  next_by_itself some =
      next_after s j some
      ∙ ap (λ (b : Bool). u16_at s (record_offset b j + next_at b)) edition
      ∙ same_u16 s (record_part first s j) (record_offset first j) 0 (record_size first) (part_bytes s (record_offset first j) (record_size first)) (next_at first) (within first)
      ∙ ap (u16_at (record_part first s j)) (zero-add (next_at first))
    where
      within : (b : Bool) → next_at b + 2 ≤ record_size b
      within true = omega arith
      within false = omega arith

-- ---- each record, and the chain

-- a record that lies within a sheet of r records is one of them
one_of : (first : Bool) (j r : ℕ) → sheet_length first j ≤ sheet_length first r → j ≤ r
one_of true j r h = omega arith
one_of false j r h = omega arith

module _ (first : Bool) (s : List ℕ) (edition : is_first s ≡ not first) (whole : length s ≡ sheet_length (not first) (records_of s)) where
  abbrev t : List ℕ
  t = remade first s

  t_edition : is_first t ≡ first
  t_edition = remade_edition first s (has_header first s whole)

  pub remade_step : (j : ℕ) → 0 < j → j ≤ records_of s → step_of t j ≡ widened (narrowed (step_of s j))
  remade_step j some l =
      step_by_itself first t t_edition j
      ∙ ap (λ b. step_in first b 0) (remade_part first s whole j some l)
      ∙ record_step first (record_part (not first) s j) (record_there (not first) s (records_of s) j whole some l)
      ∙ ap (λ x. widened (narrowed x)) (sym (step_by_itself (not first) s edition j))

  pub remade_next : (j : ℕ) → j ≤ records_of s → next_of t j ≡ next_of s j
  remade_next zero l = next_first t 0 refl ∙ remade_first first s (has_header first s whole) ∙ sym (next_first s 0 refl)
  remade_next (suc j) l =
      next_by_itself first t t_edition (suc j) (λ e. omega arith)
      ∙ ap (λ b. u16_at b (next_at first)) (remade_part first s whole (suc j) (omega arith) l)
      ∙ record_next first (record_part (not first) s (suc j)) (record_there (not first) s (records_of s) (suc j) whole (omega arith) l)
      ∙ sym (next_by_itself (not first) s edition (suc j) (λ e. omega arith))

  there : (j : ℕ) → Within s j → j ≤ records_of s
  there j h = one_of (not first) j (records_of s) (subst (λ (b : Bool). sheet_length b j ≤ sheet_length (not first) (records_of s)) edition (omega (arith, h, whole)))

  same_following : (k holder : ℕ) → holder ≤ records_of s → Inside s holder (length (following k s holder)) → following k t holder ≡ following k s holder
  unfolding following Inside
  same_following zero holder l h = refl
  same_following (suc k) holder l h = rw (remade_next holder l) (go (same_following k (next_of s holder)) (eqb (next_of s holder) 0) h)
    where
      next : ℕ
      next = next_of s holder

      go : (next ≤ records_of s → Inside s next (length (following k s next)) → following k t next ≡ following k s next)
          → (b : Bool) → Inside s holder (length (cond b [] (next ∷ following k s next))) → cond b [] (next ∷ following k t next) ≡ cond b [] (next ∷ following k s next)
      go ih true i = refl
      go ih false i = ap (λ on. next ∷ on) (ih (there next i.1.0.1) i.1.1)

  same_steps_from : (n holder : ℕ) → holder ≤ records_of s → Inside s holder n → steps_from t holder n ≡ map (λ x. widened (narrowed x)) (steps_from s holder n)
  unfolding steps_from Inside
  same_steps_from zero holder l h = refl
  same_steps_from (suc n) holder l h =
      let next = next_of s holder in
      let in-sheet = there next h.1.0.1 in
      rw (remade_next holder l) (ap₂ ◌∷◌ (remade_step next h.1.0.0 in-sheet) (same_steps_from n next in-sheet h.1.1))

-- ---- the whole sheet

-- steps without a fault have none with zeros for the empty chambers
narrowed_faultless : (d : ℕ) (xs : List ChamberStep) → Faultless (one_chamber d) d xs → Faultless (one_chamber d) d (map (λ x. widened (narrowed x)) xs)
unfolding has_unit_from
narrowed_faultless d [] h = tt
narrowed_faultless d (x ∷ xs) h =
    let low : x.upper < 2 ^ d = leb-false (2 ^ d) x.upper h.1.0 in
    (refl, (h.1.0, (widened_fits d (limits_of x) low h.1.1.0, narrowed_faultless d xs h.1.1.1)))

-- the editions are editions
is_edition_lem : (first : Bool) → not (is_edition (cond first first_edition second_edition)) ≡ false
is_edition_lem true = refl
is_edition_lem false = refl

-- and in the first the bytes of the chambers are zero
zero_bytes : (first : Bool) (s : List ℕ) → header_size ≤ length s → (is_first (remade first s) && not (eqb (reserved_of (remade first s)) 0)) ≡ false
zero_bytes true s l = rw (remade_edition true s l, remade_reserved s l)
zero_bytes false s l = rw (remade_edition false s l)

module _ (first : Bool) (s : List ℕ) (edition : is_first s ≡ not first) {x : Summary} (e : summary_read s ≡ Given x) where
  abbrev u : List ℕ
  u = remade first s

  open_s : Opened s (summary_of s)
  open_s = opened s (all_passed (open_causes s) _ (sym (read_staged s (Given (summary_of s))) ∙ e) (Given (summary_of s)))

  pub was_whole : length s ≡ sheet_length (not first) (records_of s)
  was_whole = open_s.sound.whole ∙ ap (λ (b : Bool). sheet_length b (records_of s)) edition

  l : header_size ≤ length s
  l = has_header first s was_whole

  inside : Inside s 0 (length (records_on s))
  inside = subst (Inside s 0) (length-map (records_on s) (step_of s)) open_s.inside

  pub remade_chain : records_on u ≡ records_on s
  unfolding chain_of
  remade_chain =
      ap (λ (r : ℕ). following (suc r) u 0) (remade_records first s l)
      ∙ same_following first s edition was_whole (suc (records_of s)) 0 (omega arith) inside

  pub remade_steps : steps_of u ≡ map (λ x. widened (narrowed x)) (steps_of s)
  unfolding chain_of
  remade_steps =
      following_steps (suc (records_of u)) u 0
      ∙ ap (λ on. steps_from u 0 (length on)) remade_chain
      ∙ same_steps_from first s edition was_whole (length (records_on s)) 0 (omega arith) inside
      ∙ ap (map (λ x. widened (narrowed x))) (sym (following_steps (suc (records_of s)) s 0))

  -- where all units are in the first chamber
  module _ (one : sizes s ≡ one_size (units_of s)) where
    pub same_sizes : sizes u ≡ sizes s
    same_sizes = remade_sizes first s l ∙ sym one

    -- no cause of the header holds
    header_passes : {A : Type 0} (a : Answer A) → unless (form_causes u ++ header_causes u) a ≡ a
    header_passes a =
        let sound = open_s.sound in
        let long = remade_long first s was_whole in
        let units = remade_units first s l in
        let records = remade_records first s l in
        sym (passed_by _ _ a (le-ltb (length u) header_size (omega (arith, long, header_within first (records_of s))))
        (passed_by _ _ a (le-ltb longest (length u) (omega (arith, long, length_most first (records_of s) sound.few_records)))
        (passed_by _ _ a (ap (λ w. not (same w letters)) (remade_letters first s l) ∙ ap not sound.has_letters_lem)
        (passed_by _ _ a (ap (λ (k : ℕ). not (is_edition k)) (edition_byte first s l) ∙ is_edition_lem first)
        (passed_by _ _ a (ne_eqb (units_of u) 0 (λ none. omega (arith, units, sound.some_units)))
        (passed_by _ _ a (le-ltb unit_limit (units_of u) (omega (arith, units, sound.few_units)))
        (passed_by _ _ a (le-ltb record_limit (records_of u) (omega (arith, records, sound.few_records)))
        (passed_by _ _ a (zero_bytes first s l)
        (passed_by _ _ a (ap not (eq-eqb (sum (sizes_list (sizes u))) (units_of u) (ap (λ z. sum (sizes_list z)) same_sizes ∙ sound.all_dealt ∙ sym units)))
        (passed_by _ _ a (ap₂ has_unit_from (remade_start first s l) units ∙ sound.own_start)
        (passed_by _ _ a (ap not (eq-eqb (length u) (sheet_length (is_first u) (records_of u)) (long ∙ sym (ap₂ sheet_length (remade_edition first s l) records))))
        (none_left a))))))))))))

    -- nor one of the links or of a step
    pub remade_passes : {A : Type 0} (a : Answer A) → unless (read_causes u) a ≡ a
    remade_passes a =
        let staged = sym (open_staged s (Given (summary_of s))) ∙ read_opens s e in
        let links = unless_given (form_causes s ++ header_causes s) _ staged in
        let faultless = subst (λ (z : ChamberSizes). Faultless (chambers_of (sizes_list z)) (units_of s) (steps_of s)) one (read_faultless s e) in
        read_staged u a
        ∙ open_staged u _
        ∙ header_passes _
        ∙ ap₂ (λ (r : ℕ) on. unless (link_causes r [] 0 on) (unless (steps_causes (chambers_in u) (units_of u) 1 (steps_of u)) a)) (remade_records first s l) remade_chain
        ∙ all_passed (link_causes (records_of s) [] 0 (records_on s)) _ links _
        ∙ (λ i. unless (steps_causes (chambers_of (sizes_list (remade_sizes first s l i))) (remade_units first s l i) 1 (remade_steps i)) a)
        ∙ faultless_passes (one_chamber (units_of s)) (units_of s) 1 (map (λ x. widened (narrowed x)) (steps_of s)) a (narrowed_faultless (units_of s) (steps_of s) faultless)
