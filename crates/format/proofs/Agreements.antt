-- Sheets that agree are read the same but for tags (`same_read`). The walk visits the same records of both, one after
-- the other (`same_links`): where the last link leads out of the sheet or back, both get the same refusal, and else
-- their steps differ in tags alone. The start set plays a part in one cause only: where that cause holds of both
-- sheets or of neither, sheets that agree up to the start set are read the same but for tags and the start set
-- (`same_but_start`).
use mathlib.Core.Path.{◌≡◌, refl, sym, ap, ap₂, ◌∙◌}
use mathlib.Core.Bool.{Bool, cond}
use mathlib.Core.List.{List, [], ◌∷◌, ◌++◌, map}
use Prim.Native.Nat.{ℕ, zero, suc, ◌+◌, ◌≤◌, ◌<◌, min}
use native.Mathlib.Nat.{zero-add}
use native.Mathlib.Decide.{ℕ_discrete}
use native.Mathlib.Omega.{arith}
use lib.Dec.{eqb}
use lib.ListN.{length-take, take}
use lib.Seq.{ext_get_or, get_or-take}
use borrow.Author.Tests.{ltb-false}
use Rattle.units.specs.Sets.{has_unit_from}
use Rattle.chambers.specs.Chambers.{Chamber, chambers_of}
use Rattle.format.specs.declared.ChamberSizes.{ChamberSizes}
use Rattle.format.specs.declared.ChamberStep.{ChamberStep}
use Rattle.format.specs.Agreement.{Visited, begun, onward, AgreeTo, Agree, untagged, read_untagged}
use Rattle.format.specs.Answer.{Answer, Given, unless}
use Rattle.format.specs.Chain.{following, chain_of, link_causes}
use Rattle.format.specs.Format.{first_edition, edition_at, units_at, records_at, first_at, bound_at, chambers_at, start_at, next_at, tag_at, record_offset, letters_of, is_first, units_of, records_of, bound_of, start_of, one_size, sizes, sizes_list, chambers_in, step_in, next_of, step_of}
use Rattle.format.specs.Numbers.{byte_at, u16_at}
use Rattle.format.specs.Reading.{form_causes, header_causes, step_causes, steps_causes, records_on, steps_of, open_causes, read_causes, Campaign, campaign_of}
use Rattle.format.proofs.Answers.{past_first}
use Rattle.format.proofs.Chains.{follow_ends, follow_on}
use Rattle.format.proofs.Numbers.{same_u16, same_u32, same_u64}
use Rattle.format.proofs.Readings.{open_staged, read_staged}
use Rattle.format.proofs.Records.{next_before_tag, next_first, next_after, same_untagged}

-- ---- tags play no part in the causes

untagged_causes : (cs : List Chamber) (d i : ℕ) (xs : List ChamberStep) → steps_causes cs d i (map untagged xs) ≡ steps_causes cs d i xs
unfolding steps_causes
untagged_causes cs d i [] = refl
untagged_causes cs d i (x ∷ xs) = ap (λ rest. step_causes cs d i x ++ rest) (untagged_causes cs d (i + 1) xs)

-- ---- agreement

-- each sheet agrees with itself
pub agree_itself : (k : ℕ) (s : List ℕ) → AgreeTo k s s
agree_itself k s = record { lengths = refl; headers = λ i h. refl; records = λ j h v i l. refl }

-- a sheet's campaign without tags, with `start` in the place of its start set
abbrev pub campaign_with : ℕ → List ℕ → Campaign
campaign_with start s = record { units = units_of s; bound = bound_of s; start = start; chambers = sizes_list (sizes s); steps = map untagged (steps_of s) }

-- one refusal of the reader, or that campaign
abbrev pub read_with : ℕ → List ℕ → Answer Campaign
read_with start s = unless (read_causes s) (Given (campaign_with start s))

-- agreement up to the start set at least
module _ {k : ℕ} (enough : start_at ≤ k) (s t : List ℕ) (g : AgreeTo k s t) where
  heads : (i : ℕ) → i < k → byte_at s (0 + i) ≡ byte_at t (0 + i)
  heads i h = ap (byte_at s) (zero-add i) ∙ g.headers i h ∙ ap (byte_at t) (sym (zero-add i))

  same_letters : letters_of s ≡ letters_of t
  unfolding byte_at
  same_letters =
      ext_get_or 0 (take 4 s) (take 4 t) (length-take 4 s ∙ ap (min 4) g.lengths ∙ sym (length-take 4 t))
      (λ i h. get_or-take 4 s i 0 (omega (arith, length-take 4 s)) ∙ g.headers i (omega (arith, length-take 4 s)) ∙ sym (get_or-take 4 t i 0 (omega (arith, length-take 4 s))))

  same_edition : is_first s ≡ is_first t
  same_edition = ap (λ (e : ℕ). eqb e first_edition) (g.headers edition_at (omega arith))

  same_units : units_of s ≡ units_of t
  same_units = g.headers units_at (omega arith)

  pub same_records : records_of s ≡ records_of t
  same_records = same_u16 s t 0 0 k heads records_at (omega arith)

  same_sizes : sizes s ≡ sizes t
  unfolding sizes
  same_sizes =
      λ i. cond (same_edition i) (one_size (same_units i))
      (record {
        first = g.headers chambers_at (omega arith) i;
        second = g.headers (chambers_at + 1) (omega arith) i;
        third = g.headers (chambers_at + 2) (omega arith) i;
        fourth = g.headers (chambers_at + 3) (omega arith) i;
      })

  same_bound : bound_of s ≡ bound_of t
  same_bound = same_u16 s t 0 0 k heads bound_at (omega arith)

  -- where both start sets have a unit from d up, or neither has
  same_form : has_unit_from (start_of s) (units_of s) ≡ has_unit_from (start_of t) (units_of t) → form_causes s ++ header_causes s ≡ form_causes t ++ header_causes t
  same_form own =
      rw (own, g.lengths, same_letters, g.headers edition_at (omega arith), same_sizes, same_units, same_records, same_u32 s t 0 0 k heads chambers_at (omega arith))

  -- a record that the walk visits names the same next one in both
  same_next : {j : ℕ} → Visited s j → next_of s j ≡ next_of t j
  same_next {j} v = go (ℕ_discrete j 0)
    where
      go : Dec (j ≡ 0) → next_of s j ≡ next_of t j
      go (yes e) = next_first s j e ∙ same_u16 s t 0 0 k heads first_at (omega arith) ∙ sym (next_first t j e)
      go (no n) =
          let first = is_first s in
          next_after s j n
          ∙ same_u16 s t (record_offset first j) (record_offset first j) (tag_at first) (g.records j (omega arith) v) (next_at first) (next_before_tag first)
          ∙ ap (λ (b : Bool). u16_at t (record_offset b j + next_at b)) same_edition
          ∙ sym (next_after t j n)

  -- and holds the same step but for its tag
  same_step : {j : ℕ} → 0 < j → Visited s j → untagged (step_of s j) ≡ untagged (step_of t j)
  unfolding step_of
  same_step {j} some v =
      same_untagged s t (record_offset (is_first s) j) (record_offset (is_first s) j) (tag_at (is_first s)) (g.records j some v) (is_first s) (omega arith)
      ∙ ap (λ (b : Bool). untagged (step_in b t (record_offset b j))) same_edition

  -- the steps of some records are the same but for tags
  abbrev SameSteps : List ℕ → Type 0
  SameSteps js = map untagged (map (step_of s) js) ≡ map untagged (map (step_of t) js)

  no_links : {A : Type 0} {ofS ofT : List ℕ → Answer A} → ((js : List ℕ) → SameSteps js → ofS js ≡ ofT js) → unless [] (ofS []) ≡ unless [] (ofT [])
  no_links h = ap (unless []) (h [] refl)

  -- The links from a visited record on are judged the same, and so is what is made of the records on the chain, `ofS`
  -- and `ofT`, if it is the same for the same steps.
  same_links : {A : Type 0} (r k : ℕ) (met : List ℕ) (holder : ℕ) (ofS ofT : List ℕ → Answer A) → r ≡ records_of s → Visited s holder
      → ((js : List ℕ) → SameSteps js → ofS js ≡ ofT js)
      → unless (link_causes r met holder (following k s holder)) (ofS (following k s holder)) ≡ unless (link_causes r met holder (following k t holder)) (ofT (following k t holder))
  unfolding following link_causes
  same_links r zero met holder ofS ofT own v h = no_links h
  same_links {A} r (suc k) met holder ofS ofT own v h =
      go (ℕ_discrete next 0)
      (λ w. same_links r k (met ++ (next ∷ [])) next (λ js. ofS (next ∷ js)) (λ js. ofT (next ∷ js)) own w)
    where
      next : ℕ
      next = next_of s holder

      judged : (List ℕ → Answer A) → List ℕ → Answer A
      judged of js = unless (link_causes r met holder js) (of js)

      go : Dec (next ≡ 0)
          → (Visited s next → ((js : List ℕ) → SameSteps js → ofS (next ∷ js) ≡ ofT (next ∷ js))
          → unless (link_causes r (met ++ (next ∷ [])) next (following k s next)) (ofS (next ∷ following k s next))
          ≡ unless (link_causes r (met ++ (next ∷ [])) next (following k t next)) (ofT (next ∷ following k t next)))
          → judged ofS (following (suc k) s holder) ≡ judged ofT (following (suc k) t holder)
      go (yes e) ih = ap (judged ofS) (follow_ends k s holder e) ∙ no_links h ∙ ap (judged ofT) (sym (follow_ends k t holder (sym (same_next v) ∙ e)))
      go (no n) ih =
          ap (judged ofS) (follow_on k s holder n)
          ∙ past_first _ _ _ _ _ (λ in-range. past_first _ _ _ _ _ (λ new.
          let w = onward v (omega (arith, ltb-false r next in-range)) in
          ih w (λ js e. h (next ∷ js) (ap₂ (λ x xs. x ∷ xs) (same_step (omega arith) w) e))))
          ∙ ap (λ (m : ℕ). judged ofT (m ∷ following k t m)) (same_next v)
          ∙ sym (ap (judged ofT) (follow_on k t holder (λ e. n (same_next v ∙ e))))

  -- so the one gets the refusal that the other gets, or says the same but for tags and the start set
  pub same_but_start : has_unit_from (start_of s) (units_of s) ≡ has_unit_from (start_of t) (units_of t) → (start : ℕ) → read_with start s ≡ read_with start t
  unfolding chain_of
  same_but_start own start =
      staged s
      ∙ ap₂ unless (same_form own)
      (same_links (records_of s) (suc (records_of s)) [] 0 (along s) (along t) refl begun (λ js e i. said (same_sizes i) (same_units i) (same_bound i) (e i))
      ∙ ap (λ (r : ℕ). linked r t) same_records)
      ∙ sym (staged t)
    where
      -- by the chambers, the units, the bound and the steps without tags, if the chain has no fault
      said : ChamberSizes → ℕ → ℕ → List ChamberStep → Answer Campaign
      said z d bound xs =
          unless (steps_causes (chambers_of (sizes_list z)) d 1 xs) (Given (record { units = d; bound = bound; start = start; chambers = sizes_list z; steps = xs }))

      along : List ℕ → List ℕ → Answer Campaign
      along s js = said (sizes s) (units_of s) (bound_of s) (map untagged (map (step_of s) js))

      linked : ℕ → List ℕ → Answer Campaign
      linked r s = unless (link_causes r [] 0 (following (suc r) s 0)) (along s (following (suc r) s 0))

      staged : (s : List ℕ) → read_with start s ≡ unless (form_causes s ++ header_causes s) (linked (records_of s) s)
      staged s =
          read_staged s (Given (campaign_with start s))
          ∙ ap (λ cs. unless (open_causes s) (unless cs (Given (campaign_with start s)))) (sym (untagged_causes (chambers_in s) (units_of s) 1 (steps_of s)))
          ∙ open_staged s (along s (records_on s))

-- and where the start sets are the same, it says the same but for tags
pub same_read : (s t : List ℕ) → Agree s t → read_untagged s ≡ read_untagged t
unfolding campaign_of
same_read s t g =
    let same_start = same_u64 s t 0 0 _ (heads (omega arith) s t g) start_at (omega arith) in
    same_but_start (omega arith) s t g (ap₂ has_unit_from same_start (same_units (omega arith) s t g)) (start_of s) ∙ ap (λ (x : ℕ). read_with x t) same_start
