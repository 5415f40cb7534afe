-- Sheets of which the reader says the same get the same replies, if those that it passes are alike (`Alike`): each
-- entry gives the reader's refusal, or else a reply that is made of what they have in common. Sheets that are read the
-- same but for tags are alike (`untagged_alike`).
use mathlib.Core.Path.{◌≡◌, refl, sym, ap, ap₂, ◌∙◌}
use mathlib.Core.Bool.{cond, not, ◌&&◌}
use mathlib.Core.List.{List, [], ◌∷◌, ◌++◌, map, map-map, map-append}
use Prim.Native.Nat.{ℕ, min}
use lib.Dec.{ltb, leb, eqb}
use lib.ListN.{length, length-map, drop}
use Rattle.format.specs.declared.ChamberStep.{ChamberStep}
use Rattle.format.specs.Agreement.{untagged, without_tags, read_untagged}
use Rattle.format.specs.Answer.{Answer, Refused, Given, cause, unless}
use Rattle.format.specs.Format.{limits_of, units_of, bound_of, start_of, sizes_list, sizes, chambers_in}
use Rattle.format.specs.Reading.{steps_of, read_causes, Campaign, campaign_of}
use Rattle.format.proofs.Answers.{unless_same}
use Rattle.plans.specs.Plans.{is_feasible, fewest, can_be_on, can_be_off}
use Rattle.chambers.specs.Chambers.{chambers_of, fits, support_in}
use Rattle.plans.specs.Switch.{total}
use Rattle.promises.specs.Common.{limits_on, places_causes, full_reply}
use Rattle.promises.specs.Plan.{fewest_on, support_on, bound_causes, planned, warm_plan}
use Rattle.promises.specs.Chart.{on_words, off_words, charted, warm_chart}
use Rattle.promises.specs.Listing.{plan_lines, listed, listing, sizes_lines, sizes_listed, sizes_listing}
use Rattle.promises.specs.Verdict.{accepts, judged, warm_verdict}
use Rattle.promises.specs.Steps.{steps_answer, steps_reply, steps_written}
use Rattle.promises.proofs.Listings.{listing_staged}
use Rattle.promises.proofs.Plans.{plan_staged}
use Rattle.promises.proofs.Steps.{steps_staged}
use Rattle.promises.proofs.Verdicts.{verdict_staged}

-- what the entries make their replies of is the same
pub record Alike (s t : List ℕ) : Type 0 where
  pub units : units_of s ≡ units_of t
  pub bound : bound_of s ≡ bound_of t
  pub start : start_of s ≡ start_of t
  pub many : length (steps_of s) ≡ length (steps_of t)
  pub fewest : fewest_on s ≡ fewest_on t
  pub support : support_on s ≡ support_on t
  pub on : on_words s ≡ on_words t
  pub off : off_words s ≡ off_words t
  pub accepts : (plan : List ℕ) → accepts s plan ≡ accepts t plan
  pub sizes : sizes_lines (chambers_in s) 1 (limits_on s) ≡ sizes_lines (chambers_in t) 1 (limits_on t)

-- ---- steps that are the same but for tags

-- are as many
pub untagged_many : (xs ys : List ChamberStep) → map untagged xs ≡ map untagged ys → length xs ≡ length ys
untagged_many xs ys e = sym (length-map xs untagged) ∙ ap length e ∙ length-map ys untagged

-- and have the same limits
pub untagged_limits : (xs ys : List ChamberStep) → map untagged xs ≡ map untagged ys → map limits_of xs ≡ map limits_of ys
untagged_limits xs ys e = sym (map-map limits_of untagged xs) ∙ ap (map limits_of) e ∙ map-map limits_of untagged ys

-- ---- campaigns that are the same but for tags

module _ (s t : List ℕ) (a : without_tags (campaign_of s) ≡ without_tags (campaign_of t)) where
  same_units : units_of s ≡ units_of t
  unfolding campaign_of
  same_units = λ i. (a i).units

  same_bound : bound_of s ≡ bound_of t
  unfolding campaign_of
  same_bound = λ i. (a i).bound

  same_start : start_of s ≡ start_of t
  unfolding campaign_of
  same_start = λ i. (a i).start

  same_steps : map untagged (steps_of s) ≡ map untagged (steps_of t)
  unfolding campaign_of
  same_steps = λ i. (a i).steps

  same_many : length (steps_of s) ≡ length (steps_of t)
  same_many = untagged_many (steps_of s) (steps_of t) same_steps

  same_limits : limits_on s ≡ limits_on t
  same_limits = untagged_limits (steps_of s) (steps_of t) same_steps

  same_sizes : sizes_list (sizes s) ≡ sizes_list (sizes t)
  unfolding campaign_of
  same_sizes = λ i. (a i).chambers

  same_chambers : chambers_in s ≡ chambers_in t
  same_chambers = ap chambers_of same_sizes

-- so the entries make the same of them
pub untagged_alike : (s t : List ℕ) → without_tags (campaign_of s) ≡ without_tags (campaign_of t) → Alike s t
unfolding fewest_on support_on on_words off_words accepts
untagged_alike s t a =
    let cs = same_chambers s t a in
    let d = same_units s t a in
    let bound = same_bound s t a in
    let start = same_start s t a in
    let ss = same_limits s t a in
    record {
      units = d;
      bound = bound;
      start = start;
      many = same_many s t a;
      fewest = λ i. fewest (fits (cs i)) (d i) (start i) (ss i);
      support = λ i. support_in (cs i) (start i) (ss i);
      on = λ i. can_be_on (fits (cs i)) (d i) (bound i) (start i) (ss i);
      off = λ i. can_be_off (fits (cs i)) (d i) (bound i) (start i) (ss i);
      accepts = λ plan i. cond (is_feasible (fits (cs i)) (ss i) plan && leb (total (start i) plan) (bound i)) 1 0;
      sizes = λ i. sizes_lines (cs i) 1 (ss i);
    }

-- ---- what the entries make of sheets that are alike, where the reader passes them

module _ (s t : List ℕ) {B : Type 0} (v w : B) (same : unless (read_causes s) (Given v) ≡ unless (read_causes t) (Given w)) where
  -- an entry makes the same of both, if it makes the same of a refusal, and of the sheets where they pass
  alike : {A R : Type 0} (f g : Answer A → R) (a b : Answer A) → ((n p : ℕ) → f (Refused n p) ≡ g (Refused n p)) → (v ≡ w → f a ≡ g b)
      → f (unless (read_causes s) a) ≡ g (unless (read_causes t) b)
  alike f g a b = unless_same f g (read_causes s) (read_causes t) a b v w same

  module _ (passed : v ≡ w → Alike s t) where
    -- past the reader: the causes that are left, and the plan
    same_plan : Alike s t → (places : ℕ)
        → unless (places_causes s places) (unless (bound_causes s) (Given (support_on s))) ≡ unless (places_causes t places) (unless (bound_causes t) (Given (support_on t)))
    same_plan k places =
        λ i. unless (cause (ltb places (k.many i)) 8 (k.many i) ∷ []) (unless (cause (ltb (k.bound i) (k.fewest i)) 9 (k.fewest i) ∷ []) (Given (k.support i)))

    pub alike_plan : (out : List ℕ) → warm_plan s out ≡ warm_plan t out
    unfolding warm_plan planned
    alike_plan out =
        ap (planned (start_of s) out) (plan_staged s (length out))
        ∙ alike (planned (start_of s) out) (planned (start_of t) out) _ _ (λ n p. refl)
        (λ e. let k = passed e in λ i. planned (k.start i) out (same_plan k (length out) i))
        ∙ sym (ap (planned (start_of t) out) (plan_staged t (length out)))

    pub alike_chart : (on off : List ℕ) → warm_chart s on off ≡ warm_chart t on off
    unfolding warm_chart charted
    alike_chart on off =
        let places = min (length on) (length off) in
        ap (charted (start_of s) (on_words s) (off_words s) on off) (plan_staged s places)
        ∙ alike (charted (start_of s) (on_words s) (off_words s) on off) (charted (start_of t) (on_words t) (off_words t) on off) _ _ (λ n p. refl)
        (λ e. let k = passed e in λ i. charted (k.start i) (k.on i) (k.off i) on off (same_plan k places i))
        ∙ sym (ap (charted (start_of t) (on_words t) (off_words t) on off) (plan_staged t places))

    pub alike_verdict : (plan : List ℕ) → warm_verdict s plan ≡ warm_verdict t plan
    unfolding warm_verdict judged
    alike_verdict plan =
        ap judged (verdict_staged s plan)
        ∙ alike judged judged _ _ (λ n p. refl)
        (λ e.
        let k = passed e in
        λ i. judged (unless (cause (not (eqb (length plan) (k.many i))) 10 (k.many i) ∷ []) (Given (full_reply (total (k.start i) plan) (k.accepts plan i)))))
        ∙ sym (ap judged (verdict_staged t plan))

    pub alike_listing : listing s ≡ listing t
    unfolding listed
    alike_listing =
        listing_staged s
        ∙ alike (listed s) (listed t) _ _ (λ n p. refl)
        (λ e.
        let k = passed e in
        unless_same (listed s) (listed t) (bound_causes s) (bound_causes t) (Given (support_on s)) (Given (support_on t)) _ _
        (λ i. unless (cause (ltb (k.bound i) (k.fewest i)) 9 (k.fewest i) ∷ []) (Given (k.many i))) (λ n p. refl)
        (λ q i. plan_lines (k.units i) (k.many i) (k.bound i) (k.start i) (k.support i) (total (k.start i) (k.support i))))
        ∙ sym (listing_staged t)

    pub alike_sizes : sizes_listing s ≡ sizes_listing t
    unfolding sizes_listed sizes_listing
    alike_sizes =
        alike (sizes_listed (chambers_in s)) (sizes_listed (chambers_in t)) (Given (limits_on s)) (Given (limits_on t)) (λ n p. refl) (λ e. (passed e).sizes)

-- ---- the steps list, where it has tags

module _ (s t : List ℕ) (same : read_untagged s ≡ read_untagged t) where
  -- of the answer of `warm_steps`, what tags play no part in
  alike_steps : {R : Type 0} (f : Answer Campaign → R) → (without_tags (campaign_of s) ≡ without_tags (campaign_of t) → f (Given (campaign_of s)) ≡ f (Given (campaign_of t)))
      → (places : ℕ) → f (steps_answer s places) ≡ f (steps_answer t places)
  alike_steps f e places =
      ap f (steps_staged s places)
      ∙ alike s t _ _ same f f _ _ (λ n p. refl)
      (λ a. unless_same f f (places_causes s places) (places_causes t places) (Given (campaign_of s)) (Given (campaign_of t)) _ _
      (λ i. unless (cause (ltb places (same_many s t a i)) 8 (same_many s t a i) ∷ []) (Given (same_many s t a i))) (λ n p. refl) (λ q. e a))
      ∙ sym (ap f (steps_staged t places))

  pub alike_reply : (places : ℕ) → steps_reply (steps_answer s places) ≡ steps_reply (steps_answer t places)
  unfolding steps_reply campaign_of
  alike_reply =
      alike_steps steps_reply
      (λ a i. record { refusal = 0; place = 0; units = same_units s t a i; steps = same_many s t a i; bound = same_bound s t a i; reserved = 0; start = same_start s t a i; chambers = same_sizes s t a i })

  pub alike_list : (out : List ChamberStep) → map untagged (steps_written (steps_answer s (length out)) out) ≡ map untagged (steps_written (steps_answer t (length out)) out)
  unfolding steps_written campaign_of
  alike_list out =
      alike_steps (λ x. map untagged (steps_written x out))
      (λ a.
      map-append untagged (steps_of s) (drop (length (steps_of s)) out)
      ∙ ap₂ (λ xs (n : ℕ). xs ++ map untagged (drop n out)) (same_steps s t a) (same_many s t a)
      ∙ sym (map-append untagged (steps_of t) (drop (length (steps_of t)) out)))
      (length out)
