-- Words joined to the places of an output, from the last place to the first: one place more, and a block of places
-- more. For callers, `joined_words`: the words and what the places held are then joined as lists.
use mathlib.Core.Path.{◌≡◌, refl, sym, ap, ap₂, ◌∙◌}
use mathlib.Core.List.{List, [], ◌∷◌, ◌++◌}
use Prim.Native.Nat.{ℕ, zero, suc, ◌+◌, ◌-◌, ◌≤◌, ◌<◌}
use native.Mathlib.Omega.{arith}
use lib.ListN.{length, get_or, take, drop, set}
use lib.Seq.{sets, length-sets, set_comm, get_or-set_other, drop-cons}
use Rattle.units.specs.Sets.{union}
use Rattle.plans.specs.Plans.{joined}
use Rattle.chart.specs.Joining.{joining}

-- ---- runs of stores

-- a store before a run of stores
store_before : (vs l : List ℕ) (m i x : ℕ) → i < m → set (sets l m vs) i x ≡ sets (set l i x) m vs
store_before [] l m i x h = refl
store_before (v ∷ vs) l m i x h =
    store_before vs (set l m v) (suc m) i x (omega arith) ∙ ap (λ k. sets k (suc m) vs) (set_comm l m i v x (λ e. omega arith))

-- a place before a run of stores
read_before : (vs l : List ℕ) (m i : ℕ) → i < m → get_or (sets l m vs) i 0 ≡ get_or l i 0
read_before [] l m i h = refl
read_before (v ∷ vs) l m i h = read_before vs (set l m v) (suc m) i (omega arith) ∙ get_or-set_other l m i v 0 (λ e. omega arith)

-- two runs, the second up to where the first begins
two_runs : (us vs l : List ℕ) (f m : ℕ) → f + length us ≡ m → sets (sets l m vs) f us ≡ sets l f (us ++ vs)
two_runs [] vs l f m e = let same : m ≡ f = omega arith in ap (λ (k : ℕ). sets l k vs) same
two_runs (u ∷ us) vs l f m e =
    ap (λ k. sets k (suc f) us) (store_before vs l m f u (omega arith)) ∙ two_runs us vs (set l f u) (suc f) m (omega arith)

-- ---- joined words

module _ (word : ℕ → ℕ) where
  -- as many as there are places
  joining_length : (out : List ℕ) (i k : ℕ) → length (joining word out i k) ≡ k
  unfolding joining
  joining_length out i zero = refl
  joining_length out i (suc k) = ap suc (joining_length out (suc i) k)

  -- they are known by what the places hold
  joining_same : (out out' : List ℕ) (i k : ℕ) → ((j : ℕ) → j < i + k → get_or {A = ℕ} out' j 0 ≡ get_or out j 0) → joining word out' i k ≡ joining word out i k
  unfolding joining
  joining_same out out' i zero h = refl
  joining_same out out' i (suc k) h =
      ap₂ ◌∷◌ (ap (union (word i)) (h i (omega arith))) (joining_same out out' (suc i) k (λ j l. h j (omega arith)))

  -- the first k places, and the others
  joining_split : (out : List ℕ) (i k n : ℕ) → joining word out i (k + n) ≡ joining word out i k ++ joining word out (i + k) n
  unfolding joining
  joining_split out i zero n =
      let none : 0 + n ≡ n = omega arith in
      let here : i + 0 ≡ i = omega arith in
      rw (none, here)
  joining_split out i (suc k) n =
      let more : suc k + n ≡ suc (k + n) = omega arith in
      let there : i + suc k ≡ suc i + k = omega arith in
      rw (more, there) (ap (λ rest. union (word i) (get_or out i 0) ∷ rest) (joining_split out (suc i) k n))

-- ---- an output, from the last place to the first

-- the words from place i to place n are joined to an output: as it was, and as it is
pub record Joined (word : ℕ → ℕ) (n i : ℕ) (out l : List ℕ) : Type 0 where
  pub same_long : length l ≡ length out
  pub joined : l ≡ sets out i (joining word out i (n - i))

-- the length follows
made : {word : ℕ → ℕ} {n i : ℕ} {out l : List ℕ} → l ≡ sets out i (joining word out i (n - i)) → Joined word n i out l
made {word} {n} {i} {out} {l} e = record { same_long = ap length e ∙ length-sets out i (joining word out i (n - i)); joined = e }

-- before the first
pub joined_none : {word : ℕ → ℕ} {out : List ℕ} (n : ℕ) → Joined word n n out out
unfolding joining
joined_none {word} {out} n =
    let none : n - n ≡ 0 = omega arith in
    made (sym (ap (λ (k : ℕ). sets out n (joining word out n k)) none))

module _ {word : ℕ → ℕ} {n i : ℕ} {out l : List ℕ} (g : Joined word n i out l) where
  -- one place more, the one at j
  pub joined_on : (j x : ℕ) → i ≡ suc j → i ≤ n → x ≡ union (word j) (get_or l j 0) → Joined word n j out (set l j x)
  unfolding joining
  joined_on j x e h at =
      let more : n - j ≡ suc (n - i) = omega arith in
      let vs = joining word out i (n - i) in
      let y = union (word j) (get_or out j 0) in
      let held = ap (λ (k : List ℕ). get_or k j 0) g.joined ∙ read_before vs out i j (omega arith) in
      made (ap₂ (λ (k : List ℕ) (z : ℕ). set k j z) g.joined (at ∙ ap (union (word j)) held) ∙ store_before vs out i j y (omega arith)
      ∙ ap (λ (k : ℕ). sets (set out j y) k (joining word out k (n - i))) e ∙ sym (ap (λ (k : ℕ). sets out j (joining word out j k)) more))

  -- a block of places more, from place f on
  pub joined_block : (k : List ℕ) (f : ℕ) → f ≤ i → i ≤ n → k ≡ sets l f (joining word l f (i - f)) → Joined word n f out k
  joined_block k f h m at =
      let vs = joining word out i (n - i) in
      let us = joining word out f (i - f) in
      let same = joining_same word out l f (i - f) (λ j u. ap (λ (x : List ℕ). get_or x j 0) g.joined ∙ read_before vs out i j (omega arith)) in
      let whole : i - f + (n - i) ≡ n - f = omega arith in
      let next : f + (i - f) ≡ i = omega arith in
      let split : joining word out f (n - f) ≡ us ++ vs =
      ap (joining word out f) (sym whole) ∙ joining_split word out f (i - f) (n - i) ∙ ap (λ (x : ℕ). us ++ joining word out x (n - i)) next in
      made (at ∙ ap₂ (λ (x y : List ℕ). sets x f y) g.joined same ∙ two_runs us vs out f i (omega (arith, joining_length word out f (i - f)))
      ∙ ap (sets out f) (sym split))

  -- all places from the first on
  pub joined_all_lem : i ≡ 0 → l ≡ sets out 0 (joining word out 0 n)
  joined_all_lem e =
      let many : n - 0 ≡ n = omega arith in
      g.joined ∙ ap (λ (k : ℕ). sets out k (joining word out k (n - k))) e ∙ ap (λ (k : ℕ). sets out 0 (joining word out 0 k)) many

-- ---- for callers

-- words joined to the places from i on
joining_from : (word : ℕ → ℕ) (words out : List ℕ) (i : ℕ) → i + length words ≤ length out → ((j : ℕ) → j < length words → word (i + j) ≡ get_or words j 0)
    → joining word out i (length words) ≡ joined words (take (length words) (drop i out))
unfolding joining joined
joining_from word [] out i room same = refl
joining_from word (w ∷ words) out i room same =
    let here : i + 0 ≡ i = omega arith in
    ap₂ ◌∷◌ (ap (λ (x : ℕ). union x (get_or out i 0)) (rw here at (same 0 (omega arith))))
    (joining_from word words out (suc i) (omega arith) (λ j h. rw (there j) at (same (suc j) (omega arith))))
    ∙ ap (λ l. joined (w ∷ words) (take (suc (length words)) l)) (sym (drop-cons out i 0 (omega arith)))
  where
    there : (j : ℕ) → i + suc j ≡ suc i + j
    there j = omega arith

-- n words joined to the first n places, as lists
pub joined_words : (word : ℕ → ℕ) (words out : List ℕ) (n : ℕ) → length words ≡ n → n ≤ length out → ((i : ℕ) → i < n → word i ≡ get_or words i 0)
    → joining word out 0 n ≡ joined words (take n out)
joined_words word words out n long room same =
    ap (joining word out 0) (sym long)
    ∙ joining_from word words out 0 (omega arith) (λ j h. rw (first j) (same j (omega arith)))
    ∙ ap (λ (k : ℕ). joined words (take k out)) long
  where
    first : (j : ℕ) → 0 + j ≡ j
    first j = omega arith
