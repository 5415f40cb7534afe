-- A listing lies within the output, so that it can be lent as a part of it.
use mathlib.Core.Path.{◌≡◌, sym, ap}
use mathlib.Core.List.{List}
use Prim.Native.Nat.{ℕ, ◌≤◌}
use native.Mathlib.Omega.{arith}
use lib.ListN.{length, length-append, take, drop}
use lib.Seq.{length-take-le}
use Rattle.promises.specs.Common.{written}
use Rattle.promises.specs.Listing.{listing, sizes_listing, printed, list_plan, list_sizes}

text_within : (text out : List ℕ) {r : ℕ} {after : List ℕ} → ◌≡◌ {A = ℕ × List ℕ} (r, after) (printed text out) → (r ≤ length after) × (r ≡ length (take r after))
text_within text out {r} {after} h =
    let count : r ≡ length text = ap (λ (y : ℕ × List ℕ). y.0) h in
    let stands : after ≡ written text out = ap (λ (y : ℕ × List ℕ). y.1) h in
    let within : r ≤ length after = omega (arith, ap length stands, length-append text (drop (length text) out)) in
    (within, sym (length-take-le r after within))

pub listing_within : (s out : List ℕ) {r : ℕ} {after : List ℕ} → ◌≡◌ {A = ℕ × List ℕ} (r, after) (list_plan s out) → (r ≤ length after) × (r ≡ length (take r after))
listing_within s out h = text_within (listing s) out h

pub sizes_within : (s out : List ℕ) {r : ℕ} {after : List ℕ} → ◌≡◌ {A = ℕ × List ℕ} (r, after) (list_sizes s out) → (r ≤ length after) × (r ≡ length (take r after))
sizes_within s out h = text_within (sizes_listing s) out h
