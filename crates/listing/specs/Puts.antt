-- How a text is put into an output, after what stands there.
use Rattle.std.specs.Prelude.{◌≡◌, List, ℕ, ◌+◌, ◌≤◌, length}
use Rattle.std.proofs.lemmas.List.Edits.{sets}
use Rattle.listing.specs.declared.text.Text.{Text}

-- so many bytes more have room
abbrev pub HasRoom : Text → ℕ → Type 0
HasRoom x n = x.len + n ≤ length x.out.now

-- The bytes stand in the output after what stood there, all other places are as they were, and the text is longer by
-- so many bytes, which lie within the same output.
pub record Puts (bytes : List ℕ) (before after : Text) : Type 0 where
  pub stored : after.out.now ≡ sets before.out.now before.len bytes
  pub ended : after.len ≡ before.len + length bytes
  pub within : after.len ≤ length before.out.now
  pub same_output : after.out.ghost_name ≡ before.out.ghost_name
