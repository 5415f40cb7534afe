-- A text that a loop puts line by line. `Putting`: what was put since `before`, with what is left of it, makes up the
-- whole.
use Rattle.std.proofs.Common.{◌≡◌, refl, sym, ap, ◌∙◌, ℕ, ◌+◌, ◌≤◌, List, [], ◌++◌, length, append_assoc, append-nil, length-append, arith}
use Rattle.listing.specs.declared.text.Text.{Text}
use Rattle.listing.specs.Puts.{Puts}
use Rattle.listing.proofs.Texts.{puts_then, puts_none, puts_as}

pub record Putting (whole left : List ℕ) (before after : Text) (most : ℕ) : Type 0 where
  pub text : List ℕ
  pub puts : Puts text before after
  pub completes : text ++ left ≡ whole
  pub room : length text ≤ most

pub none_put : (whole : List ℕ) (before : Text) → before.len ≤ length before.out.now → Putting whole whole before before 0
none_put whole before h = record { text = []; puts = puts_none h; completes = refl; room = omega arith }

module _ {whole left : List ℕ} {before after : Text} {most : ℕ} (g : Putting whole left before after most) where
  -- one line more
  pub line_put : {line rest : List ℕ} {next : Text} {width most' : ℕ} → left ≡ line ++ rest → length line ≤ width → most + width ≤ most'
      → Puts line after next → Putting whole rest before next most'
  line_put {line} {rest} e short h p =
      record {
        text = g.text ++ line;
        puts = puts_then g.puts p;
        completes = append_assoc g.text line rest ∙ ap (λ l. g.text ++ l) (sym e) ∙ g.completes;
        room = omega (arith, g.room, length-append g.text line);
      }

  -- where nothing is left, the whole was put
  pub all_put : left ≡ [] → Puts whole before after
  all_put e = puts_as (sym (append-nil g.text) ∙ ap (λ l. g.text ++ l) (sym e) ∙ g.completes) g.puts
