-- `backward::Later::ended` meets its contract: each row is what the array is filled with.
use mathlib.Core.Path.{refl}
use Prim.Native.Nat.{ℕ}
use lib.ListN.{get_or-replicate}
use Rattle.units.specs.Sets.{all}
use Rattle.tables.specs.Tables.{row_count, ended}
use Rattle.backward.proofs.Later.ended.Goals as goal

pub returns : goal.returns
unfolding ended
returns c =
    record {
      saves = refl;
      dispensable = refl;
      even = λ b h u. get_or-replicate {A = ℕ} row_count b all 0 h;
      gain = λ b h u. get_or-replicate {A = ℕ} row_count b 0 0 h;
    }
