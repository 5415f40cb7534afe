-- `words::clear` meets its contract.
use mathlib.Core.Path.{ap, ◌∙◌}
use Prim.Native.Nat.{ℕ}
use lib.ListN.{replicate, length-replicate, drop}
use lib.Seq.{length-take-le}
use mathlib.Core.List.{◌++◌}
use Rattle.plans.proofs.Laid.{sets_placed}
use Rattle.words.proofs.clear.Goals as goal

pub returns : goal.returns
returns c =
    let out = c.args.out.now in
    let n = c.args.n in
    ap (λ words. words ++ drop n out)
    (c.fill.ensures.after (λ y e. e) ∙ ap (λ (k : ℕ). replicate k 0) (length-take-le n out c.requires))
    ∙ sets_placed (replicate n 0) out n (length-replicate n 0) c.requires
