-- `judging::verdict::judge` meets its contract.
use Rattle.std.proofs.Common.{◌≡◌, ℕ, Bool, true, false, cond, ◌&&◌, leb, sym, ap, ap₂, ◌∙◌}
use Rattle.promises.proofs.Read.{bound_is}
use Rattle.promises.specs.Common.{full_reply}
use Rattle.promises.specs.Verdict.{accepts}
use Rattle.judging.proofs.verdict.judge.Goals as goal

verdict : {f g : Bool} {m n b d : ℕ} → f ≡ g → m ≡ n → b ≡ d → ◌≡◌ {A = ℕ} (cond (f && leb m b) 1 0) (cond (g && leb n d) 1 0)
verdict p q r = rw (p, q, r)

pub returns-then-found : goal.returns-then-found
unfolding accepts
returns-then-found c =
    let found = c.check_read-found.ensures in
    ap₂ full_reply found.total_value
    (verdict {f = true} (sym c.if-found.true ∙ found.feasible_value) found.total_value (bound_is c.args.sheet.bytes.now c.args.sheet.passed))

pub returns-else-found : goal.returns-else-found
unfolding accepts
returns-else-found c =
    let found = c.check_read-found.ensures in
    ap₂ full_reply found.total_value
    (ap (λ (t : Bool). cond t 1 0) c.if-found.false
    ∙ verdict {f = false} (sym c.if-found.false ∙ found.feasible_value) found.total_value (bound_is c.args.sheet.bytes.now c.args.sheet.passed))
