-- `editions::convert` meets its contract: the reader's refusal, or what is made of the sheet that was read.
use Rattle.std.proofs.Common.{sym, ap, ◌∙◌, ℕ, List, length}
use Rattle.promises.specs.Convert.{convert_answer, warm_convert}
use Rattle.promises.specs.Common.{wrote}
use Rattle.promises.specs.Replies.{bytes_reply}
use Rattle.promises.proofs.Converts.{convert_unread}
use Rattle.format.proofs.Told.{err_exit}
use Rattle.editions.proofs.convert.Goals as goal

pub returns-in_err-read : goal.returns-in_err-read
unfolding warm_convert wrote
returns-in_err-read c =
    let a = c.args in
    let out = a.out.now in
    ap (λ r. (bytes_reply r, out)) (err_exit c.from_residual.result c.in_err-read.field-0.0 c.from_residual.ensures.1)
    ∙ ap (wrote out) (convert_unread a.first a.bytes.now (length out) (sym c.in_err-read.ensures.value))

pub returns : goal.returns
unfolding warm_convert
returns c =
    let out = c.args.out.now in
    c.convert_read.ensures ∙ ap (λ (s : List ℕ). wrote out (convert_answer c.args.first s (length out))) c.in_ok-read.ensures.same_bytes
