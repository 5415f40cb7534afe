-- What a result is where a `?` ends the function, and what it tells: the refusal that came.
use Rattle.std.proofs.Common.{◌≡◌, Result, Err, ap, ◌∙◌}
use Rattle.std.specs.Result.{IsErrAnd}
use Rattle.std.proofs.lemmas.Result.{err_from_is_err_and}
use Rattle.format.specs.declared.Refusal.{Refusal}
use Rattle.format.specs.Answer.{Refused}
use Rattle.format.specs.Told.{number_of, told, told_of}

module _ {A : Type 0} (r : Result A Refusal) (e : Refusal) (ends : IsErrAnd r (λ x. x ≡ e)) where
  pub err_exit : r ≡ Err e
  err_exit = let p = err_from_is_err_and r ends in p.1 ∙ ap Err p.2

  pub told_exit : told r ≡ Refused (number_of e.cause) e.place
  told_exit = ap told err_exit

  pub told_of_exit : {B : Type 0} (f : A → B) → told_of f r ≡ Refused (number_of e.cause) e.place
  told_of_exit f = ap (told_of f) err_exit
