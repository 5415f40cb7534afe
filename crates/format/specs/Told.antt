-- What the results of the code tell: the number and place of a refusal, or the value.
use Rattle.std.specs.Prelude.{ℕ, Result, Ok, Err}
use Rattle.format.specs.declared.Cause.{Cause}
use Rattle.format.specs.declared.Cause.TheVariants.{Length, Form, Header, RecordNumber, Loop, UpperSet, NoSet, ShortOutput, Bound, PlanLength, Limits, NoRoom, ChamberSizes, ReservedBytes, OtherChambers}
use Rattle.format.specs.declared.Refusal.{Refusal}
use Rattle.format.specs.Answer.{Answer, Refused, Given}

-- the number of a cause in the refusal table
abbrev pub number_of : Cause → ℕ
number_of Length = 1
number_of Form = 2
number_of Header = 3
number_of RecordNumber = 4
number_of Loop = 5
number_of UpperSet = 6
number_of NoSet = 7
number_of ShortOutput = 8
number_of Bound = 9
number_of PlanLength = 10
number_of Limits = 11
number_of NoRoom = 12
number_of ChamberSizes = 13
number_of ReservedBytes = 14
number_of OtherChambers = 15

-- what a result tells
abbrev pub told : {A : Type 0} → Result A Refusal → Answer A
told (Ok x) = Given x
told (Err r) = Refused (number_of r.cause) r.place

-- the same, of a part of the value
abbrev pub told_of : {A B : Type 0} → (A → B) → Result A Refusal → Answer B
told_of f (Ok x) = Given (f x)
told_of f (Err r) = Refused (number_of r.cause) r.place
