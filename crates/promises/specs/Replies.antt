-- How the results of the code are replied: the value, or the number and place of the refusal.
use Rattle.std.specs.Prelude.{ℕ, cond, [], ◌∷◌, Result, Ok, Err}
use Rattle.format.specs.declared.Refusal.{Refusal}
use Rattle.format.specs.declared.Summary.{Summary}
use Rattle.format.specs.Format.{sizes_list}
use Rattle.format.specs.Told.{number_of}
use Rattle.promises.specs.declared.Reply.{Reply}
use Rattle.promises.specs.declared.StepsReply.{StepsReply}
use Rattle.promises.specs.declared.Verdict.{Verdict}
use Rattle.promises.specs.declared.Written.{Written}
use Rattle.promises.specs.Common.{refused_reply, full_reply, refused_written, full_written}

-- the numbers of a sheet
abbrev pub summary_reply : Result Summary Refusal → StepsReply
summary_reply (Ok x) =
    record {
      refusal = 0;
      place = 0;
      units = x.header.units;
      steps = x.steps;
      bound = x.header.bound;
      reserved = 0;
      start = x.header.start;
      chambers = sizes_list x.header.sizes;
    }
summary_reply (Err r) =
    record { refusal = number_of r.cause; place = r.place; units = 0; steps = 0; bound = 0; reserved = 0; start = 0; chambers = 0 ∷ 0 ∷ 0 ∷ 0 ∷ [] }

-- a verdict on a plan
abbrev pub verdict_reply : Result Verdict Refusal → Reply
verdict_reply (Ok v) = full_reply v.total (cond v.accepted 1 0)
verdict_reply (Err r) = refused_reply (number_of r.cause) r.place

-- the total of a plan that was made
abbrev pub plan_reply : Result ℕ Refusal → Reply
plan_reply (Ok total) = full_reply total 0
plan_reply (Err r) = refused_reply (number_of r.cause) r.place

-- how many bytes were written
abbrev pub bytes_reply : Result ℕ Refusal → Written
bytes_reply (Ok long) = full_written long
bytes_reply (Err r) = refused_written (number_of r.cause) r.place
