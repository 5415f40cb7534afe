-- `warm_steps`: refusals 1 to 8, 13 and 14, or the steps of the sheet.
use Rattle.std.specs.Prelude.{ℕ, List, [], ◌∷◌, ◌++◌, length}
use Rattle.format.specs.declared.ChamberStep.{ChamberStep}
use Rattle.format.specs.Answer.{Answer, Refused, Given, Cause, unless}
use Rattle.format.specs.Reading.{read_causes, Campaign, campaign_of}
use Rattle.promises.specs.declared.StepsReply.{StepsReply}
use Rattle.promises.specs.Common.{places_causes, written}

-- refusals 1 to 8, 13 and 14, where the list has that many places
unfoldable pub steps_refusals : List ℕ → ℕ → List Cause
steps_refusals s places = read_causes s ++ places_causes s places

-- one of these refusals, or the campaign
abbrev pub steps_answer : List ℕ → ℕ → Answer Campaign
steps_answer s places = unless (steps_refusals s places) (Given (campaign_of s))

unfoldable pub steps_reply : Answer Campaign → StepsReply
steps_reply (Refused n p) = record { refusal = n; place = p; units = 0; steps = 0; bound = 0; reserved = 0; start = 0; chambers = 0 ∷ 0 ∷ 0 ∷ 0 ∷ [] }
steps_reply (Given c) =
    record { refusal = 0; place = 0; units = c.units; steps = length c.steps; bound = c.bound; reserved = 0; start = c.start; chambers = c.chambers }

-- what the list holds afterwards: the steps in its first places, or all as it was
unfoldable pub steps_written : Answer Campaign → List ChamberStep → List ChamberStep
steps_written (Refused n p) out = out
steps_written (Given c) out = written c.steps out

-- the reply, and what the list holds afterwards
unfoldable pub warm_steps : List ℕ → List ChamberStep → StepsReply × List ChamberStep
warm_steps s out = (steps_reply (steps_answer s (length out)), steps_written (steps_answer s (length out)) out)
