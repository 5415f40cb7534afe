-- What the stages of the reader say: the header, the chain, and the whole sheet.
use Rattle.std.specs.Prelude.{ℕ, List, [], ◌++◌, length}
use Rattle.format.specs.declared.Header.{Header}
use Rattle.format.specs.declared.Summary.{Summary}
use Rattle.format.specs.Answer.{Answer, Given, unless}
use Rattle.format.specs.Chain.{chain_of, link_causes}
use Rattle.format.specs.Format.{header}
use Rattle.format.specs.Reading.{form_causes, header_causes, open_causes, read_causes, steps_of}

-- refusals 1 to 3 and 13, or the numbers of the header
abbrev pub header_read : List ℕ → Answer Header
header_read s = unless (form_causes s ++ header_causes s) (Given (header s))

-- refusals 4 and 5 of the chain of r records, or how many are on it
abbrev pub chain_read : List ℕ → ℕ → Answer ℕ
chain_read s r = unless (link_causes r [] 0 (chain_of s r)) (Given (length (chain_of s r)))

-- the header and the number of steps
abbrev pub summary_of : List ℕ → Summary
summary_of s = record { header = header s; steps = length (steps_of s) }

-- refusals 1 to 5 and 13, or the summary
abbrev pub open_read : List ℕ → Answer Summary
open_read s = unless (open_causes s) (Given (summary_of s))

-- refusals 1 to 7, 13 and 14, or the summary
abbrev pub summary_read : List ℕ → Answer Summary
summary_read s = unless (read_causes s) (Given (summary_of s))
