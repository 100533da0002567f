-- What every entry has of a file that is accepted, as the functions yield it.
-- Assumes nothing.
use Rattle.std.specs.Prelude.{◌≡◌}
use Rattle.notation.specs.Lists.{padded}
use Rattle.timing.specs.declared.AcceptedFile.{AcceptedFile}
use Rattle.timing.specs.Accepted.{Accepted}
use Rattle.timing.specs.Code.JobParts.{job_list_of}

-- an accepted file's table, response times and jobs, in arrays
unfoldable pub accepted_file : Accepted → AcceptedFile
accepted_file a = record { table = a.table; responses = padded 8 0 a.responses; list = job_list_of a.jobs }

-- the same, part by part
pub record AcceptedParts (x : AcceptedFile) (a : Accepted) : Type 0 where
  pub table : x.table ≡ a.table
  pub responses : x.responses ≡ padded 8 0 a.responses
  pub list : x.list ≡ job_list_of a.jobs
