-- What the reader's entry has of a file that is accepted, as the functions yield it.
-- Assumes nothing.
use Rattle.std.specs.Prelude.{length}
use Rattle.notation.specs.Lists.{padded}
use Rattle.timing.specs.Accepted.{Accepted}
use Rattle.timing_acceptance.specs.declared.entries.TimedFile.{TimedFile}

-- an accepted file's table, its response times in an array and how many jobs it has
unfoldable pub timed_file : Accepted → TimedFile
timed_file a = record { table = a.table; responses = padded 8 0 a.responses; jobs = length a.jobs }
