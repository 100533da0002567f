-- What the reader's entry and the job list's entry answer, and what the lent list then holds, for every input.
-- Document 01, "Numbers by who causes them": "A refusal returns its number and place, every other field zero."
-- Assumes nothing.
use Rattle.std.specs.Prelude.{ℕ, List, [], ◌++◌, length, drop, leb}
use Rattle.notation.specs.Checked.{Checked, refused, passed, require, ◌>>=◌, ◌>>◌}
use Rattle.notation.specs.Lists.{padded}
use Rattle.taskfile.specs.Records.{File}
use Rattle.timing.specs.declared.JobRecord.{JobRecord}
use Rattle.timing.specs.declared.ListAnswer.{ListAnswer}
use Rattle.timing.specs.declared.ReadAnswer.{ReadAnswer}
use Rattle.timing.specs.Accepted.{Accepted, accept, most_jobs}

-- "the reader its response times (0 past the last task) and job count"
unfoldable pub read_answer_of : Checked ℕ Accepted → ReadAnswer
read_answer_of (refused number place) = record { number = number; place = place; responses = padded 8 0 []; jobs = 0 }
read_answer_of (passed a) =
    record { number = 0; place = 0; responses = padded 8 0 a.responses; jobs = length a.jobs }

unfoldable pub read_answer : File → ReadAnswer
read_answer f = read_answer_of (accept f)

-- "20 ROOM: .. job list below 32; place 0, buffer untouched."
unfoldable pub listed : File → List JobRecord → Checked ℕ (List JobRecord)
listed f list = do
  a ← accept f
  require (leb most_jobs (length list)) 20 0
  passed a.jobs

unfoldable pub list_answer_of : Checked ℕ (List JobRecord) → ListAnswer
list_answer_of (refused number place) = record { number = number; place = place; jobs = 0 }
list_answer_of (passed jobs) = record { number = 0; place = 0; jobs = length jobs }

-- "The job list goes into a lent list, one record a job .. Records past the last job keep their contents."
unfoldable pub list_after_of : Checked ℕ (List JobRecord) → List JobRecord → List JobRecord
list_after_of (refused number place) list = list
list_after_of (passed jobs) list = jobs ++ drop (length jobs) list

unfoldable pub list_answer : File → List JobRecord → ListAnswer
list_answer f list = list_answer_of (listed f list)

unfoldable pub list_after : File → List JobRecord → List JobRecord
list_after f list = list_after_of (listed f list) list
