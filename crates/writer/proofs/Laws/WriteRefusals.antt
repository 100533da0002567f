-- Each number that a table earns is at least 1, so number 0 says that it was written.
-- Assumes nothing.
use Rattle.std.specs.Prelude.{ℕ, suc, List, [], ◌∷◌, leb}
use Rattle.std.proofs.Common.{arith}
use Rattle.notation.specs.Laws.NumberedLaws.{Numbered, none_asked, bind_numbered, then_numbered, require_numbered}
use Rattle.notation.specs.Laws.NumberedLaws.{given_numbered, none_of_numbered, placed_numbered}
use Rattle.taskfile.specs.declared.Instruction.{Instruction}
use Rattle.taskfile.specs.declared.Table.{Table}
use Rattle.taskfile.specs.declared.Task.{Task}
use Rattle.taskfile.specs.declared.TaskEntry.{TaskEntry}
use Rattle.taskfile.specs.Judgement.{task_numbers, judged}
use Rattle.timing.specs.Accepted.{responses_of, timed}
use Rattle.timing.specs.Jobs.{job_count}
use Rattle.timing.specs.Response.{response_of}
use Rattle.writer.specs.declared.Lock.{Lock}
use Rattle.writer.specs.Claims.{claimed_tasks, claimed_body, claimed_locks}
use Rattle.writer.specs.Sites.{index_of}
use Rattle.writer.specs.Covered.{covered}
use Rattle.writer.specs.Fields.{body_fields, task_fields, lock_fields, fields, judged_whole, accept_table}
use Rattle.writer.specs.WriteEntries.{written}

body_numbered : (i p : ℕ) (body : List Instruction) → Numbered (body_fields i p body)
unfolding body_fields
body_numbered i p [] = none_asked
body_numbered i p (here ∷ others) =
    then_numbered _ (require_numbered _ 5 _ (omega arith))
    (then_numbered _ (require_numbered _ 4 _ (omega arith)) (body_numbered i (suc p) others))

tasks_numbered : (i : ℕ) (tasks : List TaskEntry) → Numbered (task_fields i tasks)
unfolding task_fields
tasks_numbered i [] = none_asked
tasks_numbered i (e ∷ others) =
    then_numbered _ (require_numbered _ 5 _ (omega arith))
    (then_numbered _ (require_numbered _ 4 _ (omega arith))
    (then_numbered _ (require_numbered _ 5 _ (omega arith))
    (then_numbered _ (body_numbered i 0 (claimed_body e)) (tasks_numbered (suc i) others))))

locks_numbered : (l : ℕ) (locks : List Lock) → Numbered (lock_fields l locks)
unfolding lock_fields
locks_numbered l [] = none_asked
locks_numbered l (lock ∷ others) =
    then_numbered _ (require_numbered _ 5 _ (omega arith))
    (then_numbered _ (require_numbered _ 4 _ (omega arith)) (locks_numbered (suc l) others))

fields_numbered : (t : Table) → Numbered (fields t)
unfolding fields
fields_numbered t =
    then_numbered _ (require_numbered _ 4 _ (omega arith))
    (then_numbered _ (require_numbered _ 5 _ (omega arith))
    (then_numbered _ (tasks_numbered 0 (claimed_tasks t)) (locks_numbered 0 (claimed_locks t))))

judged_numbered : (t : Table) → Numbered (judged t)
unfolding judged
judged_numbered t =
    then_numbered _ (none_of_numbered 7 _ _ (omega arith))
    (then_numbered _ (none_of_numbered 8 _ _ (omega arith)) (none_of_numbered 9 _ _ (omega arith)))

responses_numbered : (t : Table) (tasks : List Task) → Numbered (responses_of t tasks)
unfolding responses_of
responses_numbered t [] = none_asked
responses_numbered t (i ∷ others) =
    bind_numbered _ (given_numbered (response_of t i) 10 _ (omega arith))
    (λ R. bind_numbered _ (responses_numbered t others) (λ Rs. none_asked))

timed_numbered : (t : Table) → Numbered (timed t)
unfolding timed
timed_numbered t =
    bind_numbered _ (responses_numbered t (task_numbers t))
    (λ responses. then_numbered _ (require_numbered (leb (job_count t) 32) 11 _ (omega arith)) none_asked)

pub table_numbered : (t : Table) → Numbered (accept_table t)
unfolding accept_table judged_whole
table_numbered t =
    placed_numbered (index_of t) (judged_whole t)
    (then_numbered _ (fields_numbered t) (then_numbered _ (judged_numbered (covered t)) (timed_numbered (covered t))))

pub written_numbered : (t : Table) (buffer : List ℕ) → Numbered (written t buffer)
unfolding written
written_numbered t buffer =
    then_numbered _ (table_numbered t) (then_numbered _ (require_numbered _ 20 0 (omega arith)) none_asked)
