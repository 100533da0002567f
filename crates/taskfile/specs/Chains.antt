-- The walk of records, with numbers 2 to 6. Document 01, "Numbers by who causes them":
-- "the walk of records: header, each task followed by its body, then locks. On following an index: 3, 5, 2, 4. Then 6".
-- It yields the chains: which records were reached, and as what.
-- Assumes nothing.
use Rattle.std.specs.Prelude.{ℕ, zero, suc, Bool, not, ◌&&◌, List, [], ◌∷◌, ◌++◌, ltb, eqb}
use Rattle.taskfile.specs.declared.Kind.{Kind}
use Rattle.taskfile.specs.declared.Kind.TheVariants.{Header, TaskRecord, LockRecord, InstructionRecord}
use Rattle.notation.specs.Checked.{Checked, passed, require, none_of, ◌>>=◌, ◌>>◌}
use Rattle.notation.specs.Lists.{up_to, member, each}
use Rattle.taskfile.specs.Records.{File, kind_number, records, byte_at, next, tidy, in_range}

-- "1 to 8 tasks, 0 to 8 locks, 1 to 16 instructions in a body"
abbrev pub most_tasks : ℕ
most_tasks = 8

abbrev pub most_locks : ℕ
most_locks = 8

abbrev pub most_instructions : ℕ
most_instructions = 16

-- 2 and 4 at a record: "wrong kind for its chain"; "a value out of range .. or an unused byte not zero"
unfoldable pub record_of : Kind → File → ℕ → Checked ℕ (Unit {0})
record_of kind f r = do
  require (eqb (byte_at f r 0) (kind_number kind)) 2 r
  require (tidy f r kind && in_range f r kind) 4 r

-- Following an index that `holder` holds, where `allowed` more records of this kind may come and `again` says whether
-- the record was reached already. "3 CHAIN: an index outside the file or to a record already reached; place is the
-- record holding it." "5 COUNT: a task, lock or instruction too many (place: that record)".
unfoldable pub follow : Kind → ℕ → File → Bool → ℕ → ℕ → Checked ℕ (Unit {0})
follow kind allowed f again holder index = do
  require (ltb index (records f) && not again) 3 holder
  require (ltb 0 allowed) 5 index
  record_of kind f index

-- From an index that `holder` holds: "zero ends the chain"; any other index is followed, and `rest` goes on from the
-- record that it leads to.
abbrev pub following : {A : Type 0}
    → Kind → ℕ → File → List ℕ → ℕ → ℕ → (ℕ → Checked ℕ (List A)) → Checked ℕ (List A)
following kind allowed f reached holder zero rest = passed []
following kind allowed f reached holder (suc i) rest = do
  follow kind allowed f (member (suc i) reached) holder (suc i)
  rest (suc i)

-- A chain of records of one kind, as a body or the locks: where `allowed` is 0, `follow` lets no record in.
unfoldable pub chain : Kind → ℕ → File → List ℕ → ℕ → ℕ → Checked ℕ (List ℕ)
chain kind zero f reached holder index = following kind 0 f reached holder index (λ r. passed [])
chain kind (suc allowed) f reached holder index =
    following kind (suc allowed) f reached holder index (λ r. do
      others ← chain kind allowed f (r ∷ reached) r (next f r)
      passed (r ∷ others))

-- a task's record and the records of its body
pub record TaskChain : Type 0 where
  pub task_record : ℕ
  pub body : List ℕ

unfoldable pub records_of : List TaskChain → List ℕ
records_of tasks = each tasks (λ t. t.task_record ∷ t.body)

-- "an empty body (place: the holder)"; else the body's chain
unfoldable pub body_chain : File → List ℕ → ℕ → Checked ℕ (List ℕ)
body_chain f reached holder = do
  require (not (eqb (byte_at f holder 2) 0)) 5 holder
  chain InstructionRecord most_instructions f reached holder (byte_at f holder 2)

-- The tasks' chain, "each task followed by its body".
unfoldable pub task_chains : ℕ → File → List ℕ → ℕ → ℕ → Checked ℕ (List TaskChain)
task_chains zero f reached holder index = following TaskRecord 0 f reached holder index (λ r. passed [])
task_chains (suc allowed) f reached holder index =
    following TaskRecord (suc allowed) f reached holder index (λ r. do
      body ← body_chain f (r ∷ reached) r
      others ← task_chains allowed f (r ∷ body ++ reached) r (next f r)
      passed (record { task_record = r; body = body } ∷ others))

-- the records reached: tasks with their bodies, and locks
pub record Chains : Type 0 where
  pub tasks : List TaskChain
  pub locks : List ℕ

unfoldable pub reached_by : Chains → List ℕ
reached_by c = 0 ∷ records_of c.tasks ++ c.locks

-- "6 STRAY: lowest record never reached."
unfoldable pub no_stray : File → Chains → Checked ℕ (Unit {0})
no_stray f c = none_of 6 (λ r. not (member r (reached_by c))) (up_to (records f))

-- "header, each task followed by its body, then locks"; "no tasks .. (place: the holder)"
unfoldable pub chains_of : File → Checked ℕ Chains
chains_of f = do
  record_of Header f 0
  require (not (eqb (byte_at f 0 2) 0)) 5 0
  tasks ← task_chains most_tasks f (0 ∷ []) 0 (byte_at f 0 2)
  locks ← chain LockRecord most_locks f (0 ∷ records_of tasks) 0 (byte_at f 0 3)
  no_stray f (record { tasks = tasks; locks = locks })
  passed (record { tasks = tasks; locks = locks })
