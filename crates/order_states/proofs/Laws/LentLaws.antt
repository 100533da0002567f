-- The lent arrays, as they are filled: instruction by instruction, job by job. Filled from an accepted table's parts,
-- they hold that table.
-- Assumes nothing.
use Rattle.std.specs.Prelude.{◌≡◌, refl, List, length, set, replicate}
use Rattle.std.proofs.Common.{sym, subst, ◌∙◌, div-add-mod', mod-lt, length-set, get_or-set_same, get_or-set_other}
use Rattle.std.proofs.Math.Path.{ap}
use Prim.Native.Nat.{ℕ, zero, suc, ◌+◌, ◌*◌, ◌/◌, ◌%◌, ◌≤◌, ◌<◌}
use Rattle.std.proofs.Math.Decide.{ℕ_discrete}
use native.Mathlib.Omega.{arith}
use Rattle.std.proofs.Math.ListN.{get_or}
use Rattle.taskfile.specs.declared.Instruction.{Instruction}
use Rattle.taskfile.specs.declared.Table.{Table}
use Rattle.taskfile.specs.declared.Task.{Task}
use Rattle.taskfile.specs.declared.TaskEntry.{TaskEntry}
use Rattle.taskfile.specs.Judgement.{instruction_of}
use Rattle.taskfile.proofs.Laws.JudgingLaws.{body_length, body_at_lem, tasks_length}
use Rattle.taskfile.specs.Code.JudgingParts.{Shaped}
use Rattle.notation.specs.Laws.ListLaws.{get_or_any}
use Rattle.taskfile.specs.Tables.{tasks_of, task_of, body_of, ceilings_of, no_task, end_instruction}
use Rattle.timing.specs.declared.JobList.{JobList}
use Rattle.timing.specs.declared.JobRecord.{JobRecord}
use Rattle.timing.specs.Accepted.{Accepted}
use Rattle.timing.specs.Code.IsAccepted.{IsAccepted}
use Rattle.timing.proofs.Laws.JobListLaws.{record_listed}
use Rattle.timing.specs.Code.JobParts.{job_list_of}
use Rattle.timing.specs.Relations.{no_job, base}
use Rattle.timing.proofs.Laws.TimeableLaws.{task_read}
use Rattle.timing.proofs.Laws.JobFacts.{jobs_few}
use Rattle.order.proofs.Laws.LengthLaws.{body_short}
use Rattle.order_states.specs.Code.Shows.{LendsTimes}
use Rattle.order_states.specs.Code.SnapshotSteps.{owner_in, instruction_in, arrival_in, latest_in}
use Rattle.order_states.specs.Code.Lent.{BodiesTo, OwnersTo, TimesTo}

-- ---- one more

-- an instruction stored as number n: its operation, its fields a and b, and c
abbrev stored_first : List ℕ → ℕ → Instruction → List ℕ
stored_first program n o = set program (4 * n) o.operation

abbrev stored_second : List ℕ → ℕ → Instruction → List ℕ
stored_second program n o = set (stored_first program n o) (4 * n + 1) o.a

abbrev stored_third : List ℕ → ℕ → Instruction → List ℕ
stored_third program n o = set (stored_second program n o) (4 * n + 2) o.b

abbrev pub stored_at : List ℕ → ℕ → Instruction → List ℕ
stored_at program n o = set (stored_third program n o) (4 * n + 3) o.c

-- a place that is none of the four keeps its number
stored_off : (program : List ℕ) (n : ℕ) (o : Instruction) (k : ℕ) → (4 * n ≤ k → k ≤ 4 * n + 3 → ⊥)
    → get_or (stored_at program n o) k 0 ≡ get_or program k 0
stored_off program n o k off =
    get_or-set_other (stored_third program n o) (4 * n + 3) k o.c 0 (λ e. off (omega arith) (omega arith))
    ∙ get_or-set_other (stored_second program n o) (4 * n + 2) k o.b 0 (λ e. off (omega arith) (omega arith))
    ∙ get_or-set_other (stored_first program n o) (4 * n + 1) k o.a 0 (λ e. off (omega arith) (omega arith))
    ∙ get_or-set_other program (4 * n) k o.operation 0 (λ e. off (omega arith) (omega arith))

module _ (program : List ℕ) (n : ℕ) (o : Instruction) (room : length program ≡ 544) (few : n < 128) where
  stored_length : length (stored_at program n o) ≡ 544
  stored_length = length-set (stored_third program n o) (4 * n + 3) o.c ∙ length-set (stored_second program n o) (4 * n + 2) o.b
      ∙ length-set (stored_first program n o) (4 * n + 1) o.a ∙ length-set program (4 * n) o.operation ∙ room

  stored_operation : get_or (stored_at program n o) (4 * n) 0 ≡ o.operation
  stored_operation =
      get_or-set_other (stored_third program n o) (4 * n + 3) (4 * n) o.c 0 (λ e. omega arith)
      ∙ get_or-set_other (stored_second program n o) (4 * n + 2) (4 * n) o.b 0 (λ e. omega arith)
      ∙ get_or-set_other (stored_first program n o) (4 * n + 1) (4 * n) o.a 0 (λ e. omega arith)
      ∙ get_or-set_same program (4 * n) o.operation 0 (omega arith)

  stored_a : get_or (stored_at program n o) (4 * n + 1) 0 ≡ o.a
  stored_a =
      get_or-set_other (stored_third program n o) (4 * n + 3) (4 * n + 1) o.c 0 (λ e. omega arith)
      ∙ get_or-set_other (stored_second program n o) (4 * n + 2) (4 * n + 1) o.b 0 (λ e. omega arith)
      ∙ get_or-set_same (stored_first program n o) (4 * n + 1) o.a 0 (omega (arith, length-set program (4 * n) o.operation))

  stored_b : get_or (stored_at program n o) (4 * n + 2) 0 ≡ o.b
  stored_b =
      get_or-set_other (stored_third program n o) (4 * n + 3) (4 * n + 2) o.c 0 (λ e. omega arith)
      ∙ get_or-set_same (stored_second program n o) (4 * n + 2) o.b 0
      (omega (arith, length-set (stored_first program n o) (4 * n + 1) o.a, length-set program (4 * n) o.operation))

  stored_c : get_or (stored_at program n o) (4 * n + 3) 0 ≡ o.c
  stored_c =
      get_or-set_same (stored_third program n o) (4 * n + 3) o.c 0
      (omega (
        arith,
        length-set (stored_second program n o) (4 * n + 2) o.b,
        length-set (stored_first program n o) (4 * n + 1) o.a,
        length-set program (4 * n) o.operation,
      ))

  -- the instruction is there
  stored_here : (i p : ℕ) → 16 * i + p ≡ n → instruction_in (stored_at program n o) i p ≡ o
  unfolding instruction_in
  stored_here i p e =
      let at : 64 * i + 4 * p ≡ 4 * n = omega arith in
      let read : ℕ → ℕ = λ k. get_or (stored_at program n o) k 0 in
      let first : read (64 * i + 4 * p) ≡ o.operation = ap read at ∙ stored_operation in
      let second : read (64 * i + 4 * p + 1) ≡ o.a = ap (λ (k : ℕ). read (k + 1)) at ∙ stored_a in
      let third : read (64 * i + 4 * p + 2) ≡ o.b = ap (λ (k : ℕ). read (k + 2)) at ∙ stored_b in
      let fourth : read (64 * i + 4 * p + 3) ≡ o.c = ap (λ (k : ℕ). read (k + 3)) at ∙ stored_c in
      λ j. record { operation = first j; a = second j; b = third j; c = fourth j }

  -- and an earlier one stays
  stored_before : (i p : ℕ) → 16 * i + p < n → instruction_in (stored_at program n o) i p ≡ instruction_in program i p
  unfolding instruction_in
  stored_before i p lt =
      let off : (k : ℕ) → k < 4 * n → get_or (stored_at program n o) k 0 ≡ get_or program k 0 =
      λ k below. stored_off program n o k (λ least most. omega arith) in
      let first = off (64 * i + 4 * p) (omega arith) in
      let second = off (64 * i + 4 * p + 1) (omega arith) in
      let third = off (64 * i + 4 * p + 2) (omega arith) in
      let fourth = off (64 * i + 4 * p + 3) (omega arith) in
      λ j. record { operation = first j; a = second j; b = third j; c = fourth j }

pub bodies_more : {t : Table} {n : ℕ} {program : List ℕ} → BodiesTo t n program → n < 128 → {o : Instruction}
    → o ≡ get_or (get_or t.entries (n / 16) no_task).body (n % 16) end_instruction
    → BodiesTo t (n + 1) (stored_at program n o)
unfolding owner_in
bodies_more {t} {n} {program} bodies few {o} read =
    record {
      held = λ i p low lt.
          elim (ℕ_discrete (16 * i + p) n) [
            | yes here ↦
                let parts = div-add-mod' n 16 in
                let sixteen : ◌≤◌ 1 16 = omega arith in
                let rest : n % 16 < 16 = mod-lt n sixteen in
                let task : n / 16 ≡ i = omega arith in
                let place : n % 16 ≡ p = omega arith in
                stored_here program n o bodies.room few i p here ∙ read ∙ rw (task, place) refl
            | no other ↦ stored_before program n o bodies.room few i p (omega arith) ∙ bodies.held i p low (omega arith)
          ];
      unowned = λ x lt. stored_off program n o (512 + x) (λ least most. omega arith) ∙ bodies.unowned x lt;
      room = stored_length program n o bodies.room few;
    }

-- an instruction read from the arrays is the table's, whatever the defaults
pub instruction_read : {t : Table} → Shaped t → (n : ℕ) → n < 128 → (d : TaskEntry) (e : Instruction)
    → get_or (get_or t.entries (n / 16) d).body (n % 16) e ≡ get_or (get_or t.entries (n / 16) no_task).body (n % 16)
    end_instruction
instruction_read {t} shaped n few d e =
    let sixteen : ◌≤◌ 1 16 = omega arith in
    let task : n / 16 < 8 = omega (arith, div-add-mod' n 16) in
    let place : n % 16 < 16 = mod-lt n sixteen in
    let full = (shaped.bodies (n / 16) task).full in
    ap (λ (x : TaskEntry). get_or x.body (n % 16) e) (get_or_any t.entries (n / 16) d no_task (omega (arith, shaped.entries_full)))
    ∙ get_or_any (get_or t.entries (n / 16) no_task).body (n % 16) e end_instruction (omega arith)

-- after the last instruction all are stored
pub bodies_all : {t : Table} {n : ℕ} {program : List ℕ} → BodiesTo t n program → 16 * t.tasks ≤ n
    → BodiesTo t (16 * t.tasks) program
bodies_all bodies enough = record { held = λ i p low lt. bodies.held i p low (omega arith); unowned = bodies.unowned; room = bodies.room }

-- ---- the owners and the times

-- past the bodies, a store changes no instruction
past_bodies : (program : List ℕ) (x v i p : ℕ) → p < 16 → 16 * i + p < 128
    → instruction_in (set program (512 + x) v) i p ≡ instruction_in program i p
unfolding instruction_in
past_bodies program x v i p low lt =
    let off : (k : ℕ) → k < 512 → get_or (set program (512 + x) v) k 0 ≡ get_or program k 0 =
    λ k below. get_or-set_other program (512 + x) k v 0 (λ e. omega arith) in
    let first = off (64 * i + 4 * p) (omega arith) in
    let second = off (64 * i + 4 * p + 1) (omega arith) in
    let third = off (64 * i + 4 * p + 2) (omega arith) in
    let fourth = off (64 * i + 4 * p + 3) (omega arith) in
    λ j. record { operation = first j; a = second j; b = third j; c = fourth j }

pub owners_none : {t : Table} {program : List ℕ} (list : JobList) → BodiesTo t (16 * t.tasks) program
    → OwnersTo t list 0 program
owners_none list bodies =
    record { held = bodies.held; owned = λ x lt. absurd (omega arith); unowned = λ x le lt. bodies.unowned x lt; room = bodies.room }

pub owners_more : {t : Table} {list : JobList} {n : ℕ} {program : List ℕ} → OwnersTo t list n program
    → t.tasks ≤ 8 → n < 32 → {v : ℕ} → v ≡ (get_or list.jobs n no_job).task.0 → OwnersTo t list (n + 1) (set program (512 + n) v)
unfolding owner_in
owners_more {n = n} {program} owners eight few {v} read =
    record {
      held = λ i p low lt. past_bodies program n v i p low (omega arith) ∙ owners.held i p low lt;
      owned = λ x lt.
          elim (ℕ_discrete x n) [
            | yes here ↦
                ap (λ (k : ℕ). get_or (set program (512 + n) v) (512 + k) 0) here
                ∙ get_or-set_same program (512 + n) v 0 (omega (arith, owners.room)) ∙ read ∙ rw here refl
            | no other ↦ get_or-set_other program (512 + n) (512 + x) v 0 (λ e. omega arith) ∙ owners.owned x (omega arith)
          ];
      unowned = λ x le lt. get_or-set_other program (512 + n) (512 + x) v 0 (λ e. omega arith) ∙ owners.unowned x (omega arith) lt;
      room = length-set program (512 + n) v ∙ owners.room;
    }

pub times_none : (list : JobList) (times : List ℕ) → length times ≡ 64 → TimesTo list 0 times
times_none list times room = record { arrivals = λ x lt. absurd (omega arith); finishes = λ x lt. absurd (omega arith); room = room }

pub times_more : {list : JobList} {n : ℕ} {times : List ℕ} → TimesTo list n times → n < 32 → {v w : ℕ}
    → v ≡ (get_or list.jobs n no_job).arrival → w ≡ (get_or list.jobs n no_job).latest
    → TimesTo list (n + 1) (set (set times n v) (32 + n) w)
unfolding arrival_in latest_in
times_more {list} {n} {times} held few {v} {w} first second =
    record {
      arrivals = λ x lt.
          get_or-set_other (set times n v) (32 + n) x w 0 (λ e. omega arith)
          ∙ elim (ℕ_discrete x n) [
            | yes here ↦
                ap (λ (k : ℕ). get_or (set times n v) k 0) here ∙ get_or-set_same times n v 0 (omega (arith, held.room)) ∙ first ∙ rw here refl
            | no other ↦ get_or-set_other times n x v 0 other ∙ held.arrivals x (omega arith)
          ];
      finishes = λ x lt.
          elim (ℕ_discrete x n) [
            | yes here ↦
                ap (λ (k : ℕ). get_or (set (set times n v) (32 + n) w) (32 + k) 0) here
                ∙ get_or-set_same (set times n v) (32 + n) w 0 (omega (arith, held.room, length-set times n v)) ∙ second ∙ rw here refl
            | no other ↦
                get_or-set_other (set times n v) (32 + n) (32 + x) w 0 (λ e. omega arith)
                ∙ get_or-set_other times n (32 + x) v 0 (λ e. omega arith) ∙ held.finishes x (omega arith)
          ];
      room = length-set (set times n v) (32 + n) w ∙ length-set times n v ∙ held.room;
    }

-- after the last job all are stored
pub times_all : {list : JobList} {n : ℕ} {times : List ℕ} → TimesTo list n times → list.count ≤ n
    → TimesTo list list.count times
times_all held enough =
    record { arrivals = λ x lt. held.arrivals x (omega arith); finishes = λ x lt. held.finishes x (omega arith); room = held.room }

pub owners_all : {t : Table} {list : JobList} {n m : ℕ} {program : List ℕ} → OwnersTo t list n program → n ≡ m
    → OwnersTo t list m program
owners_all {t} {list} {program = program} owners e = subst (λ (k : ℕ). OwnersTo t list k program) e owners

-- ---- the whole

eights : (x n : ℕ) → x < n → ◌≡◌ {A = ℕ} (get_or (replicate n 8) x 0) 8
eights x zero lt = absurd (omega arith)
eights zero (suc n) lt = refl
eights (suc x) (suc n) lt = eights x n (omega arith)

pub bodies_none : (t : Table) → BodiesTo t 0 (replicate 544 8)
unfolding owner_in
bodies_none t = record { held = λ i p low lt. absurd (omega arith); unowned = λ x lt. eights (512 + x) 544 (omega arith); room = refl }

-- an instruction of a task's body is the lent one
body_lent : {a : Accepted} → IsAccepted a → {list : JobList} {n : ℕ} {program : List ℕ}
    → OwnersTo a.table list n program → (i : Task) (p : ℕ) → i.0 < length (tasks_of a.table)
    → p < length (body_of (task_of a.table i)) → instruction_in program i.0 p ≡ instruction_of a.table i p
unfolding instruction_of
body_lent {a} ok owners i p known inside =
    let shaped = ok.is_made.shaped in
    let task : i.0 < a.table.tasks = omega (arith, tasks_length _ shaped) in
    let e = get_or a.table.entries i.0 no_task in
    let same : e ≡ task_of a.table i = task_read shaped i.0 no_task task in
    let shape = shaped.bodies i.0 (omega (arith, shaped.tasks_within)) in
    let short = body_short shaped i known in
    let length-same = ap (λ (x : TaskEntry). length (body_of x)) same in
    owners.held i.0 p (omega arith) (omega arith)
    ∙ sym (body_at_lem e p (omega (arith, body_length e shape)))
    ∙ ap (λ (x : TaskEntry). get_or (body_of x) p end_instruction) same

-- filled from an accepted table's parts, the arrays hold the table and its jobs' times
pub times_lent : {a : Accepted} → IsAccepted a → {list : JobList} → list ≡ job_list_of a.jobs
    → {program times : List ℕ} → OwnersTo a.table list list.count program → TimesTo list list.count times
    → LendsTimes a program times (record { count = a.table.locks; ceilings = a.table.ceilings })
unfolding ceilings_of base job_list_of
times_lent {a} ok {list} listed {program} {times} owners held =
    let few = jobs_few ok.is_timed in
    let counted : list.count ≡ length a.jobs = ap (λ (l : JobList). l.count) listed in
    record {
      table =
          record {
            owner = λ x is_x. owners.owned x.0 (omega arith) ∙ ap (λ (j : JobRecord). j.task.0) (record_listed list a x listed (omega arith));
            no_owner = λ x le lt. owners.unowned x (omega arith) lt;
            body = λ i p known inside. body_lent ok owners i p known inside;
            ceilings = refl;
          };
      arrival = λ x is_x. held.arrivals x.0 (omega arith) ∙ ap (λ (j : JobRecord). j.arrival) (record_listed list a x listed (omega arith));
      latest = λ x is_x. held.finishes x.0 (omega arith) ∙ ap (λ (j : JobRecord). j.latest) (record_listed list a x listed (omega arith));
    }
