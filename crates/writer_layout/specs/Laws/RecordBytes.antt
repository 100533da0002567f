-- Laws of single records as they are written: bytes, zeros and wide fields, one after the other.
-- Assumes nothing.
use Rattle.std.specs.Prelude.{◌≡◌, ℕ, ◌+◌, ◌≤◌, List, [], ◌∷◌, length, replicate}
use Rattle.std.proofs.Common.{ap, subst, arith}
use Rattle.std.proofs.lemmas.List.{replicate-append-replicate}
use Rattle.taskfile.specs.declared.Instruction.{Instruction}
use Rattle.taskfile.specs.declared.Table.{Table}
use Rattle.taskfile.specs.declared.TaskEntry.{TaskEntry}
use Rattle.writer.specs.declared.Lock.{Lock}
use Rattle.writer.specs.Layout.{wide_bytes, instruction_record, task_record, lock_record, header_record, layout_room}
use Rattle.notation_buffers.specs.Code.Writing.{Appends}
use Rattle.notation_buffers.specs.Laws.WritingLaws.{appends_more}

-- what was written from a place on, into a buffer with room for every layout
abbrev pub Lays : List ℕ → ℕ → List ℕ → List ℕ → ℕ → Type 0
Lays before at bytes after n = Appends layout_room before at bytes after n

pub lays_same : {before : List ℕ} {at : ℕ} {bytes other after : List ℕ} {n : ℕ} → bytes ≡ other
    → Lays before at bytes after n → Lays before at other after n
lays_same {before} {at} {after = after} {n} e lays = subst (λ (l : List ℕ). Lays before at l after n) e lays

-- ---- bytes

pub three_laid : {before : List ℕ} {at a b c : ℕ} {one : List ℕ} {n : ℕ} {two : List ℕ} {m : ℕ} {after : List ℕ}
    {end : ℕ} → layout_room ≤ length before → Lays before at (a ∷ []) one n → Lays one n (b ∷ []) two m
    → Lays two m (c ∷ []) after end
    → Lays before at (a ∷ b ∷ c ∷ []) after end
three_laid enough first second third = appends_more enough (appends_more enough first second) third

-- the first i of n zeros
pub zero_laid : {before : List ℕ} {at : ℕ} (i : ℕ) {mid : List ℕ} {m : ℕ} {after : List ℕ} {n : ℕ}
    → layout_room ≤ length before → Lays before at (replicate i 0) mid m → Lays mid m (0 ∷ []) after n
    → Lays before at (replicate (i + 1) 0) after n
zero_laid i enough first second = lays_same (replicate-append-replicate i 1 0) (appends_more enough first second)

pub zeros_laid : {before : List ℕ} {at : ℕ} (i n : ℕ) {after : List ℕ} {end : ℕ} → i ≤ n → n ≤ i
    → Lays before at (replicate i 0) after end → Lays before at (replicate n 0) after end
zeros_laid i n le ge lays =
    let same : i ≡ n = omega arith in lays_same (ap (λ (k : ℕ). replicate {A = ℕ} k 0) same) lays

-- ---- records

pub instruction_laid : (i : Instruction) (next : ℕ) {before : List ℕ} {at : ℕ} {one : List ℕ} {n : ℕ} {two : List ℕ}
    {m : ℕ} {after : List ℕ} {end : ℕ} → layout_room ≤ length before → Lays before at (4 ∷ next ∷ i.operation ∷ []) one n
    → Lays one n (i.a ∷ i.b ∷ i.c ∷ []) two m → Lays two m (replicate 10 0) after end
    → Lays before at (instruction_record i next) after end
unfolding instruction_record
instruction_laid i next enough first second third = appends_more enough (appends_more enough first second) third

pub lock_laid : (lock : Lock) (next : ℕ) {before : List ℕ} {at : ℕ} {one : List ℕ} {n : ℕ} {two : List ℕ} {m : ℕ}
    {three : List ℕ} {k : ℕ} {after : List ℕ} {end : ℕ} → layout_room ≤ length before
    → Lays before at (3 ∷ next ∷ lock.ceiling ∷ []) one n → Lays one n (0 ∷ []) two m
    → Lays two m (wide_bytes lock.holding) three k → Lays three k (replicate 8 0) after end
    → Lays before at (lock_record lock next) after end
unfolding lock_record
lock_laid lock next enough first second third fourth =
    appends_more enough (appends_more enough (appends_more enough first second) third) fourth

pub task_record_laid : (e : TaskEntry) (next to : ℕ) {before : List ℕ} {at : ℕ} {one : List ℕ} {n : ℕ} {two : List ℕ}
    {m : ℕ} {three : List ℕ} {k : ℕ} {four : List ℕ} {j : ℕ} {after : List ℕ} {end : ℕ} → layout_room ≤ length before
    → Lays before at (2 ∷ next ∷ to ∷ []) one n → Lays one n (0 ∷ []) two m
    → Lays two m (wide_bytes e.execution) three k
    → Lays three k (wide_bytes e.period) four j → Lays four j (wide_bytes e.arrival) after end
    → Lays before at (task_record e next to) after end
unfolding task_record
task_record_laid e next to enough first second third fourth fifth =
    let front = appends_more enough (appends_more enough first second) third in
    appends_more enough (appends_more enough front fourth) fifth

pub header_laid : (t : Table) (task lock : ℕ) {before : List ℕ} {at : ℕ} {one : List ℕ} {n : ℕ} {two : List ℕ} {m : ℕ}
    {three : List ℕ} {k : ℕ} {after : List ℕ} {end : ℕ} → layout_room ≤ length before
    → Lays before at (1 ∷ 0 ∷ task ∷ []) one n
    → Lays one n (lock ∷ []) two m → Lays two m (wide_bytes t.window) three k → Lays three k t.store after end
    → Lays before at (header_record t task lock) after end
unfolding header_record
header_laid t task lock enough first second third fourth =
    appends_more enough (appends_more enough (appends_more enough first second) third) fourth
