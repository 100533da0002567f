-- Laws of a table's layout: how long its parts are, and what stands in a record that is a part of a file.
-- Assumes nothing.
use Rattle.std.specs.Prelude.{◌≡◌, refl, ℕ, suc, ◌+◌, ◌*◌, ◌<◌, List, [], ◌∷◌, ◌++◌, length, get_or}
use Rattle.std.proofs.Common.{ap, ◌∙◌, arith, length-append, get_or-append-add}
use Rattle.std.proofs.Math.ListN.{get_or-append}
use Rattle.notation.specs.Lists.{sum}
use Rattle.taskfile.specs.declared.Instruction.{Instruction}
use Rattle.taskfile.specs.declared.Table.{Table}
use Rattle.taskfile.specs.declared.TaskEntry.{TaskEntry}
use Rattle.taskfile.specs.Records.{byte_at}
use Rattle.writer.specs.declared.Lock.{Lock}
use Rattle.writer.specs.Claims.{claimed_body}
use Rattle.writer.specs.Layout.{wide_bytes, link_to, instruction_record, body_records, task_record, after_task, task_records}
use Rattle.writer.specs.Layout.{lock_record, lock_records, header_record}
use Rattle.writer.proofs.Laws.SiteLaws.{record_total}

-- ---- how long the parts are

pub body_records_length : (r : ℕ) (body : List Instruction) → length (body_records r body) ≡ 16 * length body
unfolding body_records instruction_record
body_records_length r [] = refl
body_records_length r (i ∷ others) =
    length-append (instruction_record i (link_to (suc r) others)) (body_records (suc r) others)
    ∙ omega (arith, body_records_length (suc r) others)

pub task_record_length : (e : TaskEntry) (next first : ℕ) → length (task_record e next first) ≡ 16
unfolding task_record wide_bytes
task_record_length e next first = refl

pub task_records_length : (r : ℕ) (tasks : List TaskEntry) → length (task_records r tasks) ≡ 16 * record_total tasks
unfolding task_records record_total sum task_record wide_bytes body_records
task_records_length r [] = refl
task_records_length r (e ∷ others) =
    let after = after_task r e in
    let own = task_record e (link_to after others) (link_to (suc r) (claimed_body e)) in
    let body = body_records (suc r) (claimed_body e) in
    length-append own (body ++ task_records after others)
    ∙ omega (
      arith,
      task_record_length e (link_to after others) (link_to (suc r) (claimed_body e)),
      length-append body (task_records after others),
      body_records_length (suc r) (claimed_body e),
      task_records_length after others,
    )

pub lock_records_length : (r : ℕ) (locks : List Lock) → length (lock_records r locks) ≡ 16 * length locks
unfolding lock_records lock_record wide_bytes
lock_records_length r [] = refl
lock_records_length r (lock ∷ others) =
    length-append (lock_record lock (link_to (suc r) others)) (lock_records (suc r) others)
    ∙ omega (arith, lock_records_length (suc r) others)

pub header_record_length : (t : Table) (firstTask firstLock : ℕ) → length t.store ≡ 8
    → length (header_record t firstTask firstLock) ≡ 16
unfolding header_record wide_bytes
header_record_length t firstTask firstLock full = omega (arith, full)

-- ---- a record that is a part of a file

-- byte k of record r is byte k of what stands there
pub part_byte : (front part back : List ℕ) (r k : ℕ) → length front ≡ 16 * r → k < length part
    → byte_at (front ++ (part ++ back)) r k ≡ get_or part k 0
unfolding byte_at
part_byte front part back r k at h =
    let place : 16 * r + k ≡ length front + k = omega arith in
    ap (λ n. get_or (front ++ (part ++ back)) n 0) place ∙ get_or-append-add front (part ++ back) k 0 ∙ get_or-append part back 0 k h
