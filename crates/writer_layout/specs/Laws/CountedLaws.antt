-- Laws of what a table claims: how many parts, each by its number, the links between them, and the records they make.
-- Assumes nothing.
use Rattle.std.specs.Prelude.{◌≡◌, refl, ℕ, zero, suc, ◌+◌, ◌≤◌, ◌<◌, min, List, [], ◌∷◌, ◌++◌, map, length, get_or, drop}
use Rattle.std.proofs.Common.{sym, ap, ◌∙◌, arith, add-one, length-append, length-take, length-drop, drop_of_length-le, drop-cons, get_or-take, lt-ltb, le-ltb}
use Rattle.std.proofs.Math.Decide.{dec_le}
use Rattle.notation.specs.Lists.{sum}
use Rattle.taskfile.specs.declared.Instruction.{Instruction}
use Rattle.taskfile.specs.declared.Table.{Table}
use Rattle.taskfile.specs.declared.TaskEntry.{TaskEntry}
use Rattle.taskfile.specs.Tables.{end_instruction, no_task}
use Rattle.writer.specs.declared.Lock.{Lock}
use Rattle.writer.specs.Claims.{claimed, claimed_tasks, claimed_body, lock_array, no_lock, claimed_locks}
use Rattle.writer.proofs.Laws.SiteLaws.{record_total}
use Rattle.writer.specs.Values.{Fits}
use Rattle.writer.proofs.Laws.LockLaws.{locks_full}
use Rattle.writer.specs.Layout.{link_to}
use Rattle.writer_layout.specs.Code.ClaimedParts.{link_at}

-- ---- what a count and an array claim

-- how many parts are claimed of a full array
claimed_length : {A : Type 0} (count : ℕ) (array : List A) (blank : A) (most : ℕ) → length array ≡ most
    → length (claimed count array blank) ≡ min count (most + 1)
unfolding claimed
claimed_length count array blank most full =
    length-take count (array ++ blank ∷ [])
    ∙ ap (min count) (length-append array (blank ∷ []) ∙ ap (λ (n : ℕ). n + 1) full)

-- one blank part more changes nothing in what stands where
blank_at : {A : Type 0} (array : List A) (blank : A) (p : ℕ) → get_or (array ++ blank ∷ []) p blank ≡ get_or array p blank
blank_at [] blank zero = refl
blank_at [] blank (suc p) = refl
blank_at (x ∷ array) blank zero = refl
blank_at (x ∷ array) blank (suc p) = blank_at array blank p

-- the claimed parts from part p on: what stands there in the array, or a blank part, and the others
claimed_from : {A : Type 0} (count : ℕ) (array : List A) (blank : A) (p : ℕ) {x : A} → x ≡ get_or array p blank
    → p < length (claimed count array blank)
    → drop p (claimed count array blank) ≡ x ∷ drop (suc p) (claimed count array blank)
unfolding claimed
claimed_from count array blank p is inside =
    let within : p < count = omega (arith, length-take count (array ++ blank ∷ [])) in
    drop-cons (claimed count array blank) p blank inside
    ∙ ap (λ y. y ∷ drop (suc p) (claimed count array blank))
    (get_or-take count (array ++ blank ∷ []) p blank within ∙ blank_at array blank p ∙ sym is)

module _ (e : TaskEntry) where
  pub body_claims : length e.body ≡ 16 → length (claimed_body e) ≡ min e.length 17
  unfolding claimed_body
  body_claims full = claimed_length e.length e.body end_instruction 16 full

  pub body_from : (p : ℕ) {x : Instruction} → x ≡ get_or e.body p end_instruction → p < length (claimed_body e)
      → drop p (claimed_body e) ≡ x ∷ drop (suc p) (claimed_body e)
  unfolding claimed_body
  body_from p is inside = claimed_from e.length e.body end_instruction p is inside

module _ (t : Table) where
  pub tasks_claim : length t.entries ≡ 8 → length (claimed_tasks t) ≡ min t.tasks 9
  unfolding claimed_tasks
  tasks_claim full = claimed_length t.tasks t.entries no_task 8 full

  pub tasks_from : (i : ℕ) {x : TaskEntry} → x ≡ get_or t.entries i no_task → i < length (claimed_tasks t)
      → drop i (claimed_tasks t) ≡ x ∷ drop (suc i) (claimed_tasks t)
  unfolding claimed_tasks
  tasks_from i is inside = claimed_from t.tasks t.entries no_task i is inside

  pub locks_claim : Fits t → length (claimed_locks t) ≡ min t.locks 9
  unfolding claimed_locks
  locks_claim fit = claimed_length t.locks (lock_array t) no_lock 8 (locks_full t fit)

  pub locks_from : (l : ℕ) {x : Lock} → x ≡ get_or (lock_array t) l no_lock
      → l < length (claimed_locks t) → drop l (claimed_locks t) ≡ x ∷ drop (suc l) (claimed_locks t)
  unfolding claimed_locks
  locks_from l is inside = claimed_from t.locks (lock_array t) no_lock l is inside

-- ---- links

link_none : {A : Type 0} (r : ℕ) (xs : List A) → length xs ≡ 0 → link_to r xs ≡ 0
unfolding link_to
link_none r [] none = refl
link_none r (x ∷ xs) none = absurd (omega arith)

link_some : {A : Type 0} (r : ℕ) (xs : List A) → 0 < length xs → link_to r xs ≡ r
unfolding link_to
link_some r [] some = absurd (omega arith)
link_some r (x ∷ xs) some = refl

-- the link to the parts from part p on is the link to part p
pub link_from : {A : Type 0} (r p : ℕ) (xs : List A) → link_to r (drop p xs) ≡ link_at r p (length xs)
unfolding link_at
link_from r p xs =
    elim (dec_le (suc p) (length xs)) [
      | yes inside ↦ rw (lt-ltb p (length xs) inside) (link_some r (drop p xs) (omega (arith, length-drop p xs)))
      | no outside ↦ rw (le-ltb p (length xs) (omega arith)) (link_none r (drop p xs) (omega (arith, length-drop p xs)))
    ]

pub link_at_inside : (r p count : ℕ) → p < count → r ≡ link_at r p count
unfolding link_at
link_at_inside r p count inside = rw (lt-ltb p count inside) refl

pub link_at_outside : (r p count : ℕ) → count ≤ p → 0 ≡ link_at r p count
unfolding link_at
link_at_outside r p count outside = rw (le-ltb p count outside) refl

-- ---- records

-- the records of the tasks from one on
unfoldable pub total_from : List TaskEntry → ℕ → ℕ
total_from tasks i = record_total (drop i tasks)

pub total_whole : (tasks : List TaskEntry) → 0 + total_from tasks 0 ≡ record_total tasks
unfolding total_from
total_whole tasks = omega arith

pub total_more : (tasks : List TaskEntry) (i total whole : ℕ) {e : TaskEntry} {count : ℕ}
    → drop i tasks ≡ e ∷ drop (suc i) tasks → count ≡ length (claimed_body e) → total + total_from tasks i ≡ whole
    → total + (1 + count) + total_from tasks (i + 1) ≡ whole
unfolding total_from record_total sum
total_more tasks i total whole {e} {count} here counted so_far =
    let records : List TaskEntry → ℕ = λ l. sum (map (λ e. suc (length (claimed_body e))) l) in
    let next : records (drop (i + 1) tasks) ≡ records (drop (suc i) tasks) =
    ap (λ (k : ℕ). records (drop k tasks)) (add-one i) in
    omega (arith, ap records here, next)

pub total_all : (tasks : List TaskEntry) (i total whole : ℕ) → length tasks ≤ i → total + total_from tasks i ≡ whole
    → total ≡ whole
unfolding total_from record_total sum
total_all tasks i total whole all so_far =
    let records : List TaskEntry → ℕ = λ l. sum (map (λ e. suc (length (claimed_body e))) l) in
    omega (arith, ap records (drop_of_length-le tasks all))
