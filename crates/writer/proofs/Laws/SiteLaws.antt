-- The index of a site of a table, counted: the header, the tasks before it with their bodies, the tasks before the
-- locks.
-- Assumes nothing.
use Rattle.std.specs.Prelude.{◌≡◌, refl, Bool, false, ◌&&◌, eqb, get_or, take}
use Rattle.std.proofs.Common.{sym, ◌∙◌, length-append, eq-eqb, ne_eqb}
use Rattle.std.proofs.Math.Path.{ap}
use Prim.Native.Nat.{ℕ, zero, suc, ◌+◌, ◌<◌}
use native.Mathlib.Omega.{arith}
use Rattle.std.proofs.Math.Bool.{and-true}
use mathlib.Core.List.{List, [], ◌∷◌, ◌++◌, map, append_assoc, append-nil}
use Rattle.std.proofs.Math.ListN.{length}
use Rattle.std.specs.Prelude.{if◌then◌else◌}
use Rattle.notation.specs.Lists.{from, up_to, same, sum}
use Rattle.notation.specs.Laws.ListLaws.{up_to_length}
use Rattle.notation.specs.Laws.PairLaws.{every_of, every_map, every_append}
use Rattle.notation.specs.Laws.QuantifierLaws.{map_length}
use Rattle.notation.specs.Ordered.{Every}
use Rattle.taskfile.specs.declared.Site.{Site}
use Rattle.taskfile.specs.declared.Site.TheVariants.{AtHeader, AtTask, AtInstruction, AtLock}
use Rattle.taskfile.specs.declared.Table.{Table}
use Rattle.taskfile.specs.declared.TaskEntry.{TaskEntry}
use Rattle.taskfile.specs.Judgement.{numbered}
use Rattle.taskfile.specs.Records.{kind_number}
use Rattle.taskfile.specs.Tables.{no_task}
use Rattle.writer.specs.Claims.{claimed_tasks, claimed_body, claimed_locks}
use Rattle.writer.specs.Positions.{position_where}
use Rattle.writer.specs.Sites.{body_sites, task_sites, sites, site_numbers, same_site, index_of, locks_at}

-- how many records tasks have with their bodies
unfoldable pub record_total : List TaskEntry → ℕ
record_total tasks = sum (map (λ e. suc (length (claimed_body e))) tasks)

pub record_total_cons : (e : TaskEntry) (others : List TaskEntry)
    → record_total (e ∷ others) ≡ suc (length (claimed_body e)) + record_total others
unfolding record_total sum
record_total_cons e others = refl

-- the site's index, counted
unfoldable pub counted_index : Table → Site → ℕ
counted_index t AtHeader = 0
counted_index t (AtTask i) = suc (record_total (take i.0 (claimed_tasks t)))
counted_index t (AtInstruction i p) = suc (suc (record_total (take i.0 (claimed_tasks t))) + p)
counted_index t (AtLock l) = suc (record_total (claimed_tasks t)) + l

-- a site of what the table claims
abbrev pub ClaimedSite : Table → Site → Type 0
ClaimedSite t AtHeader = Unit {0}
ClaimedSite t (AtTask i) = i.0 < length (claimed_tasks t)
ClaimedSite t (AtInstruction i p) =
    (i.0 < length (claimed_tasks t)) × (p < length (claimed_body (get_or (claimed_tasks t) i.0 no_task)))
ClaimedSite t (AtLock l) = l < length (claimed_locks t)

-- ---- positions in any list

-- what none in front is stands behind them
position_past : {A : Type 0} (test : A → Bool) (front rest : List A) → Every (λ x. test x ≡ false) front
    → position_where test (front ++ rest) ≡ length front + position_where test rest
unfolding position_where
position_past test [] rest none = omega arith
position_past test (x ∷ front) rest none =
    rw none.0 (ap suc (position_past test front rest none.1) ∙ omega arith)

-- of parts with numbers from p on, part p + k stands at k
position_numbered : {A : Type 0} (part : ℕ → A) (test : A → Bool) (q : ℕ) (rest : List A)
    → ((p : ℕ) → test (part p) ≡ eqb q p) → (n p k : ℕ) → q ≡ p + k → k < n
    → position_where test (map part (from p n) ++ rest) ≡ k
unfolding position_where from
position_numbered part test q rest tests zero p k is few = absurd (omega arith)
position_numbered part test q rest tests (suc n) p zero is few = rw (tests p, eq-eqb q p (omega arith))
position_numbered part test q rest tests (suc n) p (suc k) is few =
    rw (tests p, ne_eqb q p (λ (e : q ≡ p). omega arith))
    (ap suc (position_numbered part test q rest tests n (suc p) k (omega arith) (omega arith)))

-- ---- which sites are the same

same_task : (n i : ℕ) → same_site (AtTask (numbered n)) (AtTask (numbered i)) ≡ eqb n i
unfolding same_site site_numbers kind_number same
same_task n i = and-true (eqb n i)

same_lock : (l m : ℕ) → same_site (AtLock l) (AtLock m) ≡ eqb l m
unfolding same_site site_numbers kind_number same
same_lock l m = and-true (eqb l m)

same_instruction : (n i q p : ℕ)
    → same_site (AtInstruction (numbered n) q) (AtInstruction (numbered i) p) ≡ (eqb n i && eqb q p)
unfolding same_site site_numbers kind_number same
same_instruction n i q p = ap (λ (b : Bool). eqb n i && b) (and-true (eqb q p))

-- no site of the list is the same
abbrev Elsewhere : Site → List Site → Type 0
Elsewhere s there = Every (λ x. same_site s x ≡ false) there

body_other : (s : Site) (i : ℕ) (e : TaskEntry) → ((p : ℕ) → same_site s (AtInstruction (numbered i) p) ≡ false)
    → Elsewhere s (body_sites i e)
unfolding body_sites
body_other s i e other =
    let positions = up_to (length (claimed_body e)) in
    every_map (λ x. same_site s x ≡ false) (AtInstruction (numbered i)) positions
    (every_of (λ p. same_site s (AtInstruction (numbered i) p) ≡ false) other positions)

-- another task's sites, with its body's, are others; and a lock's site is no task's
other_task : (n i : ℕ) (e : TaskEntry) → (n ≡ i → ⊥)
    → Elsewhere (AtTask (numbered n)) (AtTask (numbered i) ∷ body_sites i e)
unfolding same_site site_numbers kind_number same
other_task n i e other =
    (same_task n i ∙ ne_eqb n i other, body_other (AtTask (numbered n)) i e (λ p. refl))

other_instruction : (n q i : ℕ) (e : TaskEntry) → (n ≡ i → ⊥)
    → Elsewhere (AtInstruction (numbered n) q) (AtTask (numbered i) ∷ body_sites i e)
unfolding same_site site_numbers kind_number same
other_instruction n q i e other = (
  refl,
  body_other (AtInstruction (numbered n) q) i e
      (λ p. same_instruction n i q p ∙ ap (λ (b : Bool). b && eqb q p) (ne_eqb n i other)),
)

lock_other : (l i : ℕ) (tasks : List TaskEntry) → Elsewhere (AtLock l) (task_sites i tasks)
unfolding task_sites same_site site_numbers kind_number same
lock_other l i [] = tt
lock_other l i (e ∷ others) = (
  refl,
  every_append (λ x. same_site (AtLock l) x ≡ false) (body_sites i e) (task_sites (suc i) others)
      (body_other (AtLock l) i e (λ p. refl)) (lock_other l (suc i) others),
)

-- ---- how many sites there are

body_sites_lem : (i : ℕ) (e : TaskEntry) → length (body_sites i e) ≡ length (claimed_body e)
unfolding body_sites
body_sites_lem i e = map_length (AtInstruction (numbered i)) (up_to (length (claimed_body e))) ∙ up_to_length _

task_sites_lem : (i : ℕ) (tasks : List TaskEntry) → length (task_sites i tasks) ≡ record_total tasks
unfolding task_sites record_total sum
task_sites_lem i [] = refl
task_sites_lem i (e ∷ others) =
    ap suc (length-append (body_sites i e) (task_sites (suc i) others))
    ∙ omega (arith, body_sites_lem i e, task_sites_lem (suc i) others)

-- ---- where a site stands

pub total_none : record_total [] ≡ 0
unfolding record_total sum
total_none = refl

-- a site of task n that stands at k of the task's own sites: the tasks before it stand in front
module _ (s : Site) (n : ℕ)
    (other : (i : ℕ) (e : TaskEntry) → (n ≡ i → ⊥) → Elsewhere s (AtTask (numbered i) ∷ body_sites i e)) where
  among_tasks : (tasks : List TaskEntry) (i j k : ℕ) (rest : List Site) → n ≡ i + j → j < length tasks
      → ((behind : List Site)
      → position_where (same_site s) (AtTask (numbered n) ∷ body_sites n (get_or tasks j no_task) ++ behind) ≡ k)
      → position_where (same_site s) (task_sites i tasks ++ rest) ≡ record_total (take j tasks) + k
  unfolding task_sites
  among_tasks [] i j k rest is few own = absurd (omega arith)
  among_tasks (e ∷ others) i zero k rest is few own =
      let here : i ≡ n = omega arith in
      let behind = task_sites (suc i) others ++ rest in
      ap (position_where (same_site s))
      (append_assoc (AtTask (numbered i) ∷ body_sites i e) (task_sites (suc i) others) rest)
      ∙ ap (λ (m : ℕ). position_where (same_site s) (AtTask (numbered m) ∷ body_sites m e ++ behind)) here
      ∙ own behind
      ∙ omega (arith, total_none)
  among_tasks (e ∷ others) i (suc j) k rest is few own =
      let front = AtTask (numbered i) ∷ body_sites i e in
      ap (position_where (same_site s)) (append_assoc front (task_sites (suc i) others) rest)
      ∙ position_past (same_site s) front (task_sites (suc i) others ++ rest) (other i e (λ same. omega arith))
      ∙ ap (λ (m : ℕ). length front + m) (among_tasks others (suc i) j k rest (omega arith) (omega arith) own)
      ∙ omega (arith, record_total_cons e (take j others), body_sites_lem i e)

task_own : (n : ℕ) (behind : List Site)
    → position_where (same_site (AtTask (numbered n))) (AtTask (numbered n) ∷ behind) ≡ 0
unfolding position_where
task_own n behind = rw (same_task n n, eq-eqb n n refl)

instruction_no_task : (n q i : ℕ) → same_site (AtInstruction (numbered n) q) (AtTask (numbered i)) ≡ false
unfolding same_site site_numbers kind_number same
instruction_no_task n q i = refl

instruction_own : (n q : ℕ) (e : TaskEntry) (behind : List Site) → q < length (claimed_body e)
    → position_where (same_site (AtInstruction (numbered n) q)) (AtTask (numbered n) ∷ body_sites n e ++ behind) ≡ suc q
unfolding position_where body_sites up_to
instruction_own n q e behind few =
    rw (instruction_no_task n q n)
    (ap suc
    (position_numbered (AtInstruction (numbered n)) (same_site (AtInstruction (numbered n) q)) q behind
    (λ p. same_instruction n n q p ∙ ap (λ (b : Bool). b && eqb q p) (eq-eqb n n refl)) (length (claimed_body e)) 0 q
    (omega arith) few))

lock_own : (l n : ℕ) → l < n → position_where (same_site (AtLock l)) (map AtLock (up_to n)) ≡ l
unfolding up_to
lock_own l n few =
    ap (position_where (same_site (AtLock l))) (sym (append-nil (map AtLock (from 0 n))))
    ∙ position_numbered AtLock (same_site (AtLock l)) l [] (same_lock l) n 0 l (omega arith) few

lock_behind : (t : Table) (l k : ℕ)
    → position_where (same_site (AtLock l)) (map AtLock (up_to (length (claimed_locks t)))) ≡ k
    → index_of t (AtLock l) ≡ suc (record_total (claimed_tasks t)) + k
unfolding index_of sites position_where same_site site_numbers kind_number same
lock_behind t l k own =
    let tasks = claimed_tasks t in
    ap suc
    (position_past (same_site (AtLock l)) (task_sites 0 tasks) (map AtLock (up_to (length (claimed_locks t))))
    (lock_other l 0 tasks)
    ∙ ap (λ (m : ℕ). length (task_sites 0 tasks) + m) own)
    ∙ omega (arith, task_sites_lem 0 tasks)

-- the index of a site of what the table claims
pub index_counted : (t : Table) (s : Site) → ClaimedSite t s → index_of t s ≡ counted_index t s
unfolding index_of counted_index sites position_where same_site site_numbers kind_number same
index_counted t AtHeader claimed = refl
index_counted t (AtTask i) claimed =
    ap suc
    (among_tasks (AtTask i) i.0 (other_task i.0) (claimed_tasks t) 0 i.0 0 _ (omega arith) claimed
    (λ behind. task_own i.0 (body_sites i.0 (get_or (claimed_tasks t) i.0 no_task) ++ behind)))
    ∙ omega arith
index_counted t (AtInstruction i p) claimed =
    ap suc
    (among_tasks (AtInstruction i p) i.0 (other_instruction i.0 p) (claimed_tasks t) 0 i.0 (suc p) _
    (omega arith) claimed.0 (λ behind. instruction_own i.0 p _ behind claimed.1))
    ∙ omega arith
index_counted t (AtLock l) claimed = lock_behind t l l (lock_own l _ claimed)

-- the index of the first lock, also where there is none
first_lock : (n : ℕ) → position_where (same_site (AtLock 0)) (map AtLock (up_to n)) ≡ 0
unfolding position_where up_to from
first_lock zero = refl
first_lock (suc n) = lock_own 0 (suc n) (omega arith)

pub locks_counted : (t : Table) → locks_at t ≡ suc (record_total (claimed_tasks t))
unfolding locks_at
locks_counted t = lock_behind t 0 0 (first_lock (length (claimed_locks t))) ∙ omega arith
