-- Laws of the judgement of a table whose arrays are full: what the faults of 7, 8 and 9 are by the arrays, and the
-- sites that each check runs over, task by task.
-- Assumes nothing.
use Rattle.std.specs.Prelude.{ℕ, zero, suc, ◌+◌, ◌-◌, ◌≤◌, ◌<◌, ◌≡◌, refl, Bool, true, not, ◌&&◌, ◌||◌, List, [], ◌∷◌, map, length, get_or, take, leb, ltb}
use Rattle.std.proofs.Common.{add-one, arith, ap₂, ◌∙◌}
use Rattle.std.proofs.Math.Path.{sym, ap}
use Rattle.std.proofs.Math.Bool.{false, and-false, and-true, or-false}
use Rattle.std.proofs.Math.Decide.{ℕ_discrete}
use Rattle.std.proofs.Math.Option as Math
use Rattle.std.specs.List.{find, range_with_len}
use Rattle.std.specs.Prelude.{Option, Some, None, cond}
use Rattle.std.proofs.Math.Seq.{length-take-le, get_or-take}
use Rattle.std.proofs.Math.Dec.{eqb, eqb-suc-suc}
use borrow.Author.Tests.{eq-eqb, ne_eqb, le-leb, lt-leb, lt-ltb, le-ltb, not-true, not-false}
use Rattle.taskfile.specs.declared.Instruction.{Instruction}
use Rattle.taskfile.specs.declared.Site.{Site}
use Rattle.taskfile.specs.declared.Site.TheVariants.{AtTask, AtInstruction}
use Rattle.taskfile.specs.declared.Table.{Table}
use Rattle.taskfile.specs.declared.Task.{Task}
use Rattle.taskfile.specs.declared.TaskEntry.{TaskEntry}
use Rattle.notation.specs.Checked.{refused, passed, none_of}
use Rattle.taskfile.specs.Judgement.{numbered, task_numbers, instruction_sites, instruction_of, is_end, is_skip}
use Rattle.taskfile.specs.Judgement.{is_acquire, is_release, of_instruction, of_task, body_fault, rate_fault}
use Rattle.taskfile.specs.Judgement.{ceiling_fault}
use Rattle.taskfile.specs.Code.JudgingParts.{Shaped, ShapedEntry, body_fault_in, ceiling_fault_in}
use Rattle.notation.specs.Laws.ListLaws.{get_or_any, each_map, each_one}
use Rattle.std.specs.Prelude.{if◌then◌else◌}
use Rattle.notation.specs.Lists.{from, up_to, first_with, each}
use Rattle.notation.specs.Laws.SearchLaws.{refused_at, none_of_map}
use Rattle.taskfile.specs.Tables.{tasks_of, task_of, body_of, ceilings_of, end_instruction, no_task}
use Rattle.notation.specs.Laws.TestLaws.{and_first, and_last, or_first, or_left, or_right}

-- the instruction at position p of a body's array
abbrev pub here_in : TaskEntry → ℕ → Instruction
here_in e p = get_or e.body p end_instruction

-- a body's own instructions are the first of its array
pub body_length : (e : TaskEntry) → ShapedEntry e → length (body_of e) ≡ e.length
unfolding body_of
body_length e shaped = length-take-le _ _ (omega (arith, shaped.full, shaped.within))

pub body_at_lem : (e : TaskEntry) (p : ℕ) → p < e.length → get_or (body_of e) p end_instruction ≡ here_in e p
unfolding body_of
body_at_lem e p below = get_or-take _ _ _ _ below

-- the tests of a position against the last, written by the length
last_test : (p n : ℕ) → p < n → eqb p (n - 1) ≡ eqb (p + 1) n
last_test p n below =
    let m : p + 1 ≡ suc p = omega arith in
    let k : n ≡ suc (n - 1) = omega arith in
    sym (ap₂ eqb m k ∙ eqb-suc-suc p (n - 1))

beyond_test : (n x : ℕ) → 0 < n → ltb (n - 1) x ≡ leb n x
beyond_test n x above = let k : suc (n - 1) ≡ n = omega arith in ap (λ (m : ℕ). leb m x) k

-- is the instruction at position p the last, and not End?
unfoldable pub ends_badly : TaskEntry → ℕ → Bool
ends_badly e p = eqb (p + 1) e.length && not (is_end (here_in e p))

pub not_last_lem : (e : TaskEntry) (p : ℕ) → (p + 1 ≡ e.length → ⊥) → ends_badly e p ≡ false
unfolding ends_badly
not_last_lem e p other = and_first _ (not (is_end (here_in e p))) (ne_eqb (p + 1) e.length other)

pub ends_well : (e : TaskEntry) (p : ℕ) → not (eqb (here_in e p).operation 0) ≡ false → ends_badly e p ≡ false
unfolding ends_badly is_end
ends_well e p end = and_last (eqb (p + 1) e.length) _ end

-- skips by number
pub skip_between : (here : Instruction) → 6 ≤ here.operation → here.operation ≤ 7 → is_skip here ≡ true
unfolding is_skip
skip_between here least most =
    elim (ℕ_discrete here.operation 6) [
      | yes same ↦ or_left (eqb here.operation 6) (eqb here.operation 7) (eq-eqb _ _ same)
      | no other ↦ or_right (eqb here.operation 6) (eqb here.operation 7) (eq-eqb _ _ (omega (arith, other)))
    ]

pub skip_6 : (here : Instruction) → here.operation ≡ 6 → is_skip here ≡ true
unfolding is_skip
skip_6 here same = or_left (eqb here.operation 6) (eqb here.operation 7) (eq-eqb _ _ same)

pub skip_7 : (here : Instruction) → not (eqb here.operation 7) ≡ false → is_skip here ≡ true
unfolding is_skip
skip_7 here same = or_right (eqb here.operation 6) (eqb here.operation 7) (not-false (eqb here.operation 7) same)

-- a fault of 7 by the body's array
body_fault_in_is : (e : TaskEntry) (p : ℕ) → ShapedEntry e → p < e.length
    → body_fault_in e p ≡ (ends_badly e p || is_skip (here_in e p) && leb e.length (p + 1 + (here_in e p).c))
unfolding body_fault_in ends_badly
body_fault_in_is e p shaped below =
    let beyond = beyond_test e.length (p + 1 + (here_in e p).c) (omega arith) in
    rw (body_length e shaped, body_at_lem e p below, last_test p e.length below, beyond)

module _ (e : TaskEntry) (p : ℕ) (known : ShapedEntry e × (p < e.length)) where
  -- End
  pub end_sound : (here_in e p).operation ≡ 0 → false ≡ body_fault_in e p
  unfolding ends_badly is_end is_skip
  end_sound end = sym (rw (body_fault_in_is e p known.0 known.1, end, and-false))

  -- a skip, within the body or beyond
  pub skip_beyond : is_skip (here_in e p) ≡ true → leb e.length (p + 1 + (here_in e p).c) ≡ body_fault_in e p
  skip_beyond skip =
      elim (ℕ_discrete (p + 1) e.length) [
        | yes same ↦
            let beyond = le-leb e.length (p + 1 + (here_in e p).c) (omega arith) in
            sym (rw (body_fault_in_is e p known.0 known.1, skip, beyond) (or_right (ends_badly e p) true refl))
        | no other ↦ sym (rw (body_fault_in_is e p known.0 known.1, not_last_lem e p other, skip))
      ]

  -- any other instruction, the last or not
  pub other_last : ((here_in e p).operation ≡ 0 → ⊥) → ((here_in e p).operation ≡ 6 → ⊥)
      → ((here_in e p).operation ≡ 7 → ⊥) → eqb (p + 1) e.length ≡ body_fault_in e p
  unfolding ends_badly is_end is_skip
  other_last not0 not6 not7 =
      let operation = (here_in e p).operation in
      sym (rw (body_fault_in_is e p known.0 known.1, ne_eqb operation 0 not0, ne_eqb operation 6 not6, ne_eqb operation 7 not7)
      (rw (and-true, or-false) refl))

  -- the last instruction is not End
  pub last_not_end : p + 1 ≡ e.length → not (eqb (here_in e p).operation 0) ≡ true → true ≡ body_fault_in e p
  unfolding ends_badly is_end
  last_not_end same other = sym (rw (body_fault_in_is e p known.0 known.1, eq-eqb (p + 1) e.length same, other))

  -- no skip
  pub no_skip : ends_badly e p ≡ false → ((here_in e p).operation ≡ 6 → ⊥) → not (eqb (here_in e p).operation 7) ≡ true
      → false ≡ body_fault_in e p
  unfolding is_skip
  no_skip well not6 not7 =
      let operation = (here_in e p).operation in
      sym (rw (body_fault_in_is e p known.0 known.1, well, ne_eqb operation 6 not6, not-true (eqb operation 7) not7))

  -- a skip, within the body or beyond
  pub a_skip : ends_badly e p ≡ false → is_skip (here_in e p) ≡ true
      → leb e.length (p + 1 + (here_in e p).c) ≡ body_fault_in e p
  a_skip well skip = sym (rw (body_fault_in_is e p known.0 known.1, well, skip))

-- does the instruction name a lock?
unfoldable pub names_lock : Instruction → Bool
names_lock here = is_acquire here || is_release here

pub acquire_9 : (here : Instruction) → here.operation ≡ 9 → names_lock here ≡ true
unfolding names_lock is_acquire
acquire_9 here same = or_left (eqb here.operation 9) (is_release here) (eq-eqb _ _ same)

pub release_10 : (here : Instruction) → not (eqb here.operation 10) ≡ false → names_lock here ≡ true
unfolding names_lock is_release
release_10 here same = or_right (is_acquire here) (eqb here.operation 10) (not-false (eqb here.operation 10) same)

-- a fault of 9 by the array of ceilings
module _ (locks : ℕ) (ceilings : List ℕ) (i : ℕ) (here : Instruction) (known : (locks ≤ 8) × (length ceilings ≡ 8)) where
  ceiling_fault_in_is : ceiling_fault_in (take locks ceilings) i here
      ≡ (names_lock here && leb locks here.a || is_acquire here && ltb (get_or (take locks ceilings) here.a 0) i)
  unfolding ceiling_fault_in names_lock
  ceiling_fault_in_is = rw (length-take-le locks ceilings (omega (arith, known)))

  -- neither Acquire nor Release
  pub no_lock_lem : (here.operation ≡ 9 → ⊥) → not (eqb here.operation 10) ≡ true
      → false ≡ ceiling_fault_in (take locks ceilings) i here
  unfolding names_lock is_acquire is_release
  no_lock_lem not9 not10 =
      sym (rw (ceiling_fault_in_is, ne_eqb here.operation 9 not9, not-true (eqb here.operation 10) not10))

  module _ (named : names_lock here ≡ true) where
    -- the lock is not there
    pub lock_unknown : locks ≤ here.a → true ≡ ceiling_fault_in (take locks ceilings) i here
    lock_unknown above = sym (rw (ceiling_fault_in_is, named, le-leb locks here.a above))

    -- Release of a lock that is there
    pub release_known : here.a < locks → here.operation ≡ 10 → false ≡ ceiling_fault_in (take locks ceilings) i here
    unfolding is_acquire
    release_known below release =
        let other : eqb here.operation 9 ≡ false = ne_eqb here.operation 9 (λ same. omega arith) in
        sym (rw (ceiling_fault_in_is, named, lt-leb locks here.a below, other))

    -- Acquire of a lock that is there
    pub acquire_known : here.a < locks → (here.operation ≡ 10 → ⊥)
        → ltb (get_or ceilings here.a 0) i ≡ ceiling_fault_in (take locks ceilings) i here
    unfolding names_lock is_release
    acquire_known below not10 =
        let acquire = or_first (is_acquire here) (is_release here) named (ne_eqb here.operation 10 not10) in
        sym (rw (ceiling_fault_in_is, get_or-take locks ceilings here.a 0 below, acquire, lt-leb locks here.a below))

-- the sites of task k's instructions, and its own
unfoldable pub body_sites : Table → ℕ → List Site
body_sites t k = map (λ p. AtInstruction (numbered k) p) (up_to (length (body_of (task_of t (numbered k)))))

unfoldable pub task_site : ℕ → List Site
task_site k = AtTask (numbered k) ∷ []

-- the check of a task's own site
module _ (number : ℕ) (fault : Task → Bool) (k : ℕ) where
  pub task_faulty : fault (numbered k) ≡ true
      → none_of number (of_task fault) (task_site k) ≡ refused number (AtTask (numbered k))
  unfolding task_site none_of of_task
  task_faulty faulty = rw faulty

  pub task_sound : fault (numbered k) ≡ false → none_of number (of_task fault) (task_site k) ≡ passed tt
  unfolding task_site none_of of_task
  task_sound sound = rw sound

-- what the library's search finds is the first element with the fault
option_of : {A : Type 0} → Option A → Math.Option A
option_of None = Math.none
option_of (Some x) = Math.some x

first_of_cond : {A : Type 0} (here : Bool) (x : A) (later : Option A)
    → (if here then Math.some x else option_of later) ≡ option_of (cond here (Some x) later)
unfolding option_of
first_of_cond true x later = refl
first_of_cond false x later = refl

first_found : {A : Type 0} (test : A → Bool) (xs : List A) → first_with test xs ≡ option_of (find test xs)
unfolding first_with option_of
first_found test [] = refl
first_found test (x ∷ xs) = rw (first_found test xs) (first_of_cond (test x) x (find test xs))

-- the numbers that a range yields, and searches of them by tests that agree
range_from : (a n : ℕ) → range_with_len a n ≡ from a n
unfolding from
range_from a zero = refl
range_from a (suc n) = rw (add-one a, range_from (suc a) n)

pub range_up_to : (n : ℕ) → range_with_len 0 n ≡ up_to n
unfolding up_to
range_up_to n = range_from 0 n

agree_from : (test other : ℕ → Bool) (a n : ℕ) → ((k : ℕ) → k < a + n → test k ≡ other k)
    → find test (from a n) ≡ find other (from a n)
unfolding from
agree_from test other a zero same = refl
agree_from test other a (suc n) same =
    rw (same a (omega arith), agree_from test other (suc a) n (λ k below. same k (omega arith)))

pub find_agree : (test other : ℕ → Bool) (n : ℕ) → ((k : ℕ) → k < n → test k ≡ other k)
    → find test (up_to n) ≡ find other (up_to n)
unfolding up_to
find_agree test other n same = agree_from test other 0 n (λ k below. same k (omega arith))

module _ (t : Table) (shaped : Shaped t) where
  -- a table has as many tasks as it says
  pub tasks_length : length (tasks_of t) ≡ t.tasks
  unfolding tasks_of
  tasks_length = length-take-le _ _ (omega (arith, shaped.entries_full, shaped.tasks_within))

  -- the sites of 7 and 9, and those of 8, number by number
  pub instruction_sites_by : instruction_sites t ≡ each (up_to t.tasks) (body_sites t)
  unfolding instruction_sites task_numbers body_sites
  instruction_sites_by = each_map numbered _ _ ∙ ap (λ n. each (up_to n) (body_sites t)) tasks_length

  pub task_sites_by : map (λ i. AtTask i) (task_numbers t) ≡ each (up_to t.tasks) task_site
  unfolding task_numbers task_site
  task_sites_by =
      each_one (λ i. AtTask i) _ ∙ each_map numbered _ _ ∙ ap (λ n. each (up_to n) task_site) tasks_length

  module _ (k : ℕ) (below : k < t.tasks) (d : TaskEntry) where
    -- task k is entry k
    pub task_of_entry : task_of t (numbered k) ≡ get_or t.entries k d
    unfolding task_of tasks_of
    task_of_entry =
        get_or-take _ _ _ _ below ∙ get_or_any t.entries k no_task d (omega (arith, shaped.entries_full, shaped.tasks_within))

    pub entry_shaped : ShapedEntry (get_or t.entries k d)
    entry_shaped =
        rw (get_or_any t.entries k d no_task (omega (arith, shaped.entries_full, shaped.tasks_within)))
        (shaped.bodies k (omega (arith, shaped.tasks_within)))

    -- the faults of 7 and 9 of task k by its entry
    pub body_fault_in_lem : body_fault t (numbered k) ≡ body_fault_in (get_or t.entries k d)
    unfolding body_fault body_fault_in instruction_of
    body_fault_in_lem = ap body_fault_in task_of_entry

    pub ceiling_fault_in_lem : ceiling_fault t (numbered k) ≡ (λ p. ceiling_fault_in (take t.locks t.ceilings) k
        (get_or (body_of (get_or t.entries k d)) p end_instruction))
    unfolding ceiling_fault ceiling_fault_in instruction_of ceilings_of
    ceiling_fault_in_lem =
        ap (λ e p. ceiling_fault_in (take t.locks t.ceilings) k (get_or (body_of e) p end_instruction)) task_of_entry

    -- the check of task k's instructions is the search of its body
    module _ (number : ℕ) (fault : Task → ℕ → Bool) (test : ℕ → Bool) (same : fault (numbered k) ≡ test) where
      body_check : none_of number (of_instruction fault) (body_sites t k)
          ≡ refused_at number (λ p. AtInstruction (numbered k) p) (option_of (find test (up_to (get_or t.entries k d).length)))
      unfolding body_sites of_instruction
      body_check =
          none_of_map number (of_instruction fault) (λ p. AtInstruction (numbered k) p)
          (up_to (length (body_of (task_of t (numbered k)))))
          ∙ (rw (same, task_of_entry, body_length (get_or t.entries k d) entry_shaped))
          ∙ ap (refused_at number (λ p. AtInstruction (numbered k) p)) (first_found test (up_to (get_or t.entries k d).length))

      pub body_faulty : (p : ℕ) → Some p ≡ find test (up_to (get_or t.entries k d).length)
          → none_of number (of_instruction fault) (body_sites t k) ≡ refused number (AtInstruction (numbered k) p)
      unfolding refused_at option_of
      body_faulty p found = body_check ∙ rw (← found)

      pub body_sound : None ≡ find test (up_to (get_or t.entries k d).length)
          → none_of number (of_instruction fault) (body_sites t k) ≡ passed tt
      unfolding refused_at option_of
      body_sound found = body_check ∙ rw (← found)

  -- no task stands before the first
  pub rate_first : (k : ℕ) → k ≤ 0 → rate_fault t (numbered k) ≡ false
  unfolding rate_fault
  rate_first k first = and_first (ltb 0 k) _ (le-ltb 0 k first)

  -- a later task's period is held to that of the one before
  module _ (k : ℕ) (later : 0 < k) (below : k < t.tasks) (d : TaskEntry) where
    rate_later : rate_fault t (numbered k) ≡ ltb (get_or t.entries (k - 1) d).period (get_or t.entries k d).period
    unfolding rate_fault
    rate_later = rw (lt-ltb 0 k later, task_of_entry k below d, task_of_entry (k - 1) (omega arith) d)

    pub rate_above : (get_or t.entries (k - 1) d).period < (get_or t.entries k d).period
        → rate_fault t (numbered k) ≡ true
    rate_above above = rate_later ∙ lt-ltb _ _ above

    pub rate_within : (get_or t.entries k d).period ≤ (get_or t.entries (k - 1) d).period
        → rate_fault t (numbered k) ≡ false
    rate_within within = rate_later ∙ le-ltb _ _ within
