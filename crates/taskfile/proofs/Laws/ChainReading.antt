-- Laws of reading the chains: from which records were reached and what each part of the walk came to, what the
-- whole comes to. Each law is one way out of a function that reads.
-- Assumes nothing.
use Rattle.std.specs.Prelude.{◌≡◌, ℕ, ◌-◌, ◌<◌, Bool, false, List, [], ◌∷◌, ◌++◌, get_or, set, replicate, eqb}
use Rattle.std.proofs.Math.Path.{refl, ap}
use Rattle.std.proofs.Common.{sym, ◌∙◌, lit<, eq-eqb, ne_eqb}
use Rattle.std.proofs.Math.Bool.{true, not}
use Rattle.taskfile.specs.declared.Kind.{Kind}
use Rattle.taskfile.specs.declared.Kind.TheVariants.{Header, TaskRecord, LockRecord, InstructionRecord}
use Rattle.taskfile.proofs.Laws.ChainCases.{follow_allowed, chain_ends, chain_refused, chain_goes, tasks_end, tasks_refused, tasks_go}
use Rattle.taskfile.specs.Chains.{Chains, TaskChain, record_of, follow, chain, body_chain, task_chains, records_of, reached_by, no_stray, chains_of}
use Rattle.taskfile.proofs.Laws.CheckSteps.{then_bare}
use Rattle.notation.specs.Laws.CheckedLaws.{refused_passed, require_holds, require_fails, bind_refused, bind_goes, then_refused, then_goes}
use Rattle.notation.specs.Checked.{Checked, refused, passed, mapped, bare, none_of, ◌>>=◌, ◌>>◌}
use Rattle.notation.specs.Lists.{up_to, member, each}
use Rattle.taskfile.proofs.Laws.SeenLaws.{seen_at, seen_moved, seen_swapped, seen_more, seen_none}
use Rattle.taskfile.specs.Code.Reading.{seen_of, ChainedAs}
use Rattle.taskfile.specs.Records.{File, records, byte_at, next}

-- A chain that was read: what it comes to, by the definition's chain, and the other way round.
module _ {A : Type 0} (all : A → List ℕ) (seen : List Bool) (reached : List ℕ) where
  chained_refused : (c : Checked ℕ A) {number place : ℕ} → c ≡ refused number place
      → ChainedAs all (refused number place) seen reached c
  chained_refused c e = rw e refl

  chained_passed : (c : Checked ℕ A) {a : A} → c ≡ passed a → seen ≡ seen_of (all a ++ reached)
      → ChainedAs all (passed tt) seen reached c
  chained_passed c e m = rw e (refl, m)

  refused_chained : {check : Checked ℕ (Unit {0})} (c : Checked ℕ A) {number place : ℕ} → ChainedAs all check seen reached c
      → check ≡ refused number place → c ≡ refused number place
  refused_chained (refused n p) h e = cc
  refused_chained (passed a) h e = refused_passed (sym e ∙ h.0)

  passed_chained : {check : Checked ℕ (Unit {0})} (c : Checked ℕ A) → ChainedAs all check seen reached c
      → check ≡ passed tt → (a : A) × (c ≡ passed a) × (seen ≡ seen_of (all a ++ reached))
  passed_chained (refused n p) h e = refused_passed (sym h ∙ e)
  passed_chained (passed a) h e = (a, refl, h.1)

  -- the records of what comes first are added to a chain that was read after them
  chained_on : {B : Type 0} (check : Checked ℕ (Unit {0})) (whole : B → List ℕ) (before : List ℕ) (k : A → B)
      → ((a : A) → seen_of (all a ++ reached) ≡ seen_of (whole (k a) ++ before)) → (c : Checked ℕ A)
      → ChainedAs all check seen reached c → ChainedAs whole check seen before (◌>>=◌ c (λ a. passed (k a)))
  unfolding ◌>>=◌
  chained_on check whole before k same (refused n p) h = h
  chained_on check whole before k same (passed a) h = (h.0, h.1 ∙ same a)

-- a step that passed was allowed
pub step_allowed : (kind : Kind) (allowed : ℕ) (f : File) (again : Bool) (holder index : ℕ)
    → passed tt ≡ follow kind allowed f again holder index → 0 < allowed
step_allowed kind allowed f again holder index e = follow_allowed kind allowed f again holder index (sym e)

-- The step from `holder` to an index, by the flags `seen` of the records reached.
step_seen : (kind : Kind) (allowed : ℕ) (f : File) (seen : List Bool) (holder index : ℕ) (byte : index < 256)
    (reached : List ℕ) (marked : seen ≡ seen_of reached) {step : Checked ℕ (Unit {0})}
    → step ≡ follow kind allowed f (get_or seen index false) holder index
    → follow kind allowed f (member index reached) holder index ≡ step
step_seen kind allowed f seen holder index byte reached marked e = sym (e ∙ rw (marked, seen_at reached index byte))

-- Reading a chain of records of one kind.
abbrev ChainRead : Checked ℕ (Unit {0}) → List Bool → Kind → ℕ → File → List ℕ → ℕ → ℕ → Type 0
ChainRead x after kind allowed f reached holder index =
    ChainedAs (λ l. l) x after reached (chain kind allowed f reached holder index)

module _ (kind : Kind) (allowed : ℕ) (f : File) (seen : List Bool) (holder index : ℕ) where
  pub chain_empty : index ≡ 0 → (reached : List ℕ) → seen ≡ seen_of reached
      → ChainRead (passed tt) seen kind allowed f reached holder index
  chain_empty e reached marked =
      chained_passed _ _ reached _ (ap (λ i. chain kind allowed f reached holder i) e ∙ chain_ends kind f reached holder allowed)
      marked

  module _ (some : index ≡ 0 → ⊥) (byte : index < 256) where
    pub chain_stops : {number place : ℕ} → refused number place ≡ follow kind allowed f (get_or seen index false) holder index
        → (after : List Bool) (reached : List ℕ) → seen ≡ seen_of reached
        → ChainRead (refused number place) after kind allowed f reached holder index
    chain_stops e after reached marked =
        chained_refused _ after reached _
        (chain_refused kind f reached holder allowed index some (step_seen kind allowed f seen holder index byte reached marked e))

    module _ (passes : passed tt ≡ follow kind allowed f (get_or seen index false) holder index) (next-index : ℕ)
        (next-is : next-index ≡ next f index) (x : Checked ℕ (Unit {0})) (after : List Bool)
        (read : (reached : List ℕ) → set seen index true ≡ seen_of reached
        → ChainRead x after kind (allowed - 1) f reached index next-index) where
      pub chain_goes_on : (reached : List ℕ) → seen ≡ seen_of reached → ChainRead x after kind allowed f reached holder index
      chain_goes_on reached marked =
          let goes : chain kind allowed f reached holder index
          ≡ ◌>>=◌ (chain kind (allowed - 1) f (index ∷ reached) index next-index) (λ others. passed (index ∷ others)) =
          chain_goes kind f reached holder allowed index some
          (step_seen kind allowed f seen holder index byte reached marked passes)
          ∙ rw (← next-is) in
          rw goes
          (chained_on _ after (index ∷ reached) x (λ l. l) reached (λ others. index ∷ others)
          (λ others. seen_moved others (index ∷ []) reached) _
          (read (index ∷ reached) (seen_more seen reached index byte marked)))

-- Reading a body.
abbrev BodyRead : Checked ℕ (Unit {0}) → List Bool → File → List ℕ → ℕ → Type 0
BodyRead x after f reached holder = ChainedAs (λ l. l) x after reached (body_chain f reached holder)

module _ (f : File) (holder first : ℕ) (first_is : first ≡ byte_at f holder 2) (after : List Bool) (reached : List ℕ) where
  pub body_empty : first ≡ 0 → BodyRead (refused 5 holder) after f reached holder
  unfolding body_chain
  body_empty e =
      chained_refused _ after reached _ (require_fails _ 5 holder _ (ap not (eq-eqb _ 0 (sym first_is ∙ e))))

  pub body_follows : (first ≡ 0 → ⊥) → (x : Checked ℕ (Unit {0})) → ChainRead x after InstructionRecord 16 f reached holder first
      → BodyRead x after f reached holder
  unfolding body_chain
  body_follows some x read =
      let holds : not (eqb (byte_at f holder 2) 0) ≡ true = ap not (ne_eqb _ 0 (λ e. some (first_is ∙ e))) in
      rw (require_holds _ 5 holder (chain InstructionRecord 16 f reached holder (byte_at f holder 2)) holds, ← first_is) read

-- Reading the tasks' chain, each task followed by its body.
abbrev TasksRead : Checked ℕ (Unit {0}) → List Bool → ℕ → File → List ℕ → ℕ → ℕ → Type 0
TasksRead x after allowed f reached holder index =
    ChainedAs records_of x after reached (task_chains allowed f reached holder index)

module _ (allowed : ℕ) (f : File) (seen : List Bool) (holder index : ℕ) where
  pub tasks_empty : index ≡ 0 → (reached : List ℕ) → seen ≡ seen_of reached
      → TasksRead (passed tt) seen allowed f reached holder index
  unfolding records_of each
  tasks_empty e reached marked =
      chained_passed _ _ reached _ (ap (λ i. task_chains allowed f reached holder i) e ∙ tasks_end f reached holder allowed) marked

  module _ (some : index ≡ 0 → ⊥) (byte : index < 256) where
    pub tasks_stop : {number place : ℕ} → refused number place ≡ follow TaskRecord allowed f (get_or seen index false) holder index
        → (after : List Bool) (reached : List ℕ) → seen ≡ seen_of reached
        → TasksRead (refused number place) after allowed f reached holder index
    tasks_stop e after reached marked =
        chained_refused _ after reached _
        (tasks_refused f reached holder allowed index some
        (step_seen TaskRecord allowed f seen holder index byte reached marked e))

    module _ (passes : passed tt ≡ follow TaskRecord allowed f (get_or seen index false) holder index)
        (whole : Checked ℕ (Unit {0})) (within : List Bool)
        (bodyRead : (reached : List ℕ) → set seen index true ≡ seen_of reached → BodyRead whole within f reached index) where
      tasks_on : (reached : List ℕ) → seen ≡ seen_of reached → task_chains allowed f reached holder index
          ≡ ◌>>=◌ (body_chain f (index ∷ reached) index) (λ body.
          ◌>>=◌ (task_chains (allowed - 1) f (index ∷ body ++ reached) index (next f index)) (λ others.
          passed (record { task_record = index; body = body } ∷ others)))
      tasks_on reached marked =
          tasks_go f reached holder allowed index some
          (step_seen TaskRecord allowed f seen holder index byte reached marked passes)

      pub body_breaks : {number place : ℕ} → whole ≡ refused number place → (after : List Bool)
          → (reached : List ℕ) → seen ≡ seen_of reached → TasksRead whole after allowed f reached holder index
      body_breaks e after reached marked =
          let read = bodyRead (index ∷ reached) (seen_more seen reached index byte marked) in
          let body = refused_chained (λ l. l) within (index ∷ reached) _ read e in
          rw e (chained_refused _ after reached _ (tasks_on reached marked ∙ bind_refused _ body))

      module _ (complete : whole ≡ passed tt) (next-index : ℕ) (next-is : next-index ≡ next f index)
          (x : Checked ℕ (Unit {0})) (after : List Bool)
          (read : (reached : List ℕ) → within ≡ seen_of reached → TasksRead x after (allowed - 1) f reached index next-index) where
        pub tasks_go_on : (reached : List ℕ) → seen ≡ seen_of reached → TasksRead x after allowed f reached holder index
        unfolding records_of each
        tasks_go_on reached marked =
            let readBody = bodyRead (index ∷ reached) (seen_more seen reached index byte marked) in
            let body = passed_chained (λ l. l) within (index ∷ reached) _ readBody complete in
            let goes : task_chains allowed f reached holder index
            ≡ ◌>>=◌ (task_chains (allowed - 1) f (index ∷ body.0 ++ reached) index next-index) (λ others.
            passed (record { task_record = index; body = body.0 } ∷ others)) =
            tasks_on reached marked ∙ bind_goes _ body.1 ∙ rw (← next-is) in
            rw goes
            (chained_on _ after (index ∷ body.0 ++ reached) x records_of reached
            (λ others. record { task_record = index; body = body.0 } ∷ others)
            (λ others. seen_moved (records_of others) (index ∷ body.0) reached) _
            (read (index ∷ body.0 ++ reached) (body.2 ∙ seen_moved body.0 (index ∷ []) reached)))

-- The whole walk. What follows once the tasks are read, and once the locks are:
abbrev after_locks : File → List TaskChain → List ℕ → Checked ℕ Chains
after_locks f tasks locks =
    ◌>>◌ (no_stray f (record { tasks = tasks; locks = locks })) (passed (record { tasks = tasks; locks = locks }))

abbrev after_tasks : File → List TaskChain → Checked ℕ Chains
after_tasks f tasks = ◌>>=◌ (chain LockRecord 8 f (0 ∷ records_of tasks) 0 (byte_at f 0 3)) (after_locks f tasks)

module _ (f : File) where
  pub header_fails : {number place : ℕ} → refused number place ≡ record_of Header f 0
      → refused number place ≡ bare (chains_of f)
  unfolding chains_of mapped
  header_fails e = rw (then_refused _ (sym e))

  module _ (passes : passed tt ≡ record_of Header f 0) (first : ℕ) (first_is : first ≡ byte_at f 0 2) where
    pub no_tasks : first ≡ 0 → refused 5 0 ≡ bare (chains_of f)
    unfolding chains_of mapped
    no_tasks e =
        ap bare (sym (then_goes _ (sym passes) ∙ require_fails _ 5 0 _ (ap not (eq-eqb _ 0 (sym first_is ∙ e)))))

    module _ (some : first ≡ 0 → ⊥) (tasks : Checked ℕ (Unit {0})) (within : List Bool)
        (tasksRead : (reached : List ℕ) → set (replicate 256 false) 0 true ≡ seen_of reached
        → TasksRead tasks within 8 f reached 0 first) where
      chains_start : chains_of f ≡ ◌>>=◌ (task_chains 8 f (0 ∷ []) 0 first) (after_tasks f)
      unfolding chains_of
      chains_start =
          then_goes _ (sym passes) ∙ require_holds _ 5 0 _ (ap not (ne_eqb _ 0 (λ e. some (first_is ∙ e)))) ∙ rw (← first_is)

      read_tasks : TasksRead tasks within 8 f (0 ∷ []) 0 first
      read_tasks = tasksRead (0 ∷ []) (seen_more (replicate 256 false) [] 0 (lit< tt) seen_none)

      pub tasks_fail : {number place : ℕ} → tasks ≡ refused number place → tasks ≡ bare (chains_of f)
      unfolding mapped
      tasks_fail e =
          let refuses = refused_chained records_of within (0 ∷ []) _ read_tasks e in
          rw (e, chains_start ∙ bind_refused _ refuses)

      module _ (tasksPass : tasks ≡ passed tt) (lock : ℕ) (lock-is : lock ≡ byte_at f 0 3) (locks : Checked ℕ (Unit {0}))
          (after : List Bool)
          (locks_read : (reached : List ℕ) → within ≡ seen_of reached
          → ChainRead locks after LockRecord 8 f reached 0 lock) where
        -- the tasks found, and how the locks were read after them
        found : (t : List TaskChain)
            × (chains_of f ≡ ◌>>=◌ (chain LockRecord 8 f (0 ∷ records_of t) 0 lock) (after_locks f t))
            × ChainRead locks after LockRecord 8 f (0 ∷ records_of t) 0 lock
        found =
            let t = passed_chained records_of within (0 ∷ []) _ read_tasks tasksPass in (
              t.0,
              chains_start ∙ bind_goes _ t.1 ∙ rw (← lock-is),
              locks_read (0 ∷ records_of t.0) (t.2 ∙ seen_swapped (records_of t.0) (0 ∷ [])),
            )

        pub locks_fail : {number place : ℕ} → locks ≡ refused number place → locks ≡ bare (chains_of f)
        unfolding mapped
        locks_fail e =
            let refuses = refused_chained (λ l. l) after (0 ∷ records_of found.0) _ found.2 e in
            rw (e, found.1 ∙ bind_refused _ refuses)

        pub chains_read : locks ≡ passed tt → (x : Checked ℕ (Unit {0}))
            → ((reached : List ℕ) → after ≡ seen_of reached
            → x ≡ none_of 6 (λ r. not (member r reached)) (up_to (records f)))
            → x ≡ bare (chains_of f)
        unfolding no_stray reached_by
        chains_read locksPass x checked =
            let l = passed_chained (λ l. l) after (0 ∷ records_of found.0) _ found.2 locksPass in
            checked (0 ∷ records_of found.0 ++ l.0) (l.2 ∙ seen_swapped l.0 (0 ∷ records_of found.0))
            ∙ then_bare _ _
            ∙ ap bare (sym (found.1 ∙ bind_goes _ l.1))
