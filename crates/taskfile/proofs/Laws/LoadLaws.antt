-- Laws of the reader up to 9: what `load` yields, by the check that decides.
-- Assumes nothing.
use Rattle.std.specs.Prelude.{◌≡◌, refl, ℕ, ◌%◌, ◌≤◌, ◌<◌, true, false, ◌&&◌, length, leb}
use Rattle.std.proofs.Common.{sym, ap, subst, ◌∙◌, ⊎_elim, arith, leb-true, eqb-true}
use mathlib.Core.List.Memᴰ
use mathlib.Core.List.{map, Memᴰ}
use Rattle.taskfile.specs.declared.Site.{Site}
use Rattle.taskfile.specs.declared.Site.TheVariants.{AtTask, AtInstruction}
use Rattle.taskfile.specs.declared.Table.{Table}
use Rattle.taskfile.specs.declared.Task.{Task}
use Rattle.taskfile.specs.Chains.{Chains, chains_of}
use Rattle.taskfile.proofs.Laws.ChainLaws.{chains_linked, InTable, in_table_sited, site_record_lem}
use Rattle.notation.specs.Checked.{Checked, refused, passed, require, placed_by, mapped, bare, ◌>>=◌, ◌>>◌}
use Rattle.notation.specs.Laws.CheckedLaws.{passed_same, bind_passed, then_passed, placed_passed, require_holds}
use Rattle.notation.specs.Laws.CheckedLaws.{require_fails, bind_refused, bind_goes, then_refused, then_goes}
use Rattle.notation.specs.Laws.CheckedLaws.{refused_passed, none_of_listed, then_refuses}
use Rattle.taskfile.specs.File.{Loaded, load, sized, record_at}
use Rattle.taskfile.specs.Judgement.{judged, numbered, task_numbers, instruction_sites, of_instruction, of_task, body_fault, rate_fault, ceiling_fault}
use Rattle.notation.specs.Lists.{up_to}
use Rattle.notation.specs.Laws.ListLaws.{member_each, up_to_member}
use Rattle.taskfile.specs.Code.Reading.{linked_chains}
use Rattle.taskfile.specs.Code.ReadingParts.{site_record}
use Rattle.taskfile.specs.Records.{File}
use Rattle.taskfile.specs.Tables.{tasks_of, task_of, body_of, table_at}
use Rattle.notation.specs.Laws.TestLaws.{and_both}

-- a task number that is listed is one of the table's
pub task_in : (t : Table) (i : Task) → Memᴰ i (task_numbers t) → i.0 < length (tasks_of t)
unfolding task_numbers
task_in t i m =
    let number = Memᴰ.of_map numbered (up_to (length (tasks_of t))) m in
    subst (λ (j : Task). j.0 < length (tasks_of t)) number.2 ((up_to_member (length (tasks_of t)) number.0).0 number.1)

tasks_in : (t : Table) {s : Site} → Memᴰ s (map (λ i. AtTask i) (task_numbers t)) → InTable t s
tasks_in t m =
    let task = Memᴰ.of_map (λ (i : Task). AtTask i) (task_numbers t) m in
    subst (InTable t) task.2 (task_in t task.0 task.1)

sites_in : (t : Table) {s : Site} → Memᴰ s (instruction_sites t) → InTable t s
unfolding instruction_sites
sites_in t m =
    let task = member_each (task_numbers t) (λ i. map (λ p. AtInstruction i p) (up_to (length (body_of (task_of t i))))) m in
    let at = Memᴰ.of_map (λ (p : ℕ). AtInstruction task.0 p) (up_to (length (body_of (task_of t task.0)))) task.2 in
    subst (InTable t) at.2
    (task_in t task.0 task.1, (up_to_member (length (body_of (task_of t task.0))) at.0).0 at.1)

-- what the judgement refuses is a site of the table
pub fault_in_table : (t : Table) {n : ℕ} {s : Site} → judged t ≡ refused n s → InTable t s
unfolding judged
fault_in_table t e =
    ⊎_elim (λ h. sites_in t (none_of_listed 7 (of_instruction (body_fault t)) (instruction_sites t) h))
    (λ later.
    ⊎_elim (λ h. tasks_in t (none_of_listed 8 (of_task (rate_fault t)) (map (λ i. AtTask i) (task_numbers t)) h))
    (λ h. sites_in t (none_of_listed 9 (of_instruction (ceiling_fault t)) (instruction_sites t) h))
    (then_refuses _ _ later))
    (then_refuses _ _ e)

-- a file of the right length has a header, and no more than 256 records
pub sized_within : (f : File) → sized f ≡ true → (16 ≤ length f) × (length f ≤ 4096)
unfolding sized
sized_within f h =
    let parts = and_both (leb 1 (length f) && leb (length f) 4096) _ h in
    let ends = and_both (leb 1 (length f)) _ parts.0 in
    omega (arith, leb-true 1 (length f) ends.0, leb-true (length f) 4096 ends.1, eqb-true (length f % 16) 0 parts.1)

-- ---- what `load` yields, by the check that decides

module _ (f : File) where
  pub load_unsized : sized f ≡ false → load f ≡ refused 1 0
  unfolding load
  load_unsized h = require_fails (sized f) 1 0 _ h

  module _ (right : sized f ≡ true) where
    pub load_unchained : {n p : ℕ} → chains_of f ≡ refused n p → load f ≡ refused n p
    unfolding load
    load_unchained h = require_holds (sized f) 1 0 _ right ∙ bind_refused _ h

    load_chained : {c : Chains} → chains_of f ≡ passed c
        → load f ≡ ◌>>◌ (placed_by (record_at c) (judged (table_at f c)))
        (passed (record { table = table_at f c; chains = c }))
    unfolding load
    load_chained h = require_holds (sized f) 1 0 _ right ∙ bind_goes _ h

    pub load_faulty : {c : Chains} → chains_of f ≡ passed c → {n : ℕ} {s : Site} → judged (table_at f c) ≡ refused n s
        → load f ≡ refused n (record_at c s)
    unfolding placed_by
    load_faulty {c} h e = load_chained h ∙ then_refused _ (ap (placed_by (record_at c)) e)

    pub load_sound : {c : Chains} → chains_of f ≡ passed c → {u : Unit {0}} → judged (table_at f c) ≡ passed u
        → load f ≡ passed (record { table = table_at f c; chains = c })
    unfolding placed_by
    load_sound {c} h e = load_chained h ∙ then_goes _ (ap (placed_by (record_at c)) e)

-- ---- what loading a file answers

-- what a check without its value says of the check
bare_refused : {P A : Type 0} (c : Checked P A) {n : ℕ} {p : P} → refused n p ≡ bare c → c ≡ refused n p
unfolding mapped
bare_refused (refused number place) e = cc
bare_refused (passed x) e = refused_passed e

bare_passed : {P A : Type 0} (c : Checked P A) → passed tt ≡ bare c → (x : A) × (c ≡ passed x)
unfolding mapped
bare_passed (refused number place) e = refused_passed (sym e)
bare_passed (passed x) e = (x, refl)

-- a file's table, or its refusal
abbrev table_of : File → Checked ℕ Table
table_of f = mapped (λ loaded. loaded.table) (load f)

module _ (f : File) where
  pub answers_unsized : sized f ≡ false → refused 1 0 ≡ table_of f
  unfolding mapped
  answers_unsized h = rw (load_unsized f h)

  module _ (right : sized f ≡ true) where
    pub answers_unchained : {n p : ℕ} → refused n p ≡ bare (chains_of f) → refused n p ≡ table_of f
    unfolding mapped
    answers_unchained h = rw (load_unchained f right (bare_refused (chains_of f) h))

    module _ (whole : passed tt ≡ bare (chains_of f)) {t : Table} (spelled : t ≡ table_at f (linked_chains f)) where
      -- the chains of a file that passed are those that its links make
      linked_passed : chains_of f ≡ passed (linked_chains f)
      linked_passed =
          let chained = bare_passed (chains_of f) whole in
          chained.1 ∙ ap passed (chains_linked f chained.1)

      pub answers_faulty : {n : ℕ} {s : Site} {r : ℕ} → refused n s ≡ judged t → r ≡ site_record f s
          → refused n r ≡ table_of f
      unfolding mapped
      answers_faulty {n} {s} h place =
          let fault : judged (table_at f (linked_chains f)) ≡ refused n s = rw spelled at (sym h) in
          let record' : record_at (linked_chains f) s ≡ site_record f s =
          site_record_lem f s (in_table_sited f s (fault_in_table (table_at f (linked_chains f)) fault)) in
          rw (load_faulty f right linked_passed fault, place, record')

      pub answers_sound : passed tt ≡ judged t → passed t ≡ table_of f
      unfolding mapped
      answers_sound h =
          rw (load_sound f right linked_passed (subst (λ (y : Table). judged y ≡ passed tt) spelled (sym h)), spelled)

-- ---- what a file that was loaded holds

pub load_parts : (f : File) {loaded : Loaded} → load f ≡ passed loaded
    → (chains_of f ≡ passed loaded.chains) × (loaded.table ≡ table_at f loaded.chains)
    × (judged loaded.table ≡ passed tt)
unfolding load
load_parts f {loaded} e =
    let whole : Chains → Loaded = λ chains. record { table = table_at f chains; chains = chains } in
    let judgement : Chains → Checked ℕ (Unit {0}) = λ chains. placed_by (record_at chains) (judged (table_at f chains)) in
    let size = then_passed (require (sized f) 1 0) (◌>>=◌ (chains_of f) (λ chains. ◌>>◌ (judgement chains) (passed (whole chains)))) e in
    let chains = bind_passed (chains_of f) (λ chains. ◌>>◌ (judgement chains) (passed (whole chains))) size.2 in
    let judge = then_passed (judgement chains.0) (passed (whole chains.0)) chains.2 in
    subst (λ (x : Loaded). (chains_of f ≡ passed x.chains) × (x.table ≡ table_at f x.chains) × (judged x.table ≡ passed tt))
    (passed_same judge.2)
    (chains.1, refl, placed_passed (record_at chains.0) (judged (table_at f chains.0)) judge.1)
