-- What a table that was loaded is like: its arrays are full, its store has eight bytes, no body is empty, and each
-- instruction offers some value and none above 15.
-- Assumes nothing.
use Rattle.std.specs.Prelude.{◌≡◌, ◌≢◌, ℕ, zero, suc, ◌≤◌, ◌<◌, true, not, List, ◌∷◌, length, get_or, drop, eqb}
use Rattle.std.proofs.Common.{sym, ap, subst, ◌∙◌, arith, length-drop, length-take-le}
use Rattle.std.proofs.Math.Decide.{dec_lt}
use Rattle.std.proofs.lemmas.List.{length-map}
use Rattle.std.proofs.Math.ListN.{get_or-eq_default}
use Rattle.std.proofs.lemmas.Bool.{eqb-false, not-true}
use Rattle.taskfile.specs.declared.Kind.{Kind}
use Rattle.taskfile.specs.declared.Kind.TheVariants.{InstructionRecord}
use Rattle.taskfile.specs.declared.Task.{Task}
use Rattle.taskfile.specs.declared.TaskEntry.{TaskEntry}
use Rattle.taskfile.specs.Chains.{Chains, most_instructions, follow, chain, body_chain}
use Rattle.taskfile.proofs.Laws.ChainLaws.{chain_linked, chains_linked, body_held, table_shaped}
use Rattle.notation.specs.Checked.{passed, require}
use Rattle.notation.specs.Laws.CheckedLaws.{passed_same, bind_passed, then_passed, require_passed}
use Rattle.taskfile.specs.File.{Loaded, load, sized}
use Rattle.taskfile.specs.Judgement.{instruction_of}
use Rattle.taskfile.specs.Code.Choices.{Chooses}
use Rattle.taskfile.specs.Code.JudgingParts.{Shaped}
use Rattle.taskfile.proofs.Laws.ChoiceLaws.{ranged_chooses, end_chooses}
use Rattle.taskfile.proofs.Laws.LinkedLaws.{linked_length, linked_more}
use Rattle.notation.specs.Lists.{member}
use Rattle.taskfile.proofs.Laws.LoadLaws.{load_parts, sized_within}
use Rattle.notation.specs.Laws.PairLaws.{every_get_or, every_imp, every_map}
use Rattle.notation.specs.Ordered.{Every}
use Rattle.taskfile.specs.Code.Reading.{linked}
use Rattle.taskfile.specs.Records.{File, byte_at, next, in_range, instruction_at}
use Rattle.taskfile.specs.Tables.{tasks_of, task_of, body_of, no_task, end_instruction, entry_at, table_at}
use Rattle.notation.specs.Laws.TestLaws.{test_holds}
use Rattle.taskfile.proofs.Laws.TimesLaws.{follow_in_range, reached_held}
use Rattle.taskfile.specs.Code.WellMade.{WellMade}

-- ---- the store

load_sized : (f : File) {l : Loaded} → load f ≡ passed l → sized f ≡ true
unfolding load
load_sized f e = test_holds _ (require_passed (sized f) 1 0 (then_passed (require (sized f) 1 0) _ e).1)

store_full : (f : File) (c : Chains) → sized f ≡ true → length (table_at f c).store ≡ 8
unfolding table_at
store_full f c h = length-take-le 8 (drop 8 f) (omega (arith, length-drop 8 f, sized_within f h))

-- ---- the bodies

-- each record of a chain that passed has its values in range
chain_in_range : (kind : Kind) (allowed : ℕ) (f : File) (reached : List ℕ) (holder index : ℕ) {l : List ℕ}
    → chain kind allowed f reached holder index ≡ passed l → Every (λ r. in_range f r kind ≡ true) l
unfolding chain
chain_in_range kind zero f reached holder zero e = subst (Every _) (passed_same e) tt
chain_in_range kind zero f reached holder (suc i) e = subst (Every _) (passed_same (then_passed _ _ e).2) tt
chain_in_range kind (suc allowed) f reached holder zero e = subst (Every _) (passed_same e) tt
chain_in_range kind (suc allowed) f reached holder (suc i) e =
    let step = then_passed (follow kind (suc allowed) f (member (suc i) reached) holder (suc i)) _ e in
    let others = bind_passed (chain kind allowed f (suc i ∷ reached) (suc i) (next f (suc i))) _ step.2 in
    subst (Every (λ r. in_range f r kind ≡ true)) (passed_same others.2) (
      follow_in_range kind (suc allowed) f (member (suc i) reached) holder (suc i) step.1,
      chain_in_range kind allowed f (suc i ∷ reached) (suc i) (next f (suc i)) others.1,
    )

-- what an entry's body is like
record BodyMade (e : TaskEntry) : Type 0 where
  some : 1 ≤ length (body_of e)
  choices : Every Chooses (body_of e)

record_chooses : (f : File) (r : ℕ) → in_range f r InstructionRecord ≡ true → Chooses (instruction_at f r)
unfolding in_range
record_chooses f r h = ranged_chooses (instruction_at f r) h

-- a body that passed has a first instruction, and its records are in range
body_made : (f : File) (reached : List ℕ) (r : ℕ) (body : List ℕ) → body_chain f reached r ≡ passed body
    → BodyMade (entry_at f (record { task_record = r; body = body }))
unfolding body_chain
body_made f reached r body e =
    let first = byte_at f r 2 in
    let parts = then_passed (require (not (eqb first 0)) 5 r) _ e in
    let follows : first ≢ 0 = eqb-false first 0 (not-true (eqb first 0) (test_holds _ (require_passed (not (eqb first 0)) 5 r parts.1))) in
    let links : body ≡ linked f most_instructions first = chain_linked InstructionRecord most_instructions f reached r first parts.2 in
    let more : length body ≡ suc (length (linked f 15 (next f first))) = ap length (links ∙ linked_more f 15 first follows) in
    let few : length body ≤ most_instructions = omega (arith, ap length links, linked_length f most_instructions first) in
    let held = body_held f (record { task_record = r; body = body }) few in
    record {
      some = rw (held, length-map body (instruction_at f)) (omega arith);
      choices =
          rw held
          (every_map Chooses (instruction_at f) body
          (every_imp (λ r. in_range f r InstructionRecord ≡ true) (λ r. Chooses (instruction_at f r)) (record_chooses f) body
          (chain_in_range InstructionRecord most_instructions f reached r first parts.2)));
    }

-- behind a body's end stands End, and behind the tasks a task without a body
body_chooses : (tasks : List TaskEntry) (i : ℕ) → (i < length tasks → Every Chooses (body_of (get_or tasks i no_task)))
    → Every Chooses (body_of (get_or tasks i no_task))
unfolding body_of no_task
body_chooses tasks i inside =
    elim (dec_lt i (length tasks)) [
      | yes lt ↦ inside lt
      | no past ↦ rw (get_or-eq_default tasks no_task {n = i} (omega arith)) tt
    ]

-- ---- the table

pub loaded_well : (f : File) {l : Loaded} → load f ≡ passed l → WellMade l.table
unfolding instruction_of task_of
loaded_well f {l} e =
    let parts = load_parts f e in
    let t = table_at f l.chains in
    let body : (i : Task) → i.0 < length (tasks_of t) → BodyMade (task_of t i) =
    reached_held f BodyMade (λ reached r body h. body_made f reached r body) parts.0 in
    let made : WellMade t =
    record {
      shaped = subst (λ (c : Chains). Shaped (table_at f c)) (sym (chains_linked f parts.0)) (table_shaped f);
      store = store_full f l.chains (load_sized f e);
      bodies = λ i lt. (body i lt).some;
      choices = λ i p.
          every_get_or Chooses (body_of (task_of t i)) p end_instruction
          (body_chooses (tasks_of t) i.0 (λ lt. (body i lt).choices)) end_chooses;
    } in
    subst WellMade (sym parts.1) made
