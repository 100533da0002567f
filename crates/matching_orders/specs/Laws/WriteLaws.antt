-- The bytes that are written of a legal plan's marks are those of its order, and they fit the room.
-- Assumes nothing.
use Rattle.order.specs.OrderBytes.{order_byte}
use Rattle.std.specs.Prelude.{◌≡◌, refl, ℕ, ◌+◌, ◌*◌, ◌≤◌, ◌<◌}
use Rattle.std.proofs.Math.Path.{sym, ap, subst}
use Rattle.std.proofs.Common.{◌∙◌, arith}
use Rattle.std.proofs.Math.Bool.{Bool}
use mathlib.Core.List.{List, [], ◌∷◌, ◌++◌, map}
use Rattle.std.proofs.Math.ListN.{length, get_or, take, drop}
use Rattle.std.proofs.Math.Dec.{eqb}
use Rattle.notation.specs.Lists.{up_to, only, each}
use Rattle.notation.specs.Laws.ElementLaws.{each_same, member_only}
use Rattle.notation.specs.Laws.ListLaws.{each_map}
use Rattle.notation.specs.Laws.PairLaws.{every_at, every_imp, every_listed, every_member}
use Rattle.notation.specs.Laws.TabulateLaws.{values_length, values_at}
use Rattle.notation.specs.Ordered.{Every}
use Rattle.taskfile.specs.declared.Table.{Table}
use Rattle.timing.specs.declared.Job.{Job}
use Rattle.timing.specs.declared.JobList.{JobList}
use Rattle.timing.specs.declared.JobRecord.{JobRecord}
use Rattle.timing.specs.Accepted.{Accepted}
use Rattle.timing.specs.Code.IsAccepted.{IsAccepted}
use Rattle.timing.specs.Code.JobParts.{job_list_of}
use Rattle.timing.proofs.Laws.BaseLaws.{base_small}
use Rattle.timing.proofs.Laws.JobFacts.{jobs_few}
use Rattle.timing.proofs.Laws.JobListLaws.{record_listed}
use Rattle.timing.specs.Relations.{IsJob, base, job_numbers}
use Rattle.machine.specs.Buffers.{order_room, filled}
use Rattle.order_states.specs.Code.Lent.{OwnersTo}
use Rattle.order_states.specs.Code.SnapshotSteps.{Program, owner_in}
use Rattle.plan.specs.Legality.{steps_of}
use Rattle.plan.specs.Plans.{Legal, plan_end}
use Rattle.plan.specs.Runs.{Plan, Step, JobRuns, job_total}
use Rattle.matching.specs.Conversions.{step_bytes_in, order_of}
use Rattle.matching.proofs.Laws.ConversionLaws.{plan_complete}
use Rattle.plan_marks.specs.declared.Marks.{Marks}
use Rattle.plan_marks.specs.Code.Marks.{steps_marked, steps_in}
use Rattle.notation_buffers.specs.Code.Pages.{Fills}
use Rattle.notation_buffers.specs.Laws.FrontLaws.{front_within, front_whole, front_fills}
use Rattle.matching_orders.specs.Code.Rows.{written_byte, job_row, round_row, rows_in}
use Rattle.matching_orders.specs.Code.OrderWritten.{OrderWritten}
use Rattle.matching_orders.specs.Laws.RowLaws.{byte_small}
use Rattle.matching_orders.specs.Laws.StepValueLaws.{Small, steps_small}

-- ---- lists

map_alike : {A B : Type 0} (f g : A → B) (xs : List A) → Every (λ x. f x ≡ g x) xs → map f xs ≡ map g xs
map_alike f g [] h = refl
map_alike {A} {B} f g (x ∷ xs) h =
    ap (λ (y : B). y ∷ map f xs) h.0 ∙ ap (λ (ys : List B). g x ∷ ys) (map_alike f g xs h.1)

every_only : {A : Type 0} (P : A → Type 0) (test : A → Bool) (xs : List A) → Every P xs → Every P (only test xs)
every_only P test xs h = every_listed P (only test xs) (λ x m. every_member P xs h (member_only test xs m))

-- ---- the owners

-- the task that is stored for a job is its base
owner_base : {t : Table} {list : JobList} {program : List ℕ} → OwnersTo t list list.count program → {a : Accepted}
    → IsAccepted a → list ≡ job_list_of a.jobs → (x : Job) → IsJob a x → owner_in program x.0 ≡ base a x
unfolding base job_list_of
owner_base {list = list} owners {a} ok listed x isJob =
    let few = jobs_few ok.is_timed in
    let counted : list.count ≡ length a.jobs = ap (λ (l : JobList). l.count) listed in
    owners.owned x.0 (omega arith)
    ∙ ap (λ (j : JobRecord). j.task.0) (record_listed list a x listed (omega arith))

-- ---- the rows

module _ {a : Accepted} (ok : IsAccepted a) (program : Program)
    (owner : (x : Job) → IsJob a x → owner_in program x.0 ≡ base a x) (marks : Marks) (plan : Plan) {runs : JobRuns}
    (legal : Legal a plan runs) (marked : runs.steps ≡ steps_in marks (job_total a)) where
  -- a job's steps are its marks
  marks_are : (x : ℕ) → x < job_total a → get_or runs.steps x [] ≡ steps_marked marks x
  unfolding steps_in
  marks_are x is_x =
      ap (λ (l : List (List Step)). get_or l x []) marked ∙ values_at (steps_marked marks) (job_total a) x [] is_x

  marks_small : (x : ℕ) → x < job_total a → Every Small (steps_marked marks x)
  unfolding steps_in
  marks_small x is_x =
      let long : length runs.steps ≡ job_total a =
      ap (λ (l : List (List Step)). length l) marked ∙ values_length (steps_marked marks) (job_total a) in
      subst (Every Small) (marks_are x is_x)
      (every_at (Every Small) runs.steps x [] (steps_small ok plan legal) (omega (arith, long)))

  row_is : (r x : ℕ) → x < job_total a → job_row program marks r x ≡ step_bytes_in a runs r (record { 0 = x })
  unfolding job_row step_bytes_in steps_of job_total
  row_is r x is_x =
      let job : Job = record { 0 = x } in
      let test : Step → Bool = λ step. eqb step.round.0 r in
      let byte : (step : Step) → Small step → written_byte (owner_in program x) step.value ≡ order_byte (base a job) step.value =
      λ step small. byte_small (owner_in program x) step.value (omega (arith, owner job is_x, base_small ok job is_x)) small
      ∙ ap (λ (b : ℕ). 16 * b + step.value) (owner job is_x) in
      map_alike (λ step. written_byte (owner_in program x) step.value) (λ step. order_byte (base a job) step.value)
      (only test (steps_marked marks x))
      (every_imp Small (λ step. written_byte (owner_in program x) step.value ≡ order_byte (base a job) step.value) byte
      (only test (steps_marked marks x)) (every_only Small test (steps_marked marks x) (marks_small x is_x)))
      ∙ ap (λ (l : List Step). map (λ step. order_byte (base a job) step.value) (only test l)) (sym (marks_are x is_x))

  -- one round
  round_is : (r : ℕ) → round_row program marks (job_total a) r ≡ each (job_numbers a) (step_bytes_in a runs r)
  unfolding round_row job_numbers job_total
  round_is r =
      each_same (job_total a) (job_row program marks r) (λ x. step_bytes_in a runs r (record { 0 = x })) (λ x lt. row_is r x lt)
      ∙ sym (each_map (λ n. record { 0 = n }) (up_to (job_total a)) (step_bytes_in a runs r))

  -- all rounds
  pub rows_are : rows_in program marks (job_total a) ≡ order_of a runs
  unfolding rows_in order_of
  rows_are =
      each_same (job_total a) (round_row program marks (job_total a)) (λ r. each (job_numbers a) (step_bytes_in a runs r))
      (λ r lt. round_is r)

  -- an order of a legal plan fits the room
  pub written_short : length (order_of a runs) ≤ order_room
  written_short = (plan_complete ok plan {e = plan_end a runs} (record { runs = runs; legal = legal; ends = refl })).complete.short

-- what is written of a table's marks, with zeros after it
pub order_written : {t : Table} {list : JobList} {program : List ℕ} {marks : Marks} (before : List ℕ) {after : List ℕ} {n : ℕ}
    → OwnersTo t list list.count program → order_room ≤ length before
    → Fills (take order_room before) (rows_in program marks list.count) after n
    → OrderWritten t list marks before (after ++ drop order_room before) n
unfolding filled job_total job_list_of
order_written {t} {list} {program} {marks} before {after} {n} owners room does =
    record {
      fits = front_within before room does;
      written = λ a ok table listed plan runs legal marked.
          let counted : list.count ≡ length a.jobs = ap (λ (l : JobList). l.count) listed in
          let rows : rows_in program marks list.count ≡ order_of a runs =
          ap (rows_in program marks) counted ∙ rows_are ok program (owner_base owners ok listed) marks plan legal marked in
          let made : Fills (take order_room before) (order_of a runs) after n =
          subst (λ (bytes : List ℕ). Fills (take order_room before) bytes after n) rows does in
          let short = written_short ok program (owner_base owners ok listed) marks plan legal marked in
          (front_whole before room made short, front_fills before room made);
    }
