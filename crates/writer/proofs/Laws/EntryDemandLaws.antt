-- The demand of E2 is met: what the writer and the table's entry are worth.
-- Assumes nothing.
use Rattle.std.specs.Prelude.{◌≡◌, refl, List, length, take, drop, leb}
use Rattle.std.proofs.Math.Path.{sym, ap, subst}
use Rattle.std.proofs.Common.{◌∙◌, arith, le-leb}
use Prim.Native.Nat.{ℕ, ◌≤◌}
use Rattle.std.proofs.Math.Seq.{take-append_seam}
use Rattle.notation.specs.Checked.{Checked, refused, passed, require, placed_by, ◌>>◌}
use Rattle.notation.specs.Laws.CheckedLaws.{passed_same, bind_passed, bind_goes, then_passed, then_goes, require_holds, placed_passed}
use Rattle.notation.specs.Laws.NumberedLaws.{Numbered, by_number}
use Rattle.taskfile.specs.declared.Table.{Table}
use Rattle.taskfile.specs.Chains.{Chains, chains_of}
use Rattle.taskfile.specs.File.{Loaded, load, record_at}
use Rattle.taskfile.specs.Judgement.{task_numbers, judged}
use Rattle.taskfile.proofs.Laws.LoadLaws.{load_parts}
use Rattle.taskfile.specs.Records.{File}
use Rattle.taskfile.specs.Tables.{table_at}
use Rattle.timing.specs.Accepted.{Accepted, responses_of, timed, accept, most_jobs}
use Rattle.timing.specs.Jobs.{job_count}
use Rattle.timing.specs.ReadEntries.{read_answer, read_answer_of}
use Rattle.writer.specs.Sites.{index_of}
use Rattle.writer.specs.Covered.{covered}
use Rattle.writer.specs.Values.{Bytes, Fits}
use Rattle.writer.specs.Fields.{fields, judged_whole, accept_table}
use Rattle.writer.specs.Layout.{layout}
use Rattle.writer.specs.Memory.{memory_of, table_in, table_bytes}
use Rattle.writer.specs.SameTable.{SameTable}
use Rattle.writer.specs.WalkOrder.{in_walk_order}
use Rattle.writer.specs.WriteEntries.{file_room, written, tabled, answer_of, after_of}
use Rattle.writer.specs.WriteEntries.{write_answer, write_after, table_answer, table_after}
use Rattle.writer.specs.WriterDemand.{written_file, ReadsAs, WriterDemand, EntryWriterDemand}
use Rattle.writer.proofs.Laws.AcceptLaidLaws.{accept_laid}
use Rattle.writer.proofs.Laws.CoveredLaws.{covered_same}
use Rattle.writer.proofs.Laws.FieldsRead.{fields_read, covered_read, fits_read}
use Rattle.writer.proofs.Laws.MemoryLaws.{memory_table}
use Rattle.writer.proofs.Laws.WalkOrderLaws.{walk_order}
use Rattle.writer.proofs.Laws.WriteRefusals.{written_numbered}

-- ---- tables

-- with room, what is written is decided by the table alone
pub written_room : (t : Table) (buffer : List ℕ) → file_room ≤ length buffer
    → written t buffer ≡ ◌>>◌ (accept_table t) (passed (layout t))
unfolding written
written_room t buffer room =
    ap (λ (rest : Checked ℕ File). ◌>>◌ (accept_table t) rest)
    (require_holds (leb file_room (length buffer)) 20 0 (passed (layout t)) (le-leb file_room (length buffer) room))

-- number and place of what is written, and of what is read, by the same check
alike : (c : Checked ℕ Accepted) (file : File)
    → ((answer_of (◌>>◌ c (passed file))).number ≡ (read_answer_of c).number)
    × ((answer_of (◌>>◌ c (passed file))).place ≡ (read_answer_of c).place)
unfolding answer_of read_answer_of ◌>>◌
alike (refused number place) file = (refl, refl)
alike (passed a) file = (refl, refl)

judges_alike_lem : (t : Table) → Fits t → (buffer : List ℕ) → file_room ≤ length buffer
    → ((write_answer t buffer).number ≡ (read_answer (layout t)).number)
    × ((write_answer t buffer).place ≡ (read_answer (layout t)).place)
unfolding write_answer read_answer
judges_alike_lem t fit buffer room =
    let both = alike (accept_table t) (layout t) in
    let same = written_room t buffer room in
    let reads = sym (accept_laid t fit) in (
      ap (λ (c : Checked ℕ File). (answer_of c).number) same ∙ both.0 ∙ ap (λ (c : Checked ℕ Accepted). (read_answer_of c).number) reads,
      ap (λ (c : Checked ℕ File). (answer_of c).place) same ∙ both.1 ∙ ap (λ (c : Checked ℕ Accepted). (read_answer_of c).place) reads,
    )

-- number 0 says that bytes were written
pub zero_written : (c : Checked ℕ (List ℕ)) → Numbered c → (answer_of c).number ≡ 0 → (bytes : List ℕ) × (c ≡ passed bytes)
unfolding answer_of
zero_written (refused number place) (by_number h) e = absurd (omega (arith, e))
zero_written (passed bytes) h e = (bytes, refl)

module _ (t : Table) (buffer : List ℕ) (zero : (write_answer t buffer).number ≡ 0) where
  found : (file : File) × (written t buffer ≡ passed file)
  unfolding write_answer
  found = zero_written (written t buffer) (written_numbered t buffer) zero

  accepted : (a : Accepted) × (accept_table t ≡ passed a)
  unfolding written
  accepted = let parts = then_passed (accept_table t) _ found.1 in (parts.0, parts.1)

  is_layout : written t buffer ≡ passed (layout t)
  unfolding written
  is_layout =
      let parts = then_passed (accept_table t) _ found.1 in
      found.1 ∙ ap (λ (file : File). passed file) (sym (passed_same (then_passed (require (leb file_room (length buffer)) 20 0) _ parts.2).2))

-- what stands in the buffer up to the returned length
pub bytes_written : (c : Checked ℕ (List ℕ)) (buffer bytes : List ℕ) → c ≡ passed bytes
    → take (answer_of c).length (after_of c buffer) ≡ bytes
unfolding answer_of after_of
bytes_written c buffer bytes e =
    ap (λ (d : Checked ℕ (List ℕ)). take (answer_of d).length (after_of d buffer)) e
    ∙ take-append_seam bytes (drop (length bytes) buffer)

file_written_lem : (t : Table) (buffer file : List ℕ) → written t buffer ≡ passed file → written_file t buffer ≡ file
unfolding written_file write_answer write_after
file_written_lem t buffer file e = bytes_written (written t buffer) buffer file e

-- the table of an accepted table is the one that was timed
timed_table : (t : Table) {a : Accepted} → timed t ≡ passed a → a.table ≡ t
unfolding timed
timed_table t e =
    let responses = bind_passed (responses_of t (task_numbers t)) _ e in
    let end = then_passed (require (leb (job_count t) most_jobs) 11 _) _ responses.2 in
    sym (ap (λ (a : Accepted). a.table) (passed_same end.2))

module _ (t : Table) {a : Accepted} (e : accept_table t ≡ passed a) where
  pub fields_sound : fields t ≡ passed tt
  unfolding accept_table judged_whole
  fields_sound = (then_passed (fields t) _ (placed_passed (index_of t) (judged_whole t) e)).1

  pub table_covered : a.table ≡ covered t
  unfolding accept_table judged_whole
  table_covered =
      let rest = (then_passed (fields t) _ (placed_passed (index_of t) (judged_whole t) e)).2 in
      timed_table (covered t) (then_passed (judged (covered t)) _ rest).2

reads_back_lem : (t : Table) → Fits t → (buffer : List ℕ) → (write_answer t buffer).number ≡ 0
    → ReadsAs (written_file t buffer) t
reads_back_lem t fit buffer zero =
    let passes = accepted t buffer zero in
    let file = file_written_lem t buffer (layout t) (is_layout t buffer zero) in (
      passes.0,
      ap accept file ∙ accept_laid t fit ∙ passes.1,
      subst (λ (u : Table). SameTable u t) (sym (table_covered t passes.1)) (covered_same t fit (fields_sound t passes.1)),
    )

writer_demand : (t : Table) → Fits t → (buffer : List ℕ) → WriterDemand t buffer
writer_demand t fit buffer =
    record {
      judges_alike = judges_alike_lem t fit buffer;
      writes = λ zero. file_written_lem t buffer (layout t) (is_layout t buffer zero);
      reads_back = reads_back_lem t fit buffer;
    }

-- ---- files

-- an accepted file's table is accepted by the writer
module _ (f : File) {c : Chains} (chained : chains_of f ≡ passed c) {a : Accepted} (e : accept f ≡ passed a) where
  loads : (loaded : Loaded) × (load f ≡ passed loaded) × (timed loaded.table ≡ passed a)
  unfolding accept
  loads =
      let step = bind_passed (load f) _ e in
      (step.0, step.1, placed_passed (record_at step.0.chains) (timed step.0.table) step.2)

  pub table_read_lem : a.table ≡ table_at f c
  table_read_lem =
      let parts = load_parts f loads.1 in
      timed_table loads.0.table loads.2
      ∙ parts.1
      ∙ ap (table_at f) (passed_same (sym parts.0 ∙ chained))

  pub table_accepted : accept_table (table_at f c) ≡ passed a
  unfolding accept_table judged_whole placed_by
  table_accepted =
      let t = table_at f c in
      let same : loads.0.table ≡ t = sym (timed_table loads.0.table loads.2) ∙ table_read_lem in
      let sound : judged (covered t) ≡ passed tt =
      ap judged (covered_read f chained ∙ sym same) ∙ (load_parts f loads.1).2 in
      let inTime : timed (covered t) ≡ passed a = ap timed (covered_read f chained ∙ sym same) ∙ loads.2 in
      ap (placed_by (index_of t)) (then_goes _ (fields_read f chained) ∙ then_goes _ sound ∙ inTime)

  in_order_lem : Bytes f → (buffer : List ℕ) → file_room ≤ length buffer
      → ((write_answer a.table buffer).number ≡ 0) × (written_file a.table buffer ≡ in_walk_order f c)
  unfolding write_answer answer_of
  in_order_lem small buffer room =
      let t = table_at f c in
      let done : written t buffer ≡ passed (layout t) = written_room t buffer room ∙ then_goes _ table_accepted in (
        ap (λ (u : Table). (answer_of (written u buffer)).number) table_read_lem ∙ ap (λ (w : Checked ℕ File). (answer_of w).number) done,
        ap (λ (u : Table). written_file u buffer) table_read_lem ∙ file_written_lem t buffer (layout t) done ∙ walk_order f small chained,
      )

  in_memory_lem : Bytes f → (memory : List ℕ) → table_bytes ≤ length memory
      → ((table_answer f memory).number ≡ 0) × (table_in (table_after f memory) ≡ a.table)
  unfolding table_answer table_after answer_of after_of tabled
  in_memory_lem small memory room =
      let bytes = memory_of a.table in
      let done : tabled f memory ≡ passed bytes =
      bind_goes _ e
      ∙ require_holds (leb table_bytes (length memory)) 20 0 (passed bytes) (le-leb table_bytes (length memory) room) in
      let fit : Fits a.table = subst Fits (sym table_read_lem) (fits_read f small chained) in (
        ap (λ (w : Checked ℕ (List ℕ)). (answer_of w).number) done,
        ap (λ (w : Checked ℕ (List ℕ)). table_in (after_of w memory)) done ∙ memory_table a.table (drop (length bytes) memory) fit,
      )

-- the demand of E2
pub entry_demand : EntryWriterDemand
entry_demand =
    record {
      of_tables = writer_demand;
      of_files = λ f small c chained a e. record { in_order = in_order_lem f chained e small; in_memory = in_memory_lem f chained e small };
    }
