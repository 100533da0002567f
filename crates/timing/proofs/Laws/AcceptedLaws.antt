-- What acceptance says: the table of an accepted file is well made, and passed the judgements 7 to 11.
-- Assumes nothing.
use Rattle.std.specs.Prelude.{◌≡◌}
use Rattle.std.proofs.Common.{subst, sym}
use Rattle.taskfile.specs.declared.Table.{Table}
use Rattle.notation.specs.Checked.{passed, placed_by}
use Rattle.notation.specs.Laws.CheckedLaws.{bind_passed, placed_passed}
use Rattle.taskfile.specs.File.{load, record_at}
use Rattle.taskfile.specs.Judgement.{judged}
use Rattle.taskfile.proofs.Laws.LoadLaws.{load_parts}
use Rattle.taskfile.proofs.Laws.LoadedLaws.{loaded_well}
use Rattle.taskfile.specs.Code.WellMade.{WellMade}
use Rattle.taskfile.specs.Records.{File}
use Rattle.timing.specs.Accepted.{Accepted, accept, timed}
use Rattle.timing.proofs.Laws.JobLaws.{timed_passed}
use Rattle.timing.specs.Code.IsAccepted.{IsAccepted}

pub file_accepted : (f : File) {a : Accepted} → accept f ≡ passed a → IsAccepted a
unfolding accept
file_accepted f {a} e =
    let parts = bind_passed (load f) (λ loaded. placed_by (record_at loaded.chains) (timed loaded.table)) e in
    let table = parts.0.table in
    let timing = timed_passed table (placed_passed (record_at parts.0.chains) (timed table) parts.2) in
    record {
      is_made = subst WellMade (sym timing.0) (loaded_well f parts.1);
      is_judged = subst (λ (t : Table). judged t ≡ passed tt) (sym timing.0) (load_parts f parts.1).2;
      is_timed = timing.1;
    }
