-- `taskfile_tables::sites::record_at` meets its contract: in each arm the site is that variant, and the links lead to its record.
-- Assumes nothing.
use Prim.Native.Nat.{ℕ}
use mathlib.Core.Path.{◌≡◌, sym, ap, ◌∙◌}
use Rattle.taskfile.specs.declared.Site.{Site}
use Rattle.taskfile.specs.declared.Site.TheVariants.{AtTask, AtInstruction, AtLock}
use Rattle.taskfile.specs.declared.Task.{Task}
use Rattle.taskfile.specs.Code.ReadingParts.{link_after, site_record}
use Rattle.taskfile.specs.Records.{File, byte_at}
use Rattle.taskfile_tables.proofs.sites.record_at.Goals as goal

task-site : (f : File) (s : Site) (i : Task) (first at : ℕ) → s ≡ AtTask i → first ≡ byte_at f 0 2 → at ≡ link_after f first i.0
    → at ≡ site_record f s
unfolding site_record
task-site f s i first at atSite atFirst atTask =
    atTask ∙ ap (λ k. link_after f k i.0) atFirst ∙ ap (site_record f) (sym atSite)

lock-site : (f : File) (s : Site) (l first at : ℕ) → s ≡ AtLock l → first ≡ byte_at f 0 3 → at ≡ link_after f first l
    → at ≡ site_record f s
unfolding site_record
lock-site f s l first at atSite atFirst atLock =
    atLock ∙ ap (λ k. link_after f k l) atFirst ∙ ap (site_record f) (sym atSite)

instruction-site : (f : File) (s : Site) (i : Task) (p first task body at : ℕ) → s ≡ AtInstruction i p → first ≡ byte_at f 0 2
    → task ≡ link_after f first i.0 → body ≡ byte_at f task 2 → at ≡ link_after f body p → at ≡ site_record f s
unfolding site_record
instruction-site f s i p first task body at atSite atFirst atTask atBody atInstruction =
    atInstruction
    ∙ ap (λ k. link_after f k p) (atBody ∙ ap (λ r. byte_at f r 2) (atTask ∙ ap (λ k. link_after f k i.0) atFirst))
    ∙ ap (site_record f) (sym atSite)

pub returns-in-AtHeader : goal.returns-in-AtHeader
unfolding site_record
returns-in-AtHeader c = sym (ap (site_record _) c.in-AtHeader.is)

pub returns-in-AtTask : goal.returns-in-AtTask
returns-in-AtTask c =
    task-site _ _ _ _ _ c.in-AtTask.is c.index_at.ensures c.link_after.ensures

pub returns-in-AtInstruction : goal.returns-in-AtInstruction
returns-in-AtInstruction c =
    instruction-site _ _ _ _ _ _ _ _ c.in-AtInstruction.is
    c.index_at-in-AtInstruction.ensures c.link_after-task.ensures c.index_at-in-AtInstruction-2.ensures
    c.link_after-in-AtInstruction.ensures

pub returns-in-AtLock : goal.returns-in-AtLock
returns-in-AtLock c =
    lock-site _ _ _ _ _ c.in-AtLock.is c.index_at-in-AtLock.ensures c.link_after-in-AtLock.ensures
