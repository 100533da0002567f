-- One name for the definitions of the task file, of times and jobs and of instructions, so that a proof by computing
-- says `unfolding opened`. The search for a response time stays shut, since some tables have periods that no
-- computing reaches the end of: where it is wanted, say `unfolding opened response_of`.
-- Assumes nothing.
use Rattle.notation.specs.Checked
use Rattle.notation.specs.Lists
use Rattle.taskfile.specs.Chains
use Rattle.taskfile.specs.File
use Rattle.taskfile.specs.Judgement
use Rattle.taskfile.specs.Records
use Rattle.taskfile.specs.Tables
use Rattle.timing.specs.Accepted
use Rattle.timing.specs.Blocking
use Rattle.timing.specs.Jobs
use Rattle.timing.specs.ReadEntries
use Rattle.timing.specs.Relations
use Rattle.timing.specs.Response
use Rattle.machine.specs.Buffers
use Rattle.machine.specs.Ends
use Rattle.machine.specs.Held
use Rattle.machine.specs.Instructions

unfoldable pub notation_opened : Unit {0}
unfolding Checked.◌>>=◌ Checked.◌>>◌ Checked.require Checked.given Checked.none_of Checked.placed_by
    Lists.from Lists.up_to Lists.from_to Lists.member Lists.all Lists.any Lists.only Lists.first_with Lists.each Lists.same
    Lists.first_or Lists.last_or Lists.sum Lists.largest Lists.padded
notation_opened = tt

unfoldable pub records_opened : Unit {0}
unfolding Records.records Records.byte_at Records.wide_at Records.next Records.kind_number Records.operation_uses
    Records.uses_of Records.tidy_field Records.field_in_range Records.instruction_at Records.tidy_instruction
    Records.fields_in_range Records.choice_in_range Records.instruction_in_range Records.zero_from Records.tidy Records.in_range
records_opened = tt

unfoldable pub chains_opened : Unit {0}
unfolding Chains.record_of Chains.follow Chains.chain Chains.records_of Chains.body_chain Chains.task_chains
    Chains.reached_by Chains.no_stray Chains.chains_of
chains_opened = tt

unfoldable pub tables_opened : Unit {0}
unfolding Tables.no_task Tables.empty_table Tables.tasks_of Tables.task_of Tables.body_of Tables.ceilings_of
    Tables.holdings_of Tables.lock_numbers Tables.holding_of Tables.entry_at Tables.table_at
tables_opened = tt

unfoldable pub judgement_opened : Unit {0}
unfolding Judgement.task_numbers Judgement.instruction_of Judgement.instruction_sites Judgement.is_end
    Judgement.is_skip Judgement.is_acquire Judgement.is_release Judgement.of_instruction Judgement.of_task
    Judgement.body_fault Judgement.rate_fault Judgement.ceiling_fault Judgement.judged
judgement_opened = tt

unfoldable pub file_opened : Unit {0}
unfolding File.sized File.record_at File.load
file_opened = tt

unfoldable pub timing_opened : Unit {0}
unfolding Response.rounded_up Response.tasks_above Response.interference Blocking.tasks_below Blocking.is_acquire_of
    Blocking.acquires Blocking.blocks Blocking.blocking Response.need Response.demand Response.smallest
    Jobs.arrival_of Jobs.jobs_within Jobs.job_count Jobs.job_of Jobs.jobs_of_task Jobs.jobs_of Accepted.responses_of
    Accepted.timed Accepted.accept Relations.job_at Relations.job_numbers Relations.base
    Relations.before Relations.may_preempt ReadEntries.read_answer_of ReadEntries.read_answer ReadEntries.listed
    ReadEntries.list_answer_of ReadEntries.list_after_of ReadEntries.list_answer ReadEntries.list_after
timing_opened = tt

unfoldable pub ends_opened : Unit {0}
unfolding Ends.no_flags Ends.flagged Ends.no_store Buffers.run_answer Buffers.unwritten Buffers.filled
    Buffers.buffer_after
ends_opened = tt

unfoldable pub instructions_opened : Unit {0}
unfolding Held.no_locks Held.holds Held.acquire Held.release Held.held_ceilings Held.priority Instructions.fresh
    Instructions.values Instructions.register Instructions.skipping Instructions.with_register
    Instructions.with_held Instructions.plus Instructions.minus Instructions.end_job Instructions.load_variable
    Instructions.store Instructions.set_number Instructions.add Instructions.subtract Instructions.skip_less
    Instructions.skip_equal Instructions.pick Instructions.acquire_lock Instructions.release_lock
    Instructions.assert Instructions.operation_effects Instructions.perform
instructions_opened = tt

unfoldable pub opened : Unit {0}
unfolding notation_opened records_opened chains_opened tables_opened judgement_opened file_opened timing_opened
    ends_opened instructions_opened
opened = tt
