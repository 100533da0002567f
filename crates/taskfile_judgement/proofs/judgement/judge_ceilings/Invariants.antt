-- The loop of `taskfile_judgement::judgement::judge_ceilings` keeps how far the check of the tasks' bodies for faults of 9 has come.
-- Assumes nothing.
use Rattle.taskfile.specs.Judgement.{instruction_sites, of_instruction, ceiling_fault}
use Rattle.taskfile.proofs.Laws.JudgingLaws.{body_sites}
use Rattle.notation.specs.Laws.SearchLaws.{CheckedTo}
use Rattle.taskfile_judgement.proofs.judgement.judge_ceilings.Given as goal

abbrev pub invariant-loop-i : goal.invariant-loop-i
invariant-loop-i l =
    CheckedTo 9 (of_instruction (ceiling_fault l.t)) (instruction_sites l.t) (body_sites l.t) l.t.tasks l.i
