-- Row P4 of the bench cases, by reasoning: its periods are far too long to look for a response time upwards from 1.
-- Assumes nothing.
use Rattle.std.specs.Prelude.{◌≡◌, [], ◌∷◌, replicate}
use Rattle.std.proofs.Common.{arith}
use Rattle.std.proofs.Math.Option.{none}
use Rattle.taskfile.specs.declared.Task.{Task}
use Rattle.taskfile.specs.Chains.{Chains}
use Rattle.taskfile.specs.Records.{File}
use Rattle.taskfile.specs.Tables.{table_at}
use Rattle.timing.specs.ReadEntries.{read_answer}
use Rattle.timing.specs.Response.{response_of}
use Rattle.timing.proofs.Laws.ResponseLaws.{response_none, rounded_up_positive}
use Rattle.bench.specs.Files.{two_tasks}
use Rattle.bench.specs.Laws.Opened.{all_opened}

abbrev p4_file : File
p4_file = two_tasks 8 3_000_000_000 4_000_000_000 0 1_500_000_000 3_000_000_000 0

abbrev p4_chains : Chains
p4_chains =
    record {
      tasks = record { task_record = 1; body = 2 ∷ [] } ∷ record { task_record = 3; body = 4 ∷ [] } ∷ [];
      locks = [];
    }

abbrev task0 : Task
task0 = record { 0 = 0 }

no_response : response_of (table_at p4_file p4_chains) task0 ≡ none
unfolding all_opened
no_response =
    (response_none (table_at p4_file p4_chains) task0).1
    (λ Q positive within solves. omega (arith, rounded_up_positive Q 3_000_000_000 positive))

pub p4 : read_answer p4_file ≡ record { number = 10; place = 1; responses = replicate 8 0; jobs = 0 }
unfolding all_opened
p4 = rw no_response
