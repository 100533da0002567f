-- `taskfile_judgement::judgement::judge` meets its contract. The first of the three checks that finds a fault decides.
-- Assumes nothing.
use Rattle.std.proofs.Common.{rules}
use Rattle.notation.specs.Checked.{◌>>◌}
use Rattle.taskfile.specs.Judgement.{judged}
use Rattle.taskfile_judgement.proofs.judgement.judge.Goals as goal

pub returns-in_err-judge_bodies : goal.returns-in_err-judge_bodies
unfolding judged ◌>>◌
returns-in_err-judge_bodies c = rw (← c.in_err-judge_bodies.ensures) (search rules)

pub returns-in_err-judge_rates : goal.returns-in_err-judge_rates
unfolding judged ◌>>◌
returns-in_err-judge_rates c = rw (← c.in_ok-judge_bodies.ensures, ← c.in_err-judge_rates.ensures) (search rules)

pub returns : goal.returns
unfolding judged ◌>>◌
returns c = rw (← c.in_ok-judge_bodies.ensures, ← c.in_ok-judge_rates.ensures) c.judge_ceilings.ensures
