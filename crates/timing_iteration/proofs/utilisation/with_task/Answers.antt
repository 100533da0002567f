-- `timing_iteration::utilisation::with_task` meets its contract: the two utilisations are added over the least common multiple of their wholes,
-- where that is at most cap; else they are rounded down.
-- Assumes nothing.
use native.Mathlib.Omega.{arith}
use Rattle.timing.proofs.Laws.UtilisationLaws.{times_positive, exact_ranges, exact_most}
use Rattle.timing_iteration.proofs.utilisation.with_task.Goals as goal

pub nonzero_div-cap : goal.nonzero_div-cap
nonzero_div-cap c =
    let divisor = c.common_divisor-divisor.ensures in times_positive c.requires divisor.0 divisor.1 divisor.2

pub overflow_mul-kept : goal.overflow_mul-kept
overflow_mul-kept c =
    let divisor = c.common_divisor-divisor.ensures in
    omega (arith, exact_ranges c.requires divisor.0 divisor.1 divisor.2 (omega arith))

pub overflow_mul-added : goal.overflow_mul-added
overflow_mul-added c =
    let divisor = c.common_divisor-divisor.ensures in
    omega (arith, exact_ranges c.requires divisor.0 divisor.1 divisor.2 (omega arith))

pub overflow_add-result : goal.overflow_add-result
overflow_add-result c =
    let divisor = c.common_divisor-divisor.ensures in
    omega (arith, exact_ranges c.requires divisor.0 divisor.1 divisor.2 (omega arith))

pub overflow_mul-result : goal.overflow_mul-result
overflow_mul-result c =
    let divisor = c.common_divisor-divisor.ensures in
    omega (arith, exact_ranges c.requires divisor.0 divisor.1 divisor.2 (omega arith))

pub returns : goal.returns
returns c =
    let divisor = c.common_divisor-divisor.ensures in
    exact_most c.requires divisor.0 divisor.1 divisor.2 (omega arith)
