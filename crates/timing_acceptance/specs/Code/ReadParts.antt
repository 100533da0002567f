-- What the reader's entry answers to a file that is refused.
-- Assumes nothing.
use Rattle.std.specs.Prelude.{ℕ, replicate}
use Rattle.timing.specs.declared.ReadAnswer.{ReadAnswer}

-- number and place, and every other field zero
abbrev pub refused_read : ℕ → ℕ → ReadAnswer
refused_read number place = record { number = number; place = place; responses = replicate 8 0; jobs = 0 }
