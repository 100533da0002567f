-- The flags that are read of a state's bytes, one by one, are what their snapshot holds.
-- Assumes nothing.
use Rattle.std.specs.Prelude.{◌≡◌, ℕ, ◌+◌, ◌≤◌, ◌<◌, Bool, false, not, List, length, get_or, set, replicate, eqb}
use Rattle.std.proofs.Common.{sym, ap, ◌∙◌, arith, length-set, get_or-set_same, get_or-set_other}
use Rattle.std.proofs.Math.Decide.{dec_lt}
use Rattle.std.proofs.lemmas.List.{length-replicate}
use Rattle.order_states.specs.Code.StateBytes.{flag_in, snapshot_in}
use Rattle.notation.specs.Laws.TabulateLaws.{values_are}

-- the flags of the jobs before x are read
pub record FlagsTo (bytes : List ℕ) (x : ℕ) (flags : List Bool) : Type 0 where
  pub size : length flags ≡ 32
  pub known : (k : ℕ) → k < x → get_or flags k false ≡ flag_in bytes k

pub flags_none : (bytes : List ℕ) → FlagsTo bytes 0 (replicate 32 false)
flags_none bytes = record { size = length-replicate 32 false; known = λ k lt. absurd (omega arith) }

pub flags_more : {bytes : List ℕ} {x : ℕ} {flags : List Bool} → FlagsTo bytes x flags → x < 32
    → FlagsTo bytes (x + 1) (set flags x (not (eqb (get_or bytes (16 + x) 0) 0)))
unfolding flag_in
flags_more {bytes} {x} {flags} to lt =
    record {
      size = length-set flags x _ ∙ to.size;
      known = λ k below.
          elim (dec_lt k x) [
            | yes before ↦ get_or-set_other flags x k _ false (λ same. omega arith) ∙ to.known k before
            | no last ↦
                let same : k ≡ x = omega arith in
                ap (λ (j : ℕ). get_or (set flags x (not (eqb (get_or bytes (16 + x) 0) 0))) j false) same
                ∙ get_or-set_same flags x _ false (omega (arith, to.size))
                ∙ ap (λ (j : ℕ). not (eqb (get_or bytes (16 + j) 0) 0)) (sym same)
          ];
    }

pub flags_read : {bytes : List ℕ} {x : ℕ} {flags : List Bool} → FlagsTo bytes x flags → 32 ≤ x
    → flags ≡ (snapshot_in bytes).failed
unfolding snapshot_in
flags_read {bytes} {x} {flags} to le = values_are (flag_in bytes) 32 flags false to.size (λ k lt. to.known k (omega arith))
