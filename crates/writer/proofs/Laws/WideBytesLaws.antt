-- A wide field's four bytes, low byte first, give the field back.
-- Assumes nothing.
use Rattle.std.specs.Prelude.{◌≡◌, ℕ, ◌+◌, ◌*◌, ◌/◌, ◌%◌, ◌<◌, ◌^◌}
use Rattle.std.proofs.Math.Nat.{div-div-eq-div-mul, mod-add-div}
use Rattle.std.proofs.Common.{mod-eq_of_lt, arith}

-- what a wide field holds has 32 bits
abbrev pub Wide : ℕ → Type 0
Wide x = x < 2 ^ 32

pub wide_back : (x : ℕ) → x < 2 ^ 32
    → x % 256 + 256 * (x / 256 % 256) + 65536 * (x / 65536 % 256) + 16777216 * (x / 16777216 % 256) ≡ x
wide_back x fits =
    let second : x / 256 / 256 ≡ x / 65536 = div-div-eq-div-mul x 256 256 in
    let third : x / 65536 / 256 ≡ x / 16777216 = div-div-eq-div-mul x 65536 256 in
    let a : x % 256 + 256 * (x / 256) ≡ x = mod-add-div x 256 in
    let b : x / 256 % 256 + 256 * (x / 256 / 256) ≡ x / 256 = mod-add-div (x / 256) 256 in
    let c : x / 65536 % 256 + 256 * (x / 65536 / 256) ≡ x / 65536 = mod-add-div (x / 65536) 256 in
    let small : x / 16777216 < 256 = omega arith in
    let d : x / 16777216 % 256 ≡ x / 16777216 = mod-eq_of_lt small in
    omega arith
