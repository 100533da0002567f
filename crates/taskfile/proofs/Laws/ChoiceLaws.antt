-- Laws of the lowest and the highest value on offer: an instruction in range offers some value, and none above 15.
-- Assumes nothing.
use Rattle.std.specs.Prelude.{◌≡◌, refl, ℕ, ◌≤◌, leb}
use Rattle.std.proofs.Common.{subst, ◌∙◌, arith}
use Rattle.std.proofs.Math.Decide.{ℕ_discrete}
use Rattle.std.proofs.Math.Bool.{true}
use borrow.Author.Tests.{eq-eqb, ne_eqb, leb-true}
use Rattle.std.specs.Prelude.{if◌then◌else◌}
use Rattle.taskfile.specs.declared.Instruction.{Instruction}
use Rattle.taskfile.specs.Code.Choices.{lowest, highest, Chooses}
use Rattle.taskfile.proofs.Laws.RecordLaws.{instruction_ranged}
use Rattle.taskfile.specs.Records.{operation_uses, uses_of, field_in_range, is_pick, choice_in_range, instruction_in_range}
use Rattle.taskfile.specs.Tables.{end_instruction}

-- what a definition says of a Pick, and of any other instruction
pub at_pick : {A : Type 0} (i : Instruction) (x y : A) → i.operation ≡ 8 → x ≡ (if is_pick i then x else y)
at_pick i x y pick = rw (eq-eqb i.operation 8 pick) refl

pub at_other : {A : Type 0} (i : Instruction) (x y : A) → (i.operation ≡ 8 → ⊥) → y ≡ (if is_pick i then x else y)
at_other i x y other = rw (ne_eqb i.operation 8 other) refl

-- a Pick in range has c ≤ b ≤ 15
module _ (i : Instruction) (inside : instruction_in_range i ≡ true) (pick : i.operation ≡ 8) where
  pick_some : i.c ≤ i.b
  unfolding choice_in_range
  pick_some =
      leb-true i.c i.b (at_pick i (leb i.c i.b) true pick ∙ (instruction_ranged i inside).choice)

  pick_few : i.b ≤ 15
  unfolding uses_of operation_uses field_in_range
  pick_few =
      leb-true i.b 15
      (subst (λ (o : ℕ). field_in_range (uses_of o).b i.b ≡ true) pick (instruction_ranged i inside).in_b)

pub ranged_chooses : (i : Instruction) → instruction_in_range i ≡ true → Chooses i
unfolding lowest highest
ranged_chooses i inside =
    elim (ℕ_discrete i.operation 8) [
      | yes pick ↦ record {
        some = omega (arith, pick_some i inside pick, at_pick i i.c 0 pick, at_pick i i.b 0 pick);
        few = omega (arith, pick_few i inside pick, at_pick i i.b 0 pick);
      }
      | no other ↦ record {
        some = omega (arith, at_other i i.c 0 other, at_other i i.b 0 other);
        few = omega (arith, at_other i i.b 0 other);
      }
    ]

pub end_chooses : Chooses end_instruction
unfolding lowest highest
end_chooses = record { some = omega arith; few = omega arith }
