-- What `texts_tables::text_reader::read_text` owes and the search does not find.
use Rattle.std.proofs.Common.{◌≡◌, ap, ◌∙◌, ℕ, ◌≤◌, length, List, arith, rules}
use Rattle.notation.specs.Checked.{Checked, refused, mapped}
use Rattle.notation.specs.Texts.{Text}
use Rattle.taskfile.specs.declared.Table.{Table}
use Rattle.taskfile.specs.declared.refusals.Refusal.{Refusal}
use Rattle.taskfile.specs.declared.refusals.Refused.{Refused}
use Rattle.taskfile.specs.Code.Refusals.{number_of}
use Rattle.texts.specs.declared.ReadLine.{ReadLine}
use Rattle.texts.specs.Code.LineParts.{part_end, held}
use Rattle.texts.specs.Reading.{line_read}
use Rattle.texts_reading.specs.Laws.StageLaws.{stage_cast}
use Rattle.texts_tables.proofs.Laws.TextReadLaws.{TextReadTo, text_begun, text_unended, text_short, text_whole}
use Rattle.texts_tables.proofs.Laws.TextReadLaws.{LineFound, text_stopped, numbers_fit, text_more}
use Rattle.texts_tables.proofs.text_reader.read_text.Goals as goal

-- a refusal at a place is what a check that refuses comes to
refusal_told : (e : Refused ℕ) {why : Refusal} {place : ℕ} → e ≡ record { why = why; place = place }
    → {check : Checked ℕ Table} → refused (number_of why) place ≡ check → refused (number_of e.why) e.place ≡ check
refusal_told e is refuses = ap (λ (x : Refused ℕ). refused (number_of x.why) x.place) is ∙ refuses

-- the line that was found has a newline behind it
line_found : {text : List ℕ} {t : Table} {line stage start to : ℕ}
    → TextReadTo text t line stage start → to ≡ part_end 10 text start → to ≤ length text → (to ≡ length text → ⊥)
    → LineFound text t line stage start to
line_found done is within other = record { done = done; is = is; ended = omega arith }

-- a line that was read at a stage's byte was read at its number
read_at : (number : ℕ) (bytes : Text) {byte stage : ℕ} → byte ≡ stage → {c : Checked ℕ ReadLine}
    → c ≡ mapped held (line_read number byte bytes) → c ≡ mapped held (line_read number stage bytes)
read_at number bytes same is = is ∙ ap (λ (n : ℕ). mapped held (line_read number n bytes)) same

pub loop-from-init : goal.loop-from-init
loop-from-init c = text_begun _ _ c.empty_table-t.ensures

pub part_end-to-requires : goal.part_end-to-requires
part_end-to-requires c = c.loop-from.invariant.within

pub returns-then-to-text : goal.returns-then-to-text
returns-then-to-text c =
    refusal_told _ c.at.ensures
    (text_unended c.loop-from.invariant c.loop-from-test.true _ c.part_end-to.ensures.end c.if-to-text.true)

pub returns-in_err-line : goal.returns-in_err-line
returns-in_err-line c =
    let found = line_found c.loop-from.invariant c.part_end-to.ensures.end c.part_end-to.ensures.within.1
    c.if-to-text.false in
    rw (← text_stopped found c.in_err-line.field-0.0
    (read_at _ _ (stage_cast c.loop-from.stage) c.in_err-line.ensures)) (search rules)

pub add_part-requires : goal.add_part-requires
add_part-requires c =
    let found = line_found c.loop-from.invariant c.part_end-to.ensures.end c.part_end-to.ensures.within.1
    c.if-to-text.false in
    numbers_fit found _ (read_at _ _ (stage_cast c.loop-from.stage) c.in_ok-line.ensures)

pub loop-from-preserved : goal.loop-from-preserved
loop-from-preserved c =
    let found = line_found c.loop-from.invariant c.part_end-to.ensures.end c.part_end-to.ensures.within.1
    c.if-to-text.false in
    text_more found _ (read_at _ _ (stage_cast c.loop-from.stage) c.in_ok-line.ensures) _ c.add_part.ensures _
    c.stage_after-stage.ensures

pub returns-then-lt : goal.returns-then-lt
returns-then-lt c =
    refusal_told _ c.at-then-lt.ensures
    (text_short c.loop-from.invariant c.loop-from-test.false (search rules))

pub returns : goal.returns
returns c = text_whole c.loop-from.invariant c.loop-from-test.false (search rules)
