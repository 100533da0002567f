-- What reading a line comes to: refused at that line, or passed with numbers that fit.
-- Assumes nothing.
use Rattle.std.specs.Prelude.{◌≡◌, refl, ℕ, ◌≤◌, Bool, true, false}
use Rattle.std.proofs.Common.{sym, ap, subst₂, arith}
use Rattle.std.proofs.Math.Option.{Option, none, some}
use Rattle.notation.specs.Checked.{Checked, refused, passed, mapped, require, given, ◌>>=◌, ◌>>◌}
use Rattle.notation.specs.Lists.{padded}
use Rattle.notation.specs.Texts.{Text}
use Rattle.taskfile.specs.declared.refusals.Refused.{Refused}
use Rattle.taskfile.specs.Code.Refusals.{number_of}
use Rattle.texts.specs.declared.ReadLine.{ReadLine}
use Rattle.texts.specs.Grammar.{Line, row_of, fits}
use Rattle.texts.specs.Reading.{line_read}
use Rattle.texts.specs.Code.LineParts.{held}
use Rattle.texts_tables.specs.Code.PartFields.{PartFits}
use Rattle.texts_tables.proofs.Laws.PartFieldLaws.{part_fields_fit}

pub data ReadAt (k : ℕ) : Checked ℕ Line → Type 0 where
  fault : {number : ℕ} → 1 ≤ number → ReadAt k (refused number k)
  whole : {l : Line} → fits (row_of l.form).fields l.numbers ≡ true → ReadAt k (passed l)

given_read : {A : Type 0} {k : ℕ} (o : Option A) {rest : A → Checked ℕ Line} → ((x : A) → ReadAt k (rest x))
    → ReadAt k (◌>>=◌ (given o 60 k) rest)
unfolding given ◌>>=◌
given_read none later = fault {number = 60} (omega arith)
given_read (some x) later = later x

require_read : {k : ℕ} (test : Bool) (number : ℕ) {rest : Checked ℕ Line} → 1 ≤ number
    → (test ≡ true → ReadAt k rest) → ReadAt k (◌>>◌ (require test number k) rest)
unfolding require ◌>>◌
require_read true number above later = later refl
require_read false number above later = fault above

pub line_read_at : (k stage : ℕ) (bytes : Text) → ReadAt k (line_read k stage bytes)
unfolding line_read
line_read_at k stage bytes =
    given_read _ (λ form.
    require_read _ 60 (omega arith) (λ h.
    require_read _ 60 (omega arith) (λ h.
    require_read _ 60 (omega arith) (λ h.
    require_read _ 61 (omega arith) (λ fit. whole fit)))))

-- ---- what the answer says

-- an error is the check's refusal
pub answer_refused : {c : Checked ℕ Line} (e : Refused ℕ) → refused (number_of e.why) e.place ≡ mapped held c
    → c ≡ refused (number_of e.why) e.place
unfolding mapped
answer_refused {c = refused number place} e is = cc
answer_refused {c = passed l} e is = cc

-- and a line that was read is the one that the check passes on
pub record Answered (r : ReadLine) (c : Checked ℕ Line) : Type 0 where
  pub line : Line
  pub passes : c ≡ passed line
  pub form : r.form ≡ line.form
  pub numbers : r.numbers ≡ padded 8 0 line.numbers
  pub fit : fits (row_of line.form).fields line.numbers ≡ true

pub answer_passed : {k : ℕ} {c : Checked ℕ Line} → ReadAt k c → (r : ReadLine) → passed r ≡ mapped held c → Answered r c
unfolding mapped held
answer_passed (fault above) r is = cc
answer_passed (whole {l} fit) r is =
    let same : r ≡ record { form = l.form; numbers = padded 8 0 l.numbers } = cc in
    record {
      line = l;
      passes = refl;
      form = ap (λ (x : ReadLine). x.form) same;
      numbers = ap (λ (x : ReadLine). x.numbers) same;
      fit = fit;
    }

-- its numbers fit where they go
pub answer_fits : {r : ReadLine} {c : Checked ℕ Line} → Answered r c → PartFits r.form r.numbers
answer_fits {r} a =
    subst₂ PartFits (sym a.form) (sym a.numbers) (part_fields_fit a.line.form a.line.numbers a.fit)
