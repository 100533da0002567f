-- Laws of a line that is read: it goes on by the form that its first word names, and comes to the same at every place.
-- Assumes nothing.
use Rattle.std.specs.Prelude.{◌≡◌, ℕ, ◌-◌, Bool, true, false, List, [], take, drop, Some, None}
use Rattle.std.proofs.Math.Path.{refl}
use Rattle.std.proofs.Common.{sym, ap, ◌∙◌, arith}
use Rattle.std.proofs.Math.Option.{Option, none, some}
use Rattle.notation.specs.Checked.{Checked, refused, require, given, placed_by, ◌>>=◌, ◌>>◌}
use Rattle.notation.specs.Lists.{first_or}
use Rattle.notation.specs.Texts.{Text}
use Rattle.texts.specs.declared.Form.{Form}
use Rattle.texts.specs.Grammar.{Line}
use Rattle.texts.specs.Reading.{words_of, form_named, line_read}
use Rattle.texts.specs.Code.LineParts.{part_end, words_past, named_of}
use Rattle.texts_reading.specs.Laws.PartEndLaws.{part_taken, later_past}
use Rattle.texts_reading.specs.Code.FormReading.{form_read}

-- ---- a line by its form

-- the form that a name found is the form that was found
named_some : (o : Option Form) {form : Form} → Some form ≡ named_of o → o ≡ some form
unfolding named_of
named_some none e = cc
named_some (some other) e = cc

named_none : (o : Option Form) → None ≡ named_of o → o ≡ none
unfolding named_of
named_none none e = refl
named_none (some form) e = cc

-- the first word, and the others, as the code has them
word_first : (line : Text) → take (part_end 32 line 0) line ≡ first_or [] (words_of line)
word_first line =
    let whole : part_end 32 line 0 ≡ part_end 32 line 0 - 0 = omega arith in
    ap (λ (n : ℕ). take n line) whole ∙ sym (part_taken 32 line 0)

words_later : (line : Text) → words_past line (part_end 32 line 0) ≡ drop 1 (words_of line)
unfolding words_past
words_later line = later_past 32 line 0

module _ (k stage : ℕ) (line : Text) (end : ℕ) (is_end : end ≡ part_end 32 line 0) where
  form_is : form_named (take end line) ≡ form_named (first_or [] (words_of line))
  form_is = ap form_named (ap (λ (n : ℕ). take n line) is_end ∙ word_first line)

  pub line_unnamed : None ≡ named_of (form_named (take end line)) → line_read k stage line ≡ refused 60 k
  unfolding line_read given ◌>>=◌
  line_unnamed e = rw (sym form_is ∙ named_none (form_named (take end line)) e) refl

  pub line_named : (form : Form) → Some form ≡ named_of (form_named (take end line))
      → line_read k stage line ≡ form_read k stage form (words_past line end)
  unfolding line_read form_read given ◌>>=◌
  line_named form e =
      rw (sym form_is ∙ named_some (form_named (take end line)) e)
      (ap (form_read k stage form) (sym (ap (words_past line) is_end ∙ words_later line)))

-- ---- the place is the line's number, whatever the line is

-- a check at two places, with what follows it
placed_check : (test : Bool) (number k j : ℕ) (here there : Checked ℕ Line) → placed_by (λ _. k) there ≡ here
    → placed_by (λ _. k) (◌>>◌ (require test number j) there) ≡ ◌>>◌ (require test number k) here
unfolding placed_by require ◌>>◌
placed_check true number k j here there later = later
placed_check false number k j here there later = refl

form_placed : (k j stage : ℕ) (form : Form) (words : List Text)
    → placed_by (λ _. k) (form_read j stage form words) ≡ form_read k stage form words
unfolding form_read placed_by
form_placed k j stage form words =
    placed_check _ 60 k j _ _
    (placed_check _ 60 k j _ _ (placed_check _ 60 k j _ _ (placed_check _ 61 k j _ _ refl)))

placed_given : (o : Option Form) (k j : ℕ) (here there : Form → Checked ℕ Line)
    → ((form : Form) → placed_by (λ _. k) (there form) ≡ here form)
    → placed_by (λ _. k) (◌>>=◌ (given o 60 j) there) ≡ ◌>>=◌ (given o 60 k) here
unfolding placed_by given ◌>>=◌
placed_given none k j here there later = refl
placed_given (some form) k j here there later = later form

pub line_placed : (k j stage : ℕ) (bytes : Text)
    → placed_by (λ _. k) (line_read j stage bytes) ≡ line_read k stage bytes
unfolding line_read form_read
line_placed k j stage bytes =
    placed_given (form_named (first_or [] (words_of bytes))) k j (λ form. form_read k stage form (drop 1 (words_of bytes)))
    (λ form. form_read j stage form (drop 1 (words_of bytes)))
    (λ form. form_placed k j stage form (drop 1 (words_of bytes)))
