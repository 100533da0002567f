-- Laws of what is written on a page, one piece after the other.
-- Assumes nothing.
use Rattle.std.specs.Prelude.{◌≡◌, refl, ℕ, ◌+◌, ◌≤◌, ◌<◌, List, [], ◌∷◌, ◌++◌, length, get_or, take}
use Rattle.std.proofs.Common.{sym, ap, subst, ◌∙◌, arith, add-one, take-suc, take_all, append-nil}
use Rattle.notation.specs.Laws.ElementLaws.{each_snoc}
use Rattle.notation.specs.Laws.ListLaws.{each_append}
use Rattle.notation.specs.Lists.{from, up_to, each}
use Rattle.notation.specs.Texts.{Text}
use Rattle.notation_buffers.specs.declared.pages.Page.{Page}
use Rattle.notation_buffers.specs.Code.Writing.{Appends}
use Rattle.notation_buffers.specs.Code.Pages.{Puts}
use Rattle.notation_buffers.specs.Laws.WritingLaws.{appends_none, appends_more, appends_length}

-- ---- one after the other

pub puts_same : {before after : Page} {bytes other : Text} → bytes ≡ other → Puts before bytes after
    → Puts before other after
puts_same {before} {after} e puts = subst (λ (l : Text). Puts before l after) e puts

-- a page keeps its length, and so its room
pub puts_length : {before after : Page} {bytes : Text} → Puts before bytes after
    → length after.bytes.now ≡ length before.bytes.now
puts_length p = appends_length p.puts (omega arith)

pub puts_none : (page : Page) → Puts page [] page
puts_none page = record { same = refl; puts = appends_none (length page.bytes.now) page.bytes.now page.at }

pub puts_more : {before mid after : Page} {xs ys : Text} → Puts before xs mid → Puts mid ys after
    → Puts before (xs ++ ys) after
puts_more {mid = mid} {after} {ys = ys} first second = record {
  same = second.same ∙ first.same;
  puts =
      appends_more (omega arith) first.puts
      (subst (λ (room : ℕ). Appends room mid.bytes.now mid.at ys after.bytes.now after.at)
      (puts_length first) second.puts);
}

-- ---- the parts of a list

-- one part more at the end
pub each_last : {A : Type 0} (part : A → Text) (xs : List A) (x : A) → each (xs ++ (x ∷ [])) part ≡ each xs part ++ part x
unfolding each
each_last part xs x = each_append part xs (x ∷ []) ∙ ap (λ (l : Text). each xs part ++ l) (append-nil (part x))

-- the parts of the first k elements were written
pub record ListedTo {A : Type 0} (part : A → Text) (xs : List A) (k : ℕ) (before after : Page) : Type 0 where
  pub puts : Puts before (each (take k xs) part) after

pub listed_none : {A : Type 0} (part : A → Text) (xs : List A) (page : Page) → ListedTo part xs 0 page page
unfolding each
listed_none part xs page = record { puts = puts_none page }

pub listed_more : {A : Type 0} {part : A → Text} {xs : List A} {k : ℕ} {before mid after : Page} (d : A)
    → ListedTo part xs k before mid → k < length xs → Puts mid (part (get_or xs k d)) after
    → ListedTo part xs (k + 1) before after
listed_more {A} {part} {xs} {k} d first lt second =
    let more : take k xs ++ (get_or xs k d ∷ []) ≡ take (k + 1) xs =
    sym (take-suc xs k d lt) ∙ ap (λ (j : ℕ). take j xs) (sym (add-one k)) in
    record {
      puts =
          puts_same (sym (each_last part (take k xs) (get_or xs k d)) ∙ ap (λ (l : List A). each l part) more)
          (puts_more first.puts second);
    }

pub listed_whole : {A : Type 0} {part : A → Text} {xs : List A} {k : ℕ} {before after : Page}
    → ListedTo part xs k before after → length xs ≤ k → Puts before (each xs part) after
listed_whole {A} {part} {xs} {k} listed all =
    puts_same (ap (λ (l : List A). each l part) (take_all k xs all)) listed.puts

-- ---- part after part, of the numbers below one

-- the parts of the first n numbers were written
pub record PartsTo (part : ℕ → Text) (n : ℕ) (before after : Page) : Type 0 where
  pub puts : Puts before (each (up_to n) part) after

pub parts_none : (part : ℕ → Text) (page : Page) → PartsTo part 0 page page
unfolding up_to from each
parts_none part page = record { puts = puts_none page }

pub parts_more : {part : ℕ → Text} {n : ℕ} {before mid after : Page} → PartsTo part n before mid
    → Puts mid (part n) after → PartsTo part (n + 1) before after
parts_more {part} {n} first second = record {
  puts =
      puts_same (sym (each_snoc n part) ∙ ap (λ (k : ℕ). each (up_to k) part) (sym (add-one n)))
      (puts_more first.puts second);
}

pub parts_all : {part : ℕ → Text} {n k : ℕ} {before after : Page} → PartsTo part n before after → n ≡ k
    → Puts before (each (up_to k) part) after
parts_all {part} parts same = puts_same (ap (λ (j : ℕ). each (up_to j) part) same) parts.puts
