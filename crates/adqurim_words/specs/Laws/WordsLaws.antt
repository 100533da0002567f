-- Laws of the words: how many an answer has, which word stands where, and what is left by storing them one by one, or a
-- part of them at once.
-- Assumes nothing.
use Rattle.std.specs.Prelude.{◌≡◌, refl, Bool, true, false, set}
use Rattle.std.specs.Int.{from_bool}
use Rattle.std.proofs.Math.Path.{sym, ap}
use Rattle.std.proofs.Common.{◌∙◌, zero-add, add-one, arith, le-leb, take_all, take_at, get_or-append-add, append_assoc}
use Rattle.std.proofs.Common.{length-take-le, take-add, drop-drop, get_or-take, get_or-drop}
use borrow.Rule.Slice.PartMut.{put_mid}
use Rattle.std.proofs.lemmas.Grind.{same_number_lists}
use Prim.Native.Nat.{ℕ, suc, ◌+◌, ◌≤◌, ◌<◌}
use mathlib.Core.List.{List, [], ◌∷◌, ◌++◌, map}
use Rattle.std.proofs.Math.ListN.{length, get_or, take, drop, length-append, length-drop, get_or-append}
use Rattle.std.proofs.lemmas.Bool.{lt-leb}
use Rattle.std.proofs.Math.Seq.{paste, paste-zero, paste-suc, get_or-append_seam}
use Rattle.std.proofs.lemmas.List.Edits.{length-paste, take-paste, drop-paste}
use Rattle.notation.specs.Laws.QuantifierLaws.{map_length, map_at}
use Rattle.timing.specs.declared.ReadAnswer.{ReadAnswer}
use Rattle.machine.specs.declared.RunAnswer.{RunAnswer}
use Rattle.walk.specs.declared.WalkAnswer.{WalkAnswer}
use Rattle.adqurim_words.specs.Words.{words_of_read, words_of_run, words_of_walk, flag, read_words, verdict_number}
use Rattle.adqurim_words.specs.Words.{run_part, run_words, walk_words, filled_with}

-- ---- words stored one by one

-- what has been stored: the first k of the words
pub record StoredTo (words lent stored : List ℕ) (k : ℕ) : Type 0 where
  pub are : stored ≡ paste lent 0 words k
  pub some : k ≤ length words
  pub room : length words ≤ length lent

pub stored_none : (words lent : List ℕ) → length words ≤ length lent → StoredTo words lent lent 0
stored_none words lent room = record { are = paste-zero lent 0 words; some = omega arith; room = room }

pub stored_length : {words lent stored : List ℕ} {k : ℕ} → StoredTo words lent stored k → length stored ≡ length lent
stored_length {words} {lent} {stored} {k} h =
    ap length h.are ∙ length-paste lent 0 words k (omega (arith, h.some, h.room)) h.some

pub stored_more : {words lent stored : List ℕ} {k w : ℕ} → StoredTo words lent stored k → k < length words
    → w ≡ get_or words k 0 → StoredTo words lent (set stored k w) (k + 1)
stored_more {words} {lent} {stored} {k} {w} h lt is =
    let put : ℕ → ℕ → List ℕ = λ j x. set (paste lent 0 words k) j x in
    record {
      are =
          ap (λ (l : List ℕ). set l k w) h.are
          ∙ ap (put k) is
          ∙ ap (λ (j : ℕ). put j (get_or words k 0)) (sym (zero-add k))
          ∙ paste-suc lent 0 words k 0 (omega (arith, h.room)) lt
          ∙ ap (paste lent 0 words) (sym (add-one k));
      some = omega arith;
      room = h.room;
    }

-- a part stored at once: n words from the k-th on
pub stored_part : {words lent stored : List ℕ} {k : ℕ} (n : ℕ) (part : List ℕ) → StoredTo words lent stored k
    → length part ≡ n → k + n ≤ length words → ((i : ℕ) → i < n → get_or part i 0 ≡ get_or words (k + i) 0)
    → StoredTo words lent (put_mid k n stored part) (k + n)
stored_part {words} {lent} {stored} {k} n part h long le same =
    let was : List ℕ = paste lent 0 words k in
    let few : k ≤ length words = h.some in
    let there : length (take n (drop k words)) ≡ n =
    length-take-le n (drop k words) (omega (arith, length-drop k words)) in
    let is : part ≡ take n (drop k words) =
    same_number_lists part (take n (drop k words)) (long ∙ sym there) (λ i lt.
    same i (omega arith)
    ∙ sym (get_or-take n (drop k words) i 0 (omega arith) ∙ get_or-drop k words i 0)) in
    let front : take k was ≡ take k words =
    ap (λ (j : ℕ). take j was) (sym (zero-add k)) ∙ take-paste lent 0 words k (omega arith) few in
    let back : drop n (drop k was) ≡ drop (k + n) lent =
    ap (drop n) (ap (λ (j : ℕ). drop j was) (sym (zero-add k)) ∙ drop-paste lent 0 words k (omega arith) few
    ∙ ap (λ (j : ℕ). drop j lent) (zero-add k)) ∙ drop-drop n k lent in
    let joined : put_mid k n was part ≡ take k words ++ (take n (drop k words) ++ drop (k + n) lent) =
    λ t. front t ++ (is t ++ back t) in
    record {
      are =
          ap (λ (l : List ℕ). put_mid k n l part) h.are ∙ joined
          ∙ sym (append_assoc (take k words) (take n (drop k words)) (drop (k + n) lent))
          ∙ ap (λ (l : List ℕ). l ++ drop (k + n) lent) (sym (take-add k n words))
          ∙ ap (λ (j : ℕ). take (k + n) words ++ drop j lent) (sym (zero-add (k + n)));
      some = le;
      room = h.room;
    }

-- lent words with room for all of these, and without
filled : (words lent : List ℕ) → length words ≤ length lent → words ++ drop (length words) lent ≡ filled_with words lent
unfolding filled_with
filled words lent room = rw (le-leb _ _ room)

pub no_room : (words lent : List ℕ) → length lent < length words → lent ≡ filled_with words lent
unfolding filled_with
no_room words lent short = rw (lt-leb _ _ short)

pub stored_all : {words lent stored : List ℕ} {k : ℕ} → StoredTo words lent stored k → length words ≤ k
    → stored ≡ filled_with words lent
stored_all {words} {lent} {stored} {k} h all =
    let whole : 0 + k ≡ length words = omega (arith, h.some) in
    h.are
    ∙ ap (λ (l : List ℕ). l ++ drop (0 + k) lent) (take_all k words all)
    ∙ ap (λ (n : ℕ). words ++ drop n lent) whole
    ∙ filled words lent h.room

-- ---- the reader's words

module _ (a : ReadAnswer) (times : length a.responses ≡ 8) where
  pub read_length : length (read_words a) ≡ words_of_read
  unfolding read_words
  read_length = omega (arith, times, length-append a.responses (a.jobs ∷ []))

  pub response_word_lem : (k j : ℕ) → k ≡ suc (suc j) → j < 8 → get_or a.responses j 0 ≡ get_or (read_words a) k 0
  unfolding read_words
  response_word_lem k j is lt =
      sym (get_or-append a.responses (a.jobs ∷ []) 0 j (omega (arith, times)))
      ∙ ap (λ (n : ℕ). get_or (read_words a) n 0) (sym is)

  pub jobs_word_lem : (k : ℕ) → k ≡ 10 → a.jobs ≡ get_or (read_words a) k 0
  unfolding read_words
  jobs_word_lem k is =
      let place : suc (suc (length a.responses)) ≡ k = omega (arith, times) in
      sym (get_or-append_seam a.responses a.jobs [] 0) ∙ ap (λ (n : ℕ). get_or (read_words a) n 0) place

  -- number and place, the response times, the number of jobs
  pub read_stored : (lent : List ℕ) {n p last : ℕ} {part : List ℕ} → words_of_read ≤ length lent → n ≡ a.number
      → p ≡ a.place → part ≡ a.responses → last ≡ a.jobs
      → set (put_mid 2 8 (set (set lent 0 n) 1 p) part) 10 last ≡ filled_with (read_words a) lent
  unfolding read_words
  read_stored lent {part = part} room number place is last =
      let none = stored_none (read_words a) lent (omega (arith, read_length)) in
      let one = stored_more none (omega (arith, read_length)) number in
      let two = stored_more one (omega (arith, read_length)) place in
      let put = stored_part 8 part two (ap length is ∙ times) (omega (arith, read_length)) (λ i lt.
      ap (λ (l : List ℕ). get_or l i 0) is ∙ response_word_lem (2 + i) i (omega arith) lt) in
      stored_all (stored_more put (omega (arith, read_length)) (last ∙ jobs_word_lem 10 refl))
      (omega (arith, read_length))

-- ---- a run's words

-- a flag's number is its word
pub flag_number : (b : Bool) → from_bool b ≡ flag b
unfolding flag
flag_number true = refl
flag_number false = refl

module _ (a : RunAnswer) (variables : length a.store ≡ 8) (jobs : length a.failed ≡ 32) where
  -- the store and the flags
  both_length : length (a.store ++ map flag a.failed) ≡ 40
  both_length =
      let flags : List ℕ = map flag a.failed in
      omega (arith, variables, jobs, map_length flag a.failed, length-append a.store flags)

  pub words_run_length : length (run_words a) ≡ words_of_run
  unfolding run_words
  words_run_length = omega (arith, both_length, length-append (a.store ++ map flag a.failed) (a.length ∷ []))

  -- the store and the flags stand after the first two words
  both_word : (k j : ℕ) → k ≡ suc (suc j) → j < 40
      → get_or (a.store ++ map flag a.failed) j 0 ≡ get_or (run_words a) k 0
  unfolding run_words
  both_word k j is lt =
      sym (get_or-append (a.store ++ map flag a.failed) (a.length ∷ []) 0 j (omega (arith, both_length)))
      ∙ ap (λ (n : ℕ). get_or (run_words a) n 0) (sym is)

  pub store_word_lem : (k j : ℕ) → k ≡ suc (suc j) → j < 8 → get_or a.store j 0 ≡ get_or (run_words a) k 0
  store_word_lem k j is lt =
      sym (get_or-append a.store (map flag a.failed) 0 j (omega (arith, variables)))
      ∙ both_word k j is (omega arith)

  pub failed_word_lem : (k i : ℕ) → k ≡ 10 + i → i < 32 → flag (get_or a.failed i false) ≡ get_or (run_words a) k 0
  failed_word_lem k i is lt =
      sym (map_at flag a.failed i false 0 (omega (arith, jobs)))
      ∙ sym (get_or-append-add a.store (map flag a.failed) i 0)
      ∙ both_word k (length a.store + i) (omega (arith, variables)) (omega (arith, variables))

  pub length_word : (k : ℕ) → k ≡ 42 → a.length ≡ get_or (run_words a) k 0
  unfolding run_words
  length_word k is =
      let place : suc (suc (length (a.store ++ map flag a.failed))) ≡ k = omega (arith, both_length) in
      sym (get_or-append_seam (a.store ++ map flag a.failed) a.length [] 0)
      ∙ ap (λ (n : ℕ). get_or (run_words a) n 0) place

  -- number and place, the store, the flags, the length
  pub run_stored : (lent : List ℕ) {n p last : ℕ} (store flags : List ℕ) → words_of_run ≤ length lent → n ≡ a.number
      → p ≡ a.place → last ≡ a.length → length store ≡ 8 → length flags ≡ 32
      → ((i : ℕ) → i < 8 → get_or store i 0 ≡ get_or a.store i 0)
      → ((i : ℕ) → i < 32 → get_or flags i 0 ≡ from_bool (get_or a.failed i false))
      → set (put_mid 10 32 (put_mid 2 8 (set (set lent 0 n) 1 p) store) flags) 42 last ≡ filled_with (run_words a) lent
  unfolding run_words
  run_stored lent store flags room number place last eight all stored flagged =
      let none = stored_none (run_words a) lent (omega (arith, words_run_length)) in
      let one = stored_more none (omega (arith, words_run_length)) number in
      let two = stored_more one (omega (arith, words_run_length)) place in
      let store-put = stored_part 8 store two eight (omega (arith, words_run_length)) (λ i lt.
      stored i lt ∙ store_word_lem (2 + i) i (omega arith) lt) in
      let flags-put = stored_part 32 flags store-put all (omega (arith, words_run_length)) (λ i lt.
      flagged i lt ∙ flag_number (get_or a.failed i false) ∙ failed_word_lem (10 + i) i refl lt) in
      stored_all (stored_more flags-put (omega (arith, words_run_length)) (last ∙ length_word 42 refl))
      (omega (arith, words_run_length))

-- ---- a walk's words

module _ (x : WalkAnswer) (variables : length x.store ≡ 8) (jobs : length x.failed ≡ 32) where
  part_length : length (run_words (run_part x)) ≡ words_of_run
  unfolding run_part
  part_length = words_run_length (run_part x) variables jobs

  pub walk_length : length (walk_words x) ≡ words_of_walk
  unfolding walk_words
  walk_length =
      omega (arith, part_length, length-append (run_words (run_part x)) (verdict_number x.verdict ∷ x.count ∷ []))

  -- the run's words are the walk's first
  pub part_stored : (lent : List ℕ) {run : RunAnswer} {after : List ℕ} → words_of_walk ≤ length lent → run ≡ run_part x
      → after ≡ filled_with (run_words run) lent → StoredTo (walk_words x) lent after words_of_run
  unfolding walk_words
  part_stored lent {run} {after} room part put =
      let words : List ℕ = run_words (run_part x) in
      let last : List ℕ = verdict_number x.verdict ∷ x.count ∷ [] in
      record {
        are =
            put
            ∙ ap (λ (a : RunAnswer). filled_with (run_words a) lent) part
            ∙ sym (filled words lent (omega (arith, part_length)))
            ∙ ap (λ (n : ℕ). words ++ drop n lent) part_length
            ∙ ap (λ (l : List ℕ). l ++ drop words_of_run lent) (sym (take_at words last words_of_run part_length));
        some = omega (arith, walk_length);
        room = omega (arith, walk_length);
      }

  pub verdict_at : {w : ℕ} → w ≡ verdict_number x.verdict → w ≡ get_or (walk_words x) 43 0
  unfolding walk_words
  verdict_at is =
      is
      ∙ sym (get_or-append_seam (run_words (run_part x)) (verdict_number x.verdict) (x.count ∷ []) 0)
      ∙ ap (λ (n : ℕ). get_or (walk_words x) n 0) part_length

  pub count_at_lem : x.count ≡ get_or (walk_words x) 44 0
  unfolding walk_words
  count_at_lem =
      let place : length (run_words (run_part x)) + 1 ≡ 44 = omega (arith, part_length) in
      sym (get_or-append-add (run_words (run_part x)) (verdict_number x.verdict ∷ x.count ∷ []) 1 0)
      ∙ ap (λ (n : ℕ). get_or (walk_words x) n 0) place

  -- the run's words, then the verdict and the count
  pub walk_stored : (lent : List ℕ) {run : RunAnswer} {after : List ℕ} {w : ℕ} → words_of_walk ≤ length lent
      → run ≡ run_part x → after ≡ filled_with (run_words run) lent → w ≡ verdict_number x.verdict
      → set (set after 43 w) 44 x.count ≡ filled_with (walk_words x) lent
  walk_stored lent room part put is =
      let run-put = part_stored lent room part put in
      let verdict-put = stored_more run-put (omega (arith, walk_length)) (verdict_at is) in
      stored_all (stored_more verdict-put (omega (arith, walk_length)) count_at_lem) (omega (arith, walk_length))

-- ---- three words

-- three stores at the front
pub three_stored : (lent : List ℕ) (x y z : ℕ) → 3 ≤ length lent
    → set (set (set lent 0 x) 1 y) 2 z ≡ filled_with (x ∷ y ∷ z ∷ []) lent
unfolding filled_with
three_stored [] x y z room = absurd (omega arith)
three_stored (a ∷ []) x y z room = absurd (omega arith)
three_stored (a ∷ b ∷ []) x y z room = absurd (omega arith)
three_stored (a ∷ b ∷ c ∷ rest) x y z room = rw (le-leb 3 (length (a ∷ b ∷ c ∷ rest)) room) refl
