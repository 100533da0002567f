-- Laws of flags: which records a list of reached records flags, when two lists mark the same, and how one mark more
-- is set.
-- Assumes nothing.
use Rattle.std.specs.Prelude.{◌≡◌, ℕ, ◌<◌, Bool, true, false, List, [], ◌∷◌, ◌++◌, map, length, get_or, set, replicate}
use Rattle.std.proofs.Common.{sym, ap, ◌∙◌, arith, length-set, ext_get_or, get_or-set_same, get_or-set_other}
use Rattle.std.proofs.Math.Path.{fun_ext}
use Rattle.std.proofs.Math.Decide.{ℕ_discrete}
use Rattle.std.proofs.Math.Bool.{or_comm}
use Rattle.std.proofs.lemmas.List.{length-map, length-replicate, get_or-replicate}
use Rattle.notation.specs.Lists.{up_to, member}
use Rattle.notation.specs.Laws.ListLaws.{up_to_length, get_or_up_to}
use Rattle.taskfile.specs.Code.Reading.{seen_of}
use Rattle.notation.specs.Laws.MemberLaws.{member_append, member_moved, member_here, member_later}
use Rattle.notation.specs.Laws.QuantifierLaws.{map_at}

-- there are 256 flags, one for each record
pub seen_length : (reached : List ℕ) → length (seen_of reached) ≡ 256
unfolding seen_of
seen_length reached = length-map (up_to 256) (λ r. member r reached) ∙ up_to_length 256

pub seen_at : (reached : List ℕ) (r : ℕ) → r < 256 → get_or (seen_of reached) r false ≡ member r reached
unfolding seen_of
seen_at reached r h =
    map_at (λ k. member k reached) (up_to 256) r 0 false (omega (arith, up_to_length 256))
    ∙ ap (λ k. member k reached) (get_or_up_to 256 r 0 h)

-- lists of the same records have the same flags
pub seen_ext : (l m : List ℕ) → ((r : ℕ) → member r l ≡ member r m) → seen_of l ≡ seen_of m
unfolding seen_of
seen_ext l m h = ap (λ f. map f (up_to 256)) (fun_ext h)

pub seen_moved : (l m k : List ℕ) → seen_of (l ++ (m ++ k)) ≡ seen_of (m ++ l ++ k)
seen_moved l m k = seen_ext (l ++ (m ++ k)) (m ++ l ++ k) (λ r. member_moved r l m k)

pub seen_swapped : (l m : List ℕ) → seen_of (l ++ m) ≡ seen_of (m ++ l)
seen_swapped l m =
    seen_ext (l ++ m) (m ++ l) (λ r. rw (member_append r l m, member_append r m l, or_comm (member r l) (member r m)))

-- to reach one record more is to set its mark
set_seen : (reached : List ℕ) (r k : ℕ) → r < 256 → k < 256 → Dec (k ≡ r)
    → get_or (set (seen_of reached) r true) k false ≡ get_or (seen_of (r ∷ reached)) k false
set_seen reached r k h below (yes same) =
    ap (λ j. get_or (set (seen_of reached) r true) j false) same
    ∙ get_or-set_same (seen_of reached) r true false (omega (arith, seen_length reached))
    ∙ sym (seen_at (r ∷ reached) k below ∙ member_here k r reached same)
set_seen reached r k h below (no other) =
    get_or-set_other (seen_of reached) r k true false other
    ∙ seen_at reached k below
    ∙ sym (seen_at (r ∷ reached) k below ∙ member_later k r reached other)

pub seen_set : (reached : List ℕ) (r : ℕ) → r < 256 → set (seen_of reached) r true ≡ seen_of (r ∷ reached)
seen_set reached r h =
    ext_get_or false (set (seen_of reached) r true) (seen_of (r ∷ reached))
    (length-set (seen_of reached) r true ∙ seen_length reached ∙ sym (seen_length (r ∷ reached)))
    (λ k below. set_seen reached r k h (omega (arith, length-set (seen_of reached) r true, seen_length reached)) (ℕ_discrete k r))

pub seen_more : (seen : List Bool) (reached : List ℕ) (r : ℕ) → r < 256 → seen ≡ seen_of reached
    → set seen r true ≡ seen_of (r ∷ reached)
seen_more seen reached r h e = ap (λ l. set l r true) e ∙ seen_set reached r h

-- no record is marked at first
pub seen_none : replicate 256 false ≡ seen_of []
unfolding member
seen_none =
    ext_get_or false (replicate 256 false) (seen_of []) (length-replicate 256 false ∙ sym (seen_length []))
    (λ k below. let h : k < 256 = omega (arith, length-replicate 256 false) in
    get_or-replicate 256 k false false h ∙ sym (seen_at [] k h))
