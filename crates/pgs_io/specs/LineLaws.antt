-- The laws of lines, and of the lines that a feed has given.
use Rattle.std.specs.Prelude.{All, if◌then◌else◌}
use Rattle.std.proofs.Common.{◌≡◌, ◌≢◌, ◌<◌, ◌≤◌, ◌+◌, ◌==◌, ℕ, Bool, true, false, Option, List, [], ◌∷◌, ◌++◌, length, take, drop, inl, inr, refl, sym, ◌∙◌, ap, append_assoc, append-nil, arith, length-append, length-take}
use Rattle.std.specs.Io.KnownBytes.{IsAtEnd}
use Rattle.std.proofs.lemmas.Bool.Decides.{nat_tests}
use Rattle.std.proofs.lemmas.List.{take_all, take-append-drop}
use Rattle.std.proofs.lemmas.List.Elements.{All-head, All-tail}
use Rattle.pgs_io.specs.Lines.{newline, lines_of, ended_lines, onto_first, onto_ended, text_of, HasNoNewline}
use Rattle.pgs_io.specs.Feeding.{Feeding, AreGiven, HasFed, AreFirst}

-- a byte that is no newline is tested so
not_newline : (b : ℕ) → b ≢ newline → (b == newline) ≡ false
not_newline b h = grind (arith, nat_tests)

-- a line and its newline are cut off the front
pub lines_of-line : (line rest : List ℕ) → HasNoNewline line → lines_of (line ++ newline ∷ rest) ≡ line ∷ lines_of rest
lines_of-line [] rest h = refl
lines_of-line (b ∷ bs) rest h =
    rw (not_newline b (All-head (λ x. x ≢ newline) b bs h)) (ap (onto_first b) (lines_of-line bs rest (All-tail (λ x. x ≢ newline) b bs h)))

pub ended_lines-line : (line rest : List ℕ) → HasNoNewline line → ended_lines (line ++ newline ∷ rest) ≡ line ∷ ended_lines rest
ended_lines-line [] rest h = refl
ended_lines-line (b ∷ bs) rest h =
    rw (not_newline b (All-head (λ x. x ≢ newline) b bs h)) (ap (onto_ended b) (ended_lines-line bs rest (All-tail (λ x. x ≢ newline) b bs h)))

-- bytes with no newline are one line, and end none
pub lines_of-rest : (line : List ℕ) → HasNoNewline line → 0 < length line → lines_of line ≡ line ∷ []
lines_of-rest [] h some = absurd (omega arith)
lines_of-rest (b ∷ []) h some = rw (not_newline b (All-head (λ x. x ≢ newline) b [] h)) refl
lines_of-rest (b ∷ c ∷ bs) h some =
    let tail : HasNoNewline (c ∷ bs) = All-tail (λ x. x ≢ newline) b (c ∷ bs) h in
    rw (not_newline b (All-head (λ x. x ≢ newline) b (c ∷ bs) h)) (ap (onto_first b) (lines_of-rest (c ∷ bs) tail (omega arith)))

pub ended_lines-rest : (line : List ℕ) → HasNoNewline line → ended_lines line ≡ []
ended_lines-rest [] h = refl
ended_lines-rest (b ∷ bs) h =
    rw (not_newline b (All-head (λ x. x ≢ newline) b bs h)) (ap (onto_ended b) (ended_lines-rest bs (All-tail (λ x. x ≢ newline) b bs h)))

-- whole lines at the front of a text are its first lines
pub lines_of-text : (lines : List (List ℕ)) (rest : List ℕ) → All HasNoNewline lines → lines_of (text_of lines ++ rest) ≡ lines ++ lines_of rest
lines_of-text [] rest h = refl
lines_of-text (line ∷ lines) rest h =
    rw (append_assoc line (newline ∷ text_of lines) rest)
    (lines_of-line line (text_of lines ++ rest) (All-head HasNoNewline line lines h)
    ∙ ap (λ ls. line ∷ ls) (lines_of-text lines rest (All-tail HasNoNewline line lines h)))

pub ended_lines-text : (lines : List (List ℕ)) (rest : List ℕ) → All HasNoNewline lines → ended_lines (text_of lines ++ rest) ≡ lines ++ ended_lines rest
ended_lines-text [] rest h = refl
ended_lines-text (line ∷ lines) rest h =
    rw (append_assoc line (newline ∷ text_of lines) rest)
    (ended_lines-line line (text_of lines ++ rest) (All-head HasNoNewline line lines h)
    ∙ ap (λ ls. line ∷ ls) (ended_lines-text lines rest (All-tail HasNoNewline line lines h)))

pub text_of-push : (lines : List (List ℕ)) (line : List ℕ) → text_of (lines ++ line ∷ []) ≡ text_of lines ++ (line ++ newline ∷ [])
text_of-push [] line = refl
text_of-push (l ∷ ls) line =
    ap (λ t. l ++ (newline ∷ t)) (text_of-push ls line) ∙ sym (append_assoc l (newline ∷ text_of ls) (line ++ newline ∷ []))

-- no more lines than bytes
pub lines_of-few : (bytes : List ℕ) → length (lines_of bytes) ≤ length bytes
lines_of-few [] = omega arith
lines_of-few (b ∷ bs) = omega (arith, one_more (b == newline) (lines_of bs), lines_of-few bs)
  where
    one_more : (ends : Bool) (lines : List (List ℕ)) → length (if ends then [] ∷ lines else onto_first b lines) ≤ length lines + 1
    one_more true lines = omega arith
    one_more false [] = omega arith
    one_more false (line ∷ lines) = omega arith

pub text_of-long : (lines : List (List ℕ)) → length lines ≤ length (text_of lines)
text_of-long [] = omega arith
text_of-long (line ∷ lines) = omega (arith, length-append line (newline ∷ text_of lines), text_of-long lines)

-- ---- what a feed has given, wherever it stands

few_given : (b : Bool) (bytes : List ℕ) (lines : List (List ℕ)) (pending : List ℕ) → AreGiven b bytes lines pending → length lines ≤ length bytes
few_given false bytes lines pending g = omega (arith, ap length g.0, length-append (text_of lines) pending, text_of-long lines)
few_given true bytes lines pending g = omega (arith, ap length g.0, lines_of-few bytes)

-- no more lines than bytes
pub HasFed-few : (limit : ℕ) (start now : Option (List ℕ)) (feed : Feeding) (lines : List (List ℕ)) → HasFed limit start now feed lines → length lines ≤ limit
HasFed-few limit start now feed lines h = omega (arith, few_given feed.source_ended (take limit h.taken) lines feed.pending h.given, length-take limit h.taken)

-- the lines of a text, each with its newline, have no fewer bytes than the text
pub lines_of-long : (bytes : List ℕ) → length bytes ≤ length (text_of (lines_of bytes))
lines_of-long [] = omega arith
lines_of-long (b ∷ bs) = omega (arith, one_more (b == newline) (lines_of bs), lines_of-long bs)
  where
    one_more : (ends : Bool) (lines : List (List ℕ)) → length (text_of lines) + 1 ≤ length (text_of (if ends then [] ∷ lines else onto_first b lines))
    one_more true lines = omega arith
    one_more false [] = omega arith
    one_more false (line ∷ lines) = omega arith

-- what was taken besides the lines is pending, but for the byte past the limit
pub HasFed-ahead : (limit : ℕ) (start now : Option (List ℕ)) (feed : Feeding) (lines : List (List ℕ)) → (h : HasFed limit start now feed lines) → length h.taken ≤ length (text_of lines) + length feed.pending + 1
HasFed-ahead limit start now feed lines h = by_end feed.source_ended h.given (λ e. h.at_end e)
  where
    by_end : (b : Bool) → AreGiven b (take limit h.taken) lines feed.pending → (b ≡ true → IsAtEnd now × (0 < feed.room)) → length h.taken ≤ length (text_of lines) + length feed.pending + 1
    by_end false g end = omega (arith, h.counted, ap length g.0, length-append (text_of lines) feed.pending, length-take limit h.taken)
    by_end true g end =
        let at = end refl in
        let whole : take limit h.taken ≡ h.taken = take_all limit h.taken (omega (arith, h.counted, at.1)) in
        omega (arith, lines_of-long h.taken, ap (λ (ls : List (List ℕ)). length (text_of ls)) (ap lines_of (sym whole) ∙ g.0))

-- the lines are the first ones of what was taken
pub HasFed-first : (limit : ℕ) (start now : Option (List ℕ)) (feed : Feeding) (lines : List (List ℕ)) → (h : HasFed limit start now feed lines) → AreFirst limit h.taken now lines
HasFed-first limit start now feed lines h = by_end feed.source_ended h.given (λ e. h.at_end e)
  where
    short : length h.taken ≤ limit + 1
    short = omega (arith, h.counted)

    by_end : (b : Bool) → AreGiven b (take limit h.taken) lines feed.pending → (b ≡ true → IsAtEnd now × (0 < feed.room)) → AreFirst limit h.taken now lines
    by_end false g end =
        let rest = feed.pending ++ drop limit h.taken in
        let all : h.taken ≡ text_of lines ++ rest = sym (take-append-drop limit h.taken) ∙ ap (λ l. l ++ drop limit h.taken) g.0 ∙ append_assoc (text_of lines) feed.pending (drop limit h.taken) in
        let ended = ap ended_lines g.0 ∙ ended_lines-text lines feed.pending g.1 in
        record {
          short = short;
          more = lines_of rest;
          front = ap lines_of all ∙ lines_of-text lines rest g.1;
          whole = inl (omega (arith, ap length ended, length-append lines (ended_lines feed.pending)));
        }
    by_end true g end =
        let at = end refl in
        let whole : take limit h.taken ≡ h.taken = take_all limit h.taken (omega (arith, h.counted, at.1)) in
        record {
          short = short;
          more = [];
          front = ap lines_of (sym whole) ∙ g.0 ∙ sym (append-nil lines);
          whole = inr (omega (arith, h.counted, at.1), at.0);
        }
