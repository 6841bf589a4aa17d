-- What a feed of lines is, and what its answers tell.
use Rattle.std.specs.Prelude.{◌≡◌, ◌<◌, ◌≤◌, ◌+◌, ◌⊎◌, ℕ, Bool, true, false, Option, List, [], ◌∷◌, ◌++◌, length, take, All}
use Rattle.std.specs.Io.KnownBytes.{prepend_known, IsAtEnd}
use Rattle.pgs_io.specs.Lines.{newline, lines_of, ended_lines, text_of, HasNoNewline, IsKept}

-- A feed of lines: the bytes that it has read and not given yet, how many more it may take, whether its source was at its end, and whether it
-- gave an answer other than a line.
pub record Feeding : Type 0 where
  pub pending : List ℕ
  pub room : ℕ
  pub source_ended : Bool
  pub ended : Bool

-- These bytes are the lines, each with its newline, and the pending ones. At the end of the source the last line may lack its newline.
abbrev pub AreGiven : Bool → List ℕ → List (List ℕ) → List ℕ → Type 0
AreGiven false bytes lines pending = (bytes ≡ text_of lines ++ pending) × All HasNoNewline lines
AreGiven true bytes lines pending = (lines_of bytes ≡ lines) × (pending ≡ [])

-- In each of these the source had `start` left where the feed began, and has `now` left.

-- A feed of at most `limit` bytes has given these lines. It may take one byte past the limit, which belongs to no line.
pub record HasFed (limit : ℕ) (start now : Option (List ℕ)) (feed : Feeding) (lines : List (List ℕ)) : Type 0 where
  pub taken : List ℕ
  pub from_source : start ≡ prepend_known taken now
  pub counted : length taken + feed.room ≡ limit + 1
  pub given : AreGiven feed.source_ended (take limit taken) lines feed.pending
  pub at_end : feed.source_ended ≡ true → IsAtEnd now × (0 < feed.room)

-- The source is at its end, and these are the lines of all that was taken.
pub record FedAll (limit : ℕ) (start now : Option (List ℕ)) (lines : List (List ℕ)) : Type 0 where
  pub taken : List ℕ
  pub from_source : start ≡ prepend_known taken now
  pub within : length taken ≤ limit
  pub lines_are : lines_of taken ≡ lines
  pub at_end : IsAtEnd now

-- These are the lines whose newline was taken.
pub record FedEnded (limit : ℕ) (start now : Option (List ℕ)) (lines : List (List ℕ)) : Type 0 where
  pub taken : List ℕ
  pub from_source : start ≡ prepend_known taken now
  pub within : length taken ≤ limit
  pub lines_are : ended_lines taken ≡ lines

-- The source had a byte past the limit, and these are the lines whose newline is within it.
pub record FedLimit (limit : ℕ) (start now : Option (List ℕ)) (lines : List (List ℕ)) : Type 0 where
  pub within : List ℕ
  pub over : ℕ
  pub from_source : start ≡ prepend_known (within ++ over ∷ []) now
  pub full : length within ≡ limit
  pub lines_are : ended_lines within ≡ lines

-- The lines are the first ones of the bytes, and each has its newline among those within the limit, or the source is at its end.
pub record AreFirst (limit : ℕ) (taken : List ℕ) (now : Option (List ℕ)) (lines : List (List ℕ)) : Type 0 where
  pub short : length taken ≤ limit + 1
  pub more : List (List ℕ)
  pub front : lines_of taken ≡ lines ++ more
  pub whole : (length lines ≤ length (ended_lines (take limit taken))) ⊎ ((length taken ≤ limit) × IsAtEnd now)

-- In each of these the source had `before` left at the call, and has `after` left now.

-- One line more was given, of which `kept` are the first bytes.
pub record GivesLine (before after : Option (List ℕ)) (old new : Feeding) (kept : List ℕ) (long : Bool) : Type 0 where
  pub line : List ℕ
  pub kept_line : IsKept line kept long
  pub goes_on : (limit : ℕ) (start : Option (List ℕ)) (lines : List (List ℕ)) → HasFed limit start before old lines → HasFed limit start after new (lines ++ line ∷ [])
  pub progress : length new.pending + new.room < length old.pending + old.room

abbrev pub MeetsEnd : Option (List ℕ) → Option (List ℕ) → Feeding → Type 0
MeetsEnd before after old = (limit : ℕ) (start : Option (List ℕ)) (lines : List (List ℕ)) → HasFed limit start before old lines → FedAll limit start after lines

abbrev pub MeetsFault : Option (List ℕ) → Option (List ℕ) → Feeding → Type 0
MeetsFault before after old = (limit : ℕ) (start : Option (List ℕ)) (lines : List (List ℕ)) → HasFed limit start before old lines → FedEnded limit start after lines

abbrev pub MeetsLimit : Option (List ℕ) → Option (List ℕ) → Feeding → Type 0
MeetsLimit before after old = (limit : ℕ) (start : Option (List ℕ)) (lines : List (List ℕ)) → HasFed limit start before old lines → FedLimit limit start after lines

-- The bytes begin with a line of so many bytes, and its newline.
pub record BeginWithLine (count : ℕ) (bytes : List ℕ) : Type 0 where
  pub rest : List ℕ
  pub parts : bytes ≡ take count bytes ++ newline ∷ rest
  pub no_newline : HasNoNewline (take count bytes)
