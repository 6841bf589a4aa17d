-- What the parts of reading a line do.
use Rattle.std.specs.Prelude.{◌≡◌, ◌<◌, ◌+◌, ◌-◌, ℕ, Bool, true, false, Option, List, [], ◌∷◌, ◌++◌, length, take, IsTrue, ◌↔◌}
use Rattle.std.specs.Io.KnownBytes.{prepend_known, IsAtEnd}
use Rattle.pgs_io.specs.Faults.{HasRisen}
use Rattle.pgs_io.specs.Lines.{newline, HasNoNewline}
use Rattle.pgs_io.specs.Feeding.{Feeding}
use Rattle.pgs_io.specs.declared.feeding.Filled.{Filled}
use Rattle.pgs_io.specs.declared.feeding.Filled.TheVariants.{Bytes, End, Fault, TooLong}

-- the pending bytes are this part of a line, and what stays behind its newline where that was found
abbrev pub SplitsOff : Bool → List ℕ → List ℕ → List ℕ → Type 0
SplitsOff true pending part rest = pending ≡ part ++ newline ∷ rest
SplitsOff false pending part rest = (pending ≡ part) × (rest ≡ [])

-- a part of a line went from the pending bytes to the buffer
pub record TakesPart (old new : Feeding) (kept kept' : List ℕ) (ended cut : Bool) : Type 0 where
  pub part : List ℕ
  pub pending : SplitsOff ended old.pending part new.pending
  pub no_newline : HasNoNewline part
  pub same : new ≡ record old { pending = new.pending }
  pub appended : kept' ≡ take 512 (kept ++ part)
  pub cut_off : IsTrue cut ↔ (512 < length kept + length part)

-- `got` came from the source, and its bytes within the limit are pending
pub record Gets (before after : Option (List ℕ)) (old new : Feeding) : Type 0 where
  pub got : List ℕ
  pub some : 0 < length got
  pub from_source : before ≡ prepend_known got after
  pub counted : old.room ≡ new.room + length got
  pub pending : new.pending ≡ take (old.room - 1) got
  pub going : old.source_ended ≡ false
  pub goes_on : new.source_ended ≡ false

-- what one read did, where nothing was pending
abbrev pub Fills : Filled → Option (List ℕ) → Option (List ℕ) → Feeding → Feeding → Type 0
Fills Bytes before after old new = Gets before after old new
Fills End before after old new = (after ≡ before) × (new ≡ record old { source_ended = true }) × (old.source_ended ≡ false → IsAtEnd after × (0 < old.room))
Fills Fault before after old new = (after ≡ before) × (new ≡ old) × (old.source_ended ≡ false) × (0 < old.room)
Fills TooLong before after old new = (after ≡ before) × (new ≡ old) × (old.source_ended ≡ false) × (old.room ≡ 0)

-- the count of faults rose exactly with a fault
abbrev pub FillsNoFault : Filled → ℕ → ℕ → Type 0
FillsNoFault Bytes before now = now ≡ before
FillsNoFault End before now = now ≡ before
FillsNoFault Fault before now = HasRisen before now
FillsNoFault TooLong before now = now ≡ before
