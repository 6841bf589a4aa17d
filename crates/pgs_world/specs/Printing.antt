-- What a printer of events does to its sink.
use Rattle.std.specs.Prelude.{◌≡◌, ℕ, ◌+◌, ◌-◌, ◌^◌, ◌<◌, ◌≤◌, min, Bool, true, false, List, [], ◌++◌, length, Option}
use Rattle.std.specs.Io.KnownBytes.{append_known}
use Rattle.pgs_io.specs.Faults.{HasRisen}
use Rattle.pgs_step.specs.declared.events.What.{What}
use Rattle.pgs_step.specs.Text.{texts_of}
use Rattle.pgs_step.specs.declared.events.Event.{Event}
use Rattle.session_rules.specs.Transcript.{errors_in, text_of_transcript}
use Rattle.pgs_turns.specs.Transcript.{errors_among}

-- A printer: what its sink has taken, where it tells that, and how often it failed; what is gathered for the sink and not handed on;
-- whether a write has failed, how many ERROR events there were, the session whose events it takes, and the names of the extension kinds.
pub record Gathering : Type 0 where
  pub written : Option (List ℕ)
  pub faults : ℕ
  pub gathered : List ℕ
  pub failed : Bool
  pub errors : ℕ
  pub session : ℕ
  pub names : List (List ℕ)

-- of what was gathered and is new, a part was handed on, and the rest is gathered now
pub record HandsOn (old new : Gathering) (text : List ℕ) (rest : List ℕ) : Type 0 where
  pub handed : List ℕ
  pub parts : handed ++ rest ≡ old.gathered ++ text
  pub taken : new.written ≡ append_known old.written handed

-- a write has failed, and only a part was handed on
pub record FailsWithin (old new : Gathering) (text : List ℕ) : Type 0 where
  pub rest : List ℕ
  pub some : 0 < length rest
  pub hands : HandsOn old new text rest
  pub risen : HasRisen old.faults new.faults

-- no write failed
pub record GoesOn (old new : Gathering) (text : List ℕ) : Type 0 where
  pub hands : HandsOn old new text new.gathered
  pub no_fault : new.faults ≡ old.faults

-- a write had failed before, and nothing is written any more
pub record StaysSilent (old new : Gathering) : Type 0 where
  pub silent : new.written ≡ old.written

-- what happens to the bytes, by whether a write had failed before and has failed now
abbrev pub Moves : Bool → Bool → Gathering → Gathering → List ℕ → Type 0
Moves false false old new text = GoesOn old new text
Moves false true old new text = FailsWithin old new text
Moves true true old new text = StaysSilent old new
Moves true false old new text = ⊥

-- the printer took these events of its session
pub record Prints (old : Gathering) (events : List What) (new : Gathering) : Type 0 where
  pub bytes : Moves old.failed new.failed old new (texts_of old.names old.session events)
  pub never_falls : old.faults ≤ new.faults
  pub errors : min new.errors (2 ^ 64 - 1) ≡ min (old.errors + errors_among events) (2 ^ 64 - 1)
  pub session : new.session ≡ old.session
  pub names : new.names ≡ old.names

-- the printer took these events, each with its session
pub record Shows (old : Gathering) (events : List Event) (new : Gathering) : Type 0 where
  pub bytes : Moves old.failed new.failed old new (text_of_transcript old.names events)
  pub never_falls : old.faults ≤ new.faults
  pub errors : min new.errors (2 ^ 64 - 1) ≡ min (old.errors + errors_in events) (2 ^ 64 - 1)
  pub names : new.names ≡ old.names
