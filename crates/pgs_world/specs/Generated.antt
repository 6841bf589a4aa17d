-- What a run of the script that is made did, by its status.
use Rattle.std.specs.Prelude.{◌≡◌, ◌≢◌, ℕ, ◌*◌, ◌^◌, ◌<◌, ◌↔◌, ◌⊎◌, List, length, Option, Some, None}
use Rattle.std.specs.Io.KnownBytes.{append_known}
use Rattle.owner_kinds.specs.Kind.{Kind}
use Rattle.pgs_io.specs.Faults.{HasRisen}
use Rattle.reset_callbacks.specs.ShelfState.{ShelfState}
use Rattle.session_rules.specs.Modes.{made_script}
use Rattle.session_rules.specs.Transcript.{errors_in}
use Rattle.pgs_turns.specs.Hooks.{HooksAreTold}
use Rattle.pgs_turns.specs.Transcript.{Setting, kinds_after, shelf_after, transcript, EndsAt}
use Rattle.pgs_turns.specs.Generating.{IsFront, text_for}
use Rattle.pgs_turns.specs.Sweeping.{LeavesRun}
use Rattle.pgs_world.specs.declared.program.Outcome.{Outcome}

-- what the transcript of the script of so many rounds leaves, where call w was refused for want of memory, if any
abbrev pub IsTranscript : ℕ → Option ℕ → Setting → Outcome → ShelfState → List Kind → Type 0
IsTranscript rounds w setting outcome shelf' kinds' = LeavesRun w setting (made_script rounds) outcome.errors shelf' kinds'

-- Status 0 or 1: all lines of so many rounds were performed, and the line that tells of them was written.
pub record IsGenerated (rounds : ℕ) (setting : Setting) (outcome : Outcome) (written written' : Option (List ℕ)) (shelf' : ShelfState) (kinds' : List Kind) : Type 0 where
  pub lines : outcome.lines ≡ 13 * rounds
  pub text : written' ≡ append_known written (text_for rounds setting)
  pub told : IsTranscript rounds None setting outcome shelf' kinds'
  pub status : (outcome.status ≡ 1) ↔ (0 < errors_in (transcript setting None (made_script rounds)))

-- Status 4: all lines were performed, and only a front of that line was written.
pub record IsUntold (rounds : ℕ) (setting : Setting) (outcome : Outcome) (written written' : Option (List ℕ)) (shelf' : ShelfState) (kinds' : List Kind) : Type 0 where
  pub lines : outcome.lines ≡ 13 * rounds
  pub front : IsFront (text_for rounds setting) written written'
  pub told : IsTranscript rounds None setting outcome shelf' kinds'

-- Status 5 with a call: a line met a want of memory there, which ended the script, and nothing was written.
pub record IsStopped (rounds : ℕ) (setting : Setting) (outcome : Outcome) (written written' : Option (List ℕ)) (shelf' : ShelfState) (kinds' : List Kind) : Type 0 where
  pub defined : EndsAt setting outcome.call (made_script rounds) outcome.lines
  pub silent : written' ≡ written
  pub told : IsTranscript rounds (Some outcome.call) setting outcome shelf' kinds'

-- the statuses of a script that is made
abbrev pub IsMade : ℕ → Type 0
IsMade status = (status ≡ 0) ⊎ (status ≡ 1) ⊎ (status ≡ 4) ⊎ (status ≡ 5)
