-- All that is promised of a script that is played, one that is read or the one that is made.
use Rattle.std.specs.Prelude.{◌≡◌, ◌≢◌, ℕ, ◌<◌, ◌≤◌, ◌⊎◌, List, Option}
use Rattle.addr_space.specs.Space.{Space, accounts, held}
use Rattle.owner_kinds.specs.Kind.{Kind}
use Rattle.pgs_io.specs.Faults.{HasRisen}
use Rattle.reset_callbacks.specs.ShelfState.{ShelfState}
use Rattle.session_rules.specs.Modes.{made_script}
use Rattle.pgs_turns.specs.Courses.{TakesInAll, TakesLines}
use Rattle.pgs_turns.specs.Transcript.{Setting}
use Rattle.pgs_turns.specs.World.{AreKept}
use Rattle.pgs_world.specs.declared.program.Outcome.{Outcome}
use Rattle.pgs_world.specs.Ending.{IsPlayed}
use Rattle.pgs_world.specs.Generated.{IsGenerated, IsMade, IsStopped, IsUntold}
use Rattle.pgs_world.specs.Outcome.{IsWhole, IsWanted, IsCutOff, IsTooLong, IsUnwritten, IsNotStarted, IsSharedOut, TakesAll, TakesAsked, TakesGiven, TakesSoFar}

-- What a run finds and leaves besides the space: what the source has left and how often it failed, what the sink has taken and how often it
-- failed, the hooks, and the extension kinds.
pub record Outside : Type 0 where
  pub left : Option (List ℕ)
  pub source_faults : ℕ
  pub written : Option (List ℕ)
  pub sink_faults : ℕ
  pub shelf : ShelfState
  pub kinds : List Kind

abbrev pub outside : Option (List ℕ) → ℕ → Option (List ℕ) → ℕ → ShelfState → List Kind → Outside
outside left source_faults written sink_faults shelf kinds =
    record { left = left; source_faults = source_faults; written = written; sink_faults = sink_faults; shelf = shelf; kinds = kinds }

-- what a script leads to, by its status
pub record Performed (setting : Setting) (outcome : Outcome) (before after : Outside) : Type 0 where
  pub whole : (outcome.status ≡ 0) ⊎ (outcome.status ≡ 1) → IsWhole setting outcome before.left after.left before.written after.written after.shelf after.kinds
  pub source_fault : outcome.status ≡ 3 → HasRisen before.source_faults after.source_faults
  pub cut_off : outcome.status ≡ 3 → IsCutOff setting outcome before.left after.left before.written after.written after.shelf after.kinds
  pub too_long : outcome.status ≡ 6 → IsTooLong setting outcome before.left after.left before.written after.written after.shelf after.kinds
  pub sink_fault : outcome.status ≡ 4 → HasRisen before.sink_faults after.sink_faults
  pub unwritten : outcome.status ≡ 4 → IsUnwritten setting outcome before.left after.left before.written after.written after.shelf after.kinds
  pub wanted : outcome.status ≡ 5 → 0 < outcome.call → IsWanted setting outcome before.left after.left before.written after.written after.shelf after.kinds
  pub source_grew : before.source_faults < after.source_faults → (outcome.status ≡ 3) ⊎ (outcome.status ≡ 4)
  pub sink_grew : before.sink_faults < after.sink_faults → outcome.status ≡ 4
  pub statuses : IsPlayed outcome.status
  pub call : outcome.status ≢ 4 → outcome.status ≢ 5 → outcome.call ≡ 0

-- what the script that is made leads to, by its status
pub record Generates (rounds : ℕ) (setting : Setting) (outcome : Outcome) (before after : Outside) : Type 0 where
  pub whole : (outcome.status ≡ 0) ⊎ (outcome.status ≡ 1) → IsGenerated rounds setting outcome before.written after.written after.shelf after.kinds
  pub untold : outcome.status ≡ 4 → IsUntold rounds setting outcome before.written after.written after.shelf after.kinds
  pub stopped : outcome.status ≡ 5 → 0 < outcome.call → IsStopped rounds setting outcome before.written after.written after.shelf after.kinds
  pub sink_fault : outcome.status ≡ 4 → HasRisen before.sink_faults after.sink_faults
  pub sink_grew : before.sink_faults < after.sink_faults → outcome.status ≡ 4
  pub statuses : IsMade outcome.status
  pub call : outcome.status ≢ 5 → outcome.call ≡ 0
  pub source_faults_are : after.source_faults ≡ before.source_faults

-- Sessions that had started, so many, have ended: their accounts hold nothing.
pub record Leaves (sessions : ℕ) (outcome : Outcome) (before after : List Kind) (s t : Space) : Type 0 where
  pub called : outcome.status ≡ 5 → 0 < outcome.call
  pub given_back : (account : ℕ) → account < sessions → held t account ≡ 0
  pub others : (account : ℕ) → sessions ≤ account → held t account ≡ held s account
  pub accounts_are : accounts t ≡ accounts s
  pub kinds_kept : AreKept before after
  pub shared_out : IsSharedOut sessions s.limit s t

-- a script was performed, and its sessions have ended
pub record Ends (sessions : ℕ) (setting : Setting) (outcome : Outcome) (before after : Outside) (s t : Space) : Type 0 where
  pub performed : Performed setting outcome before after
  pub taken : (outcome.status ≡ 0) ⊎ (outcome.status ≡ 1) → TakesAsked setting before.left s t
  pub taken_so_far : outcome.call ≡ 0 → TakesGiven setting outcome.lines before.left after.left s t
  pub leaves : Leaves sessions outcome before.kinds after.kinds s t

-- the script that is made was performed, and its sessions have ended
pub record EndsMade (rounds sessions : ℕ) (setting : Setting) (outcome : Outcome) (before after : Outside) (s t : Space) : Type 0 where
  pub generates : Generates rounds setting outcome before after
  pub taken : (outcome.status ≡ 0) ⊎ (outcome.status ≡ 1) → TakesLines setting (made_script rounds) s t
  pub leaves : Leaves sessions outcome before.kinds after.kinds s t

-- A script was played, unless not all sessions could be started; that of so many rounds, or one that was read where these are 0.
pub record Plays (rounds : ℕ) (setting : Setting) (outcome : Outcome) (before after : Outside) (s t : Space) : Type 0 where
  pub performed : rounds ≡ 0 → Performed setting outcome before after
  pub generates : 0 < rounds → Generates rounds setting outcome before after
  pub taken : rounds ≡ 0 → (outcome.status ≡ 0) ⊎ (outcome.status ≡ 1) → TakesAll setting before.left s t
  pub taken_so_far : rounds ≡ 0 → outcome.status ≢ 5 → outcome.call ≡ 0 → TakesSoFar setting outcome.lines before.left after.left s t
  pub made_taken : 0 < rounds → (outcome.status ≡ 0) ⊎ (outcome.status ≡ 1) → TakesInAll setting (made_script rounds) s t
  pub not_started : outcome.status ≡ 5 → outcome.call ≡ 0 → IsNotStarted outcome before.left after.left before.written after.written before.shelf after.shelf before.kinds after.kinds
  pub given_back : (account : ℕ) → held t account ≡ 0
  pub accounts_are : accounts t ≡ accounts s
  pub kinds_kept : AreKept before.kinds after.kinds
  pub shared_out : (outcome.status ≡ 5 → 0 < outcome.call) → IsSharedOut setting.options.sessions setting.options.space s t
