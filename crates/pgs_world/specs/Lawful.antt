-- That the transcripts of a run keep the laws of lifetimes.
use Rattle.std.specs.Prelude.{ℕ, ◌<◌, List, Option}
use Rattle.owner_kinds.specs.KindShelf.{table_of}
use Rattle.lifetime_laws.specs.Laws.{IsLawful}
use Rattle.lifetime_laws.specs.Made.{MakesOnce}
use Rattle.session_rules.specs.Modes.{made_script}
use Rattle.pgs_turns.specs.Sweeping.{setting_in}
use Rattle.pgs_turns.specs.Transcript.{Setting, transcript}

-- The transcript of these lines in a run that is set up so keeps the laws of lifetimes, whichever fallible call is refused.
abbrev pub IsLawfulRun : Setting → List (List ℕ) → Type 0
IsLawfulRun setting lines = (w : Option ℕ) → IsLawful (table_of setting.kinds) setting.options.sessions (transcript setting w lines)

-- So does each transcript, whatever lines are read.
abbrev pub AreLawful : Setting → Type 0
AreLawful setting = (lines : List (List ℕ)) → IsLawfulRun setting lines

-- So does that of the script of so many rounds that is made.
abbrev pub IsMadeLawfully : ℕ → Setting → Type 0
IsMadeLawfully rounds setting = IsLawfulRun setting (made_script rounds)

-- And in each of them no context and no owner is made twice, and none goes that was not made.
abbrev pub AreMadeOnce : Setting → Type 0
AreMadeOnce setting = (lines : List (List ℕ)) (w : Option ℕ) → MakesOnce setting.options.sessions (transcript setting w lines)

-- Both hold of a run that is set up so.
pub record KeepLaws (setting : Setting) : Type 0 where
  pub lawful : AreLawful setting
  pub made_once : AreMadeOnce setting

-- Both hold of the first runs of a sweep, so many.
abbrev pub RunsKeepLaws : ℕ → Setting → List (List ℕ) → Type 0
RunsKeepLaws runs setting lines = (k : ℕ) → k < runs → KeepLaws (setting_in k setting lines)
