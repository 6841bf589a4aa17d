-- What the run of the script that is made did.
use Rattle.std.specs.Prelude.{◌≡◌, ℕ, ◌*◌, ◌<◌, ◌≤◌, true, false, List, ◌++◌, length, take, Option}
use Rattle.std.specs.Io.KnownBytes.{append_known}
use Rattle.session_rules.specs.Modes.{generated, made_script}
use Rattle.session_rules.specs.Transcript.{errors_in}
use Rattle.pgs_turns.specs.Courses.{IsOver}
use Rattle.pgs_turns.specs.Transcript.{Setting}
use Rattle.pgs_turns.specs.World.{Run, setting_of}
use Rattle.pgs_turns.specs.declared.generating.Generated.{Generated}

-- a front of the text was written, and not all of it
pub record IsFront (text : List ℕ) (written written' : Option (List ℕ)) : Type 0 where
  pub front : List ℕ
  pub rest : List ℕ
  pub parts : front ++ rest ≡ text
  pub some : 0 < length rest
  pub taken : written' ≡ append_known written front

-- what is told of so many rounds in a run that is set up so
abbrev pub text_for : ℕ → Setting → List ℕ
text_for rounds setting = generated rounds setting.options setting.kinds setting.shelf

-- The run of so many rounds is over. Where no line met a want of memory all lines were performed, and what is told of them was written, or a
-- front of it; where one did, nothing was written.
pub record Tells (descriptors : ℕ) (first last : Run) (rounds : ℕ) (result : Generated) (written written' : Option (List ℕ)) : Type 0 where
  pub over : IsOver descriptors first last (λ events. result.errors ≡ errors_in events) (take result.lines (made_script rounds)) result.wanted
  pub lines : result.lines ≤ 13 * rounds
  pub whole : result.wanted ≡ false → result.lines ≡ 13 * rounds
  pub text : result.wanted ≡ false → result.failed ≡ false → written' ≡ append_known written (text_for rounds (setting_of descriptors first))
  pub front : result.failed ≡ true → IsFront (text_for rounds (setting_of descriptors first)) written written'
  pub failed : result.failed ≡ true → result.wanted ≡ false
  pub silent : result.wanted ≡ true → written' ≡ written
