-- What the end of a script makes of its outcome.
use Rattle.std.specs.Prelude.{ℕ, ◌≡◌, ◌⊎◌, Bool, nat_lt, if◌then◌else◌}
use Rattle.pgs_world.specs.declared.performing.End.{End}
use Rattle.pgs_world.specs.declared.performing.End.TheVariants as end
use Rattle.pgs_world.specs.declared.performing.Ended.{Ended}
use Rattle.pgs_turns.specs.declared.generating.Generated.{Generated}
use Rattle.pgs_world.specs.declared.program.Outcome.{Outcome}
use Rattle.pgs_world.specs.Loop.{is_wanted}

-- the status of a script whose output was written
abbrev pub written_status : End → ℕ → ℕ
written_status end.Whole errors = if nat_lt 0 errors then 1 else 0
written_status end.Wanted errors = 5
written_status end.SourceFault errors = 3
written_status end.TooLong errors = 6
written_status end.Unwritten errors = 4

abbrev pub status_of : End → Bool → ℕ → ℕ
status_of e failed errors = if failed then 4 else written_status e errors

abbrev pub outcome_of : Ended → ℕ → Bool → ℕ → Outcome
outcome_of ended calls failed errors = record {
  status = status_of ended.end failed errors;
  call = if is_wanted ended.end then calls else 0;
  errors = errors;
  lines = ended.lines;
}

-- the statuses of a script that was played
abbrev pub IsPlayed : ℕ → Type 0
IsPlayed status = (status ≡ 0) ⊎ (status ≡ 1) ⊎ (status ≡ 3) ⊎ (status ≡ 4) ⊎ (status ≡ 5) ⊎ (status ≡ 6)

-- the status and the outcome of the script that is made
abbrev pub generated_status : Bool → Bool → ℕ → ℕ
generated_status failed wanted errors = if failed then 4 else (if wanted then 5 else (if nat_lt 0 errors then 1 else 0))

abbrev pub generated_outcome : Generated → ℕ → Outcome
generated_outcome made calls = record {
  status = generated_status made.failed made.wanted made.errors;
  call = if made.wanted then calls else 0;
  errors = made.errors;
  lines = made.lines;
}
