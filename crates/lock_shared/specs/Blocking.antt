-- How the least conflict is looked for among holdings.
use Rattle.std.specs.Prelude.{◌≡◌, ◌≢◌, ℕ, ◌≤◌, ◌==◌, nat_lt, nat_le, Bool, ◌&&◌, ◌||◌, not, false, if◌then◌else◌, IsTrue, List, All, Option, None, Some}
use Rattle.pgs_step.specs.declared.lock_modes.Mode.{Mode}
use Rattle.pgs_step.specs.Mode.{mode_number}
use Rattle.lock_shared.specs.declared.shared_locks.Holding.{Holding}
use Rattle.lock_shared.specs.ModeTable.{conflicts}
use Rattle.lock_shared.specs.Holdings.{holds}

-- whether a holding is another session's and conflicts with the wanted mode
abbrev pub blocks : ℕ → Mode → ℕ → Holding → Bool
blocks object wanted session holding = (holding.object == object) && (conflicts wanted holding.mode && not (holding.session == session))

-- the session and mode are those of a holding that blocks, and no holding that blocks comes before it
pub record IsFirst (holdings : List Holding) (object : ℕ) (wanted : Mode) (session other : ℕ) (held : Mode) : Type 0 where
  pub stands : IsTrue (holds holdings object held other)
  pub against : IsTrue (conflicts wanted held)
  pub another : other ≢ session
  pub least_session : All (λ h. IsTrue (blocks object wanted session h) → other ≤ h.session) holdings
  pub least_mode : All (λ h. IsTrue (blocks object wanted session h) → h.session ≡ other → mode_number held ≤ mode_number h.mode) holdings

-- the first that blocks, where one does
abbrev pub IsLeastOf : List Holding → ℕ → Mode → ℕ → Option (ℕ × Mode) → Type 0
IsLeastOf holdings object wanted session None = All (λ h. blocks object wanted session h ≡ false) holdings
IsLeastOf holdings object wanted session (Some c) = IsFirst holdings object wanted session c.0 c.1

-- whichever has the lesser session, and of one session the lesser mode
abbrev pub lesser_of : Option (ℕ × Mode) → ℕ → Mode → ℕ × Mode
lesser_of None session mode = (session, mode)
lesser_of (Some c) session mode = if nat_lt c.0 session || ((c.0 == session) && nat_le (mode_number c.1) (mode_number mode)) then c else (session, mode)
