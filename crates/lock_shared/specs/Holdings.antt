-- What all sessions hold: a list of holdings, of which clauses say only what is among them.
use Rattle.std.specs.Prelude.{◌≡◌, ◌≢◌, ℕ, ◌≤◌, ◌==◌, Bool, ◌&&◌, IsTrue, false, List}
use Rattle.std.specs.List.{list_any, count_by}
use Rattle.pgs_step.specs.declared.lock_modes.Mode.{Mode}
use Rattle.pgs_step.specs.Mode.{mode_number}
use Rattle.lock_shared.specs.declared.shared_locks.Holding.{Holding}
use Rattle.lock_shared.specs.ModeTable.{conflicts}

-- whether the two name one lock
abbrev pub same_lock : ℕ → Mode → ℕ → Mode → Bool
same_lock object mode object' mode' = (object == object') && (mode_number mode == mode_number mode')

-- whether a holding is that of this session on this object in this mode
abbrev pub is_holding : ℕ → Mode → ℕ → Holding → Bool
is_holding object mode session holding = same_lock holding.object holding.mode object mode && (holding.session == session)

-- whether the session holds the object in this mode
abbrev pub holds : List Holding → ℕ → Mode → ℕ → Bool
holds holdings object mode session = list_any (is_holding object mode session) holdings

-- no holding stands twice
abbrev pub AreOnce : List Holding → Type 0
AreOnce holdings = (object : ℕ) (mode : Mode) (session : ℕ) → count_by (is_holding object mode session) holdings ≤ 1

-- whether the session holds the object in this mode is `held` afterwards, and all else is as it was
pub record Sets (old new : List Holding) (object : ℕ) (mode : Mode) (session : ℕ) (held : Bool) : Type 0 where
  pub this : holds new object mode session ≡ held
  pub others_locks : (o : ℕ) (m : Mode) (s : ℕ) → same_lock o m object mode ≡ false → holds new o m s ≡ holds old o m s
  pub others_sessions : (o : ℕ) (m : Mode) (s : ℕ) → s ≢ session → holds new o m s ≡ holds old o m s

-- another session holds the object in a mode that conflicts with the wanted one
pub record Blocks (holdings : List Holding) (object : ℕ) (wanted : Mode) (session other : ℕ) (held : Mode) : Type 0 where
  pub stands : IsTrue (holds holdings object held other)
  pub against : IsTrue (conflicts wanted held)
  pub another : other ≢ session

-- no other session holds the object in a conflicting mode
abbrev pub IsFree : List Holding → ℕ → Mode → ℕ → Type 0
IsFree holdings object wanted session = (other : ℕ) (held : Mode) → ¬ (Blocks holdings object wanted session other held)

-- the least other session that holds a conflicting mode, and its least conflicting mode
pub record IsConflict (holdings : List Holding) (object : ℕ) (wanted : Mode) (session other : ℕ) (held : Mode) : Type 0 where
  pub blocks : Blocks holdings object wanted session other held
  pub least_session : (s : ℕ) (m : Mode) → Blocks holdings object wanted session s m → other ≤ s
  pub least_mode : (m : Mode) → Blocks holdings object wanted session other m → mode_number held ≤ mode_number m
