-- The holdings of all sessions as one list that doesn't tell in which order they were granted.
use Rattle.std.specs.Prelude.{ℕ, ◌==◌, nat_lt, Bool, ◌&&◌, ◌||◌, not, if◌then◌else◌, IsTrue, List, [], ◌∷◌, All, filter, fold, Option, None, Some}
use Rattle.pgs_step.specs.declared.lock_modes.Mode.{Mode}
use Rattle.pgs_step.specs.Mode.{mode_number}
use Rattle.lock_shared.specs.declared.shared_locks.Holding.{Holding}
use Rattle.lock_shared.specs.ModeTable.{conflicts}
use Rattle.lock_shared.specs.Blocking.{lesser_of}

-- whether the first comes before the second: of a lesser session, of the same on a lesser object, or of the same on the same in a lesser mode
abbrev pub ranks_before : Holding → Holding → Bool
ranks_before a b =
    nat_lt a.session b.session
    || ((a.session == b.session) && (nat_lt a.object b.object || ((a.object == b.object) && nat_lt (mode_number a.mode) (mode_number b.mode))))

-- each comes before all that stand behind it, so that none stands twice
abbrev pub IsRanked : List Holding → Type 0
IsRanked [] = Unit {0}
IsRanked (h ∷ hs) = All (λ other. IsTrue (ranks_before h other)) hs × IsRanked hs

-- a holding at its place among others, where it isn't there
abbrev pub placed : Holding → List Holding → List Holding
placed h [] = h ∷ []
placed h (x ∷ xs) = if ranks_before h x then h ∷ x ∷ xs else (if ranks_before x h then x ∷ placed h xs else x ∷ xs)

-- the holdings in order, each once
abbrev pub ranked : List Holding → List Holding
ranked [] = []
ranked (h ∷ hs) = placed h (ranked hs)

-- what the sessions but this one hold, in order
unfoldable pub beside : ℕ → List Holding → List Holding
beside session holdings = ranked (filter (λ h. not (h.session == session)) holdings)

-- of holdings on an object, in modes that conflict with a wanted one, that of the least session, and of its modes the least
abbrev pub least_conflict : ℕ → Mode → List Holding → Option (ℕ × Mode)
least_conflict object wanted holdings =
    fold (λ least (h : Holding). Some (lesser_of least h.session h.mode)) None
    (filter (λ (h : Holding). (h.object == object) && conflicts wanted h.mode) holdings)
