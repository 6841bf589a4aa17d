-- The table of the objects that are held, each with its holdings.
use Rattle.std.specs.Prelude.{◌≡◌, ℕ, ◌==◌, ◌<◌, List, [], ◌∷◌, ◌++◌, length, nat_eq, All, if◌then◌else◌, IfSome}
use Rattle.std.specs.List.{IsDistinct}
use Rattle.std.specs.Option.{option_map_or}
use Rattle.std.specs.Map.{keys_of, lookup}
use Rattle.smallvec.specs.SmallVec.{SmallVec}
use Rattle.lock_shared.specs.declared.shared_locks.Holding.{Holding}
use Rattle.lock_shared.specs.Holdings.{holds, AreOnce}

-- all holdings, object by object
abbrev pub holdings_of : List (ℕ × SmallVec Holding) → List Holding
holdings_of [] = []
holdings_of (e ∷ es) = e.1.items ++ holdings_of es

-- the holdings of an object: none where it has no entry
abbrev pub held_on : List (ℕ × SmallVec Holding) → ℕ → List Holding
held_on es object = option_map_or (λ (v : SmallVec Holding). v.items) (lookup (λ n. object == n) es) []

-- the holdings of an object and one more, unless it is among them
abbrev pub with_holding : Holding → List Holding → List Holding
with_holding h hs = if holds hs h.object h.mode h.session then hs else hs ++ h ∷ []

-- the holdings of an entry are of its object, each once, and there is one at least
pub record IsKept (object : ℕ) (holdings : List Holding) : Type 0 where
  pub own : All (λ h. h.object ≡ object) holdings
  pub once : AreOnce holdings
  pub some : 0 < length holdings

-- each object has one entry at most
pub record AreKept (es : List (ℕ × SmallVec Holding)) : Type 0 where
  pub unique : IsDistinct nat_eq (keys_of es)
  pub each : (object : ℕ) → IfSome (lookup (λ n. object == n) es) (λ (v : SmallVec Holding). IsKept object v.items)
