-- Lists of contexts that share a space.
use Rattle.std.specs.Prelude.{◌≡◌, ◌≢◌, ℕ, ◌+◌, ◌<◌, ◌++◌, List, length, take, drop, sum_by}
use Rattle.addr_space.specs.Space.{Space, held}
use Rattle.addr_space.specs.Footprint.{Footprint, context_at, counted}

-- how many bytes the contexts of a list count for an account together
unfoldable pub counted_by : List Footprint → ℕ → ℕ
counted_by fs account = sum_by (λ f. counted f account) fs

-- each account holds what the contexts of a list count for it: no region is without a context
abbrev pub IsHeldBy : List Footprint → Space → Type 0
IsHeldBy fs s = (account : ℕ) → held s account ≡ counted_by fs account

-- the contexts of a list but for the one at a place
abbrev pub without : List Footprint → ℕ → List Footprint
without fs k = take k fs ++ drop (k + 1) fs

-- each context of one list is one of another list, no two of them the same
pub record AreAmong (hs fs : List Footprint) : Type 0 where
  pub place : ℕ → ℕ
  pub within : (k : ℕ) → k < length hs → place k < length fs
  pub same : (k : ℕ) → k < length hs → context_at hs k ≡ context_at fs (place k)
  pub differ : (j k : ℕ) → j < length hs → k < length hs → j ≢ k → place j ≢ place k
