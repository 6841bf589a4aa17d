-- A list of live chunks.
use Rattle.std.specs.Prelude.{◌≡◌, ◌≢◌, ℕ, ◌<◌, List, Some, slice_get}
use Rattle.addr_space.specs.declared.Addr.{Addr}
use Rattle.addr_space.specs.Footprint.{Footprint}

-- the chunks of a list are live with one size, and no two of the list are one
pub record AreLive (f : Footprint) (size : ℕ) (chunks : List Addr) : Type 0 where
  pub live : (k : ℕ) (at : Addr) → slice_get chunks k ≡ Some at → f.live at ≡ Some size
  pub apart : (j k : ℕ) (a b : Addr) → j < k → slice_get chunks j ≡ Some a → slice_get chunks k ≡ Some b → a ≢ b
