-- What calls do to the live chunks of a context, and to their bytes.
use Rattle.std.specs.Prelude.{◌≡◌, ℕ, ◌+◌, ◌<◌, ◌==◌, ◌&&◌, Bool, Option, Some, None, if◌then◌else◌}
use Rattle.addr_space.specs.declared.Addr.{Addr}
use Rattle.addr_space.specs.Space.{Space, byte_at}
use Rattle.addr_space.specs.Footprint.{Footprint}

-- whether two addresses are one
abbrev pub same_addr : Addr → Addr → Bool
same_addr a b = (a.region == b.region) && (a.offset == b.offset)

-- the same chunks are live
abbrev pub SameLive : Footprint → Footprint → Type 0
SameLive f g = (at : Addr) → g.live at ≡ f.live at

-- whatever was live is so, with its size
abbrev pub StaysLive : Footprint → Footprint → Type 0
StaysLive f g = (at : Addr) (size : ℕ) → f.live at ≡ Some size → g.live at ≡ Some size

-- one address has this or nothing, and every other one has what it had
abbrev pub PutsAt : {A : Type 0} → (Addr → Option A) → (Addr → Option A) → Addr → Option A → Type 0
PutsAt f g at a = (other : Addr) → g other ≡ (if same_addr at other then a else f other)

-- one address has this, another one has nothing unless it is that one, and every other one has what it had
abbrev pub MovesAt : {A : Type 0} → (Addr → Option A) → (Addr → Option A) → Addr → Addr → A → Type 0
MovesAt f g from to a =
    (other : Addr) → g other ≡ (if same_addr to other then Some a else (if same_addr from other then None else f other))

-- the same of live chunks and their sizes
abbrev pub PutsLive : Footprint → Footprint → Addr → Option ℕ → Type 0
PutsLive f g at size = PutsAt f.live g.live at size

abbrev pub MovesLive : Footprint → Footprint → Addr → Addr → ℕ → Type 0
MovesLive f g from to size = MovesAt f.live g.live from to size

-- so many bytes at one address are those that stood at another one
abbrev pub HasBytesOf : Space → Space → Addr → Addr → ℕ → Type 0
HasBytesOf s t from to n = (k : ℕ) → k < n → byte_at t to.region (to.offset + k) ≡ byte_at s from.region (from.offset + k)
