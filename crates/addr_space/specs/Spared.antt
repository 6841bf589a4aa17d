-- What is kept of regions that were given back.
use Rattle.std.specs.Prelude.{◌≡◌, ℕ, ◌+◌, ◌-◌, ◌*◌, ◌≤◌, ◌==◌, if◌then◌else◌, length, min, All, vec_len, vec_capacity}
use Rattle.std.specs.Global.{Vec}
use Rattle.addr_space.specs.Space.{Region}
use Rattle.addr_space.specs.declared.spare.TheConstants.{LARGE, SMALL, MOST_SPARE}

-- how many regions are kept of each of the two lengths
pub record Spared : Type 0 where
  pub large : ℕ
  pub small : ℕ

-- the bytes of their memory
abbrev pub spared_bytes : Spared → ℕ
spared_bytes s = LARGE * s.large + SMALL * s.small

-- one more of so many bytes, where it is of one of the two lengths and there is room
abbrev pub with_spare : ℕ → Spared → Spared
with_spare n s =
    if n == LARGE then record s { large = min (s.large + 1) MOST_SPARE }
    else (if n == SMALL then record s { small = min (s.small + 1) MOST_SPARE } else s)

-- one less of so many bytes, if there is any
abbrev pub without_spare : ℕ → Spared → Spared
without_spare n s =
    if n == LARGE then record s { large = s.large - 1 }
    else (if n == SMALL then record s { small = s.small - 1 } else s)

-- how many are kept of so many bytes
abbrev pub spares_of : ℕ → Spared → ℕ
spares_of n s = if n == LARGE then s.large else (if n == SMALL then s.small else 0)

-- there is room for as many regions as are kept at most, and each has so many bytes
pub record IsShelf (bytes : ℕ) (regions : Vec Region) : Type 0 where
  pub few : vec_len regions ≤ MOST_SPARE
  pub room : MOST_SPARE ≤ vec_capacity regions
  pub long : All (λ (r : Region). length r.bytes ≡ bytes) regions.items
