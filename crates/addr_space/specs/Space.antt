-- What a contract sees of a space.
use Rattle.std.specs.Prelude.{◌≡◌, ◌≢◌, ℕ, ◌+◌, ◌-◌, ◌^◌, ◌<◌, ◌≤◌, ◌==◌, ◌++◌, List, [], length, Option, Some, None, IsSome, slice_index, slice_index_or, slice_set, take, drop, replicate, sum_by, min, if◌then◌else◌, ◌⊎◌}
use Rattle.addr_space.specs.declared.Addr.{Addr}

-- a region: the account that it counts for, and its bytes, where one that was never written is `None`
pub record Region : Type 0 where
  pub account : ℕ
  pub bytes : List (Option ℕ)

-- the region or nothing at each number, how many bytes each account has taken in all, and how many bytes
-- one account may hold
pub record Space : Type 0 where
  pub regions : List (Option Region)
  pub taken : List ℕ
  pub limit : ℕ

-- how many accounts there are
abbrev pub accounts : Space → ℕ
accounts s = length s.taken

-- the region of a number
abbrev pub region_at : Space → ℕ → Option Region
region_at s number = slice_index_or s.regions number None

-- the bytes of a region, and none where there is no region
abbrev pub bytes_of : Option Region → List (Option ℕ)
bytes_of None = []
bytes_of (Some region) = region.bytes

-- how much a region counts for an account
unfoldable pub share : ℕ → Option Region → ℕ
share account None = 0
share account (Some region) = if region.account == account then length region.bytes else 0

-- how many bytes the live regions of an account have together
unfoldable pub held : Space → ℕ → ℕ
held s account = sum_by (share account) s.regions

-- how many bytes an account took in all its calls
abbrev pub taken : Space → ℕ → ℕ
taken s account = slice_index s.taken account

-- so many more bytes are within the limit of an account
abbrev pub Fits : Space → ℕ → ℕ → Type 0
Fits s account n = held s account + n ≤ s.limit

-- the known byte at a place, if there is one
abbrev pub byte_at : Space → ℕ → ℕ → Option ℕ
byte_at s number offset = slice_index_or (bytes_of (region_at s number)) offset None

-- so many bytes from an address on lie inside a live region
pub record IsInside (s : Space) (at : Addr) (n : ℕ) : Type 0 where
  pub live : IsSome (region_at s at.region)
  pub end_in_region : at.offset + n ≤ length (bytes_of (region_at s at.region))

-- the address is the start of a live region
pub record IsRegion (s : Space) (at : Addr) : Type 0 where
  pub live : IsSome (region_at s at.region)
  pub start : at.offset ≡ 0

-- so many bytes from an address on are known
abbrev pub IsKnown : Space → Addr → ℕ → Type 0
IsKnown s at n = (k : ℕ) → k < n → IsSome (byte_at s at.region (at.offset + k))

-- two ranges of bytes have no byte in common
abbrev pub IsApart : Addr → ℕ → Addr → ℕ → Type 0
IsApart a m b n = a.region ≡ b.region → (a.offset + m ≤ b.offset) ⊎ (b.offset + n ≤ a.offset)

-- so many bytes from a place on
abbrev pub part : List (Option ℕ) → ℕ → ℕ → List (Option ℕ)
part bytes offset n = take n (drop offset bytes)

-- these bytes stand in the space from an address on
abbrev pub HasBytes : Space → Addr → List ℕ → Type 0
HasBytes s at bytes = (k : ℕ) → k < length bytes → byte_at s at.region (at.offset + k) ≡ Some (slice_index bytes k)

-- a new region, none of whose bytes is known
abbrev pub unwritten : ℕ → ℕ → Region
unwritten account n = record { account = account; bytes = replicate n None }

-- the region with these bytes from a place on
abbrev pub overwritten : Option Region → ℕ → List (Option ℕ) → Option Region
overwritten None offset bytes = None
overwritten (Some region) offset bytes =
    Some (record region { bytes = take offset region.bytes ++ bytes ++ drop (offset + length bytes) region.bytes })

-- the region with so many bytes: cut off, or filled up with unknown ones
abbrev pub resized : Option Region → ℕ → Option Region
resized None n = None
resized (Some region) n =
    Some (record region { bytes = take n region.bytes ++ replicate (n - length region.bytes) None })

-- a count once so much was added: it stays at the last value of its type
abbrev pub risen : ℕ → ℕ → ℕ
risen count more = if more == 0 then count else min (count + more) (2 ^ 64 - 1)

-- the counts of what was taken, where one account took n more; a count stays at the last value of its type
abbrev pub raised : List ℕ → ℕ → ℕ → List ℕ
raised counts account n =
    if n == 0 then counts else slice_set counts account (min (slice_index counts account + n) (2 ^ 64 - 1))

-- the account took so many bytes more, and no other account any
abbrev pub Asks : ℕ → ℕ → Space → Space → Type 0
Asks account n s t = t.taken ≡ raised s.taken account n

-- the same, where the region is resized to n bytes: its account took what it grew
abbrev pub raised_by : List ℕ → Option Region → ℕ → List ℕ
raised_by counts None n = counts
raised_by counts (Some region) n = raised counts region.account (n - length region.bytes)

-- with n bytes in place of those of the region its account would hold more than the limit
abbrev pub IsOverLimit : Space → Option Region → ℕ → Type 0
IsOverLimit s None n = ⊥
IsOverLimit s (Some region) n = s.limit < held s region.account - length region.bytes + n

-- the new space has this region or nothing at a number, and everything else as the old one
pub record Changes (old new : Space) (number : ℕ) (region : Option Region) : Type 0 where
  pub changed : region_at new number ≡ region
  pub others : (other : ℕ) → other ≢ number → region_at new other ≡ region_at old other
  pub limit : new.limit ≡ old.limit
  pub accounts : length new.taken ≡ length old.taken
