-- The places of live chunks, once one was put, taken away or moved.
use Rattle.generation_ctx.proofs.Words.{◌≡◌, ◌≤◌, ℕ, Option, Some, IsSome, IfSome, option_map, Addr, Space, Agrees, option_cases, Layout, chunk_at, footprint, KeepsNumbers, Chunk, number_stays, GenerationPlace, place_in}
use Rattle.addr_space.specs.Live.{MovesAt}
use Rattle.addr_space.proofs.Addresses.{same_addr-cases}
use Rattle.std.proofs.lemmas.Bool.Decides.{nat_tests}
use Rattle.std.proofs.Common.{arith}

-- the place of a chunk, by the number of its block
abbrev pub place : ℕ → Chunk → GenerationPlace
place number chunk = record { block = number; room = chunk.room; own = chunk.own }

-- the places in a layout
abbrev pub places : Layout → Addr → Option GenerationPlace
places l at = option_map (place_in l at.region) (chunk_at l at)

-- the chunk behind a size that is live
pub chunk_there : (o : Option Chunk) → IsSome (option_map (λ (c : Chunk). c.size) o) → (x : Chunk) × (o ≡ Some x)
chunk_there x0 some = grind (arith, nat_tests)

pub chunk_kept : (o : Option Chunk) (keep : ℕ) → IsSome (option_map (λ (c : Chunk). c.size) o) → IfSome (option_map (λ (c : Chunk). c.size) o) (λ n. keep ≤ n) → (x : Chunk) × (o ≡ Some x) × (keep ≤ x.size)
chunk_kept x0 keep some kept = grind (arith, nat_tests)

-- one chunk is at another address
pub places_move : (l m : Layout) (s t : Space) → Agrees (footprint l) s → Agrees (footprint m) t → KeepsNumbers l m → (from to : Addr) (chunk : Chunk) (there : GenerationPlace) → MovesAt (chunk_at l) (chunk_at m) from to chunk → place_in m to.region chunk ≡ there → MovesAt (places l) (places m) from to there
places_move l m s t agrees now keeps from to chunk there moved here other = grind (arith, nat_tests, same_addr-cases to other, same_addr-cases from other, option_cases (chunk_at l other), place, number_stays)
