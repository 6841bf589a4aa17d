-- Bytes that are written over known ones, in the space.
use Rattle.std.proofs.Common.{◌≡◌, ℕ, ◌+◌, ◌*◌, ◌-◌, ◌<◌, ◌≤◌, List, length, map, Option, Some, None, refl, sym, subst, arith}
use Rattle.std.specs.Prelude.{nat_lt, slice_index, slice_index_or, IfSome, IsSome}
use Rattle.std.specs.Option.{option_map_or}
use Rattle.std.proofs.lemmas.List.{get_or_past}
use Rattle.addr_space.specs.declared.Addr.{Addr}
use Rattle.addr_space.specs.Space.{Region, Space, Changes, HasBytes, IsInside, bytes_of, overwritten, region_at}
use Rattle.context_rules.specs.Contexts.{Contexts, Found, found}
use Rattle.context_rules.specs.Refusals.{bytes_refusal, where_so}
use Rattle.context_rules.specs.declared.errors.TreeError.TheVariants.{NoName, Range}
use Rattle.session_commands.specs.Performed.{Grows, HasRoom, Now, most_steps}

-- a chunk that was found, of which at least so many bytes are known
pub record HasKnown (least : ℕ) (o : Option Found) : Type 0 where
  pub chunk : Found
  pub is : o ≡ Some chunk
  pub many : least ≤ length chunk.chunk.known

not_less : (a b : ℕ) → where_so (nat_lt a b) Range ≡ None → b ≤ a
not_less a b e = grind (arith, e)

chunk_known : (o : Option Found) (least : ℕ) → None ≡ option_map_or (λ f. where_so (nat_lt (length f.chunk.known) least) Range) o (Some NoName) → HasKnown least o
chunk_known None least e = absurd (cc e)
chunk_known (Some f) least e = record { chunk = f; is = refl; many = not_less (length f.chunk.known) least (sym e) }

pub bytes_known : (name : List ℕ) (place n m : ℕ) (contexts : Contexts) → None ≡ bytes_refusal name place n contexts → n ≡ m → HasKnown (place + m) (found name contexts)
bytes_known name place n m contexts e same = subst (λ (k : ℕ). HasKnown (place + k) (found name contexts)) same (chunk_known (found name contexts) (place + n) e)

-- it is there, and has room for the bytes
pub chunk_there : (o : Option Found) (least : ℕ) → HasKnown least o → IsSome o
chunk_there o least h = subst (λ (x : Option Found). IsSome x) (sym h.is) refl

pub chunk_within : (o : Option Found) (place : ℕ) (bytes : List ℕ) → HasKnown (place + length bytes) o → IfSome o (λ f. place + length bytes ≤ length f.chunk.known)
chunk_within o place bytes h = subst (λ (x : Option Found). IfSome x (λ f. place + length bytes ≤ length f.chunk.known)) (sym h.is) h.many

-- a region has a place that has a byte
region_there : (o : Option Region) (k b : ℕ) → slice_index_or (bytes_of o) k None ≡ Some b → IsSome o
region_there None k b e = absurd (cc e)
region_there (Some region) k b e = refl

place_within : (xs : List (Option ℕ)) (k b : ℕ) → slice_index_or xs k None ≡ Some b → k < length xs
place_within xs k b e = grind (arith, e, get_or_past xs k None)

known_inside : (s : Space) (at : Addr) (place m : ℕ) (known : List ℕ) → 0 < m → place + m ≤ length known → HasBytes s at known → IsInside s (record { region = at.region; offset = at.offset + place }) m
known_inside s at place m known some within has =
    let last : ℕ = at.offset + (place + m - 1) in
    let there = has (place + m - 1) (omega (arith, some, within)) in
    let inside : last < length (bytes_of (region_at s at.region)) = place_within (bytes_of (region_at s at.region)) last (slice_index known (place + m - 1)) there in
    record {
      live = region_there (region_at s at.region) last (slice_index known (place + m - 1)) there;
      end_in_region = omega (arith, some, inside);
    }

-- the bytes lie inside the region of the chunk
pub chunk_inside : (s : Space) (at : Addr) (place m offset : ℕ) (o : Option Found) → 0 < m → offset ≡ at.offset + place → HasKnown (place + m) o → IfSome o (λ f. HasBytes s at f.chunk.known) → IsInside s (record { region = at.region; offset = offset }) m
chunk_inside s at place m offset o some is h has =
    subst (λ (n : ℕ). IsInside s (record { region = at.region; offset = n }) m) (sym is)
    (known_inside s at place m h.chunk.chunk.known some h.many (subst (λ (x : Option Found). IfSome x (λ f. HasBytes s at f.chunk.known)) h.is has))

-- bytes that are written at a place of a chunk
pub place_changes : (s t : Space) (at : Addr) (place offset : ℕ) (bytes : List ℕ) → offset ≡ at.offset + place
    → Changes s t at.region (overwritten (region_at s at.region) offset (map Some bytes)) → Changes s t at.region (overwritten (region_at s at.region) (at.offset + place) (map Some bytes))
place_changes s t at place offset bytes is h = subst (λ (n : ℕ). Changes s t at.region (overwritten (region_at s at.region) n (map Some bytes))) is h

-- the room that a session has as it starts is enough for 20 lines
pub room_first : (n : ℕ) (a : Now) → n ≤ 20 → HasRoom (most_steps * 20) a → HasRoom (most_steps * n) a
room_first n a few h = record {
  contexts = omega (arith, few, h.contexts);
  owners = omega (arith, few, h.owners);
  serials = omega (arith, few, h.serials);
  calls = omega (arith, few, h.calls);
}

pub room_behind : (n m : ℕ) (a b : Now) → n + m ≤ 20 → HasRoom (most_steps * 20) a → Grows (most_steps * n) a b → HasRoom (most_steps * m) b
room_behind n m a b few h g = record {
  contexts = omega (arith, few, h.contexts, g.contexts);
  owners = omega (arith, few, h.owners, g.owners);
  serials = omega (arith, few, h.serials, g.serials);
  calls = omega (arith, few, h.calls, g.calls);
}
