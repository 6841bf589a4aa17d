-- Bytes that are written in the space, past the tree.
use Rattle.std.proofs.Common.{◌≡◌, ℕ, ◌+◌, ◌≤◌, List, length, map, Option, Some, None, refl, sym, subst, arith}
use Rattle.std.specs.Prelude.{nat_lt, IfSome, IsSome}
use Rattle.std.specs.Option.{option_map_or}
use Rattle.addr_space.specs.declared.Addr.{Addr}
use Rattle.addr_space.specs.Space.{Space, Changes, overwritten, region_at}
use Rattle.context_rules.specs.Contexts.{Contexts, Found, found}
use Rattle.context_rules.specs.Refusals.{bytes_refusal, where_so}
use Rattle.context_rules.specs.declared.errors.TreeError.TheVariants.{NoName, Range}

-- a chunk that was found, of which at least two bytes are known
pub record HasTwo (o : Option Found) : Type 0 where
  pub chunk : Found
  pub is : o ≡ Some chunk
  pub two : 2 ≤ length chunk.chunk.known

not_less : (a b : ℕ) → where_so (nat_lt a b) Range ≡ None → b ≤ a
not_less a b e = grind (arith, e)

two_known : (o : Option Found) → None ≡ option_map_or (λ f. where_so (nat_lt (length f.chunk.known) (0 + 2)) Range) o (Some NoName) → HasTwo o
two_known None e = absurd (cc e)
two_known (Some f) e = record { chunk = f; is = refl; two = not_less (length f.chunk.known) 2 (sym e) }

pub read_two : (name : List ℕ) (contexts : Contexts) → None ≡ bytes_refusal name 0 2 contexts → HasTwo (found name contexts)
read_two name contexts e = two_known (found name contexts) e

-- it is there, and has room for two bytes
pub chunk_there : (o : Option Found) → HasTwo o → IsSome o
chunk_there o two = subst (λ (x : Option Found). IsSome x) (sym two.is) refl

pub chunk_within : (o : Option Found) (bytes : List ℕ) → HasTwo o → length bytes ≡ 2 → IfSome o (λ f. 0 + length bytes ≤ length f.chunk.known)
chunk_within o bytes two many =
    let known = two.two in
    subst (λ (x : Option Found). IfSome x (λ f. 0 + length bytes ≤ length f.chunk.known)) (sym two.is) (omega (arith, known, many))

-- bytes that are written right at an address
pub offset_same : (s t : Space) (at : Addr) (bytes : List ℕ) → Changes s t at.region (overwritten (region_at s at.region) at.offset (map Some bytes)) → Changes s t at.region (overwritten (region_at s at.region) (at.offset + 0) (map Some bytes))
offset_same s t at bytes h = let same : at.offset ≡ at.offset + 0 = omega arith in subst (λ (n : ℕ). Changes s t at.region (overwritten (region_at s at.region) n (map Some bytes))) same h
