-- Lemmas on words that stand in a space.
use Rattle.std.proofs.Common.{◌≡◌, ℕ, ◌+◌, ◌≤◌, List, [], ◌∷◌, length, map, get_or, slice_index, Some, None, refl, sym, ◌∙◌, arith}
use Rattle.std.proofs.lemmas.List.{get_or_past}
use Rattle.addr_space.specs.Space.{Space, part, bytes_of, region_at, HasBytes}
use Rattle.addr_space.specs.declared.Addr.{Addr}
use Rattle.addr_space.proofs.Bytes.{known-part}
use Rattle.std.specs.Int.{from_le_bytes, w64}
use Rattle.std.proofs.lemmas.Nat.{from_le_bytes-to_le_bytes_8}
use Rattle.chunk_header.specs.declared.Header.{Header}
use Rattle.chunk_header.specs.Header.{header_bytes, word_of, IsPackable}
use Rattle.chunk_header.proofs.Words.{kind_code-lt, own_bit-lt}

-- known bytes lie in their region
pub inside : (s : Space) (at : Addr) (bytes : List ℕ) → length bytes ≡ 8 → HasBytes s at bytes → at.offset + 8 ≤ length (bytes_of (region_at s at.region))
inside s at bytes len has =
    let last : get_or (bytes_of (region_at s at.region)) (at.offset + 7) None ≡ Some (slice_index bytes 7) = has 7 (omega (arith, len)) in
    grind (arith, get_or_past)

some_injective : (xs ys : List ℕ) → map Some xs ≡ map Some ys → xs ≡ ys
some_injective [] [] same = refl
some_injective [] (y ∷ ys) same = absurd (cc)
some_injective (x ∷ xs) [] same = absurd (cc)
some_injective (x ∷ xs) (y ∷ ys) same = let rest = some_injective xs ys (cc) in cc

-- what was read are the known bytes
pub same_bytes : (s : Space) (at : Addr) (out bytes : List ℕ) → length bytes ≡ 8 → HasBytes s at bytes → map Some out ≡ part (bytes_of (region_at s at.region)) at.offset 8 → out ≡ bytes
same_bytes s at out bytes len has is =
    let known = known-part (bytes_of (region_at s at.region)) bytes at.offset (omega (arith, inside s at bytes len has, len)) has in
    some_injective out bytes (is ∙ sym (rw len at known))

-- the number that a header's bytes make
pub from-header_bytes : (h : Header) → IsPackable h → from_le_bytes w64 (header_bytes h) ≡ word_of h
unfolding header_bytes word_of
from-header_bytes h packable =
    from_le_bytes-to_le_bytes_8 _ (omega (arith, (kind_code-lt h.kind).1, own_bit-lt h.own, packable.value, packable.dist))
