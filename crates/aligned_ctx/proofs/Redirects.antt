-- Lemmas on the headers of aligned chunks.
use Rattle.std.proofs.Common.{◌≡◌, ℕ, ◌+◌, ◌-◌, ◌*◌, ◌/◌, ◌%◌, ◌<◌, ◌≤◌, List, length, map, Option, Some, inl, refl, ◌∙◌, ap, subst, arith}
use Rattle.addr_space.specs.declared.Addr.{Addr}
use Rattle.addr_space.specs.Space.{Region, Space, bytes_of, region_at, overwritten, Changes, HasBytes, IsInside}
use Rattle.addr_space.proofs.Copied.{some_region}
use Rattle.addr_space.proofs.Written.{byte_at-apart, HasBytes-written}
use Rattle.chunk_header.specs.declared.Header.{Header}
use Rattle.chunk_header.specs.declared.Kind.{Kind}
use Rattle.chunk_header.specs.declared.Kind.TheVariants.{Aligned}
use Rattle.chunk_header.specs.Header.{header_bytes, header_place, block_bytes, block_place, IsLeading, IsMarked}
use Rattle.chunk_header.proofs.Words.{length-header_bytes, length-block_bytes}
use Rattle.aligned_ctx.specs.Aligned.{rounded_up, IsAlignment, LeadsInside}

-- what is known of an alignment, and of a number that is rounded up to a multiple of it
pub record Rounds (n align rounded : ℕ) : Type 0 where
  pub least : n ≤ rounded
  pub most : rounded < n + align
  pub whole : rounded % 8 ≡ 0
  pub high : align ≤ 4096

-- for one alignment after the other
rounds_to : (n align : ℕ) → IsAlignment align → Rounds n align ((n + (align - 1)) / align * align)
rounds_to n align h = grind (arith, h)

pub rounds : (n align : ℕ) → IsAlignment align → Rounds n align (rounded_up n align)
unfolding rounded_up
rounds n align h = rounds_to n align h

-- the sum that the code computes, by what its numbers are
pub rounded_is : (p header n align align' : ℕ) → p + header ≡ n → align' ≡ align → (p + header + (align' - 1)) / align' * align' ≡ rounded_up n align
unfolding rounded_up
rounded_is p header n align align' e h = rw (e, h) refl

-- the header of a chunk that leads to a context isn't that of an aligned chunk
pub not_aligned : {P : Type 0} (h : Header) → IsLeading h → h.kind ≡ Aligned → P
not_aligned h leads e = absurd (subst (λ (k : Kind). IsLeading (record h { kind = k })) e leads)

-- what the header before an address says of an aligned chunk
pub leads_to : (s : Space) (at inner : Addr) (dist : ℕ) → (l : LeadsInside s at inner) → dist ≡ l.dist → record { region = at.region; offset = at.offset - 8 - dist } ≡ inner
leads_to s at inner dist l e =
    let offset : at.offset - 8 - dist ≡ inner.offset = omega (arith, l.offset, e) in
    ap (λ (r : ℕ). record { region = r; offset = at.offset - 8 - dist }) l.region ∙ ap (λ (o : ℕ). record { region = inner.region; offset = o }) offset

-- A word was written behind the start of a chunk that is marked.
module _ (s t : Space) (inner place : Addr) (bytes : List ℕ) (eight : length bytes ≡ 8) (same : place.region ≡ inner.region) (behind : inner.offset ≤ place.offset) (inside : IsInside s place 8)
    (writes : Changes s t place.region (overwritten (region_at s place.region) place.offset (map Some bytes))) where
  found : (region : Region) × (region_at s place.region ≡ Some region)
  found = some_region (region_at s place.region) inside.live

  within : place.offset + length bytes ≤ length found.0.bytes
  within = omega (arith, eight, inside.end_in_region, ap (λ (o : Option Region). length (bytes_of o)) found.1)

  pub word_stands : HasBytes t place bytes
  word_stands = HasBytes-written s t place bytes found.0 found.1 within writes

  -- bytes in front of it stay
  stays : (at : Addr) (others : List ℕ) → at.offset + length others ≤ inner.offset → HasBytes s at others → HasBytes t at others
  stays at others front has k below = byte_at-apart s t place bytes found.0 found.1 within writes at.region (at.offset + k) (λ _. inl (omega (arith, front, below, behind))) ∙ has k below

  pub mark_stays : (context : ℕ) → IsMarked s inner context → IsMarked t inner context
  mark_stays context m = record {
    header = m.header;
    size = m.size;
    packable = m.packable;
    leading = m.leading;
    behind = m.behind;
    large = m.large;
    word = stays (header_place inner) (header_bytes m.header) (omega (arith, length-header_bytes m.header, m.behind)) m.word;
    block = stays (block_place inner m.header) (block_bytes context m.size) (omega (arith, length-block_bytes context m.size, m.behind)) m.block;
  }
