-- Lemmas on the bytes of a total.
use Rattle.std.proofs.Common.{◌≡◌, ℕ, ◌+◌, List, [], ◌∷◌, length, map, get_or, Option, Some, None, IsSome, is_some, refl, sym, ap, ◌∙◌, arith}
use Rattle.std.specs.Int.{from_le_bytes, w64}
use Rattle.std.proofs.lemmas.Nat.{from_le_bytes-to_le_bytes_8}
use Rattle.std.proofs.lemmas.List.{get_or_past}
use Rattle.addr_space.specs.declared.Addr.{Addr}
use Rattle.addr_space.specs.Space.{Region, Space, part, bytes_of, region_at, HasBytes, IsInside, IsKnown}
use Rattle.addr_space.proofs.Bytes.{known-part}
use Rattle.held_groups.specs.Totals.{IsTotal, total_bytes}

pub length-total_bytes : (total : ℕ × ℕ × ℕ) → length (total_bytes total) ≡ 24
unfolding total_bytes
length-total_bytes total = refl

-- the three numbers of the bytes
pub numbers_read : (total : ℕ × ℕ × ℕ) (bytes : List ℕ) → IsTotal total → bytes ≡ total_bytes total
    → (from_le_bytes w64 (get_or bytes 0 0 ∷ get_or bytes 1 0 ∷ get_or bytes 2 0 ∷ get_or bytes 3 0 ∷ get_or bytes 4 0 ∷ get_or bytes 5 0 ∷ get_or bytes 6 0 ∷ get_or bytes 7 0 ∷ []) ≡ total.0)
    × (from_le_bytes w64 (get_or bytes 8 0 ∷ get_or bytes 9 0 ∷ get_or bytes 10 0 ∷ get_or bytes 11 0 ∷ get_or bytes 12 0 ∷ get_or bytes 13 0 ∷ get_or bytes 14 0 ∷ get_or bytes 15 0 ∷ []) ≡ total.1)
    × (from_le_bytes w64 (get_or bytes 16 0 ∷ get_or bytes 17 0 ∷ get_or bytes 18 0 ∷ get_or bytes 19 0 ∷ get_or bytes 20 0 ∷ get_or bytes 21 0 ∷ get_or bytes 22 0 ∷ get_or bytes 23 0 ∷ []) ≡ total.2)
unfolding total_bytes
numbers_read total bytes fits is =
    rw is (from_le_bytes-to_le_bytes_8 total.0 (omega (arith, fits.0)), from_le_bytes-to_le_bytes_8 total.1 fits.1, from_le_bytes-to_le_bytes_8 total.2 fits.2)

-- a total is known by its numbers
pub same_total_from : (total : ℕ × ℕ × ℕ) (group count sum : ℕ) → group ≡ total.0 → count ≡ total.1 → sum ≡ total.2 → ◌≡◌ {A = ℕ × ℕ × ℕ} (group, count, sum) total
same_total_from total group count sum one two three =
    ap (λ (g : ℕ). (g, count, sum)) one ∙ ap (λ (c : ℕ). (total.0, c, sum)) two ∙ ap (λ (s : ℕ). (total.0, total.1, s)) three

is_there : (o : Option Region) (n byte : ℕ) → get_or (bytes_of o) n None ≡ Some byte → IsSome o
is_there None n byte has = absurd (cc)
is_there (Some region) n byte has = refl

-- known bytes lie in their region
pub inside : (s : Space) (at : Addr) (bytes : List ℕ) → length bytes ≡ 24 → HasBytes s at bytes → IsInside s at 24
inside s at bytes len has =
    let last : get_or (bytes_of (region_at s at.region)) (at.offset + 23) None ≡ Some (get_or bytes 23 0) = has 23 (omega (arith, len)) in
    record {
      live = is_there (region_at s at.region) (at.offset + 23) (get_or bytes 23 0) last;
      end_in_region = grind (arith, get_or_past);
    }

pub known : (s : Space) (at : Addr) (bytes : List ℕ) → length bytes ≡ 24 → HasBytes s at bytes → IsKnown s at 24
known s at bytes len has = λ k below. ap is_some (has k (omega (arith, len, below)))

some_injective : (xs ys : List ℕ) → map Some xs ≡ map Some ys → xs ≡ ys
some_injective [] [] same = refl
some_injective [] (y ∷ ys) same = absurd (cc)
some_injective (x ∷ xs) [] same = absurd (cc)
some_injective (x ∷ xs) (y ∷ ys) same = let rest = some_injective xs ys (cc) in cc

-- what was read are the known bytes
pub same_bytes : (s : Space) (at : Addr) (out bytes : List ℕ) → length bytes ≡ 24 → HasBytes s at bytes → map Some out ≡ part (bytes_of (region_at s at.region)) at.offset 24 → out ≡ bytes
same_bytes s at out bytes len has is =
    let within = (inside s at bytes len has).end_in_region in
    let known = known-part (bytes_of (region_at s at.region)) bytes at.offset (omega (arith, within, len)) has in
    some_injective out bytes (is ∙ sym (rw len at known))
