-- Bytes that are written in a region of a space, and read there.
use Rattle.std.proofs.Common.{◌≡◌, ℕ, ◌+◌, ◌++◌, List, [], ◌∷◌, length, map, take, drop, Option, Some, None, IsSome, refl, ap, ◌∙◌, append_assoc, arith}
use Rattle.std.proofs.Math.Seq.{drop-append_seam, take-append_seam}
use Rattle.std.proofs.lemmas.List.{places, length-map, get_or-map, length-take-le}
use Rattle.addr_space.specs.declared.Addr.{Addr}
use Rattle.addr_space.specs.Space.{Region, Space, region_at, bytes_of, overwritten, part, Changes, IsInside, IsKnown}

over : (o : Option Region) (at : ℕ) (new : List (Option ℕ)) → IsSome o → IsSome (overwritten o at new) × (bytes_of (overwritten o at new) ≡ take at (bytes_of o) ++ new ++ drop (at + length new) (bytes_of o))
over (Some region) at new some = (refl, refl)
over None at new some = absurd (cc)

middle : {A : Type 0} (xs ys zs : List A) (m n : ℕ) → length xs ≡ m → length ys ≡ n → take n (drop m (xs ++ ys ++ zs)) ≡ ys
middle xs ys zs m n first second = rw (← first, ← second, append_assoc) (ap (take (length ys)) (drop-append_seam xs (ys ++ zs)) ∙ take-append_seam ys zs)

somes : (xs ys : List ℕ) → map Some xs ≡ map Some ys → xs ≡ ys
somes [] [] same = refl
somes [] (y ∷ ys) same = absurd (cc)
somes (x ∷ xs) [] same = absurd (cc)
somes (x ∷ xs) (y ∷ ys) same = let rest : xs ≡ ys = somes xs ys (cc) in cc

module _ (s t : Space) (at : Addr) (bytes : List ℕ) (inside : IsInside s at (length bytes)) (writes : Changes s t at.region (overwritten (region_at s at.region) at.offset (map Some bytes))) where
  abbrev old_bytes : List (Option ℕ)
  old_bytes = bytes_of (region_at s at.region)

  abbrev new_bytes : List (Option ℕ)
  new_bytes = take at.offset old_bytes ++ map Some bytes ++ drop (at.offset + length (map Some bytes)) old_bytes

  now : bytes_of (region_at t at.region) ≡ new_bytes
  now = rw writes.changed (over (region_at s at.region) at.offset (map Some bytes) inside.live).1

  -- the place is still inside, and its bytes are known
  pub inside-written : IsInside t at (length bytes)
  inside-written = record {
    live = rw writes.changed (over (region_at s at.region) at.offset (map Some bytes) inside.live).0;
    end_in_region = let fits = inside.end_in_region in rw now (grind (arith, places, length-map));
  }

  pub known-written : IsKnown t at (length bytes)
  known-written k below =
      let byte = get_or-map Some bytes k 0 None below in
      let fits = inside.end_in_region in
      rw now (grind (arith, places, length-map))

  -- what is read there are these bytes
  pub part-written : (out : List ℕ) → map Some out ≡ part (bytes_of (region_at t at.region)) at.offset (length bytes) → out ≡ bytes
  part-written out read =
      let fits = inside.end_in_region in
      somes out bytes (rw now at read ∙ middle (take at.offset old_bytes) (map Some bytes) _ at.offset (length bytes) (length-take-le at.offset old_bytes (omega arith)) (length-map bytes Some))
