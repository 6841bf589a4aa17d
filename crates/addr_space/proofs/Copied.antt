-- Lemmas on bytes that are copied within a space.
use Rattle.std.proofs.Common.{◌≡◌, ℕ, ◌+◌, ◌<◌, ◌≤◌, List, length, map, Option, Some, None, IsSome, refl, ap, ◌∙◌, arith}
use Rattle.std.proofs.lemmas.List.{places}
use Rattle.addr_space.specs.declared.Addr.{Addr}
use Rattle.addr_space.specs.Space.{Region, Space, region_at, bytes_of, byte_at, part, overwritten, Changes, IsApart, IsInside}
use Rattle.addr_space.proofs.Steps.{Changes-more}
use Rattle.block_mem.proofs.Bytes.{overwritten-more, part-append, part-same, length-part, length-overwritten}
use Rattle.std.proofs.lemmas.Bool.Decides.{nat_tests}

-- a place that has a region
pub some_region : (slot : Option Region) → IsSome slot → (region : Region) × (slot ≡ Some region)
some_region x0 there = grind (arith, nat_tests)

module _ (init now : Space) (from to : Addr) (n done : ℕ) (inside_from : IsInside init from n) (inside_to : IsInside init to n) (apart : IsApart from n to n) (within : done ≤ n) (changes : Changes init now to.region (overwritten (region_at init to.region) to.offset (part (bytes_of (region_at init from.region)) from.offset done))) where
  abbrev source : List (Option ℕ)
  source = bytes_of (region_at init from.region)

  abbrev copied : List (Option ℕ)
  copied = part source from.offset done

  len : length copied ≡ done
  len = length-part source from.offset done (omega (arith, inside_from.end_in_region))

  target : (region : Region) × (region_at init to.region ≡ Some region)
  target = some_region (region_at init to.region) inside_to.live

  room : to.offset + n ≤ length target.0.bytes
  room = omega (arith, inside_to.end_in_region, ap (λ r. length (bytes_of r)) target.1)

  -- the target as it is now
  now_is : region_at now to.region ≡ overwritten (Some target.0) to.offset copied
  now_is = rw target.1 at changes.changed

  len_target : length (bytes_of (region_at now to.region)) ≡ length target.0.bytes
  len_target = rw now_is (length-overwritten target.0.bytes copied to.offset (omega (arith, len, room)))

  -- what is still to be copied is as it was
  pub rest_same : (k : ℕ) → from.offset + done ≤ k → k < from.offset + n → byte_at now from.region k ≡ byte_at init from.region k
  rest_same k above below = grind (arith, places, now_is, target.1, changes.others from.region)

  -- the source has its length
  len_source : length (bytes_of (region_at now from.region)) ≡ length source
  len_source = grind (arith, len_target, target.1, changes.others from.region)

  -- the next piece goes into the target
  pub piece_inside : (step : ℕ) → done + step ≤ n → IsInside now (record { region = to.region; offset = to.offset + done }) step
  piece_inside step more = record { live = rw now_is refl; end_in_region = omega (arith, len_target, room) }

  -- one more piece
  pub Changes-piece : (new : Space) (step : ℕ) (piece : List ℕ) → done + step ≤ n → map Some piece ≡ part (bytes_of (region_at now from.region)) (from.offset + done) step → Changes now new to.region (overwritten (region_at now to.region) (to.offset + done) (map Some piece)) → Changes init new to.region (overwritten (region_at init to.region) to.offset (part (bytes_of (region_at init from.region)) from.offset (done + step)))
  Changes-piece new step piece more read wrote =
      let piece_is : map Some piece ≡ part source (from.offset + done) step =
      read ∙ part-same (bytes_of (region_at now from.region)) source (from.offset + done) step None (omega (arith, len_source, inside_from.end_in_region)) (omega (arith, inside_from.end_in_region)) (λ k above below. rest_same k above (omega arith)) in
      let behind : to.offset + done ≡ to.offset + length copied = omega (arith, len) in
      let whole : overwritten (region_at now to.region) (to.offset + done) (map Some piece) ≡ overwritten (region_at init to.region) to.offset (part source from.offset (done + step)) =
      rw (piece_is, now_is, target.1, part-append source from.offset done step, behind, overwritten-more target.0.bytes copied (part source (from.offset + done) step) to.offset (omega (arith, len, room))) refl in
      rw whole at (Changes-more init now new to.region _ _ changes wrote)
