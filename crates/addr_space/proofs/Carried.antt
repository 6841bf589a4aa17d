-- Lemmas on known bytes that are copied into a live chunk.
use Rattle.std.proofs.Common.{◌≡◌, ℕ, ◌+◌, ◌<◌, ◌≤◌, List, length, map, get_or, Option, Some, unwrap_or, refl, ap, ◌∙◌, arith, rules}
use Rattle.std.proofs.lemmas.List.{places, length-map, get_or-map}
use Rattle.addr_space.specs.declared.Addr.{Addr}
use Rattle.addr_space.specs.Space.{Space, region_at, bytes_of, byte_at, part, overwritten, Changes, IsInside, IsKnown}
use Rattle.addr_space.specs.Footprint.{Footprint, Agrees, Moves, KeepsBut, WritesInside}
use Rattle.addr_space.specs.Live.{HasBytesOf}
use Rattle.addr_space.proofs.Bytes.{known-part}
use Rattle.addr_space.proofs.Options.{option_cases}
use Rattle.addr_space.proofs.Written.{HasBytes-written}
use Rattle.addr_space.proofs.Apart.{Moves-inside, KeepsBut-inside}
use Rattle.addr_space.proofs.Contexts.{IsInside-live_part}
use Rattle.std.proofs.lemmas.Bool.Decides.{nat_tests}

module _ (f : Footprint) (s t : Space) (from to : Addr) (n size : ℕ) (agrees : Agrees f s) (live : f.live to ≡ Some size) (fits : n ≤ size)
    (known : IsKnown s from n) (inside : from.offset + n ≤ length (bytes_of (region_at s from.region)))
    (changes : Changes s t to.region (overwritten (region_at s to.region) to.offset (part (bytes_of (region_at s from.region)) from.offset n))) where
  abbrev source : List (Option ℕ)
  source = bytes_of (region_at s from.region)

  abbrev bytes : List ℕ
  bytes = map (λ o. unwrap_or o 0) (part source from.offset n)

  len : length bytes ≡ n
  len = search (rules, places, length-map)

  byte_is : (k : ℕ) → k < n → byte_at s from.region (from.offset + k) ≡ Some (get_or bytes k 0)
  byte_is k below =
      let byte = option_cases (byte_at s from.region (from.offset + k)) in
      let is = known k below in
      grind (arith, places, length-map, get_or-map)

  part_is : map Some bytes ≡ part source from.offset n
  part_is = known-part source bytes from.offset (omega (arith, len)) (λ k below. byte_is k (omega (arith, len))) ∙ ap (part source from.offset) len

  writes : Changes s t to.region (overwritten (region_at s to.region) to.offset (map Some bytes))
  writes = rw part_is changes

  within : WritesInside f s t to to size bytes
  within = record { live = live; region = refl; first = omega arith; last = omega (arith, len); writes = writes }

  pub Moves-carried : Moves f f s t
  Moves-carried = Moves-inside f s t to to size bytes agrees within

  pub KeepsBut-carried : KeepsBut to f f s t
  KeepsBut-carried = KeepsBut-inside f s t to to size bytes agrees within

  pub HasBytesOf-carried : HasBytesOf s t from to n
  HasBytesOf-carried k below = grind (arith, nat_tests, HasBytes-written, bytes, len, writes, byte_is k below)

-- so many bytes from a live chunk on are inside a region
pub IsInside-live : (f : Footprint) (s : Space) (at : Addr) (size n : ℕ) → Agrees f s → f.live at ≡ Some size → n ≤ size → IsInside s at n
IsInside-live f s at size n agrees live fits = IsInside-live_part f s at at size n agrees live refl (omega (arith, fits))
