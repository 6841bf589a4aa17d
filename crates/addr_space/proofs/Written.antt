-- Lemmas on a space after bytes were written in a region.
use Rattle.std.proofs.Common.{◌≡◌, ℕ, ◌+◌, ◌<◌, ◌≤◌, ◌⊎◌, ◌++◌, List, length, map, take, drop, Option, Some, None, sym, ap, ◌∙◌, arith, rules, ◌==◌, if◌then◌else◌}
use Rattle.std.proofs.lemmas.List.{places, length-map, get_or-map}
use Rattle.addr_space.specs.declared.Addr.{Addr}
use Rattle.addr_space.specs.Space.{Region, Space, region_at, byte_at, overwritten, Changes, HasBytes, held, share}
use Rattle.addr_space.specs.Footprint.{HasRegion}
use Rattle.addr_space.proofs.Held.{held-Changes}
use Rattle.std.proofs.lemmas.Bool.Decides.{nat_tests}

module _ (s t : Space) (at : Addr) (bytes : List ℕ) (region : Region) (found : region_at s at.region ≡ Some region) (inside : at.offset + length bytes ≤ length region.bytes) (writes : Changes s t at.region (overwritten (region_at s at.region) at.offset (map Some bytes))) where
  abbrev new_bytes : List (Option ℕ)
  new_bytes = take at.offset region.bytes ++ map Some bytes ++ drop (at.offset + length (map Some bytes)) region.bytes

  now_is : region_at t at.region ≡ Some (record { account = region.account; bytes = new_bytes })
  now_is = rw found at writes.changed

  len_same : length new_bytes ≡ length region.bytes
  len_same = search (rules, places, length-map)

  -- each region keeps its account and its length
  pub HasRegion-written : (number account len : ℕ) → HasRegion s number account len → HasRegion t number account len
  HasRegion-written number account len has = grind (arith, nat_tests, len_same, has.0, has.1, has.2, has.3)

  -- every byte elsewhere is as it was
  pub byte_at-apart : (number k : ℕ) → (number ≡ at.region → (k < at.offset) ⊎ (at.offset + length bytes ≤ k)) → byte_at t number k ≡ byte_at s number k
  byte_at-apart number k apart = grind (arith, places, length-map, now_is, found, writes.others number)

  -- the bytes stand there
  pub HasBytes-written : HasBytes t at bytes
  HasBytes-written k below = let byte = get_or-map Some bytes k 0 None below in rw now_is (grind (arith, places, length-map))

  -- an account holds what it held
  pub held-written : (account : ℕ) → held t account ≡ held s account
  unfolding share
  held-written account =
      omega (arith, held-Changes s t at.region (overwritten (region_at s at.region) at.offset (map Some bytes)) account writes, ap (share account) found, ap (share account) (sym writes.changed ∙ now_is), ap (λ n. if region.account == account then n else 0) len_same)
