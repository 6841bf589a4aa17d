-- Lemmas on the chunks of groups.
use Rattle.std.proofs.Common.{◌≡◌, ◌≢◌, ℕ, ◌⊎◌, ◌++◌, Bool, true, false, cond, nat_eq, List, [], ◌∷◌, length, map, Some, None, is_some, refl, ap, ◌∙◌, inl, inr, arith}
use Rattle.std.specs.Map.{lookup}
use Rattle.std.proofs.lemmas.Bool.{eqb-true}
use Rattle.addr_space.specs.declared.Addr.{Addr}
use Rattle.addr_space.specs.Space.{Space, region_at, bytes_of, overwritten, Changes, HasBytes, IsInside}
use Rattle.addr_space.specs.Footprint.{Footprint, Agrees, Moves, Keeps, WritesInside}
use Rattle.addr_space.proofs.Written.{HasBytes-written}
use Rattle.addr_space.proofs.Apart.{Moves-inside, KeepsBut-inside}

-- the chunk of a group, where one more has one
pub lookup-push : (q g : ℕ) (at found : Addr) (places : List (ℕ × Addr)) → lookup (nat_eq q) (places ++ (g, at) ∷ []) ≡ Some found → (lookup (nat_eq q) places ≡ Some found) ⊎ ((q ≡ g) × (found ≡ at))
lookup-push q g at found [] is = by_test (nat_eq q g) refl is
  where
    by_test : (b : Bool) → nat_eq q g ≡ b → cond b (Some at) None ≡ Some found → (lookup (nat_eq q) [] ≡ Some found) ⊎ ((q ≡ g) × (found ≡ at))
    by_test true e is = inr (eqb-true q g e, cc)
    by_test false e is = absurd (cc)
lookup-push q g at found (x ∷ places) is = by_test (nat_eq q x.0) is (lookup-push q g at found places)
  where
    by_test : (b : Bool) → cond b (Some x.1) (lookup (nat_eq q) (places ++ (g, at) ∷ [])) ≡ Some found
        → (lookup (nat_eq q) (places ++ (g, at) ∷ []) ≡ Some found → (lookup (nat_eq q) places ≡ Some found) ⊎ ((q ≡ g) × (found ≡ at)))
        → (cond b (Some x.1) (lookup (nat_eq q) places) ≡ Some found) ⊎ ((q ≡ g) × (found ≡ at))
    by_test true is rest = inl is
    by_test false is rest = rest is

module _ (f : Footprint) (s t : Space) (at : Addr) (bytes : List ℕ) (agrees : Agrees f s) (live : f.live at ≡ Some 24) (len : length bytes ≡ 24) (writes : Changes s t at.region (overwritten (region_at s at.region) at.offset (map Some bytes))) where
  within : WritesInside f s t at at 24 bytes
  within = record { live = live; region = refl; first = omega arith; last = omega (arith, len); writes = writes }

  -- a write in a chunk moves nothing
  pub Moves-chunk : Moves f f s t
  Moves-chunk = Moves-inside f s t at at 24 bytes agrees within

  -- the bytes stand there
  pub HasBytes-chunk : HasBytes t at bytes
  HasBytes-chunk =
      let place = agrees.sound.live_inside at 24 live in
      let has = agrees.regions at.region place.0 place.1 in
      HasBytes-written s t at bytes has.0 has.1 (omega (arith, place.2, has.3, len)) writes

  -- and every other chunk has its bytes
  pub HasBytes-other : (other : Addr) (had : List ℕ) → other ≢ at → f.live other ≡ Some 24 → length had ≡ 24 → HasBytes s other had → HasBytes t other had
  HasBytes-other other had differs lives long has k below =
      KeepsBut-inside f s t at at 24 bytes agrees within other 24 24 k differs lives lives (omega (arith, below, long)) (omega (arith, below, long)) ∙ has k below

-- a live chunk is inside the space
pub IsInside-chunk : (f : Footprint) (s : Space) (at : Addr) → Agrees f s → f.live at ≡ Some 24 → IsInside s at 24
IsInside-chunk f s at agrees live =
    let place = agrees.sound.live_inside at 24 live in
    let has = agrees.regions at.region place.0 place.1 in
    record {
      live = ap is_some has.1;
      end_in_region = omega (arith, place.2, has.3, ap (λ o. length (bytes_of o)) has.1);
    }

-- chunks that are kept have their bytes
pub HasBytes-kept : (f g : Footprint) (s t : Space) (at : Addr) (bytes : List ℕ) → Keeps f g s t → f.live at ≡ Some 24 → g.live at ≡ Some 24 → length bytes ≡ 24 → HasBytes s at bytes → HasBytes t at bytes
HasBytes-kept f g s t at bytes keeps was now len has k below = keeps at 24 24 k was now (omega (arith, below, len)) (omega (arith, below, len)) ∙ has k below
