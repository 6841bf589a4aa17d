-- The laws of contexts that share a space.
use Rattle.std.proofs.Common.{◌≡◌, ◌≢◌, ℕ, ◌+◌, ◌<◌, ◌≤◌, ◌⊎◌, List, length, map, get_or, set, Some, None, refl, sym, ap, ◌∙◌, inl, inr, arith}
use Rattle.std.proofs.lemmas.List.{length-set, get_or-set_same, get_or-set_other}
use Rattle.addr_space.specs.declared.Addr.{Addr}
use Rattle.addr_space.specs.Space.{Space, region_at, overwritten, bytes_of, byte_at, IsApart}
use Rattle.addr_space.specs.Footprint.{Footprint, IsWithin, HasRegion, Agrees, Moves, Keeps, KeepsBut, AreDisjoint, AllAgree, context_at, WritesInside}
use Rattle.addr_space.proofs.Steps.{Moves-changed}
use Rattle.addr_space.proofs.Options.{option_cases}
use Rattle.addr_space.proofs.Written.{HasRegion-written, byte_at-apart, held-written}
use Rattle.std.proofs.lemmas.Bool.Decides.{nat_tests}

-- disjoint either way round
pub AreDisjoint-sym : (f g : Footprint) → AreDisjoint f g → AreDisjoint g f
AreDisjoint-sym f g apart number len owns = let owner = option_cases (f.region number) in grind (arith, apart number)

module _ (f g other : Footprint) (s t : Space) (moves : Moves f g s t) (disjoint : AreDisjoint f other) (agrees : Agrees other s) where
  -- a region of the other context is as it was, and isn't the moving one's
  kept : (number len : ℕ) → other.region number ≡ Some len → (region_at t number ≡ region_at s number) × (g.region number ≡ None)
  kept number len owns =
      let has = agrees.regions number len owns in
      grind (arith, moves.outside number has.0, AreDisjoint-sym f other disjoint number len owns)

  byte_kept : (at : Addr) (n k : ℕ) → IsWithin other at n → byte_at t at.region k ≡ byte_at s at.region k
  byte_kept at n k within = ap (λ r. get_or (bytes_of r) k None) (kept at.region within.0 within.1).0

  pub Agrees-other : Agrees other t
  Agrees-other = grind (arith, nat_tests, kept, byte_kept)

  pub Keeps-other : Keeps other other s t
  Keeps-other at m n k live again below short = byte_kept at m (at.offset + k) (agrees.sound.live_inside at m live)

  pub AreDisjoint-other : AreDisjoint g other
  AreDisjoint-other = AreDisjoint-sym other g (λ number len owns. (kept number len owns).1)

-- one context of a list is new or became another, each other one was apart from it and stays
pub AllAgree-put : (fs hs : List Footprint) (f g : Footprint) (n : ℕ) (s t : Space) → Moves f g s t → AllAgree fs s → ((k : ℕ) → k < length fs → k ≢ n → AreDisjoint f (context_at fs k)) → ((k : ℕ) → k < length hs → ((k ≡ n) × (context_at hs k ≡ g)) ⊎ ((k < length fs) × (k ≢ n) × (context_at hs k ≡ context_at fs k))) → AllAgree hs t
AllAgree-put fs hs f g n s t moves all apart places =
    let fresh : (k : ℕ) → k < length fs → k ≢ n → AreDisjoint g (context_at fs k) = λ k below differs. AreDisjoint-other f g (context_at fs k) s t moves (apart k below differs) (all.agree k below) in
    record {
      agree = λ k below. elim (places k below) [
        | inl new ↦ rw new.1 moves.agrees
        | inr old ↦ rw old.2 (Agrees-other f g (context_at fs k) s t moves (apart k old.0 old.1) (all.agree k old.0))
      ];
      disjoint = grind (arith, nat_tests, AreDisjoint-sym, all.disjoint);
    }

pub AllAgree-set : (fs : List Footprint) (k : ℕ) (g : Footprint) (s t : Space) → k < length fs → Moves (context_at fs k) g s t → AllAgree fs s → AllAgree (set fs k g) t
AllAgree-set fs k g s t below moves all =
    AllAgree-put fs (set fs k g) (context_at fs k) g k s t moves all (λ j within differs. all.disjoint k j below within (λ e. differs (sym e))) (λ j within. grind (arith, length-set, get_or-set_same, get_or-set_other))

module _ (f : Footprint) (s t : Space) (chunk at : Addr) (size : ℕ) (bytes : List ℕ) (agrees : Agrees f s) (inside : WritesInside f s t chunk at size bytes) where
  -- the region that is written in
  target : (len : ℕ) × (f.region at.region ≡ Some len) × (at.offset + length bytes ≤ len) × HasRegion s at.region f.account len
  target = grind (arith, nat_tests)

  fits : at.offset + length bytes ≤ length target.3.0.bytes
  fits = omega (arith, target.2, target.3.3)

  -- a range apart from the chunk keeps its bytes
  range_kept : (b : Addr) (n k : ℕ) → IsApart chunk size b n → k < n → byte_at t b.region (b.offset + k) ≡ byte_at s b.region (b.offset + k)
  range_kept b n k apart below =
      byte_at-apart s t at bytes target.3.0 target.3.1 fits inside.writes b.region (b.offset + k) (λ same. let far = apart (sym inside.region ∙ sym same) in grind (arith, inside.first, inside.last))

  pub Moves-inside : Moves f f s t
  Moves-inside =
      Moves-changed f f s t at.region (overwritten (region_at s at.region) at.offset (map Some bytes)) agrees agrees.sound refl refl inside.writes (λ number differs. refl)
      (λ len owns. let has = HasRegion-written s t at bytes target.3.0 target.3.1 fits inside.writes at.region f.account len (agrees.regions at.region len owns) in (has.0, sym inside.writes.changed ∙ has.1, has.2, has.3))
      (λ region out. let owns = target.1 in cc) (λ region out. let owns = target.1 in cc)
      (λ b marks marked same k below. range_kept b (length marks) k (agrees.sound.mark_apart chunk b size marks inside.live marked) below ∙ agrees.marks b marks marked k below)
      (λ b marks marked differs. marked) (λ account. omega (arith, held-written s t at bytes target.3.0 target.3.1 fits inside.writes account))

  pub KeepsBut-inside : KeepsBut chunk f f s t
  KeepsBut-inside b m n k differs live again below short = grind (arith, nat_tests, range_kept)
