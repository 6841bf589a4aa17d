-- Lemmas on a word that a context writes in a region of its own, and on a region that it takes and gives back.
use Rattle.std.proofs.Common.{◌≡◌, ◌≢◌, ℕ, ◌+◌, ◌<◌, ◌≤◌, ◌⊎◌, ◌==◌, if◌then◌else◌, List, length, map, Some, None, refl, ◌∙◌, arith}
use Rattle.std.proofs.lemmas.List.{length-replicate}
use Rattle.std.proofs.lemmas.Bool.Decides.{nat_tests}
use Rattle.addr_space.specs.declared.Addr.{Addr}
use Rattle.addr_space.specs.Space.{Space, region_at, byte_at, overwritten, unwritten, Changes, IsApart, held, share}
use Rattle.addr_space.specs.Footprint.{Footprint, IsSound, Agrees, Moves, Keeps, HasRegion, counted}
use Rattle.addr_space.proofs.Written.{HasRegion-written, byte_at-apart, HasBytes-written, held-written}
use Rattle.addr_space.proofs.Steps.{Moves-one, Moves-give, Changes-more}

-- a word is written in a region, as one mark, and every other mark is one that was there, apart from the word
module _ (f g : Footprint) (s t : Space) (at : Addr) (len : ℕ) (word : List ℕ) (agrees : Agrees f s) (owned : f.region at.region ≡ Some len) (fits : at.offset + length word ≤ len)
    (writes : Changes s t at.region (overwritten (region_at s at.region) at.offset (map Some word))) where
  target : HasRegion s at.region f.account len
  target = agrees.regions at.region len owned

  room : at.offset + length word ≤ length target.0.bytes
  room = omega (arith, target.3)

  same_byte : (b : Addr) (n k : ℕ) → k < n → IsApart b n at (length word) → byte_at t b.region (b.offset + k) ≡ byte_at s b.region (b.offset + k)
  same_byte b n k below apart =
      byte_at-apart s t at word target.0 target.1 room writes b.region (b.offset + k) (λ same. let far = apart same in grind arith)

  pub Moves-written : IsSound g → g.account ≡ f.account → g.context ≡ f.context → g.total ≡ f.total → ((number : ℕ) → g.region number ≡ f.region number)
      → ((b : Addr) (bytes : List ℕ) → g.mark b ≡ Some bytes → ((b ≡ at) × (word ≡ bytes)) ⊎ ((f.mark b ≡ Some bytes) × IsApart b (length bytes) at (length word))) → Moves f g s t
  unfolding counted
  Moves-written sound account context total regions marks =
      let there = HasRegion-written s t at word target.0 target.1 room writes at.region f.account len target in
      Moves-one f g s t at.region len there.0 agrees sound account context (record { changed = there.1; others = writes.others; limit = writes.limit; accounts = writes.accounts })
      there.2 there.3 (λ none. absurd (cc)) (regions at.region ∙ owned) (λ other differs. regions other)
      (λ b bytes marked region k below. let new_or_old = marks b bytes marked in
      grind (arith, HasBytes-written s t at word target.0 target.1 room writes k, same_byte b (length bytes) k below, agrees.marks b bytes))
      (λ b bytes marked differs. let new_or_old = marks b bytes marked in grind arith)
      (λ a. let counts : (if g.account == a then g.total else 0) ≡ (if f.account == a then f.total else 0) = rw (account, total) refl in omega (arith, held-written s t at word target.0 target.1 room writes a, counts))

  pub Keeps-written : ((b : Addr) (m n : ℕ) → f.live b ≡ Some m → g.live b ≡ Some n → IsApart b m at (length word)) → Keeps f g s t
  Keeps-written apart b m n k live again below short = same_byte b m k below (apart b m n live again)

-- a region is taken, and a word written in it
module _ (f g : Footprint) (s m t : Space) (at : Addr) (size : ℕ) (word : List ℕ) (agrees : Agrees f s) (free : region_at s at.region ≡ None) (took : Changes s m at.region (Some (unwritten f.account size)))
    (wrote : Changes m t at.region (overwritten (region_at m at.region) at.offset (map Some word))) where
  both : Changes s t at.region (overwritten (region_at m at.region) at.offset (map Some word))
  both = Changes-more s m t at.region (Some (unwritten f.account size)) (overwritten (region_at m at.region) at.offset (map Some word)) took wrote

  pub Moves-taken : at.offset + length word ≤ size → ((account : ℕ) → held m account ≡ held s account + (if f.account == account then size else 0))
      → IsSound g → g.account ≡ f.account → g.context ≡ f.context → g.total ≡ f.total + size → g.region at.region ≡ Some size → ((other : ℕ) → other ≢ at.region → g.region other ≡ f.region other)
      → ((b : Addr) (bytes : List ℕ) → g.mark b ≡ Some bytes → ((b ≡ at) × (word ≡ bytes)) ⊎ ((b.region ≢ at.region) × (f.mark b ≡ Some bytes))) → Moves f g s t
  unfolding counted
  Moves-taken fits holds sound account context total owned others marks =
      let len : length (unwritten f.account size).bytes ≡ size = length-replicate size None in
      let room : at.offset + length word ≤ length (unwritten f.account size).bytes = omega (arith, fits, len) in
      let there = HasRegion-written m t at word (unwritten f.account size) took.changed room wrote at.region f.account size (unwritten f.account size, took.changed, refl, len) in
      Moves-one f g s t at.region size there.0 agrees sound account context (record { changed = there.1; others = both.others; limit = both.limit; accounts = both.accounts })
      there.2 there.3 (λ none. free) owned others
      (λ b bytes marked region k below. let new_or_old = marks b bytes marked in
      grind (arith, HasBytes-written m t at word (unwritten f.account size) took.changed room wrote k))
      (λ b bytes marked differs. let new_or_old = marks b bytes marked in grind arith)
      (λ a.
      let counts : (if g.account == a then g.total else 0) ≡ (if f.account == a then f.total + size else 0) = rw (account, total) refl in
      grind (arith, held-written m t at word (unwritten f.account size) took.changed room wrote a, holds a, counts))

  pub Keeps-taken : Keeps f g s t
  Keeps-taken b p n k live again below short =
      let within = agrees.sound.live_inside b p live in
      let there = agrees.regions b.region within.0 within.1 in
      grind (arith, both.others b.region)

-- what a region of the context counts for an account
pub share-owned : (s : Space) (owner number size account : ℕ) → HasRegion s number owner size → share account (region_at s number) ≡ (if owner == account then size else 0)
unfolding share
share-owned s owner number size account has = rw (has.1, has.2, has.3) refl

-- a region goes back
pub Moves-gone : (f g : Footprint) (s t : Space) (number size : ℕ) → Agrees f s → IsSound g → g.account ≡ f.account → g.context ≡ f.context → g.total + size ≡ f.total
    → Changes s t number None → f.region number ≡ Some size → g.region number ≡ None → ((other : ℕ) → other ≢ number → g.region other ≡ f.region other)
    → ((at : Addr) (bytes : List ℕ) → g.mark at ≡ Some bytes → f.mark at ≡ Some bytes) → ((account : ℕ) → held t account + share account (region_at s number) ≡ held s account) → Moves f g s t
unfolding counted
Moves-gone f g s t number size agrees sound account context total changes owned gone others marks holds =
    Moves-give f g s t number size agrees sound account context changes owned gone others marks (λ a.
    let now : (if g.account == a then g.total else 0) ≡ (if f.account == a then g.total else 0) = rw account refl in
    grind (arith, nat_tests, holds a, share-owned s f.account number size a (agrees.regions number size owned), now))

-- and the chunks that are still live are elsewhere
pub Keeps-give : (f g : Footprint) (s t : Space) (number : ℕ) → IsSound g → g.region number ≡ None → Changes s t number None → Keeps f g s t
Keeps-give f g s t number sound gone changes b m n k live again below short =
    let within = sound.live_inside b n again in grind (arith, changes.others b.region)
