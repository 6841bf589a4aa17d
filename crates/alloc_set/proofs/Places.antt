-- Lemmas on live chunks and their places: which a step puts, and which stay.
use Rattle.alloc_set.proofs.Base.{Addr, ap, arith, Books, Bool, Chunk, chunk_at, CtxError, footprint, if◌then◌else◌, IsKept, Keeps, LeavesLive, live_place, live_size, lookup, Moves, MovesAt-same, nat_tests, None, Option, option_and_then, option_cases, place_at, put-here, PutsAt, PutsChunk, PutsLive, Reallocates, Refits, refl, Resized, Result, same_addr, same_addr-cases, SetLedger, SetPlace, SetState, Some, Space, state_of, ℕ, ◌∙◌, ◌≡◌, ◌≤◌}
use Rattle.alloc_set.proofs.Altered.{put_cases}

-- what is said of one of two options
either : {X Y : Type 0} (f : X → Option Y) (b : Bool) (x y : Option X) → option_and_then f (if b then x else y) ≡ (if b then option_and_then f x else option_and_then f y)
either f x1 x y = grind (arith, nat_tests)

-- a chunk is put, and so its place
pub PutsPlace-chunk : (s t : SetState) (at : Addr) (slot : Option Chunk) → PutsChunk s t at slot → PutsAt (place_at s) (place_at t) at (option_and_then live_place slot)
PutsPlace-chunk s t at slot puts other = ap (λ o. option_and_then live_place o) (puts other) ∙ either live_place (same_addr at other) slot (chunk_at s other)

-- and so it is live or not
pub PutsLive-chunk : (s t : SetState) (at : Addr) (slot : Option Chunk) → PutsChunk s t at slot → PutsLive (footprint s) (footprint t) at (option_and_then live_size slot)
PutsLive-chunk s t at slot puts other = ap (λ o. option_and_then live_size o) (puts other) ∙ either live_size (same_addr at other) slot (chunk_at s other)

-- its place, at its own address
pub place-put : (s t : SetState) (at : Addr) (slot : Option Chunk) → PutsChunk s t at slot → place_at t at ≡ option_and_then live_place slot
place-put s t at slot puts = put-here (place_at s) (place_at t) at (option_and_then live_place slot) (PutsPlace-chunk s t at slot puts)

-- what is not live has no place, and what is has one
no_place : (o : Option Chunk) → option_and_then live_size o ≡ None → option_and_then live_place o ≡ None
no_place x0 none = grind (arith, nat_tests)

-- a live chunk is put, and whatever was live stands where it stood
pub PutsPlace-live : (s t : SetState) (at : Addr) (size : ℕ) (place : SetPlace) → PutsLive (footprint s) (footprint t) at (Some size) → LeavesLive s t → place_at t at ≡ Some place → PutsAt (place_at s) (place_at t) at (Some place)
PutsPlace-live s t at size place puts stays is other = grind (arith, nat_tests, same_addr-cases, option_cases, no_place, option_and_then)

-- a chunk is put where none was live
pub LeavesLive-put : (s t : SetState) (at : Addr) (slot : Option Chunk) → PutsChunk s t at slot → (footprint s).live at ≡ None → LeavesLive s t
LeavesLive-put s t at slot puts none other size live = grind (arith, nat_tests, put_cases, option_and_then)

-- the chunks stay
pub LeavesLive-same : (s t : SetState) → t.chunks ≡ s.chunks → LeavesLive s t
LeavesLive-same s t same other size live = ap (λ cs. lookup (same_addr other) cs) same

-- one step after another
pub LeavesLive-more : (s t u : SetState) → LeavesLive s t → LeavesLive t u → LeavesLive s u
LeavesLive-more s t u first second other size live = grind (arith, nat_tests, option_and_then)

-- a chunk gets another size where it is
pub Reallocates-in_place : (a : SetState) (n : Books) (s t : Space) (at : Addr) (old keep size : ℕ) (step : Result (Resized SetLedger SetPlace) CtxError) → IsKept n → Refits step a (state_of n) at at s t
    → (footprint a).live at ≡ Some old → keep ≤ old → keep ≤ size → PutsLive (footprint a) (footprint (state_of n)) at (Some size)
    → Moves (footprint a) (footprint (state_of n)) s t → Keeps (footprint a) (footprint (state_of n)) s t → Reallocates a n s t at at keep size step
Reallocates-in_place a n s t at old keep size step kept refits live few short puts moves keeps =
    let now : (footprint (state_of n)).live at ≡ Some size = put-here (footprint a).live (footprint (state_of n)).live at (Some size) puts in
    record {
      kept = kept;
      refits = refits;
      fresh = λ apart. absurd (apart refl);
      live = MovesAt-same (footprint a).live (footprint (state_of n)).live (footprint a).live at size puts;
      bytes = λ k below. keeps at old size k live now (omega (arith, below, few)) (omega (arith, below, short));
      moves = moves;
      keeps = λ other m p k apart live_other again below low. keeps other m p k live_other again below low;
    }
