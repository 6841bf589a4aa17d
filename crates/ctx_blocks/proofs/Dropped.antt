-- Lemmas on a block that goes.
use Rattle.ctx_blocks.proofs.Base.{[], Addr, Agrees, arith, Block, block_at, Bool, Changes, chunk_at, footprint, held, if◌then◌else◌, IsLaid, IsRegion, Keeps, Keeps-give, Layout, List, lookup, Moves, Moves-gone, nat_tests, None, refl, region_at, SameContext, share, Some, Space, total, true, ℕ, ◌++◌, ◌+◌, ◌==◌, ◌∷◌, ◌≡◌, ◌≢◌}
use Rattle.ctx_blocks.proofs.Laid.{region_is, IsSound-laid}
use Rattle.ctx_blocks.proofs.Lessened.{Lessens, IsLaid-lessened, mark-lessened}

-- a block's region is live in the space, and counts for the account
pub IsRegion-owned : (l : Layout) (s : Space) (number : ℕ) (block : Block) → Agrees (footprint l) s → block_at l number ≡ Some block → IsRegion s (record { region = number; offset = 0 })
IsRegion-owned l s number block agrees owned = record { live = rw (agrees.regions number block.size (region_is l number block owned)).1 refl; start = refl }

module _ (l m : Layout) (laid : IsLaid l) (same : SameContext l m) (chunks : m.chunks ≡ l.chunks) (number : ℕ) (old : Block) (owned : block_at l number ≡ Some old) (empty : (at : Addr) → at.region ≡ number → chunk_at l at ≡ None)
    (blocks : (other : ℕ) → block_at m other ≡ (if number == other then None else block_at l other)) where
  others_now : (other : ℕ) → other ≢ number → block_at m other ≡ block_at l other
  others_now other differs = grind (arith, blocks other)

  pub Lessens-dropped : Lessens l m
  Lessens-dropped = record {
    same = same;
    chunk = λ at c found. let had = rw chunks at found in (c, had, refl, refl, (laid.placed at c had).sized.fits);
    block = λ other b has. let had : block_at l other ≡ Some b = grind (arith, blocks other) in (b, had, refl, laid.filled other b had);
    under = grind (arith, nat_tests, others_now);
  }

  gone : (footprint m).region number ≡ None
  gone = rw (blocks number) (grind arith)

  pub Moves-dropped : (s t : Space) → Agrees (footprint l) s → total m + old.size ≡ total l → Changes s t number None → ((account : ℕ) → held t account + share account (region_at s number) ≡ held s account) → Moves (footprint l) (footprint m) s t
  Moves-dropped s t agrees totals changes holds = grind (arith, nat_tests, Moves-gone (footprint l) (footprint m) s t number old.size agrees (IsSound-laid m (IsLaid-lessened l m laid Lessens-dropped)) same.account same.context totals changes (region_is l number old owned) gone, IsSound-laid m (IsLaid-lessened l m laid Lessens-dropped), IsLaid-lessened l m laid Lessens-dropped, Lessens-dropped, region_is l number old owned, gone, others_now, mark-lessened l m laid Lessens-dropped)

  pub Keeps-dropped : (s t : Space) → Changes s t number None → Keeps (footprint l) (footprint m) s t
  Keeps-dropped s t changes = Keeps-give (footprint l) (footprint m) s t number (IsSound-laid m (IsLaid-lessened l m laid Lessens-dropped)) gone changes

-- the last entry is found where none before it is
pub lookup-last : {X : Type 0} (test : ℕ → Bool) (es : List (ℕ × X)) (k : ℕ) (x : X) → lookup test es ≡ None → test k ≡ true → lookup test (es ++ (k, x) ∷ []) ≡ Some x
lookup-last test [] k x none passes = grind arith
lookup-last test (e ∷ es) k x none passes = grind (arith, lookup-last test es k x)
