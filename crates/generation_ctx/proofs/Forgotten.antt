-- A chunk is forgotten.
use Rattle.generation_ctx.proofs.Words.{◌≡◌, ℕ, ◌+◌, ◌-◌, ◌≤◌, ◌==◌, if◌then◌else◌, Some, None, refl, arith, ap, sym, ◌∙◌, subst, Addr, Space, Agrees, Layout, block_at, chunk_at, footprint, PutsBlock, PutsChunk, SameContext, MovesStill, Block, Chunk, GenerationLedger, put, given, emptied, lessened, freed_shared, number_of, ledger_of, IsKept, Frees, Lessens, Books, one_value, among_put, put_here, number_is, number_put}
use Rattle.generation_ctx.proofs.Kept.{AllWere, spare_live, kept_put}
use Rattle.generation_ctx.proofs.Numbers.{found_number, block_is, numbered_put, ledger_put}
use Rattle.generation_ctx.proofs.Refilled.{given_less, emptied_less}
use Rattle.std.proofs.lemmas.Bool.Decides.{nat_tests}

abbrev pub less_one : Block → Block
less_one old = record old { live = old.live - 1; freed = old.freed + 1 }

module _ (b : Books) (m : Layout) (at : Addr) (old : Block) (kept : IsKept b) (owned : block_at b.blocks at.region ≡ Some old) (last : m.last_number ≡ b.blocks.last_number) (puts : PutsBlock b.blocks m at.region (less_one old)) where
  pub ledger_less : ledger_of (record b { blocks = m }) ≡ lessened (ledger_of b) (number_of b.blocks at.region)
  unfolding lessened
  ledger_less = ledger_put _ _ _ _ _ owned puts refl kept last ∙ ap (λ x. put (ledger_of b) (less_one x)) (sym (block_is b at.region old kept.numbered owned))

  -- its block goes back
  pub given_gone : given (ledger_of (record b { blocks = m })) (number_of m at.region) ≡ given (ledger_of b) (number_of b.blocks at.region)
  given_gone =
      ap (given (ledger_of (record b { blocks = m }))) (number_put _ _ _ _ _ owned puts refl at.region) ∙ ap (λ (l : GenerationLedger). given l (number_of b.blocks at.region)) ledger_less
      ∙ rw (number_is b.blocks at.region old owned) (given_less (ledger_of b) old (found_number b at.region old kept.numbered owned))

  module _ (same : SameContext b.blocks m) (gone : PutsChunk b.blocks m at None) (some : (at : Addr) (chunk : Chunk) (block : Block) → chunk_at m at ≡ Some chunk → block_at m at.region ≡ Some block → 1 ≤ block.live) where
    -- another chunk with a block for itself has another block
    were_less : AllWere b.blocks m at.region
    were_less other chunk there own =
        let was : chunk_at b.blocks other ≡ Some chunk = grind (arith, gone other) in
        let a = kept.alone other chunk was own in (
          was,
          λ e.
              (let one = some other chunk (less_one old) there (rw e (put_here _ _ _ _ puts)) in
              let it = subst (λ r. block_at b.blocks r ≡ Some a.block) e a.is in
              grind (arith, a.live, owned, one)),
        )

    pub frees_less : 1 ≤ old.live → MovesStill b.blocks m → (s : Space) → Agrees (footprint b.blocks) s → Frees b (record b { blocks = m }) s s at
    frees_less live moves s agrees = record {
      kept = kept_put b m at.region (less_one old) kept same puts (λ other there. ap (λ (x : Block). x.size) (one_value (block_at b.blocks at.region) old other owned there)) (numbered_put b.blocks m at.region old (less_one old) owned puts refl kept.numbered same last)
          (spare_live b.blocks b.current b.spare at.region (λ block there. grind arith) kept.spare) were_less;
      chunk = gone;
      among = among_put _ _ _ _ _ owned puts refl;
      moves = moves s agrees;
      keeps = λ at p r k live again below short. refl;
    }

-- the ledger's step for a chunk of a shared block, by whether it was the last one
pub freed_is : (b n : Books) (region : ℕ) → IsKept b → (less : Lessens b n region) → ledger_of n ≡ lessened (ledger_of b) (number_of b.blocks region)
    → freed_shared (ledger_of b) (number_of b.blocks region) ≡ (if less.block.live == 1 then emptied (ledger_of n) (number_of n.blocks region) else ledger_of n)
unfolding freed_shared
freed_is b n region kept less ledger = grind (arith, nat_tests, number_is b.blocks region less.block less.was, b.blocks, less.block, less.was, found_number b region less.block kept.numbered less.was, kept.numbered, block_is b region less.block kept.numbered less.was, number_is n.blocks region _ less.is, n.blocks, less.is, emptied_less)
