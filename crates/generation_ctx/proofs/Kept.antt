-- What the code keeps, from step to step.
use Rattle.generation_ctx.proofs.Words.{◌≡◌, ◌≢◌, ℕ, ◌<◌, Option, Some, None, true, false, if◌then◌else◌, refl, ◌∙◌, sym, subst, arith, ◌⊎◌, inl, inr, ◌+◌, ap, unwrap_or, Addr, Layout, block_at, chunk_at, PutsBlock, PutsChunk, SameContext, Block, Chunk, is_spare, no_block, added, AreSizes, HasSize, AreNumbered, IsSpare, IsIdle, IsAlone, AllAlone, IsKept, ledger_of, Books, put_other, size_put, put_here, chunk_was, one_value, values_of, add_by_number, rising_add, number_of}
use Rattle.generation_ctx.proofs.Numbers.{numbered_by, spare_numbers}
use Rattle.std.proofs.lemmas.Bool.Decides.{nat_tests}

-- the spare stays where its block does
pub spare_still : (l m : Layout) (current : ℕ) (spare : Option ℕ) → m.keeper ≡ l.keeper → ((other : ℕ) → spare ≡ Some other → block_at m other ≡ block_at l other) → IsSpare l current spare → IsSpare m current spare
spare_still l m current None keeper still idle = idle
spare_still l m current (Some other) keeper still idle = record { block = idle.block; is = still other refl ∙ idle.is; live = idle.live; not_keeper = rw keeper idle.not_keeper; not_current = idle.not_current }

pub apart_spare : (spare : Option ℕ) (number : ℕ) → is_spare spare number ≡ false → (other : ℕ) → spare ≡ Some other → number ≢ other
apart_spare x0 number free other is = grind (arith, nat_tests)

-- which blocks aren't the spare: the current one
pub spare_current : (l : Layout) (current : ℕ) (spare : Option ℕ) → IsSpare l current spare → is_spare spare current ≡ false
spare_current l current None idle = refl
spare_current l current (Some other) idle = grind (arith, idle.not_current)

-- one that isn't there, or has a live chunk
pub spare_live : (l : Layout) (current : ℕ) (spare : Option ℕ) (number : ℕ) → ((block : Block) → block_at l number ≡ Some block → block.live ≢ 0) → IsSpare l current spare → is_spare spare number ≡ false
spare_live l current None number some idle = refl
spare_live l current (Some other) number some idle = let apart : other ≢ number = λ e. some idle.block (rw e at idle.is) idle.live in grind arith

-- a chunk is still alone in its block, where that stays
pub alone_still : (l m : Layout) (current : ℕ) (at : Addr) (was now : Chunk) → m.keeper ≡ l.keeper → block_at m at.region ≡ block_at l at.region → was.room ≡ now.room → IsAlone l current at was → IsAlone m current at now
alone_still l m current at was now keeper still room a = record { block = a.block; is = still ∙ a.is; live = a.live; room = a.room; whole = omega (arith, a.whole); not_keeper = rw keeper a.not_keeper; not_current = a.not_current }

-- all is kept, by what holds of the blocks and chunks now
pub kept_by : (b : Books) (m : Layout) → IsKept b → SameContext b.blocks m → AreNumbered m → ((k bytes : ℕ) → (k ≡ b.blocks.keeper) ⊎ (k ≡ b.current) → HasSize b.blocks k bytes → HasSize m k bytes) → IsSpare m b.current b.spare → AllAlone m b.current → IsKept (record b { blocks = m })
kept_by b m kept same numbered has spare alone = record {
  kind = same.kind ∙ kept.kind;
  numbered = numbered;
  sizes = kept.sizes;
  keeper = subst (λ k. HasSize m k b.sizes.init) (sym same.keeper) (has b.blocks.keeper b.sizes.init (inl refl) kept.keeper);
  bytes = kept.bytes;
  current = has b.current kept.bytes (inr refl) kept.current;
  spare = spare;
  alone = alone;
}

-- each chunk with a block for itself was there, with another block than this one
abbrev pub AllWere : Layout → Layout → ℕ → Type 0
AllWere l m number = (at : Addr) (chunk : Chunk) → chunk_at m at ≡ Some chunk → chunk.own ≡ true → (chunk_at l at ≡ Some chunk) × (at.region ≢ number)

-- the other blocks stay
pub kept_but : (b : Books) (m : Layout) (number : ℕ) → IsKept b → SameContext b.blocks m → ((other : ℕ) → number ≢ other → block_at m other ≡ block_at b.blocks other) → ((k bytes : ℕ) → (k ≡ b.blocks.keeper) ⊎ (k ≡ b.current) → HasSize b.blocks k bytes → HasSize m k bytes) → AreNumbered m → is_spare b.spare number ≡ false → AllWere b.blocks m number → IsKept (record b { blocks = m })
kept_but b m number kept same still has numbered free were =
    kept_by b m kept same numbered has (spare_still b.blocks m b.current b.spare same.keeper (λ other is. still other (apart_spare b.spare number free other is)) kept.spare)
    (λ at chunk is own. (let w = were at chunk is own in alone_still b.blocks m b.current at chunk chunk same.keeper (still at.region (λ e. w.1 (sym e))) refl (kept.alone at chunk w.0 own)))

-- a block is put
pub kept_put : (b : Books) (m : Layout) (number : ℕ) (block : Block) → IsKept b → SameContext b.blocks m → PutsBlock b.blocks m number block → ((old : Block) → block_at b.blocks number ≡ Some old → block.size ≡ old.size) → AreNumbered m → is_spare b.spare number ≡ false → AllWere b.blocks m number → IsKept (record b { blocks = m })
kept_put b m number block kept same puts sizes = kept_but b m number kept same (put_other b.blocks m number block puts) (λ k bytes which. size_put b.blocks m number block puts sizes k bytes)

-- the chunks stay, and none has this block for itself, which isn't there or hasn't one live chunk
pub were_still : (l m : Layout) (current number : ℕ) → m.chunks ≡ l.chunks → AllAlone l current → ((block : Block) → block_at l number ≡ Some block → block.live ≢ 1) → AllWere l m number
were_still l m current number same alone some at chunk is own =
    let was = rw same at is in
    let a = alone at chunk was own in
    (was, λ e. some a.block (subst (λ r. block_at l r ≡ Some a.block) e a.is) a.live)

-- one chunk of a shared block is put
pub were_put : (l m : Layout) (number : ℕ) (to : Addr) (new : Chunk) → PutsChunk l m to (Some new) → new.own ≡ false → ((at : Addr) (chunk : Chunk) → chunk_at l at ≡ Some chunk → chunk.own ≡ true → at.region ≢ number) → AllWere l m number
were_put l m number to new puts shared apart at chunk is own = grind (arith, nat_tests, chunk_was l m to new puts)

-- the next block has another size
pub kept_next : (b : Books) (next : ℕ) → IsKept b → AreSizes b.sizes.init b.sizes.max next → IsKept (record b { next = next })
kept_next b next kept sized = record { kind = kept.kind; numbered = kept.numbered; sizes = sized; keeper = kept.keeper; bytes = kept.bytes; current = kept.current; spare = kept.spare; alone = kept.alone }

pub kept_spare : (b : Books) (number : ℕ) → IsKept b → IsIdle b.blocks b.current number → IsKept (record b { spare = Some number })
kept_spare b number kept idle = record { kind = kept.kind; numbered = kept.numbered; sizes = kept.sizes; keeper = kept.keeper; bytes = kept.bytes; current = kept.current; spare = idle; alone = kept.alone }

-- another block becomes current
seated_spare : (l : Layout) (current number : ℕ) (spare : Option ℕ) → IsSpare l current spare → IsSpare l number (if is_spare spare number then None else spare)
seated_spare l current number None idle = tt
seated_spare l current number (Some other) idle = grind (arith, nat_tests, idle.block, idle.is, idle.live, idle.not_keeper)

pub kept_seated : (b : Books) (number : ℕ) (block : Block) → IsKept b → block_at b.blocks number ≡ Some block → 0 < block.room → IsKept (record b { current = number; spare = if is_spare b.spare number then None else b.spare })
kept_seated b number block kept is some = record {
  kind = kept.kind;
  numbered = kept.numbered;
  sizes = kept.sizes;
  keeper = kept.keeper;
  bytes = block.size;
  current = record { block = block; is = is; size = refl };
  spare = seated_spare b.blocks b.current number b.spare kept.spare;
  alone = λ at chunk here own. (let a = kept.alone at chunk here own in record { block = a.block; is = a.is; live = a.live; room = a.room; whole = a.whole; not_keeper = a.not_keeper; not_current = λ e. (let it = subst (λ r. block_at b.blocks r ≡ Some a.block) e a.is in grind (arith, a.room)) });
}

-- a chunk gets a new block for itself
pub kept_own : (b : Books) (m : Layout) (number : ℕ) (first last : Block) (at : Addr) (new : Chunk) → IsKept b → block_at b.blocks number ≡ Some first → first.live ≡ 0 → SameContext b.blocks m → PutsBlock b.blocks m number last → PutsChunk b.blocks m at (Some new) → at.region ≡ number → last.live ≡ 1 → last.room ≡ 0 → last.size ≡ first.size → last.size ≡ new.room + 48 → AreNumbered m → number ≢ b.blocks.keeper → number ≢ b.current → is_spare b.spare number ≡ false → IsKept (record b { blocks = m })
kept_own b m number first last at new kept here empty same puts chunk region live room size whole numbered not_keeper not_current free =
    kept_by b m kept same numbered (λ k bytes which. size_put b.blocks m number last puts (λ other there. size ∙ ap (λ (x : Block). x.size) (one_value (block_at b.blocks number) first other here there)) k bytes)
    (spare_still b.blocks m b.current b.spare same.keeper (λ other is. put_other b.blocks m number last puts other (apart_spare b.spare number free other is)) kept.spare)
    (λ other x there own. elim (chunk_was b.blocks m at new chunk other x there) [
      | inl it ↦ rw (it.0, it.1) (record { block = last; is = rw region (put_here b.blocks m number last puts); live = live; room = room; whole = whole; not_keeper = rw (region, same.keeper) not_keeper; not_current = rw region not_current })
      | inr was ↦
          let a = kept.alone other x was.1 own in
          alone_still b.blocks m b.current other x x same.keeper (put_other b.blocks m number last puts other.region (λ e. (let it = subst (λ r. block_at b.blocks r ≡ Some a.block) (sym e) a.is in grind (arith, a.live)))) refl a
    ])

-- a chunk gets another size where it is
module _ (b : Books) (m : Layout) (at : Addr) (old new : Chunk) (kept : IsKept b) (same : SameContext b.blocks m) (last : m.last_number ≡ b.blocks.last_number) (blocks : m.blocks ≡ b.blocks.blocks) (there : chunk_at b.blocks at ≡ Some old) (puts : PutsChunk b.blocks m at (Some new)) (own : new.own ≡ old.own) (room : new.room ≡ old.room) where
  pub kept_sized : IsKept (record b { blocks = m })
  kept_sized =
      kept_by b m kept same (numbered_by b.blocks m kept.numbered same (omega (arith, last)) (rw (last, blocks) kept.numbered.rising) (rw blocks refl)) (λ k bytes which has. record { block = has.block; is = rw blocks has.is; size = has.size })
      (spare_still b.blocks m b.current b.spare same.keeper (λ other is. rw blocks refl) kept.spare)
      (λ other x here mine. elim (chunk_was b.blocks m at new puts other x here) [
        | inl it ↦ rw (it.0, it.1) (alone_still b.blocks m b.current at old new same.keeper (rw blocks refl) (sym room) (kept.alone at old there (sym own ∙ ap (λ (c : Chunk). c.own) (sym it.1) ∙ mine)))
        | inr was ↦ alone_still b.blocks m b.current other x x same.keeper (rw blocks refl) refl (kept.alone other x was.1 mine)
      ])

-- a block is added
module _ (b : Books) (m : Layout) (number : ℕ) (new : Block) (kept : IsKept b) (same : SameContext b.blocks m) (fresh : block_at b.blocks number ≡ None) (puts : PutsBlock b.blocks m number new) (next : new.number ≡ b.blocks.last_number + 1) (last : m.last_number ≡ b.blocks.last_number + 1) where
  -- the other blocks keep their numbers
  number_add : (r : ℕ) (block : Block) → block_at b.blocks r ≡ Some block → number_of m r ≡ number_of b.blocks r
  number_add r block is = ap (λ (o : Option Block). (unwrap_or o no_block).number) (put_other b.blocks m number new puts r (λ e. (let none = rw e at fresh in cc)))

  numbered_add : AreNumbered m
  numbered_add = grind (arith, nat_tests, numbered_by b.blocks m kept.numbered same (omega (arith, last)) (rw (last, puts.blocks) (rising_add 1 b.blocks.last_number number new b.blocks.blocks fresh (omega arith) next kept.numbered.rising)) (number_add b.blocks.keeper kept.keeper.block kept.keeper.is), rising_add 1 b.blocks.last_number number new b.blocks.blocks fresh (omega arith) next kept.numbered.rising, number_add b.blocks.keeper kept.keeper.block kept.keeper.is)

  pub ledger_add : ledger_of (record b { blocks = m }) ≡ added (ledger_of b) new
  ledger_add =
      let values = ap values_of puts.blocks ∙ add_by_number number new b.blocks.blocks fresh in
      let current = number_add b.current kept.current.block kept.current.is in
      let spare = spare_numbers b.blocks m b.current b.spare kept.spare (λ r block is e. number_add r block is) in
      cc

  pub kept_add : m.chunks ≡ b.blocks.chunks → IsKept (record b { blocks = m })
  kept_add chunks =
      kept_put b m number new kept same puts (λ old is. (let none = fresh in absurd (cc))) numbered_add (spare_live b.blocks b.current b.spare number (λ block is. absurd (cc)) kept.spare)
      (were_still b.blocks m b.current number chunks kept.alone (λ block is. absurd (cc)))
