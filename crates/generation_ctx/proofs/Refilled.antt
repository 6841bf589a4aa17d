-- A shared block without live chunks gets its whole room, or goes back.
use Rattle.generation_ctx.proofs.Words.{◌≡◌, ◌≢◌, ℕ, ◌+◌, ◌-◌, ◌==◌, if◌then◌else◌, false, List, Option, Some, unwrap_or, refl, arith, ◌∙◌, sym, ap, find, Layout, block_at, whole_block, footprint, Space, Agrees, Moves, Keeps, PutsBlock, DropsBlock, SameContext, MovesStill, Rearranges, Block, drop_other, size_drop, put_twice, put_away, put_found, GenerationLedger, block_in, no_block, is_spare, put, filled, given, emptied, emptied_other, lessened, number_of, ledger_of, IsKept, Books, one_value, number_is}
use Rattle.ctx_blocks.specs.Layout.{start_of as start_in}
use Rattle.generation_ctx.proofs.Numbers.{block_is, numbered_put, numbered_drop, ledger_put, ledger_drop, same_test, keeper_test}
use Rattle.generation_ctx.proofs.Kept.{apart_spare, kept_but, kept_put, were_still}
use Rattle.std.proofs.lemmas.Bool.Decides.{nat_tests}

abbrev pub refilled : Layout → ℕ → Block → Block
refilled l region old = whole_block old.number (start_in l region) old.size

module _ (b : Books) (m : Layout) (region : ℕ) (old : Block) (kept : IsKept b) (is : block_at b.blocks region ≡ Some old) (same : SameContext b.blocks m) (last : m.last_number ≡ b.blocks.last_number) (puts : PutsBlock b.blocks m region (refilled b.blocks region old)) where
  filled_is : filled (ledger_of b) (number_of b.blocks region) ≡ refilled b.blocks region old
  filled_is = grind (arith, nat_tests, keeper_test b.blocks region kept.keeper.block old kept.numbered kept.keeper.is is, block_is b region old kept.numbered is, number_is b.blocks region old is)

  -- the books alone change
  pub rearranges_refill : old.live ≡ 0 → is_spare b.spare region ≡ false → m.chunks ≡ b.blocks.chunks → MovesStill b.blocks m → (s : Space) → Agrees (footprint b.blocks) s → (ledger : GenerationLedger) → put (ledger_of b) (filled (ledger_of b) (number_of b.blocks region)) ≡ ledger → Rearranges b (record b { blocks = m }) s s ledger
  rearranges_refill none free chunks moves s agrees ledger step = record {
    kept = kept_put b m _ _ kept same puts (λ other there. ap (λ (x : Block). x.size) (one_value (block_at b.blocks region) old other is there)) (numbered_put _ _ _ _ _ is puts refl kept.numbered same last) free (were_still b.blocks m b.current _ chunks kept.alone (λ other there. grind arith));
    ledger_is = ledger_put b m _ _ _ is puts refl kept last ∙ ap (put (ledger_of b)) (sym filled_is) ∙ step;
    chunks = chunks;
    account = same.account;
    moves = moves s agrees;
    keeps = λ at p r k live again below short. refl;
  }

-- the ledger's step, by what is compared
pub emptied_is : (b : Books) (region : ℕ) (old : Block) → IsKept b → block_at b.blocks region ≡ Some old
    → emptied (ledger_of b) (number_of b.blocks region) ≡ (if region == b.blocks.keeper then put (ledger_of b) (filled (ledger_of b) (number_of b.blocks region)) else (if b.current == region then put (ledger_of b) (filled (ledger_of b) (number_of b.blocks region)) else emptied_other (ledger_of b).spare (ledger_of b) (number_of b.blocks region)))
unfolding emptied
emptied_is b region old kept is = rw (keeper_test b.blocks region kept.keeper.block old kept.numbered kept.keeper.is is, same_test b.blocks b.current region kept.current.block old kept.numbered kept.current.is is) refl

-- the block goes back
pub rearranges_drop : (b : Books) (m : Layout) (region : ℕ) (old : Block) (s t : Space) (ledger : GenerationLedger) → IsKept b → block_at b.blocks region ≡ Some old → old.live ≡ 0 → region ≢ b.blocks.keeper → region ≢ b.current → is_spare b.spare region ≡ false → SameContext b.blocks m → m.last_number ≡ b.blocks.last_number → DropsBlock b.blocks m region → m.chunks ≡ b.blocks.chunks → Moves (footprint b.blocks) (footprint m) s t → Keeps (footprint b.blocks) (footprint m) s t
    → given (ledger_of b) (number_of b.blocks region) ≡ ledger → Rearranges b (record b { blocks = m }) s t ledger
rearranges_drop b m region old s t ledger kept is none not_keeper not_current free same last drops chunks moves keeps step = record {
  kept = kept_but b m region kept same (drop_other b.blocks m region drops) (λ k bytes which. size_drop b.blocks m region drops k bytes (grind (arith, which))) (numbered_drop _ _ _ _ is drops not_keeper kept.numbered same last) free (were_still b.blocks m b.current _ chunks kept.alone (λ other there. grind arith));
  ledger_is = ledger_drop b m region old is drops not_current (apart_spare b.spare region free) kept last ∙ step;
  chunks = chunks;
  account = same.account;
  moves = moves;
  keeps = keeps;
}

-- the block with a chunk less
abbrev pub less_of : GenerationLedger → ℕ → Block
less_of l number = record (block_in l number) { live = (block_in l number).live - 1; freed = (block_in l number).freed + 1 }

module _ (l : GenerationLedger) (block : Block) (is : find (λ b. b.number == block.number) l.blocks ≡ Some block) where
  here : block_in l block.number ≡ block
  here = ap (λ (o : Option Block). unwrap_or o no_block) is

  numbers : (less_of l block.number).number ≡ block.number
  numbers = ap (λ (x : Block). x.number) here

  less_found : block_in (lessened l block.number) block.number ≡ less_of l block.number
  unfolding lessened
  less_found = ap (block_in (lessened l block.number)) (sym numbers) ∙ ap (λ (o : Option Block). unwrap_or o no_block) (put_found (less_of l block.number) l.blocks block (rw numbers is))

  filled_less : put (lessened l block.number) (filled (lessened l block.number) block.number) ≡ put l (filled l block.number)
  unfolding lessened
  filled_less = rw less_found (ap (λ (bs : List Block). record l { blocks = bs }) (put_twice (less_of l block.number) (filled l block.number) l.blocks numbers))

  pub given_less : given (lessened l block.number) block.number ≡ given l block.number
  unfolding lessened
  given_less = ap (λ (bs : List Block). record l { blocks = bs }) (put_away (less_of l block.number) block.number l.blocks numbers)

  other_less : (spare : Option ℕ) → emptied_other spare (lessened l block.number) block.number ≡ emptied_other spare l block.number
  other_less x0 = grind (arith, nat_tests, filled_less, given_less)

  -- it is empty, as the block before
  pub emptied_less : emptied (lessened l block.number) block.number ≡ emptied l block.number
  unfolding emptied lessened
  emptied_less = rw (filled_less, other_less l.spare) refl
