-- What calls make of the ledger.
use Rattle.std.proofs.Common.{◌≡◌, ◌≢◌, ℕ, ◌+◌, ◌-◌, ◌*◌, min, Some, None, length, arith, ◌∙◌, ap}
use Rattle.ctx_blocks.specs.Layout.{Layout, block_at, total, rooms}
use Rattle.ctx_blocks.specs.Steps.{PutsBlock}
use Rattle.ctx_blocks.specs.declared.parts.Block.{Block}
use Rattle.bump_ctx.specs.Ledger.{cut_off, renewed, with_own}
use Rattle.bump_ctx.specs.Kept.{ledger_of, room_of, room_at, IsKept}
use Rattle.bump_ctx.specs.declared.books.Books.{Books}
use Rattle.ctx_blocks.proofs.Totals.{total-same, rooms-same, length-same, rooms-more, length-more, room_within}
use Rattle.ctx_blocks.proofs.Changed.{put_here, put_other}

-- a chunk is cut off the newest block
pub ledger_cut : (b : Books) (m : Layout) (old new : Block) (room : ℕ) → PutsBlock b.blocks m b.newest new → block_at b.blocks b.newest ≡ Some old → new.size ≡ old.size → new.room + room ≡ old.room → ledger_of (record b { blocks = m }) ≡ cut_off (ledger_of b) room
unfolding cut_off
ledger_cut b m old new room puts is size less =
    let l = b.blocks in
    let before : room_at l b.newest ≡ old.room = ap room_of is in
    let after : room_at m b.newest ≡ new.room = ap room_of (put_here l m b.newest new puts) in
    let within = room_within l b.newest old is in
    let sums = rooms-same l m b.newest new puts old is in
    let all : total m ≡ total l = omega (arith, total-same l m b.newest new puts old is, size) in
    let cut : room_at m b.newest ≡ room_at l b.newest - room = omega (arith, before, after, less) in
    let idle : rooms m - room_at m b.newest ≡ rooms l - room_at l b.newest = omega (arith, before, after, less, sums, within) in
    let count = length-same l m b.newest new puts old is in
    cc

-- a new block is the newest one
pub ledger_renewed : (b : Books) (m : Layout) (number : ℕ) (new : Block) (next : ℕ) → IsKept b → PutsBlock b.blocks m number new → block_at b.blocks number ≡ None → new.room ≡ new.size - 40 → total m ≡ total b.blocks + new.size → next ≡ min (2 * b.next) b.sizes.max → ledger_of (record b { next = next; newest = number; blocks = m }) ≡ renewed (ledger_of b) new.size
unfolding renewed
ledger_renewed b m number new next kept puts fresh room all doubled =
    let l = b.blocks in
    let before : room_at l b.newest ≡ kept.newest.block.room = ap room_of kept.newest.is in
    let after : room_at m number ≡ new.room = ap room_of (put_here l m number new puts) in
    let within = room_within l b.newest kept.newest.block kept.newest.is in
    let sums = rooms-more l m number new puts fresh in
    let whole : room_at m number ≡ new.size - 40 = after ∙ room in
    let idle : rooms m - room_at m number ≡ rooms l - room_at l b.newest + room_at l b.newest = omega (arith, before, after, sums, within) in
    let count = length-more l m number new puts fresh in
    cc

-- one chunk has a block
pub ledger_own : (b : Books) (m n : Layout) (number : ℕ) (first last : Block) → IsKept b → PutsBlock b.blocks m number first → PutsBlock m n number last → block_at b.blocks number ≡ None → last.size ≡ first.size → last.room ≡ 0 → total m ≡ total b.blocks + first.size → ledger_of (record b { blocks = n }) ≡ with_own (ledger_of b) first.size
unfolding with_own
ledger_own b m n number first last kept puts again fresh size room more =
    let l = b.blocks in
    let here : block_at m number ≡ Some first = put_here l m number first puts in
    let other : number ≢ b.newest = λ e. (let none = rw e at fresh in let some = kept.newest.is in cc) in
    let same : room_at n b.newest ≡ room_at l b.newest = ap room_of (put_other m n number last again b.newest other ∙ put_other l m number first puts b.newest other) in
    let added = rooms-more l m number first puts fresh in
    let cut = rooms-same m n number last again first here in
    let all : total n ≡ total l + first.size = omega (arith, total-same m n number last again first here, size, more) in
    let idle : rooms n - room_at n b.newest ≡ rooms l - room_at l b.newest = omega (arith, same, added, cut, room) in
    let count : length n.blocks ≡ length l.blocks + 1 = length-same m n number last again first here ∙ length-more l m number first puts fresh in
    cc
