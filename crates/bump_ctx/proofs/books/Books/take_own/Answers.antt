use Rattle.std.proofs.Common.{◌≡◌, ◌+◌, ◌-◌, Some, true, refl, ap, sym, ◌∙◌, arith}
use Rattle.addr_space.proofs.Steps.{Moves-more, Keeps-more}
use Rattle.ctx_blocks.specs.Layout.{block_at, header_room, gap_of, footprint}
use Rattle.ctx_blocks.specs.declared.parts.Block.{Block}
use Rattle.bump_ctx.specs.Kept.{ledger_of}
use Rattle.ctx_blocks.proofs.Changed.{put_here, live_put, fresh_put, same_live, puts_same, stays_live}
use Rattle.ctx_blocks.specs.Steps.{PutsChunk}
use Rattle.ctx_blocks.specs.declared.parts.Chunk.{Chunk}
use Rattle.bump_ctx.specs.Ledger.{served, with_own, take_own}
use Rattle.bump_ctx.proofs.Allocated.{place_put}
use Rattle.bump_ctx.proofs.Kepts.{kept_more, kept_same}
use Rattle.bump_ctx.proofs.Ledgers.{ledger_own}
use Rattle.bump_ctx.proofs.books.Books.take_own.Goals as goal

pub returns-clause-ok : goal.returns-clause-ok
unfolding take_own
returns-clause-ok c =
    let b = c.args.self.now in
    let m = c.add.new.self in
    let n = c.cut.new.self in
    let s = c.args.space.now in
    let e = c.in_ok-number.ensures in
    let number = c.in_ok-number.number in
    let room = c.granted-room.result in
    let gap : header_room m ≡ 0 = ap gap_of (e.same.kind ∙ c.requires.kept.kind) in
    let first : Block = record { number = b.blocks.last_number + 1; size = room + 40; room = room + 40 - 40; live = 0; freed = 0 } in
    let last : Block = record first { room = first.room - (header_room m + room); live = 0 + 1 } in
    let here : block_at m number ≡ Some first = put_here b.blocks m number first e.block in
    let again = c.cut.ensures.block first here in
    let chunk : Chunk = record { size = c.args.size; room = room; own = true } in
    let put : PutsChunk b.blocks n c.cut.result (Some chunk) = puts_same b.blocks m n c.cut.result (Some chunk) e.chunks c.cut.ensures.chunk in
    let none : last.room ≡ 0 = omega (arith, gap) in
    rw (← c.granted-room.ensures.value) (record {
      kept = kept_same (record b { blocks = m }) n _ _ (kept_more b m _ _ c.requires.kept e.same e.block e.fresh) c.cut.ensures.same again first here refl;
      answer = served (with_own (ledger_of b) (room + 40)) (room + 40);
      is = grind (arith, e.fits);
      ledger = ledger_own b m n _ _ _ c.requires.kept e.block again e.fresh refl none e.total;
      place = place_put b.blocks n c.cut.result chunk put;
      asked = c.cut.ensures.asked ∙ e.asked;
      fresh = sym (same_live b.blocks m e.chunks c.cut.result) ∙ fresh_put m c.cut.result c.cut.ensures.fresh;
      live = live_put b.blocks n c.cut.result (Some chunk) put;
      moves = Moves-more (footprint b.blocks) (footprint m) (footprint n) s c.add.new.space c.cut.new.space e.moves c.cut.ensures.moves;
      keeps = Keeps-more (footprint b.blocks) (footprint m) (footprint n) s c.add.new.space c.cut.new.space (stays_live b.blocks m e.chunks) e.keeps c.cut.ensures.keeps;
    })
