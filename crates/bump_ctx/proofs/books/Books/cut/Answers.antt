use Rattle.std.proofs.Common.{◌≡◌, ◌+◌, ◌-◌, Some, refl, ap, arith, false}
use Rattle.ctx_blocks.specs.Layout.{header_room, gap_of}
use Rattle.ctx_blocks.specs.declared.parts.Block.{Block}
use Rattle.bump_ctx.specs.Kept.{ledger_of, room_at, room_of}
use Rattle.ctx_blocks.specs.declared.parts.Chunk.{Chunk}
use Rattle.bump_ctx.specs.Ledger.{cut_off, served}
use Rattle.bump_ctx.proofs.Allocated.{place_put}
use Rattle.bump_ctx.proofs.Kepts.{kept_same}
use Rattle.bump_ctx.proofs.Ledgers.{ledger_cut}
use Rattle.ctx_blocks.proofs.Changed.{live_put, fresh_put}
use Rattle.bump_ctx.proofs.books.Books.cut.Goals as goal

pub returns : goal.returns
returns c =
    let b = c.args.self.now in
    let kept = c.requires.kept in
    let old = kept.newest.block in
    let is = kept.newest.is in
    let gap : header_room b.blocks ≡ 0 = ap gap_of kept.kind in
    let room : room_at b.blocks b.newest ≡ old.room = ap room_of is in
    let new : Block = record old { room = old.room - (header_room b.blocks + c.args.room); live = old.live + 1 } in
    let chunk : Chunk = record { size = c.args.size; room = c.args.room; own = false } in
    let put = c.cut.ensures.chunk in
    let puts = c.cut.ensures.block old is in
    record {
      kept = kept_same b c.cut.new.self b.newest new kept c.cut.ensures.same puts old is refl;
      answer = served (cut_off (ledger_of b) c.args.room) 0;
      is = refl;
      ledger = ledger_cut b c.cut.new.self old new c.args.room puts is refl (omega (arith, gap, room, c.requires.room));
      place = place_put b.blocks c.cut.new.self c.cut.result chunk put;
      asked = c.cut.ensures.asked;
      fresh = fresh_put b.blocks c.cut.result c.cut.ensures.fresh;
      live = live_put b.blocks c.cut.new.self c.cut.result (Some chunk) put;
      moves = c.cut.ensures.moves;
      keeps = c.cut.ensures.keeps;
    }
