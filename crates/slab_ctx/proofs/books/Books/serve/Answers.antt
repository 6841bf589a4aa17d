use Rattle.slab_ctx.proofs.Words.{◌≡◌, ◌+◌, ◌++◌, ℕ, [], ◌∷◌, Some, option_map, ap, ◌∙◌, arith, refl, Moves-more, Keeps-more, Block, number_is, numbers_among, numbers_stay, puts_same, stays_live, SlabLedger, serving, serve, with_live, blocks_of, others, chunk_of}
use Rattle.slab_ctx.proofs.Lemmas.{Moves-full, ledger-parts, live-last}
use Rattle.ctx_blocks.specs.Layout.{footprint as footprint_of}
use Rattle.slab_ctx.specs.Ledger.{per_block}
use Rattle.slab_ctx.proofs.books.Books.serve.Goals as goal

pub returns-in-Some-clause-ok : goal.returns-in-Some-clause-ok
unfolding serve
returns-in-Some-clause-ok c =
    let b = c.args.self.now in
    let l = b.slots.blocks in
    let n = c.take.new.self in
    let m = n.slots.blocks in
    let chosen = c.in-Some.ensures.some in
    let picked : serving (per_block b.slots.size) (blocks_of l) ≡ Some (record { number = chosen.block.number; live = chosen.block.live }) = c.in-Some.ensures.serving ∙ ap (option_map (λ (x : Block). record { number = x.number; live = x.live })) chosen.found in
    let after : SlabLedger = record { size = b.slots.size; count = l.last_number; blocks = with_live (blocks_of l) chosen.block.number (chosen.block.live + 1) } in
    record {
      answer = record { ledger = after; place = chosen.block.number; asked = 0 };
      is = rw picked refl;
      does = record {
        kept = c.take.ensures.kept;
        ledger = ledger-parts n b.slots.size l.last_number after.blocks c.take.ensures.size c.take.ensures.last (c.take.ensures.blocks chosen.block chosen.found);
        fresh = c.take.ensures.fresh;
        chunk = c.take.ensures.chunk;
        number = c.take.ensures.number ∙ number_is l c.in-Some.number chosen.block chosen.found;
        numbers = numbers_among l m c.take.ensures.among;
        asked = c.take.ensures.asked;
        moves = Moves-full b.slots.size n.slots.size l m n.slots.stacks.entries c.args.space.now c.take.new.space c.take.ensures.size c.take.ensures.kept.slots c.take.ensures.moves;
        keeps = c.take.ensures.keeps;
      };
    }

pub returns-clause-ok : goal.returns-clause-ok
unfolding serve
returns-clause-ok c =
    let b = c.args.self.now in
    let l = b.slots.blocks in
    let k = c.add.new.self.slots.blocks in
    let n = c.take-2.new.self in
    let m = n.slots.blocks in
    let e = c.in_ok-number.ensures in
    let t = c.take-2.ensures in
    let next : ℕ = l.last_number + 1 in
    let block : Block = record { number = next; size = 8192; room = 8152; live = 0; freed = 0 } in
    let last = live-last 1 l.last_number next (others l.blocks) (omega arith) c.requires.kept.listed.rising in
    let sizes = t.size ∙ c.add.ensures.size in
    let moves = Moves-more (footprint_of l) (footprint_of k) (footprint_of m) c.args.space.now c.add.new.space c.take-2.new.space e.moves t.moves in
    record {
      answer = record { ledger = record { size = b.slots.size; count = next; blocks = blocks_of l ++ record { number = next; live = 1 } ∷ [] }; place = next; asked = 8192 };
      is = rw c.in_default.ensures.serving (grind (arith, e.fits));
      does = record {
        kept = t.kept;
        ledger = ledger-parts n b.slots.size next (blocks_of l ++ record { number = next; live = 1 } ∷ []) sizes (t.last ∙ e.last) (t.blocks block e.block ∙ rw e.blocks last);
        fresh = rw (← e.chunks) t.fresh;
        chunk = rw (← c.add.ensures.size) (puts_same l k m c.take-2.result (Some (chunk_of c.add.new.self.slots.size)) e.chunks t.chunk);
        number = t.number ∙ number_is k c.in_ok-number.number block e.block;
        numbers = numbers_stay l k m e.among t.among;
        asked = t.asked ∙ e.asked;
        moves = Moves-full b.slots.size n.slots.size l m n.slots.stacks.entries c.args.space.now c.take-2.new.space sizes t.kept.slots moves;
        keeps = Keeps-more (footprint_of l) (footprint_of k) (footprint_of m) c.args.space.now c.add.new.space c.take-2.new.space (stays_live l k e.chunks) e.keeps t.keeps;
      };
    }
