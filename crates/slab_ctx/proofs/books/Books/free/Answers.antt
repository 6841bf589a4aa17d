use Rattle.slab_ctx.proofs.Words.{◌≡◌, ◌+◌, ◌-◌, ap, sym, ◌∙◌, arith, refl, Moves-more, block_at, among_put, among_more, number_is, empties, give, blocks_of, others, ledger_of, Books, one_value, Keeps-then, put_here, stays_live}
use Rattle.slab_ctx.proofs.Lemmas.{free-small, Agrees_plain, Moves-full, freed-is, find-other, live_is, sums_are, chunks-few, kept-changed, blocks-counted, ledger-parts}
use Rattle.ctx_blocks.specs.Layout.{footprint as footprint_of}
use Rattle.slab_ctx.specs.Ledger.{is_empty}
use Rattle.slab_ctx.proofs.books.Books.free.Goals as goal

pub overflow_add-self : goal.overflow_add-self
overflow_add-self c = omega (arith, free-small c.args.self.now 0 c.requires.kept)

pub settle-requires-clause-kept : goal.settle-requires-clause-kept
settle-requires-clause-kept c =
    let b = c.args.self.now in
    let l = b.slots.blocks in
    let number = c.args.at.region in
    let had = c.remove-was.ensures.block in
    let block = had.0 in
    let counts = had.3 in
    let differs = c.remove-was.ensures.not_keeper in
    let n : Books = record { slots = c.remove-was.new.self; empty = b.empty; free = b.free + 1; ranks = c.put.new.self } in
    let few = chunks-few l b.slots.size b.slots.stacks.entries c.requires.kept.slots number differs block had.1 in
    let was = one_value (block_at l number) c.remove-was.result block c.remove-was.ensures.was had.1 in (
      counts.block,
      put_here _ _ _ _ counts.puts,
      kept-changed b n 0 number c.requires.kept c.remove-was.ensures.slots c.remove-was.ensures.size c.remove-was.ensures.same differs block had.1 (block.live - 1) counts (is_empty counts.block.live) c.remove-was.ensures.last
          (grind (arith, counts.count, had.2)) (omega (arith, few, had.2))
          c.put.ensures.ranked (rw (c.rank.ensures, c.per_block-per.ensures.value, c.remove-was.ensures.size, was, ← counts.count, ← counts.same_number block had.1) at c.put.ensures.at),
    )

pub settle-requires-clause-agrees : goal.settle-requires-clause-agrees
settle-requires-clause-agrees c =
    (c.remove-was.ensures.moves c.args.space.now (Agrees_plain c.args.self.now.slots.size c.args.self.now.slots.blocks c.args.space.now c.requires.agrees)).agrees

pub returns-clause-ledger : goal.returns-clause-ledger
returns-clause-ledger c =
    let b = c.args.self.now in
    let l = b.slots.blocks in
    let k = c.settle.new.self in
    let number = c.args.at.region in
    let had = c.remove-was.ensures.block in
    let block = had.0 in
    let counts = had.3 in
    let differs = c.remove-was.ensures.not_keeper in
    let n : Books = record { slots = c.remove-was.new.self; empty = b.empty; free = b.free + 1; ranks = c.put.new.self } in
    let mid = blocks-counted b n 0 number c.requires.kept c.remove-was.ensures.slots c.remove-was.ensures.size c.remove-was.ensures.same differs block had.1 (block.live - 1) counts in
    let live = live_is 1 l.last_number number (others l.blocks) block c.requires.kept.listed.rising (find-other l c.requires.kept.listed number differs ∙ had.1) in
    let after = c.settle.ensures.blocks counts.block (put_here _ _ _ _ counts.puts) in
    let empty : b.empty ≡ empties (blocks_of l) = omega (arith, c.requires.kept.empty, sums_are is_empty (others l.blocks)) in
    ledger-parts k b.slots.size l.last_number (blocks_of k.slots.blocks) (c.settle.ensures.size ∙ c.remove-was.ensures.size) (c.settle.ensures.last ∙ c.remove-was.ensures.last) refl
    ∙ freed-is (ledger_of b) block.number counts.block.number block.live counts.block.live b.empty (blocks_of c.remove-was.new.self.blocks) (blocks_of k.slots.blocks) live had.2 counts.count mid (counts.same_number block had.1) empty after
    ∙ ap (give (ledger_of b)) (sym (number_is l number block had.1))

pub returns-clause-among : goal.returns-clause-among
returns-clause-among c =
    let had = c.remove-was.ensures.block in
    among_more c.settle.new.self.slots.blocks c.remove-was.new.self.blocks c.args.self.now.slots.blocks c.settle.ensures.among (among_put _ _ _ _ _ had.1 had.3.puts (had.3.same_number _ had.1))

pub returns-clause-moves : goal.returns-clause-moves
returns-clause-moves c =
    let b = c.args.self.now in
    let l = b.slots.blocks in
    let m = c.remove-was.new.self.blocks in
    let n = c.settle.new.self in
    let still = c.remove-was.ensures.moves c.args.space.now (Agrees_plain b.slots.size l c.args.space.now c.requires.agrees) in
    let both = Moves-more (footprint_of l) (footprint_of m) (footprint_of n.slots.blocks) c.args.space.now c.args.space.now c.settle.new.space still c.settle.ensures.moves in
    Moves-full b.slots.size n.slots.size l n.slots.blocks n.slots.stacks.entries c.args.space.now c.settle.new.space (c.settle.ensures.size ∙ c.remove-was.ensures.size) c.settle.ensures.kept.slots both

pub returns-clause-keeps : goal.returns-clause-keeps
returns-clause-keeps c =
    let l = c.args.self.now.slots.blocks in
    let m = c.remove-was.new.self.blocks in
    let n = c.settle.new.self.slots.blocks in
    Keeps-then (footprint_of l) (footprint_of m) (footprint_of n) c.args.space.now c.args.space.now c.settle.new.space (stays_live n m (sym c.settle.ensures.chunks)) (λ at x y k live again below short. refl) c.settle.ensures.keeps
