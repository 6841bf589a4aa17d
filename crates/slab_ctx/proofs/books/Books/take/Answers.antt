use Rattle.slab_ctx.proofs.Words.{◌≡◌, refl, ◌<◌, ◌+◌, ◌-◌, ap, ◌∙◌, arith, block_at, per_block, Books, one_value, number_put, among_put, rank_of}
use Rattle.slab_ctx.proofs.Lemmas.{per_block-few, empty-least, free-least, kept-changed, blocks-counted}
use Rattle.ctx_blocks.specs.Numbered.{number_of}
use Rattle.slab_ctx.proofs.books.Books.take.Goals as goal
use Rattle.slab_ctx.proofs.books.Books.take.Goals.{After-owned-block}

under : (c : After-owned-block) → c.owned-block.result.live < per_block c.args.self.now.slots.size
under c = rw (one_value (block_at c.args.self.now.slots.blocks c.args.number) c.owned-block.result c.requires.block.0 c.owned-block.ensures c.requires.block.1) c.requires.block.2

pub overflow_add-live : goal.overflow_add-live
overflow_add-live c = omega (arith, under (goal.at.overflow_add-live c).After-owned-block, per_block-few c.args.self.now.slots.size c.requires.kept.slots.least)

pub take-requires-clause-free : goal.take-requires-clause-free
take-requires-clause-free c = under (goal.at.take-requires-clause-free c).After-owned-block

pub overflow_sub-self : goal.overflow_sub-self
overflow_sub-self c = omega (arith, c.one_if_empty.ensures, empty-least c.args.self.now 0 c.args.number c.requires.kept c.requires.not_keeper c.owned-block.result c.owned-block.ensures)

pub overflow_sub-self-2 : goal.overflow_sub-self-2
overflow_sub-self-2 c =
    omega (arith, c.requires.block.2, free-least c.args.self.now 0 c.args.number c.requires.kept c.requires.not_keeper c.requires.block.0 c.requires.block.1)

pub returns-clause-kept : goal.returns-clause-kept
returns-clause-kept c =
    let b = c.args.self.now in
    let block = c.owned-block.result in
    let found = c.owned-block.ensures in
    let counts = c.take.ensures.block block found in
    let n : Books = record { slots = c.take.new.self; empty = b.empty - c.one_if_empty.result; free = b.free - 1; ranks = c.put.new.self } in
    let empty = empty-least b 0 c.args.number c.requires.kept c.requires.not_keeper block found in
    let rank : c.rank.result ≡ rank_of (per_block b.slots.size) counts.block = c.rank.ensures ∙ rw (c.per_block.ensures.value, counts.count, counts.same_number block found) refl in
    let free = free-least b 0 c.args.number c.requires.kept c.requires.not_keeper block found in
    kept-changed b n 0 c.args.number c.requires.kept c.take.ensures.slots c.take.ensures.size c.take.ensures.same c.requires.not_keeper block found (block.live + 1) counts 0 c.take.ensures.last
    (grind (arith, empty, c.one_if_empty.ensures))
    (omega (arith, free, under (goal.at.returns-clause-kept c).After-owned-block))
    c.put.ensures.ranked (rw rank at c.put.ensures.at)

pub returns-clause-blocks : goal.returns-clause-blocks
returns-clause-blocks c = λ block found.
    let b = c.args.self.now in
    let n : Books = record { slots = c.take.new.self; empty = 0; free = 0; ranks = b.ranks } in
    blocks-counted b n 0 c.args.number c.requires.kept c.take.ensures.slots c.take.ensures.size c.take.ensures.same c.requires.not_keeper block found (block.live + 1) (c.take.ensures.block block found)

pub returns-clause-number : goal.returns-clause-number
returns-clause-number c =
    let found = c.requires.block.1 in
    let counts = c.take.ensures.block _ found in
    ap (number_of c.take.new.self.blocks) c.take.ensures.region ∙ number_put _ _ _ _ _ found counts.puts (counts.same_number _ found) c.args.number

pub returns-clause-among : goal.returns-clause-among
returns-clause-among c =
    let found = c.requires.block.1 in
    let counts = c.take.ensures.block _ found in
    among_put _ _ _ _ _ found counts.puts (counts.same_number _ found)
