use Rattle.slab_ctx.proofs.Words.{◌+◌, ap, ◌∙◌, arith, refl, block_at, Block, put_here, one_value, per_block, numbered_of, Books}
use Rattle.slab_ctx.proofs.Lemmas.{free-small, empty-small, kept-added, map-added}
use Rattle.slab_ctx.proofs.books.Books.add.Goals as goal
use Rattle.slab_ctx.proofs.books.Books.add.Goals.{In_ok-number}

pub overflow_add-self : goal.overflow_add-self
overflow_add-self c = omega (arith, empty-small c.args.self.now 0 c.requires.kept)

pub overflow_add-self-2 : goal.overflow_add-self-2
overflow_add-self-2 c = omega (arith, free-small c.args.self.now 0 c.requires.kept, c.from.ensures, c.per_block-per.ensures.most)

new : In_ok-number → Block
new c = record { number = c.args.self.now.slots.blocks.last_number + 1; size = 8192; room = 8152; live = 0; freed = 0 }

pub returns-clause-kept : goal.returns-clause-kept
unfolding new
returns-clause-kept c =
    let b = c.args.self.now in
    let e = c.in_ok-number.ensures in
    let n : Books = record { slots = c.add.new.self; empty = b.empty + 1; free = b.free + c.from.result; ranks = c.put.new.self } in
    let block = new (goal.at.returns-clause-kept c).In_ok-number in
    let per = c.per_block-per.ensures.value ∙ ap per_block c.add.ensures.size in
    let is = one_value (block_at c.add.new.self.blocks c.in_ok-number.number) c.owned-block.result block c.owned-block.ensures (put_here b.slots.blocks c.add.new.self.blocks c.in_ok-number.number block e.block) in
    kept-added b n 0 c.in_ok-number.number c.requires.kept c.add.ensures.slots c.add.ensures.size e.same e.not_keeper block refl e.fresh e.block refl e.last refl e.total e.most refl
    (ap (λ x. b.free + x) (c.from.ensures ∙ per))
    c.put.ensures.ranked (rw (c.make_room.ensures.same, c.rank.ensures, per, is) at c.put.ensures.at)

pub returns-clause-blocks : goal.returns-clause-blocks
unfolding new
returns-clause-blocks c =
    let e = c.in_ok-number.ensures in
    map-added c.args.self.now.slots.blocks c.requires.kept.listed c.in_ok-number.number e.not_keeper c.add.new.self.blocks e.same (new (goal.at.returns-clause-blocks c).In_ok-number) e.block numbered_of e.fresh
