use Rattle.slab_ctx.proofs.Words.{◌≡◌, ◌-◌, ap, ◌∙◌, arith, refl, Books}
use Rattle.slab_ctx.proofs.Lemmas.{free-least, kept-dropped, blocks-dropped}
use Rattle.slab_ctx.specs.Ledger.{per_block, is_empty}
use Rattle.slab_ctx.proofs.books.Books.settle.Goals as goal

pub overflow_sub-self : goal.overflow_sub-self
overflow_sub-self c =
    let k = c.requires.kept in
    omega (arith, c.if-live-gt0.false, c.requires.live k.0 k.1, c.from.ensures, c.per_block.ensures.value, ap per_block c.give.ensures.size, free-least c.args.self.now (is_empty k.0.live) c.args.number k.2 c.requires.not_keeper k.0 k.1)

pub returns-clause-kept : goal.returns-clause-kept
returns-clause-kept c =
    let b = c.args.self.now in
    let k = c.requires.kept in
    let g = c.give.ensures in
    let empty : k.0.live ≡ 0 = omega (arith, c.if-live-gt0.false, c.requires.live k.0 k.1) in
    let n : Books = record { slots = c.give.new.self; empty = b.empty; free = b.free - c.from.result; ranks = c.remove.new.self } in
    kept-dropped b n (is_empty k.0.live) c.args.number k.2 g.slots g.size g.same c.requires.not_keeper k.0 k.1 empty (ap is_empty empty) g.block g.last g.total refl (ap (λ x. b.free - x) (c.from.ensures ∙ c.per_block.ensures.value ∙ ap per_block g.size)) c.remove.ensures.ranked c.remove.ensures.at

pub returns-clause-blocks : goal.returns-clause-blocks
returns-clause-blocks c = λ block found.
    let l = c.args.self.now.slots.blocks in
    let none : block.live ≡ 0 = omega (arith, c.if-live-gt0.false, c.requires.live block found) in
    let gone = blocks-dropped l c.requires.kept.2.listed c.args.number c.requires.not_keeper c.give.new.self.blocks c.give.ensures.same c.give.ensures.block block found in
    gone ∙ grind (arith, none, c.if-self-lt-MOST_EMPTY.false)
