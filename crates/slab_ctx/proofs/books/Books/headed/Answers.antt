use Rattle.slab_ctx.proofs.Words.{◌≡◌, ◌+◌, ap, subst, arith, AllOfKind, Slab, Chunk, from_live, stride}
use Rattle.slab_ctx.proofs.Lemmas.{stride_least, AllOfKind-full, TakesSpace-full}
use Rattle.ctx_blocks.specs.Layout.{footprint as footprint_of}
use Rattle.slab_ctx.proofs.books.Books.headed.Goals as goal

pub returns-clause-kinds : goal.returns-clause-kinds
returns-clause-kinds c =
    let s = c.args.self.now.slots in
    AllOfKind-full s.size s.blocks Slab (subst (λ k. AllOfKind k (footprint_of s.blocks)) c.requires.slots.kind c.headed.ensures.kind)

pub returns-clause-spaces : goal.returns-clause-spaces
returns-clause-spaces c = λ at size live.
    let s = c.args.self.now.slots in
    let had = from_live s.blocks at size live in
    let is = c.requires.slots.chunk at had.0 had.1 in
    let room : had.0.room + 8 ≡ stride s.size = omega (arith, ap (λ (x : Chunk). x.room) is, stride_least s.size) in
    TakesSpace-full s.size s.blocks at (stride s.size) (rw room at (c.headed.ensures.shared at had.0 had.1 (ap (λ (x : Chunk). x.own) is)))
