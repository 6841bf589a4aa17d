use Rattle.generation_ctx.proofs.Words.{refl}
use Rattle.generation_ctx.proofs.Lemmas.{rearranges_drop}
use Rattle.generation_ctx.proofs.books.Books.set_aside.Goals as goal

pub returns-in-Some-clause-rearranges : goal.returns-in-Some-clause-rearranges
returns-in-Some-clause-rearranges c =
    let g = c.give.ensures in
    let idle = c.requires.idle in
    rearranges_drop _ _ _ _ _ _ _ c.requires.kept idle.is idle.live idle.not_keeper idle.not_current c.requires.other g.same g.last g.block g.chunks g.moves g.keeps (rw c.in-Some.is refl)
