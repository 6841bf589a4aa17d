use Rattle.ctx_blocks.proofs.Base.{layout_of}
use Rattle.ctx_blocks.proofs.Lemmas.{AllHeaded-laid, AllOfKind-laid, takes-own, takes-shared}
use Rattle.ctx_blocks.proofs.Blocks.headed.Goals as goal

pub returns : goal.returns
returns c =
    let l = layout_of c.self.inside.books in
    let laid = c.self.invariant.laid in
    let is = rw (← c.self.view_is) at c.requires in
    rw (← c.self.view_is) (record {
      headed = AllHeaded-laid l laid is;
      kind = AllOfKind-laid l laid is;
      shared = takes-shared l laid is;
      own = λ at chunk block there own found. takes-own l laid is at chunk there block own found;
    })
