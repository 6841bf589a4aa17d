use Rattle.generation_ctx.proofs.Words.{◌≡◌, ◌+◌, ◌-◌, subst, arith, inl, inr, cases_Bool, TakesSpace, AllOfKind, footprint}
use Rattle.generation_ctx.proofs.books.Books.headed.Goals as goal

pub returns-clause-spaces : goal.returns-clause-spaces
returns-clause-spaces c = λ at chunk there. elim (cases_Bool chunk.own) [
  | inl own ↦
      let a = c.requires.alone at chunk there own in
      let it : a.block.size - 40 ≡ chunk.room + 8 = omega (arith, a.whole) in
      subst (TakesSpace (footprint c.args.self.now.blocks) at) it (c.headed.ensures.own at chunk a.block there own a.is)
  | inr shared ↦ c.headed.ensures.shared at chunk there shared
]

pub returns-clause-kinds : goal.returns-clause-kinds
returns-clause-kinds c = subst (λ k. AllOfKind k (footprint c.args.self.now.blocks)) c.requires.kind c.headed.ensures.kind
