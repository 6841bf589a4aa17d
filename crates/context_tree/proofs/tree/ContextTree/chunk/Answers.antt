use Rattle.context_tree.proofs.Base.{◌≡◌, None, sym, ◌∙◌, subst, get}
use Rattle.context_tree.proofs.Words.{found, same, TreeState, stands_for, Leads, if_some}
use Rattle.context_tree.proofs.Lemmas.{find_nothing, leads}
use Rattle.context_tree.proofs.tree.ContextTree.chunk.Goals as goal

pub returns-clause-none : goal.returns-clause-none
unfolding stands_for
returns-clause-none g c none s =
    let maps : c.copied.result ≡ get same c.self.inside.chunk_names c.args.name.now =
    c.copied.ensures ∙ c.get.ensures.value in
    subst (λ (t : TreeState). found c.args.name.now (stands_for t s) ≡ None) c.self.view_is (find_nothing _ _ _ _ _ _ _ _ c.self.invariant s c.args.name.now (sym maps ∙ none))

pub returns-clause-some : goal.returns-clause-some
returns-clause-some g c =
    let maps : c.copied.result ≡ get same c.self.inside.chunk_names c.args.name.now =
    c.copied.ensures ∙ c.get.ensures.value in
    if_some c.copied.result (λ id is. subst (λ (t : TreeState). Leads t c.args.name.now id) c.self.view_is (leads _ _ _ _ _ _ _ _ c.self.inside.account c.self.invariant c.args.name.now id (sym maps ∙ is)))
