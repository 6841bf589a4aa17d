use Rattle.context_tree.proofs.Base.{◌≡◌, sym, ap, ◌∙◌, get, nat_tests, arith}
use Rattle.context_tree.proofs.Words.{at, same, TreeState, stands_for, if_some}
use Rattle.context_tree.proofs.Lemmas.{find_named}
use Rattle.context_tree.proofs.tree.ContextTree.find.Goals as goal

pub returns-clause-some : goal.returns-clause-some
unfolding stands_for
returns-clause-some g c s = grind (arith, nat_tests, c.copied.ensures, c.get.ensures.value, find_named _ _ _ _ _ _ _ _ c.self.invariant s c.args.name.now, c.self.view_is)

pub returns-clause-live : goal.returns-clause-live
returns-clause-live g c =
    let maps : c.copied.result ≡ get same c.self.inside.names c.args.name.now =
    c.copied.ensures ∙ c.get.ensures.value in
    if_some c.copied.result (λ id found. ap (λ (t : TreeState). at id.number t.places) (sym c.self.view_is) ∙ (c.self.invariant.named c.args.name.now id (sym maps ∙ found)).placed)
