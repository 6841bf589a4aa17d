use Rattle.context_tree.proofs.Base.{◌≡◌, [], sym, subst}
use Rattle.context_tree.proofs.Words.{TreeState, stands_for, Agrees}
use Rattle.context_tree.proofs.Lemmas.{once_of, agrees_beside, stands_beside}
use Rattle.context_tree.proofs.tree.ContextTree.beside.Goals as goal

pub returns-clause-agrees : goal.returns-clause-agrees
returns-clause-agrees g c a b s t moves changing agrees differ =
    let own : TreeState = record { kept = c.self.inside.nodes.forest; places = c.self.inside.nodes.places; account = c.self.inside.account; current = c.self.inside.current; next = c.self.inside.next } in
    subst (λ (y : TreeState). Agrees y t) c.self.view_is
    (agrees_beside a b own s t moves changing (subst (λ (y : TreeState). Agrees y s) (sym c.self.view_is) agrees) (once_of _ _ _ _ _ _ _ _ c.self.invariant s []) c.self.invariant.each
    (λ e. differ (subst (λ (y : TreeState). a.account ≡ y.account) c.self.view_is e)))

pub returns-clause-contexts : goal.returns-clause-contexts
returns-clause-contexts g c a b s t moves changing agrees differ =
    let own : TreeState = record { kept = c.self.inside.nodes.forest; places = c.self.inside.nodes.places; account = c.self.inside.account; current = c.self.inside.current; next = c.self.inside.next } in
    subst (λ (y : TreeState). stands_for y t ≡ stands_for y s) c.self.view_is
    (stands_beside a b own s t moves changing (subst (λ (y : TreeState). Agrees y s) (sym c.self.view_is) agrees) (once_of _ _ _ _ _ _ _ _ c.self.invariant s []) c.self.invariant.each
    (λ e. differ (subst (λ (y : TreeState). a.account ≡ y.account) c.self.view_is e)))
