use Rattle.context_tree.proofs.Base.{[], sym, ◌∙◌, subst}
use Rattle.context_tree.proofs.Words.{Once, TreeState, stands_for}
use Rattle.context_tree.proofs.Lemmas.{once_of, stands_once, stands_size}
use Rattle.context_tree.proofs.tree.ContextTree.count.Goals as goal

pub returns-clause-value : goal.returns-clause-value
returns-clause-value g c s = rw (← c.self.view_is) (c.len.ensures.value ∙ sym (stands_size _ s))

pub returns-clause-once : goal.returns-clause-once
returns-clause-once g c s =
    let a : TreeState = record { kept = c.self.inside.nodes.forest; places = c.self.inside.nodes.places; account = c.self.inside.account; current = c.self.inside.current; next = c.self.inside.next } in
    subst (λ (x : TreeState). Once (stands_for x s)) c.self.view_is (stands_once a s (once_of _ _ _ _ _ _ _ _ c.self.invariant s []))
