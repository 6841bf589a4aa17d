-- The stack has one entry less, or nothing changed.
use Rattle.session_store.proofs.Words.{rules, on_err, snapshot_popped}
use Rattle.session_store.proofs.Lemmas.{on_answer, go_stack, held_at, owners_after, owners_alone_after, placed_owners}
use Rattle.session_store.proofs.Owned.{refused_after}
use Rattle.session_store.proofs.store.Store.pop.Goals as goal

pub invariant_of-self : goal.invariant_of-self
invariant_of-self g c = placed_owners _ _ _ _ _ c.self.invariant (go_stack _ _ c.pop.ensures.stack_alone)

pub returns : goal.returns
returns g c = record {
  not_held = λ s. held_at _ _ _ _ _ c.self.view_is c.depth.result s c.pop.result c.depth.ensures.depth c.pop.ensures.not_held;
  acted =
      on_answer c.pop.result
      (λ acted s x commons. owners_after _ _ _ _ _ c.self.view_is snapshot_popped _ s x commons commons (λ events. g.E.Emit.emits c.args.out.now events c.pop.new.out) (acted commons) (c.pop.ensures.balances commons))
      c.pop.ensures.acted;
  alone = λ commons. owners_alone_after _ _ _ _ _ c.self.view_is _ commons commons (go_stack _ _ c.pop.ensures.stack_alone) (c.pop.ensures.balances commons);
  refused = on_err c.pop.result (λ same s x commons. refused_after _ _ _ _ _ c.self.view_is c.pop.new.self s x commons same) c.pop.ensures.refused;
  silent = search rules;
}
