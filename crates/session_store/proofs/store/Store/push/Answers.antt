-- The stack has one entry more, or nothing changed.
use Rattle.session_store.proofs.Words.{rules, on_err}
use Rattle.session_store.proofs.Lemmas.{on_answer, go_stack, owners_alone_after, placed_owners, pushed_after}
use Rattle.session_store.proofs.Owned.{refused_after}
use Rattle.session_store.proofs.store.Store.push.Goals as goal

pub invariant_of-self : goal.invariant_of-self
invariant_of-self g c = placed_owners _ _ _ _ _ c.self.invariant (go_stack _ _ c.push.ensures.stack_alone)

pub returns : goal.returns
returns g c = record {
  acted =
      on_answer c.push.result
      (λ acted s x commons. pushed_after _ _ _ _ _ c.self.view_is c.push.new.self c.depth.result c.args.snapshot s x commons (λ events. g.E.Emit.emits c.args.out.now events c.push.new.out) c.depth.ensures.depth (acted commons) (c.push.ensures.balances commons))
      c.push.ensures.acted;
  alone = λ commons. owners_alone_after _ _ _ _ _ c.self.view_is _ commons commons (go_stack _ _ c.push.ensures.stack_alone) (c.push.ensures.balances commons);
  refused = on_err c.push.result (λ same s x commons. refused_after _ _ _ _ _ c.self.view_is c.push.new.self s x commons same) c.push.ensures.refused;
  silent = search rules;
}
