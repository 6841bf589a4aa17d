use Rattle.std.proofs.Common.{◌≡◌, ap, ◌∙◌}
use Rattle.reset_callbacks.specs.ShelfState.{ShelfState}
use Rattle.context_trials.specs.Standing.{contexts_of}
use Rattle.context_trials.proofs.Hooked.{five_fit}
use Rattle.context_trials.proofs.row_tests.delete_hooks.Goals as goal

pub delete_hooked-requires-clause-hooks : goal.delete_hooked-requires-clause-hooks
delete_hooked-requires-clause-hooks c =
    five_fit c.own_name-p.result c.own_name-x.result c.own_name-y.result c.args.trial.now.tree.next c.create.new.self.tree.next c.create-2.new.self.tree.next
    (contexts_of c.args.trial.now) (contexts_of c.create.new.self) (contexts_of c.create-2.new.self) (contexts_of c.create-3.new.self)
    (contexts_of c.hook.new.self) (contexts_of c.hook-2.new.self) (contexts_of c.hook-3.new.self) (contexts_of c.hook-4.new.self) (contexts_of c.hook-5.new.self)
    c.create-3.new.self.shelf c.hook.new.self.shelf c.hook-2.new.self.shelf c.hook-3.new.self.shelf c.hook-4.new.self.shelf c.hook-5.new.self.shelf
    (record {
      begins = c.requires.contexts;
      first = c.requires.next;
      second = c.in_ok-create.ensures.next;
      third = c.in_ok-create-2.ensures.next;
      p_is = c.own_name-p.ensures;
      x_is = c.own_name-x.ensures;
      y_is = c.own_name-y.ensures;
      p_made = c.in_ok-create.ensures.contexts;
      x_made = c.in_ok-create-2.ensures.contexts;
      y_made = c.in_ok-create-3.ensures.contexts;
    })
    (let same : c.create-3.new.self.shelf ≡ c.args.trial.now.shelf = c.create-3.ensures.shelf ∙ c.create-2.ensures.shelf ∙ c.create.ensures.shelf in
    record {
      fresh = ap (λ (x : ShelfState). x.fresh) same ∙ c.requires.fresh;
      spent = ap (λ (x : ShelfState). x.spent) same ∙ c.requires.spent;
      out = ap (λ (x : ShelfState). x.out) same ∙ c.requires.out;
      first = c.in_ok-hook.ensures.contexts;
      second = c.in_ok-hook-2.ensures.contexts;
      third = c.in_ok-hook-3.ensures.contexts;
      fourth = c.in_ok-hook-4.ensures.contexts;
      fifth = c.in_ok-hook-5.ensures.contexts;
      one = c.in_ok-hook.ensures.shelf;
      two = c.in_ok-hook-2.ensures.shelf;
      three = c.in_ok-hook-3.ensures.shelf;
      four = c.in_ok-hook-4.ensures.shelf;
      five = c.in_ok-hook-5.ensures.shelf;
    })
