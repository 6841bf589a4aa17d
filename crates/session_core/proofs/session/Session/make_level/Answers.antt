use Rattle.session_core.proofs.Base.{◌≤◌, Err, refl, ap, ◌∙◌}
use Rattle.session_core.proofs.Words.{StoreState, now, call_done, call_injected, call_refused, call_wants, said_nothing, handed}
use Rattle.session_core.proofs.Lemmas.{keeps_of, levels_seen, seen, few_levels, make_level, many_levels}
use Rattle.session_core.proofs.session.Session.make_level.Goals as goal

pub returns-in_err-next : goal.returns-in_err-next
returns-in_err-next g c = record {
  performed =
      handed _ _ c.from_residual.ensures.1
      (call_injected (make_level c.args.name c.args.implicit) _ _ _ c.next.ensures.counted refl c.requires.between.keeps refl (g.met.E.Emit.emits_none c.args.out.now) refl _ c.in_err-next.ensures.injected);
}

pub returns-in-Err-TooMany : goal.returns-in-Err-TooMany
returns-in-Err-TooMany g c = record {
  performed =
      let keeps = keeps_of c.self.inside.store c.args.self.now c.self.view_is c.args.shared.now.space.now c.requires.between.keeps in
      seen c.self.inside.store c.args.self.now c.self.view_is 1 _ c.args.shared.now _ _ _
      (call_refused (make_level c.args.name c.args.implicit) _ _ _ c.next.ensures.counted refl keeps refl
      (said_nothing g.E.Emit.emits c.args.out.now c.begin_level.new.out (g.met.E.Emit.emits_none c.args.out.now) c.in-Err-TooMany.ensures.silent) c.in-Err-TooMany.ensures.err _ c.in_ok-next.ensures.goes refl
      (many_levels (now c.self.inside.store c.args.shared.now) c.begin_level.result c.begin_level.ensures.too_many (c.in-Err-TooMany.is ∙ ap Err c.in-Err-TooMany.field-0-is)));
}

pub returns-in-Err-Memory : goal.returns-in-Err-Memory
returns-in-Err-Memory g c = record {
  performed =
      let keeps = keeps_of c.self.inside.store c.args.self.now c.self.view_is c.args.shared.now.space.now c.requires.between.keeps in
      seen c.self.inside.store c.args.self.now c.self.view_is 1 _ c.args.shared.now _ _ _
      (call_wants (make_level c.args.name c.args.implicit) _ _ _ c.next.ensures.counted refl keeps refl
      (said_nothing g.E.Emit.emits c.args.out.now c.begin_level.new.out (g.met.E.Emit.emits_none c.args.out.now) c.in-Err-Memory.ensures.silent) c.in-Err-Memory.ensures.err c.in_ok-next.ensures.goes);
}

pub returns : goal.returns
returns g c = record {
  performed =
      let keeps = keeps_of c.self.inside.store c.args.self.now c.self.view_is c.args.shared.now.space.now c.requires.between.keeps in
      seen c.self.inside.store c.args.self.now c.self.view_is 1 _ c.args.shared.now _ _ _
      (call_done (make_level c.args.name c.args.implicit) _ _ _ c.next.ensures.counted refl keeps c.in_ok-next.ensures.goes
      (few_levels (now c.self.inside.store c.args.shared.now) c.begin_level.result c.begin_level.ensures.too_many _ c.in-Ok.is
      (levels_seen c.self.inside.store c.args.self.now (λ n. n ≤ 1000) c.self.view_is c.requires.most)) (ap (λ (store : StoreState). store.tree) c.in-Ok.ensures.store)
      (c.begin_level.ensures.keeps c.args.shared.now.space.now keeps)
      (c.in-Ok.ensures.acted c.args.shared.now.space.now c.args.shared.now.shelf.now c.args.shared.now.commons.now));
}
