use Rattle.session_core.proofs.Base.{Err, refl, ap, ◌∙◌}
use Rattle.session_core.proofs.Words.{OfLevel, now, few_owners, make_owner, many_owners, call_done, call_injected, call_refused, call_wants, said_nothing, handed}
use Rattle.session_core.proofs.Lemmas.{keeps_of, seen, stands_of}
use Rattle.session_core.proofs.session.Session.make_owner_of_level.Goals as goal

pub returns-in_err-next : goal.returns-in_err-next
returns-in_err-next g c = record {
  performed =
      handed _ _ c.from_residual.ensures.1
      (call_injected (make_owner OfLevel) _ _ _ c.next.ensures.counted refl c.requires.between.keeps refl (g.met.E.Emit.emits_none c.args.out.now) refl _ c.in_err-next.ensures.injected);
}

pub returns-in-Err-TooMany : goal.returns-in-Err-TooMany
returns-in-Err-TooMany g c = record {
  performed =
      let keeps = keeps_of c.self.inside.store c.args.self.now c.self.view_is c.args.shared.now.space.now c.requires.between.keeps in
      seen c.self.inside.store c.args.self.now c.self.view_is 1 _ c.args.shared.now _ _ _
      (call_refused (make_owner OfLevel) _ _ _ c.next.ensures.counted refl keeps refl
      (said_nothing g.E.Emit.emits c.args.out.now c.make_level_owner.new.out (g.met.E.Emit.emits_none c.args.out.now) c.in-Err-TooMany.ensures.silent) c.in-Err-TooMany.ensures.err _ c.in_ok-next.ensures.goes refl
      (many_owners (now c.self.inside.store c.args.shared.now) c.make_level_owner.result c.make_level_owner.ensures.too_many (c.in-Err-TooMany.is ∙ ap Err c.in-Err-TooMany.field-0-is)));
}

pub returns-in-Err : goal.returns-in-Err
returns-in-Err g c = record {
  performed =
      let keeps = keeps_of c.self.inside.store c.args.self.now c.self.view_is c.args.shared.now.space.now c.requires.between.keeps in
      seen c.self.inside.store c.args.self.now c.self.view_is 1 _ c.args.shared.now _ _ _
      (call_wants (make_owner OfLevel) _ _ _ c.next.ensures.counted refl keeps refl
      (said_nothing g.E.Emit.emits c.args.out.now c.make_level_owner.new.out (g.met.E.Emit.emits_none c.args.out.now) c.in-Err.ensures.silent) c.in-Err.ensures.err c.in_ok-next.ensures.goes);
}

pub returns : goal.returns
returns g c = record {
  performed =
      let keeps = keeps_of c.self.inside.store c.args.self.now c.self.view_is c.args.shared.now.space.now c.requires.between.keeps in
      seen c.self.inside.store c.args.self.now c.self.view_is 1 _ c.args.shared.now _ _ _
      (call_done (make_owner OfLevel) _ _ _ c.next.ensures.counted refl keeps c.in_ok-next.ensures.goes
      (few_owners (now c.self.inside.store c.args.shared.now) c.make_level_owner.result c.make_level_owner.ensures.too_many _ c.in-Ok.is) c.make_level_owner.ensures.tree
      (c.make_level_owner.ensures.keeps c.args.shared.now.space.now keeps)
      (c.in-Ok.ensures.acted c.args.shared.now.space.now c.args.shared.now.shelf.now c.args.shared.now.commons.now));
}

pub make_level_owner-requires-clause-stands : goal.make_level_owner-requires-clause-stands
make_level_owner-requires-clause-stands g c =
    (c.args.shared.now.space.now, (c.args.shared.now.shelf.now, (c.args.shared.now.commons.now, stands_of c.self.inside.store c.args.self.now c.self.view_is c.args.shared.now.space.now c.args.shared.now.shelf.now c.args.shared.now.commons.now c.requires.between.stands)))
