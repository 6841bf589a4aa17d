use Rattle.portal_commands.proofs.Base.{is_some, refl, sym, ap, ◌∙◌, arith}
use Rattle.portal_commands.proofs.Words.{now, performed_both, less_room, stops, handed}
use Rattle.portal_commands.proofs.Lemmas.{copied_some, none_of, portal_opened, portal_taken, some_of}
use Rattle.portal_commands.proofs.making.make_portal.Goals as goal

pub returns-then-is_some : goal.returns-then-is_some
returns-then-is_some g c = record {
  performed =
      let p = some_of _ (sym (ap is_some c.portal_named.ensures.portal) ∙ copied_some _ ∙ sym c.is_some.ensures ∙ c.if-is_some.true) in
      portal_taken c.args.name c.args.object c.args.rows c.args.bad (now c.args.store.now c.args.shared.now) _ c.requires.between.keeps p.0 p.1 (g.met.E.Emit.emits_none c.args.out.now);
}

pub returns-in_err-begin : goal.returns-in_err-begin
returns-in_err-begin g c = record {
  performed =
      handed _ _ c.from_residual.ensures.1
      (portal_opened c.args.name c.args.object c.args.rows c.args.bad (now c.args.store.now c.args.shared.now) _ c.requires.between.keeps _ _
      (none_of _ (sym (ap is_some c.portal_named.ensures.portal) ∙ copied_some _ ∙ sym c.is_some.ensures ∙ c.if-is_some.false))
      (stops 3 10 _ _ _ _ _ _ (omega arith) c.in_err-begin.ensures.performed));
}

pub returns-in_err-hold : goal.returns-in_err-hold
returns-in_err-hold g c = record {
  performed =
      handed _ _ c.from_residual-in_err-hold.ensures.1
      (portal_opened c.args.name c.args.object c.args.rows c.args.bad (now c.args.store.now c.args.shared.now) _ c.requires.between.keeps _ _
      (none_of _ (sym (ap is_some c.portal_named.ensures.portal) ∙ copied_some _ ∙ sym c.is_some.ensures ∙ c.if-is_some.false))
      (performed_both 3 7 _ _ _ _ _ _ _ _ _ c.in_ok-begin.ensures.performed (stops 5 7 _ _ _ _ _ _ (omega arith) c.in_err-hold.ensures.performed)
      (λ us vs first second. g.met.E.Emit.emits_more _ _ _ _ _ _ first second refl)));
}

pub returns : goal.returns
returns g c = record {
  performed =
      portal_opened c.args.name c.args.object c.args.rows c.args.bad (now c.args.store.now c.args.shared.now) _ c.requires.between.keeps _ _
      (none_of _ (sym (ap is_some c.portal_named.ensures.portal) ∙ copied_some _ ∙ sym c.is_some.ensures ∙ c.if-is_some.false))
      (performed_both 3 7 _ _ _ _ _ _ _ _ _ c.in_ok-begin.ensures.performed
      (performed_both 5 2 _ _ _ _ _ _ _ _ _ c.in_ok-hold.ensures.performed c.finish.ensures.performed (λ us vs first second. g.met.E.Emit.emits_more _ _ _ _ _ _ first second refl))
      (λ us vs first second. g.met.E.Emit.emits_more _ _ _ _ _ _ first second refl));
}

pub begin-requires-clause-new : goal.begin-requires-clause-new
begin-requires-clause-new g c = none_of _ (sym (ap is_some c.portal_named.ensures.portal) ∙ copied_some _ ∙ sym c.is_some.ensures ∙ c.if-is_some.false)

pub begin-requires-clause-room : goal.begin-requires-clause-room
begin-requires-clause-room g c = less_room 3 4194304 (now c.args.store.now c.args.shared.now) (omega arith) c.requires.room
