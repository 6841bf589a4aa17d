use Rattle.session_commands.proofs.Base.{refl, sym, subst, List}
use Rattle.session_commands.proofs.Words.{What}
use Rattle.session_commands.proofs.Lemmas.{on_no_context, acted_said, switch_performed}
use Rattle.session_commands.proofs.contexts.switch.Goals as goal

pub returns-in_default : goal.returns-in_default
returns-in_default g c = record {
  performed =
      on_no_context c.args.name.now _ _ _ (sym (c.in_default.ensures.named c.args.shared.now.space.now))
      c.requires.between.keeps (g.met.E.Emit.emits_none c.args.out.now);
}

pub returns : goal.returns
returns g c = record {
  performed =
      switch_performed c.args.name.now _ _ c.in-Some.at.number _ (sym (c.in-Some.ensures.named c.args.shared.now.space.now)) c.requires.between.keeps
      (c.switch.ensures.alone c.args.shared.now.space.now c.args.shared.now.commons.now c.requires.between.keeps) refl refl
      (acted_said _ _ _ _ _ _ _ _ _ _ _ (λ events none. subst (λ (es : List What). g.E.Emit.emits c.args.out.now es c.args.out.now) (sym none) (g.met.E.Emit.emits_none c.args.out.now))
      (c.switch.ensures.acted c.args.shared.now.space.now c.args.shared.now.shelf.now c.args.shared.now.commons.now));
}

pub switch-requires : goal.switch-requires
switch-requires g c = record {
  live =
      c.in-Some.ensures.live c.args.shared.now.space.now c.args.shared.now.shelf.now c.args.shared.now.commons.now
      c.requires.between.stands;
}
