use Rattle.session_core.proofs.Base.{◌∙◌, ap, refl, sym, subst}
use Rattle.session_core.proofs.Words.{StoreState, Ends, now}
use Rattle.session_core.proofs.Lemmas.{all_rolled, none_below, rolled_ends, session_exits, stands_of}
use Rattle.session_core.proofs.session.Session.exit.Goals as goal

pub close-requires-clause-stands : goal.close-requires-clause-stands
close-requires-clause-stands g c = (
  c.roll_back_to.new.shared.commons.now,
  stands_of c.self.inside.store c.roll_back_to.new.self c.self.view_is c.roll_back_to.new.shared.space.now c.roll_back_to.new.shared.shelf.now c.roll_back_to.new.shared.commons.now c.roll_back_to.ensures.between.stands,
)

pub close-requires-clause-level : goal.close-requires-clause-level
close-requires-clause-level g c = ap (λ (v : StoreState). v.levels) c.self.view_is ∙ none_below _ c.roll_back_to.ensures.below

pub returns-clause-did : goal.returns-clause-did
returns-clause-did g c =
    session_exits _ (λ o events p. g.E.Emit.emits o events p) (λ o p q xs ys h k. g.met.E.Emit.emits_more _ _ _ _ _ _ h k refl) c.args.out.now c.roll_back_to.new.out c.close.new.out c.emit.new.self
    (now c.args.self.now c.args.shared.now) (now c.self.inside.store c.roll_back_to.new.shared) _
    (subst (λ (v : StoreState). Ends all_rolled (now c.args.self.now c.args.shared.now) (now v c.roll_back_to.new.shared) (λ events. g.E.Emit.emits c.args.out.now events c.roll_back_to.new.out)) (sym c.self.view_is)
    (rolled_ends _ _ _ c.roll_back_to.ensures.performed))
    (c.close.ensures.acted c.roll_back_to.new.shared.commons.now) c.close.ensures.keeps c.close.ensures.moves c.close.ensures.asked refl c.emit.ensures.emitted
