use Rattle.session_core.proofs.Base.{arith, ◌≡◌, Some, ap, ◌∙◌, refl, sym}
use Rattle.session_core.proofs.Words.{first_of, StoreState, level_state, levels_of, moves_nothing}
use Rattle.session_core.proofs.Lemmas.{recovery_lines, aborts, nothing_keeps, rolls, acted_nothing, ended, ends_same, ends_seen, gives_aborted, gives_implicit, gives_none, gives_open, gives_up, recovery_ends, keeps_of, serves_of, stands_of}
use Rattle.session_core.proofs.session.Session.recover.Goals as goal

pub returns-in_default-clause-did : goal.returns-in_default-clause-did
returns-in_default-clause-did g c =
    let keeps = keeps_of c.self.inside.store c.args.self.now c.self.view_is c.args.shared.now.space.now c.requires.between.keeps in
    ends_same c.self.inside.store c.args.self.now c.self.view_is _ c.args.shared.now _
    (recovery_ends _ (λ o events p. g.E.Emit.emits o events p) (λ o p q xs ys h k. g.met.E.Emit.emits_more _ _ _ _ _ _ h k refl) c.args.error _ _ _ c.args.out.now c.emit.new.self c.emit.new.self
    (gives_none _ (sym c.in_default.ensures.level)) c.emit.ensures.emitted
    (ended _ _ _ _ nothing_keeps (acted_nothing _ _ _ _ _ (g.met.E.Emit.emits_none c.emit.new.self)) keeps (moves_nothing _ _ keeps.agrees) refl refl))

pub returns-in_default-clause-lines : goal.returns-in_default-clause-lines
returns-in_default-clause-lines g c = recovery_lines c.args.error _ _ _ c.requires.between (returns-in_default-clause-did g c)

pub returns-then-level-clause-did : goal.returns-then-level-clause-did
returns-then-level-clause-did g c =
    let keeps = keeps_of c.self.inside.store c.args.self.now c.self.view_is c.args.shared.now.space.now c.requires.between.keeps in
    ends_same c.self.inside.store c.args.self.now c.self.view_is _ c.args.shared.now _
    (recovery_ends _ (λ o events p. g.E.Emit.emits o events p) (λ o p q xs ys h k. g.met.E.Emit.emits_more _ _ _ _ _ _ h k refl) c.args.error _ _ _ c.args.out.now c.emit.new.self c.emit.new.self
    (gives_aborted _ _ (sym c.in-Some.ensures.level) c.if-level.true) c.emit.ensures.emitted
    (ended _ _ _ _ nothing_keeps (acted_nothing _ _ _ _ _ (g.met.E.Emit.emits_none c.emit.new.self)) keeps (moves_nothing _ _ keeps.agrees) refl refl))

pub returns-then-level-clause-lines : goal.returns-then-level-clause-lines
returns-then-level-clause-lines g c = recovery_lines c.args.error _ _ _ c.requires.between (returns-then-level-clause-did g c)

pub returns-then-level-2-clause-did : goal.returns-then-level-2-clause-did
returns-then-level-2-clause-did g c =
    let first : first_of (levels_of c.args.self.now.levels) ≡ Some (level_state c.in-Some.level) = sym (c.in-Some.ensures.level ∙ ap (λ (v : StoreState). first_of (levels_of v.levels)) c.self.view_is) in
    recovery_ends _ (λ o events p. g.E.Emit.emits o events p) (λ o p q xs ys h k. g.met.E.Emit.emits_more _ _ _ _ _ _ h k refl) c.args.error _ _ _ c.args.out.now c.emit.new.self c.give_up_start.new.out
    (gives_up _ _ first c.if-level.false) c.emit.ensures.emitted c.give_up_start.ensures.did

pub returns-then-level-2-clause-lines : goal.returns-then-level-2-clause-lines
returns-then-level-2-clause-lines g c = recovery_lines c.args.error _ _ _ c.requires.between (returns-then-level-2-clause-did g c)

pub roll_back-requires-clause-stands : goal.roll_back-requires-clause-stands
roll_back-requires-clause-stands g c = stands_of c.self.inside.store c.args.self.now c.self.view_is c.args.shared.now.space.now c.args.shared.now.shelf.now c.args.shared.now.commons.now c.requires.between.stands

pub returns-then-level-3-clause-did : goal.returns-then-level-3-clause-did
returns-then-level-3-clause-did g c =
    ends_seen c.self.inside.store c.args.self.now c.self.view_is _ c.args.shared.now _ _
    (recovery_ends _ (λ o events p. g.E.Emit.emits o events p) (λ o p q xs ys h k. g.met.E.Emit.emits_more _ _ _ _ _ _ h k refl) c.args.error _ _ _ c.args.out.now c.emit.new.self c.roll_back.new.out
    (gives_implicit _ _ (sym c.in-Some.ensures.level) c.if-level.false c.if-level-2.false c.if-level-3.true) c.emit.ensures.emitted
    (ended _ _ _ _ rolls c.roll_back.ensures.acted c.roll_back.ensures.keeps c.roll_back.ensures.moves c.roll_back.ensures.asked refl))

pub returns-then-level-3-clause-lines : goal.returns-then-level-3-clause-lines
returns-then-level-3-clause-lines g c = recovery_lines c.args.error _ _ _ c.requires.between (returns-then-level-3-clause-did g c)

pub abort-requires-clause-stands : goal.abort-requires-clause-stands
abort-requires-clause-stands g c = grind (arith, stands_of c.self.inside.store c.args.self.now c.self.view_is c.args.shared.now.space.now c.args.shared.now.shelf.now c.args.shared.now.commons.now c.requires.between.stands, c.self.view_is, c.requires.between.stands)

pub returns-clause-did : goal.returns-clause-did
returns-clause-did g c =
    ends_seen c.self.inside.store c.args.self.now c.self.view_is _ c.args.shared.now _ _
    (recovery_ends _ (λ o events p. g.E.Emit.emits o events p) (λ o p q xs ys h k. g.met.E.Emit.emits_more _ _ _ _ _ _ h k refl) c.args.error _ _ _ c.args.out.now c.emit.new.self c.abort.new.out
    (gives_open _ _ (sym c.in-Some.ensures.level) c.if-level.false c.if-level-2.false c.if-level-3.false) c.emit.ensures.emitted
    (ended _ _ _ _ aborts c.abort.ensures.acted c.abort.ensures.keeps c.abort.ensures.moves c.abort.ensures.asked refl))

pub returns-clause-lines : goal.returns-clause-lines
returns-clause-lines g c = recovery_lines c.args.error _ _ _ c.requires.between (returns-clause-did g c)

pub roll_back-requires-clause-serves : goal.roll_back-requires-clause-serves
roll_back-requires-clause-serves g c = serves_of c.self.inside.store c.args.self.now c.self.view_is c.args.shared.now.commons.now c.requires.between.serves

pub abort-requires-clause-serves : goal.abort-requires-clause-serves
abort-requires-clause-serves g c = serves_of c.self.inside.store c.args.self.now c.self.view_is c.args.shared.now.commons.now c.requires.between.serves
