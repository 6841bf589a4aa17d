use Rattle.session_core.proofs.Base.{◌<◌, refl, ap}
use Rattle.session_core.proofs.Words.{levels_of, now, handed}
use Rattle.session_core.proofs.Lemmas.{keeps_of, levels_seen, seen, stands_of, stood_performed, context_behind, level_behind, owner_behind, some_level, stands_now, start_performed, start_stops_first, start_stops_second, start_stops_third}
use Rattle.session_core.proofs.session.Session.start_level.Goals as goal

pub returns-in_err-make_level-clause-performed : goal.returns-in_err-make_level-clause-performed
returns-in_err-make_level-clause-performed g c = handed _ _ c.from_residual.ensures.1 (start_stops_first c.args.name c.args.implicit _ _ _ _ c.in_err-make_level.ensures.performed)

pub returns-in_err-make_level-clause-between : goal.returns-in_err-make_level-clause-between
returns-in_err-make_level-clause-between g c =
    (level_behind c.args.name c.args.implicit _ _ 1 _ _ _ _ c.requires.between c.requires.rest (record { levels_are = refl; portals_are = refl }) c.requires.outer (λ e. ap levels_of (c.requires.alone e)) c.in_err-make_level.ensures.performed).0

pub returns-in_err-make_context_of_level-clause-performed : goal.returns-in_err-make_context_of_level-clause-performed
returns-in_err-make_context_of_level-clause-performed g c =
    handed _ _ c.from_residual-in_err-make_context_of_level.ensures.1 (start_stops_second c.args.name c.args.implicit _ _ _ c.in_ok-make_level.ensures.performed _ _ _ (λ us vs p q. g.met.E.Emit.emits_more _ _ _ us vs _ p q refl) _
    c.in_err-make_context_of_level.ensures.performed)

pub returns-in_err-make_context_of_level-clause-between : goal.returns-in_err-make_context_of_level-clause-between
returns-in_err-make_context_of_level-clause-between g c =
    let one = level_behind c.args.name c.args.implicit _ _ 1 _ _ _ _ c.requires.between c.requires.rest (record { levels_are = refl; portals_are = refl }) c.requires.outer (λ e. ap levels_of (c.requires.alone e)) c.in_ok-make_level.ensures.performed in
    (context_behind c.args.name c.args.implicit _ _ 1 _ _ _ _ one.0 (one.1 refl) c.in_err-make_context_of_level.ensures.performed).0

pub returns-in_err-make_owner_of_level-clause-performed : goal.returns-in_err-make_owner_of_level-clause-performed
returns-in_err-make_owner_of_level-clause-performed g c =
    handed _ _ c.from_residual-in_err-make_owner_of_level.ensures.1 (start_stops_third c.args.name c.args.implicit _ _ _ c.in_ok-make_level.ensures.performed _ _ _ (λ us vs p q. g.met.E.Emit.emits_more _ _ _ us vs _ p q refl)
    c.in_ok-make_context_of_level.ensures.performed _ _ _ (λ us vs p q. g.met.E.Emit.emits_more _ _ _ us vs _ p q refl) _
    c.in_err-make_owner_of_level.ensures.performed)

pub returns-in_err-make_owner_of_level-clause-between : goal.returns-in_err-make_owner_of_level-clause-between
returns-in_err-make_owner_of_level-clause-between g c =
    let one = level_behind c.args.name c.args.implicit _ _ 1 _ _ _ _ c.requires.between c.requires.rest (record { levels_are = refl; portals_are = refl }) c.requires.outer (λ e. ap levels_of (c.requires.alone e)) c.in_ok-make_level.ensures.performed in
    let two = context_behind c.args.name c.args.implicit _ _ 1 _ _ _ _ one.0 (one.1 refl) c.in_ok-make_context_of_level.ensures.performed in
    (owner_behind c.args.name c.args.implicit _ _ 1 _ _ _ _ two.0 (two.1 refl).0 (two.1 refl).1 c.in_err-make_owner_of_level.ensures.performed).0

pub returns : goal.returns
returns g c =
    let one = level_behind c.args.name c.args.implicit _ _ 1 _ _ _ _ c.requires.between c.requires.rest (record { levels_are = refl; portals_are = refl }) c.requires.outer (λ e. ap levels_of (c.requires.alone e)) c.in_ok-make_level.ensures.performed in
    let two = context_behind c.args.name c.args.implicit _ _ 1 _ _ _ _ one.0 (one.1 refl) c.in_ok-make_context_of_level.ensures.performed in
    let three = owner_behind c.args.name c.args.implicit _ _ 1 _ _ _ _ two.0 (two.1 refl).0 (two.1 refl).1 c.in_ok-make_owner_of_level.ensures.performed in
    let space = c.make_owner_of_level.new.shared.space.now in
    let stood = seen c.self.inside.store c.make_owner_of_level.new.self c.self.view_is 0 _ c.make_owner_of_level.new.shared _ _ _
    (stood_performed _ _ _ refl refl (c.level_stands.ensures.keeps space (keeps_of c.self.inside.store c.make_owner_of_level.new.self c.self.view_is space three.0.keeps)) c.level_stands.ensures.tree
    (c.level_stands.ensures.acted space c.make_owner_of_level.new.shared.shelf.now c.make_owner_of_level.new.shared.commons.now)) in
    let four = stands_now c.args.name c.args.implicit _ _ 0 _ _ _ _ three.0 (two.1 refl).0 (three.1 refl).0 (three.1 refl).1 stood in
    record {
      performed =
          start_performed c.args.name c.args.implicit _ _ _ c.in_ok-make_level.ensures.performed _ _ _ (λ us vs p q. g.met.E.Emit.emits_more _ _ _ us vs _ p q refl)
          c.in_ok-make_context_of_level.ensures.performed _ _ _ (λ us vs p q. g.met.E.Emit.emits_more _ _ _ us vs _ p q refl) _
          c.in_ok-make_owner_of_level.ensures.performed stood;
      between = four.0;
      portals = (four.1 refl).1;
      begun = (four.1 refl).0;
    }

pub make_context_of_level-requires-clause-between : goal.make_context_of_level-requires-clause-between
make_context_of_level-requires-clause-between g c =
    (level_behind c.args.name c.args.implicit _ _ 1 _ _ _ _ c.requires.between c.requires.rest (record { levels_are = refl; portals_are = refl }) c.requires.outer (λ e. ap levels_of (c.requires.alone e)) c.in_ok-make_level.ensures.performed).0

pub make_context_of_level-requires-clause-level : goal.make_context_of_level-requires-clause-level
make_context_of_level-requires-clause-level g c =
    let one = level_behind c.args.name c.args.implicit _ _ 1 _ _ _ _ c.requires.between c.requires.rest (record { levels_are = refl; portals_are = refl }) c.requires.outer (λ e. ap levels_of (c.requires.alone e)) c.in_ok-make_level.ensures.performed in
    some_level (now c.make_level.new.self c.make_level.new.shared) _ _ (one.1 refl).levels_are

pub make_owner_of_level-requires-clause-between : goal.make_owner_of_level-requires-clause-between
make_owner_of_level-requires-clause-between g c =
    let one = level_behind c.args.name c.args.implicit _ _ 1 _ _ _ _ c.requires.between c.requires.rest (record { levels_are = refl; portals_are = refl }) c.requires.outer (λ e. ap levels_of (c.requires.alone e)) c.in_ok-make_level.ensures.performed in
    (context_behind c.args.name c.args.implicit _ _ 1 _ _ _ _ one.0 (one.1 refl) c.in_ok-make_context_of_level.ensures.performed).0

pub make_owner_of_level-requires-clause-level : goal.make_owner_of_level-requires-clause-level
make_owner_of_level-requires-clause-level g c =
    let one = level_behind c.args.name c.args.implicit _ _ 1 _ _ _ _ c.requires.between c.requires.rest (record { levels_are = refl; portals_are = refl }) c.requires.outer (λ e. ap levels_of (c.requires.alone e)) c.in_ok-make_level.ensures.performed in
    let two = context_behind c.args.name c.args.implicit _ _ 1 _ _ _ _ one.0 (one.1 refl) c.in_ok-make_context_of_level.ensures.performed in
    some_level (now c.make_context_of_level.new.self c.make_context_of_level.new.shared) _ _ (two.1 refl).1.levels_are

pub level_stands-requires-clause-level : goal.level_stands-requires-clause-level
level_stands-requires-clause-level g c =
    let one = level_behind c.args.name c.args.implicit _ _ 1 _ _ _ _ c.requires.between c.requires.rest (record { levels_are = refl; portals_are = refl }) c.requires.outer (λ e. ap levels_of (c.requires.alone e)) c.in_ok-make_level.ensures.performed in
    let two = context_behind c.args.name c.args.implicit _ _ 1 _ _ _ _ one.0 (one.1 refl) c.in_ok-make_context_of_level.ensures.performed in
    let three = owner_behind c.args.name c.args.implicit _ _ 1 _ _ _ _ two.0 (two.1 refl).0 (two.1 refl).1 c.in_ok-make_owner_of_level.ensures.performed in
    levels_seen c.self.inside.store c.make_owner_of_level.new.self (λ n. 0 < n) c.self.view_is
    (some_level (now c.make_owner_of_level.new.self c.make_owner_of_level.new.shared) _ _ (three.1 refl).1.levels_are)

pub level_stands-requires-clause-stands : goal.level_stands-requires-clause-stands
level_stands-requires-clause-stands g c =
    let one = level_behind c.args.name c.args.implicit _ _ 1 _ _ _ _ c.requires.between c.requires.rest (record { levels_are = refl; portals_are = refl }) c.requires.outer (λ e. ap levels_of (c.requires.alone e)) c.in_ok-make_level.ensures.performed in
    let two = context_behind c.args.name c.args.implicit _ _ 1 _ _ _ _ one.0 (one.1 refl) c.in_ok-make_context_of_level.ensures.performed in
    let three = owner_behind c.args.name c.args.implicit _ _ 1 _ _ _ _ two.0 (two.1 refl).0 (two.1 refl).1 c.in_ok-make_owner_of_level.ensures.performed in (
      c.make_owner_of_level.new.shared.space.now,
      (
        c.make_owner_of_level.new.shared.shelf.now,
        (
          c.make_owner_of_level.new.shared.commons.now,
          stands_of c.self.inside.store c.make_owner_of_level.new.self c.self.view_is c.make_owner_of_level.new.shared.space.now c.make_owner_of_level.new.shared.shelf.now c.make_owner_of_level.new.shared.commons.now three.0.stands,
        ),
      ),
    )
