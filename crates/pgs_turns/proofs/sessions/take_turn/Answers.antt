use Rattle.pgs_turns.proofs.Base.{◌-◌, List, [], ◌∷◌, refl, subst, arith, slice_index_or, slice_set, length-map, slice_get-get_or}
use Rattle.pgs_turns.proofs.Words.{Event, What, run_of}
use Rattle.pgs_step.specs.declared.errors.Error.{Error}
use Rattle.pgs_step.specs.declared.events.What.TheVariants as what
use Rattle.pgs_turns.proofs.TurnLemmas.{missing_turn, turn_standing, turn_taken}
use Rattle.pgs_turns.proofs.sessions.take_turn.Goals as goal

pub returns-then-place-sessions-clause-turn : goal.returns-then-place-sessions-clause-turn
returns-then-place-sessions-clause-turn g c =
    missing_turn (run_of c.args.sessions.now c.args.shared.now) c.args.said.now _ (omega (arith, c.if-place-sessions.true, c.requires.session.0)) (length-map c.args.sessions.now _)
    (c.turn_to.ensures.turned _ c.emit.new.self (subst (λ (e : Error). g.T.Emit.emits c.turn_to.new.self (what.Error e ∷ []) c.emit.new.self) c.missing_error.ensures c.emit.ensures.emitted))

-- the session of the line
pub take_turn-wanted-requires-clause-lines : goal.take_turn-wanted-requires-clause-lines
take_turn-wanted-requires-clause-lines g c =
    c.requires.standing.lines (c.args.said.now.session - 1) _ (omega arith) (slice_get-get_or c.args.sessions.now (c.args.said.now.session - 1) c.index-sessions-place.result (omega (arith, c.if-place-sessions.false)))

pub take_turn-wanted-requires-clause-room : goal.take_turn-wanted-requires-clause-room
take_turn-wanted-requires-clause-room g c =
    c.requires.room (c.args.said.now.session - 1) _ (slice_get-get_or c.args.sessions.now (c.args.said.now.session - 1) c.index-sessions-place.result (omega (arith, c.if-place-sessions.false)))

pub returns-clause-turn : goal.returns-clause-turn
returns-clause-turn g c =
    turn_taken (run_of c.args.sessions.now c.args.shared.now) (run_of (slice_set c.args.sessions.now (c.args.said.now.session - 1) c.take_turn-wanted.new.self) c.take_turn-wanted.new.shared)
    (c.args.said.now.session - 1) (slice_index_or c.args.sessions.now (c.args.said.now.session - 1) c.index-sessions-place.result) c.take_turn-wanted.new.self c.args.said.now
    (λ (ys : List What). g.T.Emit.emits c.turn_to.new.self ys c.take_turn-wanted.new.out)
    (λ (xs : List Event). g.T.Transcript.shows c.args.out.now xs c.take_turn-wanted.new.out) c.take_turn-wanted.result
    c.requires.standing (slice_get-get_or c.args.sessions.now (c.args.said.now.session - 1) c.index-sessions-place.result (omega (arith, c.if-place-sessions.false))) refl
    (omega (arith, c.requires.session.0)) (rw c.as_ref.ensures.value at c.take_turn-wanted.ensures.turn) c.take_turn-wanted.ensures.lines c.beside.ensures
    (λ ys p. c.turn_to.ensures.turned ys c.take_turn-wanted.new.out p)

pub returns-clause-standing : goal.returns-clause-standing
returns-clause-standing g c =
    turn_standing (run_of c.args.sessions.now c.args.shared.now) (run_of (slice_set c.args.sessions.now (c.args.said.now.session - 1) c.take_turn-wanted.new.self) c.take_turn-wanted.new.shared)
    (c.args.said.now.session - 1) (slice_index_or c.args.sessions.now (c.args.said.now.session - 1) c.index-sessions-place.result) c.take_turn-wanted.new.self c.args.said.now
    (λ (ys : List What). g.T.Emit.emits c.turn_to.new.self ys c.take_turn-wanted.new.out)
    (λ (xs : List Event). g.T.Transcript.shows c.args.out.now xs c.take_turn-wanted.new.out) c.take_turn-wanted.result
    c.requires.standing (slice_get-get_or c.args.sessions.now (c.args.said.now.session - 1) c.index-sessions-place.result (omega (arith, c.if-place-sessions.false))) refl
    (omega (arith, c.requires.session.0)) (rw c.as_ref.ensures.value at c.take_turn-wanted.ensures.turn) c.take_turn-wanted.ensures.lines c.beside.ensures
    (λ ys p. c.turn_to.ensures.turned ys c.take_turn-wanted.new.out p)
