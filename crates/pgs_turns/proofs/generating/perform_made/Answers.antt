use Rattle.pgs_turns.proofs.Base.{◌≡◌, ℕ, ◌*◌, false, take, subst, arith}
use Rattle.pgs_turns.proofs.Words.{made_script, run_of, HasPerformed, TakesEvents, TakesEvents-none}
use Rattle.pgs_turns.proofs.Lemmas.{performed_none}
use Rattle.pgs_turns.proofs.MadeTurns.{made_room, made_turn}
use Rattle.pgs_turns.proofs.generating.perform_made.Goals as goal

pub loop-place-init : goal.loop-place-init
loop-place-init g c = record {
  performed = λ descriptors has. performed_none descriptors (run_of c.args.sessions.now c.args.shared.now) (λ events. TakesEvents c.args.counter.now events c.args.counter.now) c.requires.opening has (TakesEvents-none c.args.counter.now);
  standing = c.requires.standing;
}

pub take_turn-requires-clause-room : goal.take_turn-requires-clause-room
take_turn-requires-clause-room g c =
    made_room c.requires.standing.alike.0 (run_of c.args.sessions.now c.args.shared.now) (run_of c.loop-place.sessions c.loop-place.shared) (λ events. TakesEvents c.args.counter.now events c.loop-place.counter) c.args.rounds c.loop-place.place c.requires.rounds
    (omega (arith, c.loop-place-test.true, c.loop-place.auto.place-end)) (c.loop-place.invariant.performed c.requires.standing.alike.0 c.requires.standing.alike.1)

pub returns-then-take_turn-clause-performed : goal.returns-then-take_turn-clause-performed
returns-then-take_turn-clause-performed g c descriptors has =
    made_turn descriptors (run_of c.args.sessions.now c.args.shared.now) (run_of c.loop-place.sessions c.loop-place.shared) (run_of c.take_turn.new.sessions c.take_turn.new.shared) c.args.counter.now c.loop-place.counter c.take_turn.new.out
    c.args.rounds c.loop-place.place c.made_command-said.result _ (c.loop-place.invariant.performed descriptors has) (omega (arith, c.loop-place-test.true, c.loop-place.auto.place-end)) c.made_command-said.ensures.asked
    c.if-take_turn.ensures.turn

pub loop-place-preserved : goal.loop-place-preserved
loop-place-preserved g c = record {
  performed = λ descriptors has.
      made_turn descriptors (run_of c.args.sessions.now c.args.shared.now) (run_of c.loop-place.sessions c.loop-place.shared) (run_of c.take_turn.new.sessions c.take_turn.new.shared) c.args.counter.now c.loop-place.counter c.take_turn.new.out
      c.args.rounds c.loop-place.place c.made_command-said.result _ (c.loop-place.invariant.performed descriptors has) (omega (arith, c.loop-place-test.true, c.loop-place.auto.place-end)) c.made_command-said.ensures.asked
      c.if-take_turn.ensures.turn;
  standing = c.take_turn.ensures.standing;
}

pub returns-clause-performed : goal.returns-clause-performed
returns-clause-performed g c descriptors has =
    let all : c.loop-place.place ≡ c.args.rounds * 13 = omega (arith, c.loop-place-test.false, c.loop-place.auto.place-end) in
    subst (λ (k : ℕ). HasPerformed descriptors (run_of c.args.sessions.now c.args.shared.now) (run_of c.loop-place.sessions c.loop-place.shared) (λ events. TakesEvents c.args.counter.now events c.loop-place.counter) (take k (made_script c.args.rounds)) false) all
    (c.loop-place.invariant.performed descriptors has)
