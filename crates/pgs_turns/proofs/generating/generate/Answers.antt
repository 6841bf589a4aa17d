use Rattle.pgs_turns.proofs.Base.{take, ap, arith}
use Rattle.pgs_turns.proofs.Words.{made_script, run_of, Counter}
use Rattle.pgs_turns.proofs.Lemmas.{lines_over}
use Rattle.pgs_turns.proofs.ToldLemmas.{silent_tells, written_tells}
use Rattle.pgs_turns.proofs.generating.generate.Goals as goal

pub returns-then-not-wanted-clause-tells : goal.returns-then-not-wanted-clause-tells
returns-then-not-wanted-clause-tells g c descriptors has =
    let over =
    lines_over descriptors (run_of c.args.sessions.now c.args.shared.now) (run_of c.perform_made-lines.new.sessions c.perform_made-lines.new.shared) (run_of c.exit_all.new.sessions c.exit_all.new.shared)
    c.new-counter.result c.perform_made-lines.new.counter c.exit_all.new.out (take c.perform_made-lines.result.0 (made_script c.args.rounds)) c.perform_made-lines.result.1
    c.requires.opening (c.perform_made-lines.ensures.performed descriptors has) c.exit_all.ensures.exits in
    written_tells descriptors (run_of c.args.sessions.now c.args.shared.now) (run_of c.exit_all.new.sessions c.exit_all.new.shared) c.args.rounds c.perform_made-lines.result.0 c.perform_made-lines.result.1 c.new-counter.result c.exit_all.new.out
    (ap (λ (n : Counter). n.events) c.new-counter.ensures) (ap (λ (n : Counter). n.errors) c.new-counter.ensures) (omega (arith, c.counts-events.ensures.errors)) (omega (arith, c.counts-events.ensures.events))
    c.perform_made-lines.ensures.within c.requires.rounds over
    c.if-not-wanted.true (c.perform_made-lines.ensures.whole c.if-not-wanted.true) c.counts-events.result.0 c.counts-events.result.1 c.counts-events.ensures.events c.counts-events.ensures.errors c.tell.result
    (g.K.Sink.written c.args.out.now) (g.K.Sink.written c.tell.new.out) c.tell.ensures.written c.tell.ensures.front

pub returns-else-not-wanted-clause-tells : goal.returns-else-not-wanted-clause-tells
returns-else-not-wanted-clause-tells g c descriptors has =
    let over =
    lines_over descriptors (run_of c.args.sessions.now c.args.shared.now) (run_of c.perform_made-lines.new.sessions c.perform_made-lines.new.shared) (run_of c.exit_all.new.sessions c.exit_all.new.shared)
    c.new-counter.result c.perform_made-lines.new.counter c.exit_all.new.out (take c.perform_made-lines.result.0 (made_script c.args.rounds)) c.perform_made-lines.result.1
    c.requires.opening (c.perform_made-lines.ensures.performed descriptors has) c.exit_all.ensures.exits in
    silent_tells descriptors (run_of c.args.sessions.now c.args.shared.now) (run_of c.exit_all.new.sessions c.exit_all.new.shared) c.args.rounds c.perform_made-lines.result.0 c.perform_made-lines.result.1 c.new-counter.result c.exit_all.new.out
    (ap (λ (n : Counter). n.events) c.new-counter.ensures) (ap (λ (n : Counter). n.errors) c.new-counter.ensures) (omega (arith, c.counts-events.ensures.errors)) (omega (arith, c.counts-events.ensures.events))
    c.perform_made-lines.ensures.within c.requires.rounds over
    c.if-not-wanted.false c.counts-events.result.1 c.counts-events.ensures.errors (g.K.Sink.written c.args.out.now)
