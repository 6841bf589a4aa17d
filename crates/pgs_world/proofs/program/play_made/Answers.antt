use Rattle.pgs_world.proofs.Base.{sym, subst, length}
use Rattle.pgs_world.proofs.Words.{run_of, setting_of, EndsMade, outside, Outcome}
use Rattle.pgs_world.proofs.GeneratedLemmas.{ends_made}
use Rattle.pgs_world.proofs.program.play_made.Goals as goal

pub returns : goal.returns
returns g c descriptors has left faults =
    let first = run_of c.args.sessions.now c.args.shared.now in
    let last = run_of c.generate-generated.new.sessions c.generate-generated.new.shared in
    subst (λ (o : Outcome). EndsMade c.args.rounds (length c.args.sessions.now) (setting_of descriptors first) o
    (outside left faults (g.K.Sink.written c.args.out.now) (g.K.Sink.faults c.args.out.now) first.shelf first.commons.kinds)
    (outside left faults (g.K.Sink.written c.generate-generated.new.out) (g.K.Sink.faults c.generate-generated.new.out) last.shelf last.commons.kinds) c.args.shared.now.space.now c.generate-generated.new.shared.space.now)
    (sym c.generated_outcome.ensures)
    (ends_made descriptors first last c.args.rounds c.generate-generated.result.lines c.generate-generated.result.errors
    (g.K.Sink.written c.args.out.now) (g.K.Sink.written c.generate-generated.new.out) (g.K.Sink.faults c.args.out.now) (g.K.Sink.faults c.generate-generated.new.out) left faults c.generate-generated.result.wanted c.generate-generated.result.failed
    (c.generate-generated.ensures.tells descriptors has) c.generate-generated.ensures.fault c.generate-generated.ensures.no_fault)
