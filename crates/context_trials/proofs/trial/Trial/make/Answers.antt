use Rattle.context_trials.proofs.Standing.{stands_made, stands_refused}
use Rattle.context_trials.proofs.trial.Trial.make.Goals as goal

pub returns-in_err-id-clause-stands : goal.returns-in_err-id-clause-stands
returns-in_err-id-clause-stands c = stands_refused c.args.self.now c.create.new.self c.create.new.space c.create.new.out c.requires.stands c.create.ensures.moves c.in_err-id.ensures.err

pub returns-clause-stands : goal.returns-clause-stands
returns-clause-stands c =
    stands_made c.args.self.now c.create.new.self c.create.new.space c.create.new.out c.args.parent.number c.in_ok-id.id.number c.args.name c.args.kind c.args.protected c.requires.stands c.create.ensures.moves
    c.create.ensures.stays c.create.ensures.current c.in_ok-id.ensures.next c.in_ok-id.ensures.number c.if-self-ge-MOST.false c.in_ok-id.ensures.contexts
