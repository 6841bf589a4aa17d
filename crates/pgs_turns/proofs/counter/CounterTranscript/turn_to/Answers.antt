use Rattle.pgs_turns.proofs.Words.{of_session_taken}
use Rattle.pgs_turns.proofs.counter.CounterTranscript.turn_to.Goals as goal

pub returns : goal.returns
returns c = record { turned = λ events behind p. of_session_taken c.args.self.now behind c.args._session events p }
