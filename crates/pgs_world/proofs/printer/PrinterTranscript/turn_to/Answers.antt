use Rattle.pgs_world.proofs.Base.{refl}
use Rattle.pgs_world.proofs.Words.{ShowsEvents-turn}
use Rattle.pgs_world.proofs.printer.PrinterTranscript.turn_to.Goals as goal

pub returns : goal.returns
returns g c = record { turned = λ events behind p. ShowsEvents-turn g.K.Sink.written g.K.Sink.faults c.args.self.now _ behind c.args.session events refl p }
