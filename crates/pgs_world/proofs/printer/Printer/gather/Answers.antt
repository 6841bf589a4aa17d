use Rattle.pgs_world.proofs.Base.{ℕ, List, refl, subst}
use Rattle.pgs_world.proofs.Words.{text_of, TakesBytes-more, TakesBytes}
use Rattle.pgs_world.proofs.printer.Printer.gather.Goals as goal

pub returns : goal.returns
returns g c =
    let line : TakesBytes g.K.Sink.written g.K.Sink.faults c.make_room.new.self (text_of c.args.self.now.names.now (record { session = c.args.self.now.session; what = c.args.what.now })) c.append.new.self =
    subst (λ (names : List (List ℕ)). TakesBytes g.K.Sink.written g.K.Sink.faults c.make_room.new.self (text_of names (record { session = c.args.self.now.session; what = c.args.what.now })) c.append.new.self) c.make_room.ensures.bytes.names
    (subst (λ (session : ℕ). TakesBytes g.K.Sink.written g.K.Sink.faults c.make_room.new.self (text_of c.make_room.new.self.names.now (record { session = session; what = c.args.what.now })) c.append.new.self) c.make_room.ensures.bytes.session c.append.ensures)
    in
    TakesBytes-more g.K.Sink.written g.K.Sink.faults c.args.self.now c.make_room.new.self c.append.new.self _ _ _ c.make_room.ensures.bytes line refl
