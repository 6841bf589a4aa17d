use Rattle.session_commands.proofs.Base.{refl}
use Rattle.session_commands.proofs.Words.{buffer_pin}
use Rattle.session_commands.proofs.Lemmas.{take, take_done, call_injected, handed}
use Rattle.session_commands.proofs.steps.take_pin.Goals as goal

pub returns-in_err-next : goal.returns-in_err-next
returns-in_err-next g c = record {
  performed = λ role is. handed _ _ c.from_residual.ensures.1
      (call_injected (take role buffer_pin c.args.buffer) _ _ _ c.next.ensures.counted refl c.requires.keeps refl (g.met.E.Emit.emits_none c.args.out.now) refl _ c.in_err-next.ensures.injected);
}

pub returns : goal.returns
returns g c = record {
  performed = λ role is.
      let space = c.args.shared.now.space.now in
      take_done role buffer_pin c.args.buffer _ _ _ c.next.ensures.counted refl c.requires.keeps c.in_ok-next.ensures.goes (λ around. refl) c.args.owner is
      c.pin.ensures.alone.tree (c.pin.ensures.alone.keeps space c.requires.keeps) (c.pin.ensures.acted space c.args.shared.now.shelf.now);
}

pub pin-requires-clause-serves : goal.pin-requires-clause-serves
pin-requires-clause-serves g c = c.requires.serves
