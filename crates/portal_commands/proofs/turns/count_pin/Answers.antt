use Rattle.portal_commands.proofs.Words.{now, handed}
use Rattle.portal_commands.proofs.Lemmas.{no_pin, no_room}
use Rattle.portal_commands.proofs.turns.count_pin.Goals as goal

pub returns-in_err-next : goal.returns-in_err-next
returns-in_err-next g c = record {
  counted = λ role page store keeps none. handed _ _ c.from_residual.ensures.1
      (no_room role page (now store c.args.shared.now) keeps _ c.next.ensures.counted _ c.in_err-next.ensures.injected);
}

pub returns : goal.returns
returns g c = record {
  counted = λ role page store keeps none.
      no_pin role page (now store c.args.shared.now) keeps none _ _ c.next.ensures.counted c.in_ok-next.ensures.goes c.next-2.ensures.counted c.next-2.result (c.next-2.ensures.goes, c.next-2.ensures.injected);
}
