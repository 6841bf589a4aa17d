use Rattle.lock_local.proofs.Base.{added, ap, arith, ◌∙◌}
use Rattle.lock_local.proofs.Lemmas.{at_success, handed_fits, room_left}
use Rattle.lock_local.proofs.local_lock.hand_over.Goals as goal

pub add-requires : goal.add-requires
add-requires c = handed_fits c.args.from _ _ _ c.requires.fits c.requires.count c.take_off.ensures.items

pub returns : goal.returns
returns c =
    at_success c.add.result
    (c.add.ensures.room (room_left c.args.from _ _ _ _ _ c.len-fits.ensures.value c.len-fits.ensures.fits c.take_off.ensures.capacity c.take_off.ensures.items (omega (arith, c.requires.count, c.requires.held))))
    c.add.ensures.ok
    ∙ ap (added c.args.to c.args.count) c.take_off.ensures.items
