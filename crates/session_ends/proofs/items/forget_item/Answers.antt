-- The owner's release has not begun: the call is refused only where the owner has no such item.
use Rattle.session_ends.proofs.Lemmas.{forgets, still_unbegun}
use Rattle.session_ends.proofs.items.forget_item.Goals as goal

pub returns-clause-acted : goal.returns-clause-acted
returns-clause-acted g c =
    forgets _ (λ o events p. g.E.Emit.emits o events p) g.met.E.Emit.emits_none c.args.owner.number c.args.kind c.args.key c.args.store.now c.give_back.new.store c.args.space.now c.give_back.new.space c.args.shelf.now c.give_back.new.shelf c.args.commons.now c.give_back.new.commons
    c.args.out.now c.give_back.new.out c.give_back.result (c.give_back.ensures.item c.requires.unbegun) c.give_back.ensures.acted c.give_back.ensures.refused c.give_back.ensures.silent

pub returns-clause-portals : goal.returns-clause-portals
returns-clause-portals g c = c.give_back.ensures.alone.portals

pub returns-clause-unbegun : goal.returns-clause-unbegun
returns-clause-unbegun g c =
    still_unbegun c.args.owner.number c.args.kind c.args.key c.args.store.now c.give_back.new.store c.args.space.now c.give_back.new.space c.args.shelf.now c.give_back.new.shelf c.args.commons.now c.give_back.new.commons c.give_back.result c.requires.unbegun c.give_back.ensures.owners c.give_back.ensures.refused
