use Rattle.portal_commands.proofs.Base.{refl, sym, arith}
use Rattle.portal_commands.proofs.Words.{now}
use Rattle.portal_commands.proofs.Lemmas.{end_of_none, portal_ends}
use Rattle.portal_commands.proofs.ending.end_portal.Goals as goal

pub returns-in-None : goal.returns-in-None
returns-in-None g c = record { performed = end_of_none c.args.name (now c.args.store.now c.args.shared.now) _ c.requires.between.keeps (sym c.in-None.ensures.portal) (g.met.E.Emit.emits_none c.args.out.now) }

pub returns-in-Some : goal.returns-in-Some
returns-in-Some g c = record {
  performed =
      portal_ends c.args.name (now c.args.store.now c.args.shared.now) _ c.requires.between.keeps _ c.in-Some.field-0.now (sym c.in-Some.ensures.portal) c.end_portal.ensures.acted c.end_portal.ensures.keeps c.end_portal.ensures.moves
      (record {
        contexts = omega (arith, c.end_portal.ensures.next_context);
        owners = omega (arith, c.end_portal.ensures.next_owner);
        serials = omega (arith, c.end_portal.ensures.next_serial);
        calls = omega arith;
        descriptors = c.end_portal.ensures.descriptors;
      }) refl c.end_portal.ensures.asked;
}
