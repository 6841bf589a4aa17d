-- The owner goes, whatever the commons are.
use Rattle.session_ends.proofs.Base.{Option, sym, ap, ◌∙◌, subst, option_map}
use Rattle.session_ends.proofs.Words.{has, has_of_removed, OwnerId, where_there, owner_gone, owners_of, acted_nothing}
use Rattle.session_owners.specs.Fitting as fitting
use Rattle.session_ends.proofs.parts.discard_owner.Goals as goal

pub returns-in-Some-clause-acted : goal.returns-in-Some-clause-acted
returns-in-Some-clause-acted g c commons =
    subst (λ (o : Option OwnerId). fitting.Acted (λ scene. where_there (option_map (λ (id : OwnerId). id.number) o) owner_gone scene) c.args.resources.now c.discard.new.self commons commons (λ events. g.E.Emit.emits c.args.out.now events c.discard.new.out))
    (sym c.in-Some.is) (c.discard.ensures.acted commons)

pub returns-in-None-clause-acted : goal.returns-in-None-clause-acted
returns-in-None-clause-acted g c commons =
    subst (λ (o : Option OwnerId). fitting.Acted (λ scene. where_there (option_map (λ (id : OwnerId). id.number) o) owner_gone scene) c.args.resources.now c.args.resources.now commons commons (λ events. g.E.Emit.emits c.args.out.now events c.args.out.now))
    (sym c.in-None.is) (acted_nothing c.args.resources.now commons (λ events. g.E.Emit.emits c.args.out.now events c.args.out.now) (g.met.E.Emit.emits_none c.args.out.now))

pub returns-in-Some-clause-had : goal.returns-in-Some-clause-had
returns-in-Some-clause-had g c n there = has_of_removed n c.in-Some.owner.number (owners_of c.args.resources.now) (ap (has n) (sym c.discard.ensures.owners) ∙ there)
