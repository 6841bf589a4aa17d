use Rattle.portal_store.proofs.Base.{ap, ◌∙◌}
use Rattle.portal_store.proofs.Words.{Portal, knows}
use Rattle.portal_store.proofs.Lemmas.{sub_aborted_name, aborted_at, moved_at, IsKept_set}
use Rattle.portal_store.proofs.portals.Portals.sub_abort.Goals as goal

pub invariant_of-self : goal.invariant_of-self
invariant_of-self c = IsKept_set (knows c.self.inside.places) c.self.inside.reach.levels.items c.self.inside.portals.items c.args.i c.index_mut.result.now c.sub_abort.new.self c.index_mut.ensures.value (ap (λ (p : Portal). p.name) c.sub_abort.ensures.portal ∙ sub_aborted_name c.args.level c.index_mut.result.now) c.sub_abort.ensures.created c.sub_abort.ensures.active c.self.invariant

pub returns-clause-portal : goal.returns-clause-portal
returns-clause-portal c = aborted_at c.args.level c.args.i c.self.inside.portals.items c.args.self.now c.index_mut.result.now c.sub_abort.new.self c.self.view_is c.requires c.index_mut.ensures.value c.sub_abort.ensures.portal

pub returns-clause-moved : goal.returns-clause-moved
returns-clause-moved c = c.sub_abort.ensures.moved ∙ moved_at c.args.level c.args.i c.self.inside.portals.items c.args.self.now c.index_mut.result.now c.self.view_is c.requires c.index_mut.ensures.value
