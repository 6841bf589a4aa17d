-- Only the current context is another one.
use Rattle.session_store.proofs.Lemmas.{switched_after, switched_alone}
use Rattle.session_store.proofs.store.Store.switch.Goals as goal

pub returns-clause-acted : goal.returns-clause-acted
returns-clause-acted g c s x commons = switched_after _ _ _ _ _ c.self.view_is c.switch.new.self c.args.to c.switch.ensures s x commons

pub returns-clause-alone : goal.returns-clause-alone
returns-clause-alone g c s commons keeps = switched_alone _ _ _ _ _ c.self.view_is c.switch.new.self c.args.to c.switch.ensures s commons keeps
