use Rattle.lock_shared.proofs.Base.{ap, sym, ◌∙◌}
use Rattle.lock_shared.proofs.Words.{holdings_of}
use Rattle.lock_shared.proofs.Lemmas.{are_once, held_there, sets_put, OnOk-map}
use Rattle.lock_shared.proofs.shared_locks.SharedLocks.grant.Goals as goal

pub returns-clause-ok : goal.returns-clause-ok
returns-clause-ok c = rw (← c.self.view_is) (OnOk-map c.put.result (sets_put c.self.inside.objects.entries c.put.new.objects.entries _ c.self.invariant c.put.ensures.kept) c.put.ensures.ok)

pub returns-clause-held : goal.returns-clause-held
returns-clause-held c = rw (← c.self.view_is) (λ held. c.put.ensures.held (sym (held_there c.self.inside.objects.entries _ _ _ c.self.invariant) ∙ held))

pub returns-clause-again : goal.returns-clause-again
returns-clause-again c = rw (← c.self.view_is) (λ held. ap holdings_of (c.put.ensures.again (sym (held_there c.self.inside.objects.entries _ _ _ c.self.invariant) ∙ held)))

pub returns-clause-once : goal.returns-clause-once
returns-clause-once c = are_once c.put.new.objects.entries c.put.ensures.kept
