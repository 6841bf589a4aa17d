use Rattle.lock_shared.proofs.Base.{List, ◌++◌, ◌∷◌, [], ap, sym, subst, ◌∙◌, Some}
use Rattle.lock_shared.proofs.Words.{Holding, IsKept}
use Rattle.lock_shared.proofs.Lemmas.{kept_one, kept_with}
use Rattle.lock_shared.proofs.shared_locks.enter.Goals as goal

pub returns-clause-kept : goal.returns-clause-kept
returns-clause-kept c =
    let h = c.args.holding in
    kept_with c.args.objects.now.entries _ h.object (Some c.push_reserved.new.self) c.requires.kept c.insert.ensures.unique
    (subst (IsKept h.object) (sym (c.push_reserved.ensures.items ∙ ap (λ (xs : List Holding). xs ++ h ∷ []) c.new-holders.ensures.items)) (kept_one h))
    c.in_ok-insert.ensures.updates.0
