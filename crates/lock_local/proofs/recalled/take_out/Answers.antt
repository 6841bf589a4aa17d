use Rattle.lock_local.proofs.Base.{ap, arith, IsByOwner, List, Recall, recall_of, remove, subst, sym, ◌∙◌, ◌≡◌}
use Rattle.lock_local.proofs.Lemmas.{absent, at_place, IsByOwner-remove, match_some, no_place, no_recall, removed, taken_some}
use Rattle.lock_local.proofs.recalled.take_out.Goals as goal

left : (c : goal.After-remove) → c.remove.new.self.items ≡ remove c.args.recalled.now.items c.in-Ok.at
left c = taken_some c.remove.result _ (c.remove.ensures.succeeds no_recall (omega (arith, c.in-Ok.ensures.within, c.args.recalled.now.ok.0))) c.remove.ensures.items

pub returns-in-Ok-clause-by_owner : goal.returns-in-Ok-clause-by_owner
returns-in-Ok-clause-by_owner c = subst IsByOwner (sym (left c)) (IsByOwner-remove c.args.recalled.now.items c.in-Ok.at c.requires.by_owner)

pub returns-in-Ok-clause-was : goal.returns-in-Ok-clause-was
returns-in-Ok-clause-was c = c.remove.ensures.succeeds no_recall (omega (arith, c.in-Ok.ensures.within, c.args.recalled.now.ok.0)) ∙ sym (at_place c.args.owner c.args.recalled.now.items c.in-Ok.at no_recall c.requires.by_owner c.in-Ok.ensures)

pub returns-in-Ok-clause-left : goal.returns-in-Ok-clause-left
returns-in-Ok-clause-left c = λ w. ap (λ (zs : List Recall). recall_of zs w) (left c) ∙ removed c.args.owner c.args.recalled.now.items c.in-Ok.at no_recall c.requires.by_owner c.in-Ok.ensures w

pub returns-in-Ok-clause-room : goal.returns-in-Ok-clause-room
returns-in-Ok-clause-room c =
    let found = c.remove.ensures.succeeds no_recall (omega (arith, c.in-Ok.ensures.within, c.args.recalled.now.ok.0)) in
    let less = taken_some c.remove.result _ found c.remove.ensures.len in
    match_some _ _ c.remove.result _ found (omega (arith, less, c.remove.ensures.capacity, c.args.recalled.now.small.1))

pub returns-in-Err-clause-was : goal.returns-in-Err-clause-was
returns-in-Err-clause-was c = sym (no_place c.args.owner c.args.recalled.now.items c.in-Err.field-0 c.in-Err.ensures)

pub returns-in-Err-clause-left : goal.returns-in-Err-clause-left
returns-in-Err-clause-left c = absent c.args.owner c.args.recalled.now.items (no_place c.args.owner c.args.recalled.now.items c.in-Err.field-0 c.in-Err.ensures)
