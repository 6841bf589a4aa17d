use Rattle.lock_local.proofs.Base.{ap, IsByOwner, List, Recall, recall_of, Some, subst, sym, WouldHaveOwnerAt, ◌∙◌, ◌≡◌, ◌≤◌}
use Rattle.lock_local.proofs.Lemmas.{at_place, inserted, IsByOwner-insert, IsByOwner-set, no_place, remembers_new, remembers_noted, written}
use Rattle.lock_local.proofs.recalled.note.Goals as goal

pub returns-in-Ok-clause-by_owner : goal.returns-in-Ok-clause-by_owner
returns-in-Ok-clause-by_owner c =
    let x = c.index_mut-recall.result.now in
    let owned : c.note.new.self.owner ≡ c.args.owner = c.note.ensures.owner ∙ ap (λ (r : Recall). r.owner) c.index_mut-recall.ensures.value ∙ c.in-Ok.ensures.here x in
    IsByOwner-set c.args.owner c.args.recalled.now.items c.in-Ok.at c.note.new.self c.requires.by_owner c.in-Ok.ensures owned

pub returns-in-Ok-clause-remembers : goal.returns-in-Ok-clause-remembers
returns-in-Ok-clause-remembers c = λ xs ys h more.
    let x = c.index_mut-recall.result.now in
    let rs = c.args.recalled.now.items in
    let owned : c.note.new.self.owner ≡ c.args.owner = c.note.ensures.owner ∙ ap (λ (r : Recall). r.owner) c.index_mut-recall.ensures.value ∙ c.in-Ok.ensures.here x in
    remembers_noted rs _ xs ys c.args.owner c.args.object c.args.mode x c.note.new.self h more
    (at_place c.args.owner rs c.in-Ok.at x c.requires.by_owner c.in-Ok.ensures ∙ ap Some (sym c.index_mut-recall.ensures.value))
    (written c.args.owner rs c.in-Ok.at c.note.new.self c.requires.by_owner c.in-Ok.ensures owned) c.note.ensures.some c.note.ensures.just

pub put_in-requires-clause-within : goal.put_in-requires-clause-within
put_in-requires-clause-within c = subst (λ n. c.in-Err.at ≤ n) (sym c.args.recalled.now.ok.0) c.in-Err.ensures.within

pub returns-in-Err-clause-by_owner : goal.returns-in-Err-clause-by_owner
returns-in-Err-clause-by_owner c =
    let rs = c.args.recalled.now.items in
    subst IsByOwner (sym c.put_in.ensures) (IsByOwner-insert rs c.in-Err.at c.new.result c.requires.by_owner (subst (λ n. WouldHaveOwnerAt n rs c.in-Err.at) (sym c.new.ensures.owner) c.in-Err.ensures))

pub returns-in-Err-clause-remembers : goal.returns-in-Err-clause-remembers
returns-in-Err-clause-remembers c = λ xs ys h more.
    let rs = c.args.recalled.now.items in
    remembers_new rs c.put_in.new.recalled.items xs ys c.args.owner c.args.object c.args.mode c.new.result h more (no_place c.args.owner rs c.in-Err.at c.in-Err.ensures)
    (λ v. ap (λ (zs : List Recall). recall_of zs v) c.put_in.ensures ∙ inserted c.args.owner rs c.in-Err.at c.new.result c.in-Err.ensures.before c.in-Err.ensures.within c.new.ensures.owner v)
    c.new.ensures.some c.new.ensures.just
