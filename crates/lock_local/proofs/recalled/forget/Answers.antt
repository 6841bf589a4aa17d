use Rattle.lock_local.proofs.Base.{ap, arith, IsByOwner, List, Recall, recall_of, remove, Some, subst, sym, ◌∙◌, ◌≡◌}
use Rattle.lock_local.proofs.Lemmas.{at_place, IsByOwner-remove, IsByOwner-set, no_place, not_unknown, remembers_last, remembers_less, remove-set, removed, taken_some, written}
use Rattle.lock_local.proofs.recalled.forget.Goals as goal

pub returns-in_default-clause-remembers : goal.returns-in_default-clause-remembers
returns-in_default-clause-remembers c = λ xs ys h less one. absurd (not_unknown c.args.recalled.now.items xs c.args.owner c.args.object c.args.mode h (no_place c.args.owner c.args.recalled.now.items c.in_default.field-0 c.in_default.ensures) one)

left : (c : goal.After-remove) → c.remove.new.self.items ≡ remove c.args.recalled.now.items c.in-Ok.at
left c =
    taken_some c.remove.result _ (c.remove.ensures.succeeds c.index_mut-recall.result.now (omega (arith, c.in-Ok.ensures.within, c.args.recalled.now.ok.0))) c.remove.ensures.items
    ∙ remove-set c.args.recalled.now.items c.in-Ok.at c.forget.new.self

pub returns-then-is_empty-clause-by_owner : goal.returns-then-is_empty-clause-by_owner
returns-then-is_empty-clause-by_owner c = subst IsByOwner (sym (left c)) (IsByOwner-remove c.args.recalled.now.items c.in-Ok.at c.requires.by_owner)

pub returns-then-is_empty-clause-remembers : goal.returns-then-is_empty-clause-remembers
returns-then-is_empty-clause-remembers c = λ xs ys h less one.
    let x = c.index_mut-recall.result.now in
    let rs = c.args.recalled.now.items in
    remembers_last rs c.remove.new.self.items xs ys c.args.owner c.args.object c.args.mode x c.forget.new.self h less one
    (at_place c.args.owner rs c.in-Ok.at x c.requires.by_owner c.in-Ok.ensures ∙ ap Some (sym c.index_mut-recall.ensures.value))
    (λ v. ap (λ (zs : List Recall). recall_of zs v) (left c) ∙ removed c.args.owner rs c.in-Ok.at x c.requires.by_owner c.in-Ok.ensures v)
    c.forget.ensures.more c.forget.ensures.just (c.is_empty.ensures.none c.if-is_empty.true)

pub returns-else-is_empty-clause-by_owner : goal.returns-else-is_empty-clause-by_owner
returns-else-is_empty-clause-by_owner c =
    let x = c.index_mut-recall.result.now in
    let owned : c.forget.new.self.owner ≡ c.args.owner = c.forget.ensures.owner ∙ ap (λ (r : Recall). r.owner) c.index_mut-recall.ensures.value ∙ c.in-Ok.ensures.here x in
    IsByOwner-set c.args.owner c.args.recalled.now.items c.in-Ok.at c.forget.new.self c.requires.by_owner c.in-Ok.ensures owned

pub returns-else-is_empty-clause-remembers : goal.returns-else-is_empty-clause-remembers
returns-else-is_empty-clause-remembers c = λ xs ys h less one.
    let x = c.index_mut-recall.result.now in
    let rs = c.args.recalled.now.items in
    let owned : c.forget.new.self.owner ≡ c.args.owner = c.forget.ensures.owner ∙ ap (λ (r : Recall). r.owner) c.index_mut-recall.ensures.value ∙ c.in-Ok.ensures.here x in
    remembers_less rs _ xs ys c.args.owner c.args.object c.args.mode x c.forget.new.self h less one
    (at_place c.args.owner rs c.in-Ok.at x c.requires.by_owner c.in-Ok.ensures ∙ ap Some (sym c.index_mut-recall.ensures.value))
    (written c.args.owner rs c.in-Ok.at c.forget.new.self c.requires.by_owner c.in-Ok.ensures owned)
    (c.is_empty.ensures.some c.if-is_empty.false) c.forget.ensures.more c.forget.ensures.just
