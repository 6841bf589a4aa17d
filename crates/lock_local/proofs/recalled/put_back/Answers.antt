use Rattle.lock_local.proofs.Base.{ap, cond, HasOwnerAt, IsByOwner, Joins, List, Recall, recall_of, Some, subst, sym, WouldHaveOwnerAt, ℕ, ◌∙◌, ◌≡◌, ◌≤◌}
use Rattle.lock_local.proofs.Lemmas.{inserted, IsByOwner-insert, IsByOwner-set, joined_at, joined_new, written}
use Rattle.lock_local.proofs.recalled.put_back.Goals as goal

here : (c : goal.After-recalled-1) → HasOwnerAt c.args.recall.owner c.args.recalled.now.items c.in-Ok.at
here c = subst (λ (n : ℕ). HasOwnerAt n c.args.recalled.now.items c.in-Ok.at) c.owner.ensures c.in-Ok.ensures

owned : (c : goal.After-recalled-1) → c.take_over.new.self.owner ≡ c.args.recall.owner
owned c = c.take_over.ensures.owner ∙ ap (λ (r : Recall). r.owner) c.index_mut-other.ensures.value ∙ (here c).here c.index_mut-other.result.now

pub returns-in-Ok-clause-by_owner : goal.returns-in-Ok-clause-by_owner
returns-in-Ok-clause-by_owner c = IsByOwner-set c.args.recall.owner c.args.recalled.now.items c.in-Ok.at c.take_over.new.self c.requires.by_owner (here c) (owned c)

pub returns-in-Ok-clause-both : goal.returns-in-Ok-clause-both
returns-in-Ok-clause-both c = joined_at c.args.recall.owner c.args.recalled.now.items c.in-Ok.at c.index_mut-other.result.now c.take_over.new.self c.args.recall c.requires.by_owner (here c) c.index_mut-other.ensures.value (owned c) c.take_over.ensures.some c.take_over.ensures.just

pub returns-in-Ok-clause-others : goal.returns-in-Ok-clause-others
returns-in-Ok-clause-others c = λ v apart. written c.args.recall.owner c.args.recalled.now.items c.in-Ok.at c.take_over.new.self c.requires.by_owner (here c) (owned c) v ∙ ap (λ b. cond b (Some c.take_over.new.self) (recall_of c.args.recalled.now.items v)) apart

there : (c : goal.After-put_in) → WouldHaveOwnerAt c.args.recall.owner c.args.recalled.now.items c.in-Err.at
there c = subst (λ (n : ℕ). WouldHaveOwnerAt n c.args.recalled.now.items c.in-Err.at) c.owner.ensures c.in-Err.ensures

pub put_in-requires-clause-within : goal.put_in-requires-clause-within
put_in-requires-clause-within c = subst (λ n. c.in-Err.at ≤ n) (sym c.args.recalled.now.ok.0) c.in-Err.ensures.within

pub returns-in-Err-clause-by_owner : goal.returns-in-Err-clause-by_owner
returns-in-Err-clause-by_owner c = subst IsByOwner (sym c.put_in.ensures) (IsByOwner-insert c.args.recalled.now.items c.in-Err.at c.args.recall c.requires.by_owner (there c))

pub returns-in-Err-clause-both : goal.returns-in-Err-clause-both
returns-in-Err-clause-both c =
    subst (λ (zs : List Recall). Joins c.args.recall (recall_of c.args.recalled.now.items c.args.recall.owner) (recall_of zs c.args.recall.owner)) (sym c.put_in.ensures)
    (joined_new c.args.recalled.now.items c.in-Err.at c.args.recall (there c))

pub returns-in-Err-clause-others : goal.returns-in-Err-clause-others
returns-in-Err-clause-others c = λ v apart.
    ap (λ (zs : List Recall). recall_of zs v) c.put_in.ensures
    ∙ inserted c.args.recall.owner c.args.recalled.now.items c.in-Err.at c.args.recall (there c).before (there c).within (λ i. c.args.recall.owner) v
    ∙ ap (λ b. cond b (Some c.args.recall) (recall_of c.args.recalled.now.items v)) apart
