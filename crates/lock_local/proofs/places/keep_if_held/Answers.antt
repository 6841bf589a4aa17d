use Rattle.lock_local.proofs.Base.{ap, arith, has_owner, sym, ◌∙◌}
use Rattle.lock_local.proofs.Lemmas.{ownerless_gone, ownerless_none, taken_some}
use Rattle.lock_local.proofs.places.keep_if_held.Goals as goal

pub returns-then-not-has_owner : goal.returns-then-not-has_owner
returns-then-not-has_owner c =
    taken_some c.remove.result _ (c.remove.ensures.succeeds c.index.result.now c.requires.within) c.remove.ensures.items
    ∙ ownerless_gone c.args.locks.now.items c.args.at c.index.result.now (omega (arith, c.requires.within, c.args.locks.now.ok.0)) (sym (c.if-not-has_owner.ensures ∙ ap has_owner c.index.ensures)) (λ k l n. c.requires.others k c.index.result.now (omega (arith, l, c.args.locks.now.ok.0)) n)

pub returns-else-not-has_owner : goal.returns-else-not-has_owner
returns-else-not-has_owner c = ownerless_none c.args.locks.now.items c.args.at c.index.result.now (sym (c.if-not-has_owner.ensures ∙ ap has_owner c.index.ensures)) (λ k l n. c.requires.others k c.index.result.now (omega (arith, l, c.args.locks.now.ok.0)) n)
