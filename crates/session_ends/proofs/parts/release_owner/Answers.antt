use Rattle.session_ends.proofs.Base.{Option, ◌∙◌, ap, sym, subst, option_map}
use Rattle.session_ends.proofs.Words.{OwnerId, BeforeLocks, Locks, AfterLocks, has, owners_of, own_released, released, where_there, owner_released, has_swept, table_of, ActedOn, balances_none, hosting, goes_nothing}
use Rattle.session_ends.proofs.Lemmas.{acted_on_nothing}
use Rattle.session_ends.proofs.parts.release_owner.Goals as goal

pub returns-in-Some-clause-stays : goal.returns-in-Some-clause-stays
returns-in-Some-clause-stays g c n =
    let p = c.in-Some.owner.number in
    let t = owners_of c.args.resources.now in
    ap (has n) c.release.ensures.owners
    ∙ has_swept (own_released (table_of c.args.commons.now.kinds) AfterLocks) n p (released (table_of c.args.commons.now.kinds) Locks p (released (table_of c.args.commons.now.kinds) BeforeLocks p t))
    ∙ has_swept (own_released (table_of c.args.commons.now.kinds) Locks) n p (released (table_of c.args.commons.now.kinds) BeforeLocks p t)
    ∙ has_swept (own_released (table_of c.args.commons.now.kinds) BeforeLocks) n p t

pub returns-in-Some-clause-acted : goal.returns-in-Some-clause-acted
returns-in-Some-clause-acted g c =
    subst (λ (o : Option OwnerId). ActedOn (λ scene. where_there (option_map (λ (id : OwnerId). id.number) o) (owner_released c.args.commit c.args.top) scene) c.args.resources.now c.release.new.self (hosting c.args.place.now.tree.now c.args.place.now.space.now c.args.place.now.shelf.now) (hosting c.release.new.place.tree.now c.release.new.place.space.now c.release.new.place.shelf.now) c.args.commons.now c.release.new.commons (λ events. g.E.Emit.emits c.args.out.now events c.release.new.out))
    (sym c.in-Some.is) c.release.ensures.acted

pub returns-in-None-clause-acted : goal.returns-in-None-clause-acted
returns-in-None-clause-acted g c =
    subst (λ (o : Option OwnerId). ActedOn (λ scene. where_there (option_map (λ (id : OwnerId). id.number) o) (owner_released c.args.commit c.args.top) scene) c.args.resources.now c.args.resources.now (hosting c.args.place.now.tree.now c.args.place.now.space.now c.args.place.now.shelf.now) (hosting c.args.place.now.tree.now c.args.place.now.space.now c.args.place.now.shelf.now) c.args.commons.now c.args.commons.now (λ events. g.E.Emit.emits c.args.out.now events c.args.out.now))
    (sym c.in-None.is) (acted_on_nothing c.args.resources.now (hosting c.args.place.now.tree.now c.args.place.now.space.now c.args.place.now.shelf.now) c.args.commons.now (λ events. g.E.Emit.emits c.args.out.now events c.args.out.now) (g.met.E.Emit.emits_none c.args.out.now))

pub returns-in-None-clause-balances : goal.returns-in-None-clause-balances
returns-in-None-clause-balances g c = balances_none _ _

pub returns-in-None-clause-went : goal.returns-in-None-clause-went
returns-in-None-clause-went g c = goes_nothing c.args.place.now.tree.now c.args.place.now.space.now

pub returns-in-Some-clause-went : goal.returns-in-Some-clause-went
returns-in-Some-clause-went g c = c.release.ensures.went.3
