-- The owner moves, or nothing is done.
use Rattle.session_ends.proofs.Base.{◌≡◌, ◌≢◌, true, Option, IfSome, sym, ap, ◌∙◌, subst, option_map}
use Rattle.session_ends.proofs.Words.{Empty, children, has, OwnerId, owners_of, acted_nothing, where_there, owner_moved, HasMoved, has_moved}
use Rattle.forest.proofs.Trees.{Moves}
use Rattle.session_owners.specs.ResourceState.{OwnerTree}
use Rattle.session_owners.specs.Fitting as fitting
use Rattle.session_ends.proofs.Lemmas.{some_is}
use Rattle.session_ends.proofs.parts.move_owner.Goals as goal

pub move_owner-requires-clause-apart : goal.move_owner-requires-clause-apart
move_owner-requires-clause-apart g c =
    ap (has c.in-Some-to.to.number) (some_is (λ (o : OwnerId). children o.number (owners_of c.args.resources.now) ≡ Empty) c.args.owner c.in-Some.owner c.requires.lone c.in-Some.is)

pub returns-in-Some-to-clause-acted : goal.returns-in-Some-to-clause-acted
returns-in-Some-to-clause-acted g c commons =
    subst (λ (o : Option OwnerId). fitting.Acted (λ scene. where_there (option_map (λ (id : OwnerId). id.number) o) (λ n. where_there (option_map (λ (id : OwnerId). id.number) c.args.to) (owner_moved n)) scene) c.args.resources.now c.move_owner.new.self commons commons (λ events. g.E.Emit.emits c.args.out.now events c.move_owner.new.out))
    (sym c.in-Some.is)
    (subst (λ (t : Option OwnerId). fitting.Acted (λ scene. where_there (option_map (λ (id : OwnerId). id.number) t) (owner_moved c.in-Some.owner.number) scene) c.args.resources.now c.move_owner.new.self commons commons (λ events. g.E.Emit.emits c.args.out.now events c.move_owner.new.out))
    (sym c.in-Some-to.is) (c.move_owner.ensures.acted commons))

pub returns-in-None-clause-acted : goal.returns-in-None-clause-acted
returns-in-None-clause-acted g c commons =
    subst (λ (o : Option OwnerId). fitting.Acted (λ scene. where_there (option_map (λ (id : OwnerId). id.number) o) (λ n. where_there (option_map (λ (id : OwnerId). id.number) c.args.to) (owner_moved n)) scene) c.args.resources.now c.args.resources.now commons commons (λ events. g.E.Emit.emits c.args.out.now events c.args.out.now))
    (sym c.in-None.is) (acted_nothing c.args.resources.now commons (λ events. g.E.Emit.emits c.args.out.now events c.args.out.now) (g.met.E.Emit.emits_none c.args.out.now))

pub returns-in-None-to-clause-acted : goal.returns-in-None-to-clause-acted
returns-in-None-to-clause-acted g c commons =
    subst (λ (o : Option OwnerId). fitting.Acted (λ scene. where_there (option_map (λ (id : OwnerId). id.number) o) (λ n. where_there (option_map (λ (id : OwnerId). id.number) c.args.to) (owner_moved n)) scene) c.args.resources.now c.args.resources.now commons commons (λ events. g.E.Emit.emits c.args.out.now events c.args.out.now))
    (sym c.in-Some.is)
    (subst (λ (t : Option OwnerId). fitting.Acted (λ scene. where_there (option_map (λ (id : OwnerId). id.number) t) (owner_moved c.in-Some.owner.number) scene) c.args.resources.now c.args.resources.now commons commons (λ events. g.E.Emit.emits c.args.out.now events c.args.out.now))
    (sym c.in-None-to.is) (acted_nothing c.args.resources.now commons (λ events. g.E.Emit.emits c.args.out.now events c.args.out.now) (g.met.E.Emit.emits_none c.args.out.now)))

pub returns-in-Some-to-clause-had : goal.returns-in-Some-to-clause-had
returns-in-Some-to-clause-had g c n there =
    let t : OwnerTree = owners_of c.args.resources.now in
    let o : OwnerId = c.in-Some.owner in
    let q : OwnerId = c.in-Some-to.to in
    let lone : children o.number t ≡ Empty = some_is (λ (i : OwnerId). children i.number t ≡ Empty) c.args.owner o c.requires.lone c.in-Some.is in
    let w : Moves o.number q.number t = record {
      node = some_is (λ (i : OwnerId). has i.number t ≡ true) c.args.owner o c.requires.there c.in-Some.is;
      parent = some_is (λ (i : OwnerId). has i.number t ≡ true) c.args.to q c.requires.to_there c.in-Some-to.is;
      other = some_is (λ (i : OwnerId). i.number ≢ o.number) c.args.to q
          (some_is (λ (i : OwnerId). IfSome c.args.to (λ (j : OwnerId). j.number ≢ i.number)) c.args.owner o c.requires.other c.in-Some.is) c.in-Some-to.is;
      apart = ap (has q.number) lone;
    } in
    let m : HasMoved o.number q.number t = has_moved o.number q.number t c.requires.once w lone in
    sym (m.has_same n) ∙ ap (has n) (sym c.move_owner.ensures.owners) ∙ there
