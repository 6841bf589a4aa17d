use Rattle.std.proofs.Common.{◌-◌, ◌<◌, length, map, arith, subst, sym, ◌∙◌, ap, slice_get, IfSome}
use Rattle.std.proofs.lemmas.List.{length-map}
use Rattle.owner_kinds.specs.Kind.{opened, IsFull}
use Rattle.owner_kinds.specs.KindShelf.{table_of}
use Rattle.owner_kinds.specs.KindTable.{IsSound}
use Rattle.owner_kinds.proofs.Places.{changed_place, same_place, at_place, from_place, on_ok, on_err, on_either, table-opened, times_held-opened, kept_shelf}
use Rattle.owner_kinds.proofs.kind_shelf.KindShelf.open.Goals as goal

within : (g : _) (c : goal.After-self-1 g) → c.args.kind.0 - 16 < length c.self.inside.kinds.items
within g c =
    let named : c.args.kind.0 - 16 < length (table_of (map g.K.ExtKind.kind_meaning c.self.inside.kinds.items)).names =
    rw (← c.self.view_is) at c.requires.named
    in
    omega (
      arith,
      length-map c.self.inside.kinds.items g.K.ExtKind.kind_meaning,
      length-map (map g.K.ExtKind.kind_meaning c.self.inside.kinds.items) (λ k. k.name),
    )

pub returns-clause-ok : goal.returns-clause-ok
returns-clause-ok g c =
    on_ok c.open.result c.open.ensures.ok
    (λ done.
    rw (← c.self.view_is)
    (changed_place c.self.inside.kinds.items (c.args.kind.0 - 16) _ c.open.new.self (opened c.args.key) g.K.ExtKind.kind_meaning (within g c)
    c.index_mut.ensures.value done))

pub returns-clause-err : goal.returns-clause-err
returns-clause-err g c =
    on_err c.open.result c.open.ensures.err
    (λ same.
    same_place c.self.inside.kinds.items (c.args.kind.0 - 16) _ c.open.new.self g.K.ExtKind.kind_meaning c.index_mut.ensures.value same
    ∙ c.self.view_is)

pub returns-clause-table : goal.returns-clause-table
returns-clause-table g c =
    on_either c.open.result (returns-clause-ok g c) (returns-clause-err g c)
    (λ done. ap table_of done ∙ table-opened c.args.self.now (c.args.kind.0 - 16) c.args.key)
    (λ same. ap table_of same)

pub returns-clause-times : goal.returns-clause-times
returns-clause-times g c =
    on_ok c.open.result (returns-clause-ok g c)
    (λ done other q. rw done (times_held-opened c.args.self.now c.args.kind c.args.key other q c.requires.from
    (subst (λ z. c.args.kind.0 - 16 < length z) c.self.view_is (rw length-map (within g c)))))

pub returns-clause-full : goal.returns-clause-full
returns-clause-full g c = (
  λ full.
      subst (λ z. IfSome (slice_get z (c.args.kind.0 - 16)) IsFull) c.self.view_is
      (at_place c.self.inside.kinds.items (c.args.kind.0 - 16) _ g.K.ExtKind.kind_meaning IsFull (within g c) c.index_mut.ensures.value
      (c.open.ensures.full.0 full)),
  λ full.
      c.open.ensures.full.1
      (from_place c.self.inside.kinds.items (c.args.kind.0 - 16) _ g.K.ExtKind.kind_meaning IsFull (within g c) c.index_mut.ensures.value
      (subst (λ z. IfSome (slice_get z (c.args.kind.0 - 16)) IsFull) (sym c.self.view_is) full)),
)

pub returns-clause-sound : goal.returns-clause-sound
returns-clause-sound g c =
    subst IsSound (sym (returns-clause-table g c)) (subst (λ z. IsSound (table_of z)) c.self.view_is c.self.invariant.sound)

pub invariant_of-self : goal.invariant_of-self
invariant_of-self g c =
    kept_shelf _ _ (map g.K.ExtKind.kind_meaning c.self.inside.kinds.items) _ (returns-clause-table g c ∙ sym (ap table_of c.self.view_is)) c.self.invariant
