use Rattle.std.proofs.Common.{◌-◌, ◌<◌, length, map, arith, subst, sym, ◌∙◌, ap}
use Rattle.std.proofs.lemmas.List.{length-map}
use Rattle.owner_kinds.specs.Kind.{closed}
use Rattle.owner_kinds.specs.KindShelf.{table_of}
use Rattle.owner_kinds.specs.KindTable.{IsSound}
use Rattle.owner_kinds.proofs.Places.{changed_place, held-from, held-within, held-at, table-closed, times_held-closed, kept_shelf}
use Rattle.owner_kinds.proofs.kind_shelf.KindShelf.close.Goals as goal

pub overflow_sub-kind : goal.overflow_sub-kind
overflow_sub-kind g c = held-from _ _ _ c.requires

pub index_mut-requires : goal.index_mut-requires
index_mut-requires g c =
    let within : c.args.kind.0 - 16 < length (map g.K.ExtKind.kind_meaning c.self.inside.kinds.items) =
    held-within _ _ _ (rw (← c.self.view_is) at c.requires)
    in
    omega (arith, length-map c.self.inside.kinds.items g.K.ExtKind.kind_meaning)

within : (g : _) (c : goal.After-index_mut g) → c.args.kind.0 - 16 < length c.self.inside.kinds.items
within g c =
    let within : c.args.kind.0 - 16 < length (map g.K.ExtKind.kind_meaning c.self.inside.kinds.items) =
    held-within _ _ _ (rw (← c.self.view_is) at c.requires)
    in
    omega (arith, length-map c.self.inside.kinds.items g.K.ExtKind.kind_meaning)

pub close-requires : goal.close-requires
close-requires g c =
    held-at c.self.inside.kinds.items c.args.kind c.args.key _ g.K.ExtKind.kind_meaning (within g c) c.index_mut.ensures.value
    (rw (← c.self.view_is) at c.requires)

pub returns-clause-after : goal.returns-clause-after
returns-clause-after g c =
    let inside : c.args.kind.0 - 16 < length c.self.inside.kinds.items =
    let within : c.args.kind.0 - 16 < length (map g.K.ExtKind.kind_meaning c.self.inside.kinds.items) =
    held-within _ _ _ (rw (← c.self.view_is) at c.requires)
    in
    omega (arith, length-map c.self.inside.kinds.items g.K.ExtKind.kind_meaning)
    in
    rw (← c.self.view_is)
    (changed_place c.self.inside.kinds.items (c.args.kind.0 - 16) _ c.close.new.self (closed c.args.key) g.K.ExtKind.kind_meaning inside
    c.index_mut.ensures.value c.close.ensures)

pub returns-clause-table : goal.returns-clause-table
returns-clause-table g c = ap table_of (returns-clause-after g c) ∙ table-closed c.args.self.now (c.args.kind.0 - 16) c.args.key

pub returns-clause-times : goal.returns-clause-times
returns-clause-times g c other q =
    rw (returns-clause-after g c) (times_held-closed c.args.self.now c.args.kind c.args.key other q c.requires)

pub returns-clause-sound : goal.returns-clause-sound
returns-clause-sound g c =
    subst IsSound (sym (returns-clause-table g c)) (subst (λ z. IsSound (table_of z)) c.self.view_is c.self.invariant.sound)

pub invariant_of-self : goal.invariant_of-self
invariant_of-self g c =
    kept_shelf _ _ (map g.K.ExtKind.kind_meaning c.self.inside.kinds.items) _ (returns-clause-table g c ∙ sym (ap table_of c.self.view_is)) c.self.invariant
