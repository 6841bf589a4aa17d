use Rattle.std.proofs.Common.{◌≡◌, ◌-◌, ◌==◌, ◌&&◌, cond, set, Some, None, is_some, reverse, sym, ◌∙◌, ap, subst, arith, false}
use Rattle.owner_items.specs.ItemList.{is_of, without_newest}
use Rattle.owner_items.specs.Index.{number_in}
use Rattle.owner_items.specs.Table.{live_items, IsTable, newest_in}
use Rattle.owner_items.specs.declared.entry.Entry.{Entry}
use Rattle.owner_items.proofs.Linked.{Found, find-none, reverse-length, forgotten-items}
use Rattle.owner_items.proofs.NewestFirst.{without_none}
use Rattle.owner_items.proofs.TableSteps.{found_here, entry_here, after-forget, forget-table, found-length}
use Rattle.owner_items.proofs.table.Table.forget.Goals as goal
use Rattle.std.proofs.lemmas.Bool.Decides.{nat_tests}

none_here : (c : goal.After-from_residual) → newest_in (is_of c.args.kind c.args.key) (reverse c.args.self.now.entries.items) ≡ None
none_here c = sym (c.requires.numbers c.args.kind c.args.key) ∙ sym c.in_err-place.ensures

pub returns-in_err-place-clause-newest : goal.returns-in_err-place-clause-newest
returns-in_err-place-clause-newest c = grind (arith, find-none, none_here, c.from_residual.ensures)

pub returns-in_err-place-clause-rest : goal.returns-in_err-place-clause-rest
returns-in_err-place-clause-rest c = grind (arith, without_none, find-none, none_here)

pub index-entry-requires : goal.index-entry-requires
index-entry-requires c = grind (arith, nat_tests, found_here c.args.self.now.entries.items c.args.self.now.live c.args.self.now.index.slots.items c.args.self.now.index.used, reverse-length c.args.self.now.entries.items, c.requires, c.in_ok-place.ensures)

pub index_mut-requires : goal.index_mut-requires
index_mut-requires c = grind (arith, nat_tests, found_here c.args.self.now.entries.items c.args.self.now.live c.args.self.now.index.slots.items c.args.self.now.index.used, reverse-length c.args.self.now.entries.items, c.requires, c.in_ok-place.ensures)

pub overflow_sub-self : goal.overflow_sub-self
overflow_sub-self c = grind (arith, nat_tests, found_here c.args.self.now.entries.items c.args.self.now.live c.args.self.now.index.slots.items c.args.self.now.index.used, found-length (is_of c.args.kind c.args.key) (live_items (reverse c.args.self.now.entries.items)), c.requires, c.in_ok-place.ensures, c.requires.counted)

pub returns-clause-table : goal.returns-clause-table
returns-clause-table c =
    let f : Found (is_of c.args.kind c.args.key) (reverse c.args.self.now.entries.items) c.in_ok-place.place =
    found_here c.args.self.now.entries.items c.args.self.now.live c.args.self.now.index.slots.items c.args.self.now.index.used
    c.args.kind c.args.key c.in_ok-place.place c.requires c.in_ok-place.ensures
    in
    let read : c.index-entry.result.now ≡ f.0 =
    entry_here c.args.self.now.entries.items c.args.kind c.args.key c.in_ok-place.place c.index-entry.result.now f c.index-entry.ensures
    in
    let written : c.index_mut.result.now ≡ f.0 =
    entry_here c.args.self.now.entries.items c.args.kind c.args.key c.in_ok-place.place c.index_mut.result.now f c.index_mut.ensures.value
    in
    subst
    (λ (z : Entry).
    IsTable (set c.args.self.now.entries.items c.in_ok-place.place (record z { live = false })) (c.args.self.now.live - 1)
    c.put.new.self.slots.items c.put.new.self.used)
    (sym written)
    (forget-table c.args.self.now.entries.items c.args.self.now.live c.args.self.now.index.slots.items c.put.new.self.slots.items
    c.args.self.now.index.used c.put.new.self.used c.args.kind c.args.key c.in_ok-place.place f c.requires c.in_ok-place.ensures
    c.put.ensures.index c.put.ensures.room (c.put.ensures.known (ap is_some (sym c.in_ok-place.ensures)))
    (λ other q.
    c.put.ensures.numbers other q
    ∙ ap
    (λ (z : Entry). cond ((c.args.kind.0 == other.0) && (c.args.key == q)) z.older (number_in other q c.args.self.now.index.slots.items))
    read))

pub returns-clause-newest : goal.returns-clause-newest
returns-clause-newest c =
    let f : Found (is_of c.args.kind c.args.key) (reverse c.args.self.now.entries.items) c.in_ok-place.place =
    found_here c.args.self.now.entries.items c.args.self.now.live c.args.self.now.index.slots.items c.args.self.now.index.used
    c.args.kind c.args.key c.in_ok-place.place c.requires c.in_ok-place.ensures
    in
    let read : c.index-entry.result.now ≡ f.0 =
    entry_here c.args.self.now.entries.items c.args.kind c.args.key c.in_ok-place.place c.index-entry.result.now f c.index-entry.ensures
    in
    ap (λ (z : Entry). Some z.item) read ∙ sym f.1.first

pub returns-clause-rest : goal.returns-clause-rest
returns-clause-rest c =
    let f : Found (is_of c.args.kind c.args.key) (reverse c.args.self.now.entries.items) c.in_ok-place.place =
    found_here c.args.self.now.entries.items c.args.self.now.live c.args.self.now.index.slots.items c.args.self.now.index.used
    c.args.kind c.args.key c.in_ok-place.place c.requires c.in_ok-place.ensures
    in
    let written : c.index_mut.result.now ≡ f.0 =
    entry_here c.args.self.now.entries.items c.args.kind c.args.key c.in_ok-place.place c.index_mut.result.now f c.index_mut.ensures.value
    in
    subst
    (λ (z : Entry).
    live_items (reverse (set c.args.self.now.entries.items c.in_ok-place.place (record z { live = false })))
    ≡ without_newest (is_of c.args.kind c.args.key) (live_items (reverse c.args.self.now.entries.items)))
    (sym written)
    (ap live_items (after-forget c.args.self.now.entries.items c.args.kind c.args.key c.in_ok-place.place f)
    ∙ forgotten-items (is_of c.args.kind c.args.key) (reverse c.args.self.now.entries.items))
