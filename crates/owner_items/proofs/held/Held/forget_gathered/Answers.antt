use Rattle.std.proofs.Common.{◌≡◌, ◌≤◌, ◌-◌, ◌∙◌, [], All, None, find, ap, sym, subst, true, false, arith}
use Rattle.owner_items.specs.declared.entry.Entry.{Entry}
use Rattle.owner_items.specs.ItemList.{is_of}
use Rattle.owner_items.specs.Gathered.{all_items, newest_first, IsNewestOf}
use Rattle.owner_items.specs.Held.{items_of}
use Rattle.owner_items.proofs.NewestFirst.{without_none}
use Rattle.owner_items.proofs.Sums.{one_more}
use Rattle.owner_items.proofs.Parts.{state-live, gathered-state, state-less, less-sums, live-less, newest-gone, IsForgotten, gathered-all, find-nothing}
use Rattle.owner_items.proofs.held.Held.forget_gathered.Goals as goal
use Rattle.std.proofs.lemmas.Bool.Decides.{nat_tests}

pub returns-in_err-place-clause-newest : goal.returns-in_err-place-clause-newest
returns-in_err-place-clause-newest c =
    let none : c.args.self.now.recent.items ≡ [] = gathered-state c.args.self.now.order c.args.self.now.recent.items c.args.self.now.table.entries.items c.args.self.now.table.live
    c.args.self.now.table.index.slots.items c.args.self.now.table.index.used c.requires.gathered c.requires.held.state in
    let nothing : All (λ (e : Entry). is_of c.args.kind c.args.key e.item ≡ false) c.args.self.now.table.entries.items = rw c.deref.ensures.value at c.in_err-place.ensures in
    let found : find (is_of c.args.kind c.args.key) (items_of c.args.self.now) ≡ None =
    find-nothing (is_of c.args.kind c.args.key) (items_of c.args.self.now) (gathered-all (λ z. is_of c.args.kind c.args.key z ≡ false) c.args.self.now.recent.items c.args.self.now.table.entries.items none nothing)
    in
    c.from_residual.ensures ∙ sym found

pub returns-in_err-place-clause-rest : goal.returns-in_err-place-clause-rest
returns-in_err-place-clause-rest c =
    let none : c.args.self.now.recent.items ≡ [] = gathered-state c.args.self.now.order c.args.self.now.recent.items c.args.self.now.table.entries.items c.args.self.now.table.live
    c.args.self.now.table.index.slots.items c.args.self.now.table.index.used c.requires.gathered c.requires.held.state in
    let nothing : All (λ (e : Entry). is_of c.args.kind c.args.key e.item ≡ false) c.args.self.now.table.entries.items = rw c.deref.ensures.value at c.in_err-place.ensures in
    let found : find (is_of c.args.kind c.args.key) (items_of c.args.self.now) ≡ None =
    find-nothing (is_of c.args.kind c.args.key) (items_of c.args.self.now) (gathered-all (λ z. is_of c.args.kind c.args.key z ≡ false) c.args.self.now.recent.items c.args.self.now.table.entries.items none nothing)
    in
    sym (without_none (is_of c.args.kind c.args.key) (items_of c.args.self.now) found)

pub overflow_sub-self : goal.overflow_sub-self
overflow_sub-self c = grind (arith, nat_tests, state-live c.args.self.now.order c.args.self.now.recent.items c.args.self.now.table.entries.items c.args.self.now.table.live, live-less c.args.self.now.table.entries.items c.remove-entry.new.self.items c.in_ok-place.place c.remove-entry.result, c.deref.ensures.value, c.in_ok-place.ensures, c.requires.gathered, c.requires.held.state, c.remove-entry.ensures.value, c.requires.held.counted, c.remove-entry.ensures.items)

pub returns-clause-newest : goal.returns-clause-newest
returns-clause-newest c =
    let newest : IsNewestOf (is_of c.args.kind c.args.key) c.args.self.now.table.entries.items c.in_ok-place.place = rw c.deref.ensures.value at c.in_ok-place.ensures in
    let all : All (λ (e : Entry). e.live ≡ true) c.args.self.now.table.entries.items = state-live c.args.self.now.order c.args.self.now.recent.items c.args.self.now.table.entries.items c.args.self.now.table.live
    c.args.self.now.table.index.slots.items c.args.self.now.table.index.used c.requires.gathered c.requires.held.state in
    let live : c.remove-entry.result.live ≡ true =
    ap (λ (e : Entry). e.live) c.remove-entry.ensures.value ∙ all c.in_ok-place.place c.remove-entry.result newest.within
    in
    let none : c.args.self.now.recent.items ≡ [] = gathered-state c.args.self.now.order c.args.self.now.recent.items c.args.self.now.table.entries.items c.args.self.now.table.live
    c.args.self.now.table.index.slots.items c.args.self.now.table.index.used c.requires.gathered c.requires.held.state in
    let gone : IsForgotten (is_of c.args.kind c.args.key) (items_of c.args.self.now) c.remove-entry.result.item (newest_first (all_items c.args.self.now.recent.items c.remove-entry.new.self.items)) =
    newest-gone (is_of c.args.kind c.args.key) (items_of c.args.self.now) (newest_first (all_items c.args.self.now.recent.items c.remove-entry.new.self.items)) c.remove-entry.result.item
    c.requires.held.falling
    (one_more (all_items c.args.self.now.recent.items c.args.self.now.table.entries.items) (all_items c.args.self.now.recent.items c.remove-entry.new.self.items) c.remove-entry.result.item c.requires.held.falling
    (less-sums c.args.self.now.recent.items c.args.self.now.table.entries.items c.remove-entry.new.self.items c.in_ok-place.place c.remove-entry.result newest.within c.remove-entry.ensures.value
    c.remove-entry.ensures.items live))
    (ap (λ (e : Entry). is_of c.args.kind c.args.key e.item) c.remove-entry.ensures.value ∙ newest.passes c.remove-entry.result)
    (gathered-all (λ z. is_of c.args.kind c.args.key z ≡ true → z.serial ≤ c.remove-entry.result.item.serial) c.args.self.now.recent.items c.args.self.now.table.entries.items none
    (subst (λ (e : Entry). All (λ (x : Entry). is_of c.args.kind c.args.key x.item ≡ true → x.item.serial ≤ e.item.serial) c.args.self.now.table.entries.items)
    (sym c.remove-entry.ensures.value) (newest.newest c.remove-entry.result)))
    in
    sym gone.found

pub returns-clause-rest : goal.returns-clause-rest
returns-clause-rest c =
    let newest : IsNewestOf (is_of c.args.kind c.args.key) c.args.self.now.table.entries.items c.in_ok-place.place = rw c.deref.ensures.value at c.in_ok-place.ensures in
    let all : All (λ (e : Entry). e.live ≡ true) c.args.self.now.table.entries.items = state-live c.args.self.now.order c.args.self.now.recent.items c.args.self.now.table.entries.items c.args.self.now.table.live
    c.args.self.now.table.index.slots.items c.args.self.now.table.index.used c.requires.gathered c.requires.held.state in
    let live : c.remove-entry.result.live ≡ true =
    ap (λ (e : Entry). e.live) c.remove-entry.ensures.value ∙ all c.in_ok-place.place c.remove-entry.result newest.within
    in
    let none : c.args.self.now.recent.items ≡ [] = gathered-state c.args.self.now.order c.args.self.now.recent.items c.args.self.now.table.entries.items c.args.self.now.table.live
    c.args.self.now.table.index.slots.items c.args.self.now.table.index.used c.requires.gathered c.requires.held.state in
    let gone : IsForgotten (is_of c.args.kind c.args.key) (items_of c.args.self.now) c.remove-entry.result.item (newest_first (all_items c.args.self.now.recent.items c.remove-entry.new.self.items)) =
    newest-gone (is_of c.args.kind c.args.key) (items_of c.args.self.now) (newest_first (all_items c.args.self.now.recent.items c.remove-entry.new.self.items)) c.remove-entry.result.item
    c.requires.held.falling
    (one_more (all_items c.args.self.now.recent.items c.args.self.now.table.entries.items) (all_items c.args.self.now.recent.items c.remove-entry.new.self.items) c.remove-entry.result.item c.requires.held.falling
    (less-sums c.args.self.now.recent.items c.args.self.now.table.entries.items c.remove-entry.new.self.items c.in_ok-place.place c.remove-entry.result newest.within c.remove-entry.ensures.value
    c.remove-entry.ensures.items live))
    (ap (λ (e : Entry). is_of c.args.kind c.args.key e.item) c.remove-entry.ensures.value ∙ newest.passes c.remove-entry.result)
    (gathered-all (λ z. is_of c.args.kind c.args.key z ≡ true → z.serial ≤ c.remove-entry.result.item.serial) c.args.self.now.recent.items c.args.self.now.table.entries.items none
    (subst (λ (e : Entry). All (λ (x : Entry). is_of c.args.kind c.args.key x.item ≡ true → x.item.serial ≤ e.item.serial) c.args.self.now.table.entries.items)
    (sym c.remove-entry.ensures.value) (newest.newest c.remove-entry.result)))
    in
    sym gone.rest

pub returns-clause-held : goal.returns-clause-held
returns-clause-held c =
    let newest : IsNewestOf (is_of c.args.kind c.args.key) c.args.self.now.table.entries.items c.in_ok-place.place = rw c.deref.ensures.value at c.in_ok-place.ensures in
    let all : All (λ (e : Entry). e.live ≡ true) c.args.self.now.table.entries.items = state-live c.args.self.now.order c.args.self.now.recent.items c.args.self.now.table.entries.items c.args.self.now.table.live
    c.args.self.now.table.index.slots.items c.args.self.now.table.index.used c.requires.gathered c.requires.held.state in
    let live : c.remove-entry.result.live ≡ true =
    ap (λ (e : Entry). e.live) c.remove-entry.ensures.value ∙ all c.in_ok-place.place c.remove-entry.result newest.within
    in
    let none : c.args.self.now.recent.items ≡ [] = gathered-state c.args.self.now.order c.args.self.now.recent.items c.args.self.now.table.entries.items c.args.self.now.table.live
    c.args.self.now.table.index.slots.items c.args.self.now.table.index.used c.requires.gathered c.requires.held.state in
    let gone : IsForgotten (is_of c.args.kind c.args.key) (items_of c.args.self.now) c.remove-entry.result.item (newest_first (all_items c.args.self.now.recent.items c.remove-entry.new.self.items)) =
    newest-gone (is_of c.args.kind c.args.key) (items_of c.args.self.now) (newest_first (all_items c.args.self.now.recent.items c.remove-entry.new.self.items)) c.remove-entry.result.item
    c.requires.held.falling
    (one_more (all_items c.args.self.now.recent.items c.args.self.now.table.entries.items) (all_items c.args.self.now.recent.items c.remove-entry.new.self.items) c.remove-entry.result.item c.requires.held.falling
    (less-sums c.args.self.now.recent.items c.args.self.now.table.entries.items c.remove-entry.new.self.items c.in_ok-place.place c.remove-entry.result newest.within c.remove-entry.ensures.value
    c.remove-entry.ensures.items live))
    (ap (λ (e : Entry). is_of c.args.kind c.args.key e.item) c.remove-entry.ensures.value ∙ newest.passes c.remove-entry.result)
    (gathered-all (λ z. is_of c.args.kind c.args.key z ≡ true → z.serial ≤ c.remove-entry.result.item.serial) c.args.self.now.recent.items c.args.self.now.table.entries.items none
    (subst (λ (e : Entry). All (λ (x : Entry). is_of c.args.kind c.args.key x.item ≡ true → x.item.serial ≤ e.item.serial) c.args.self.now.table.entries.items)
    (sym c.remove-entry.ensures.value) (newest.newest c.remove-entry.result)))
    in
    record {
      falling = gone.falling;
      counted =
          omega (
            arith,
            c.requires.held.counted,
            live-less c.args.self.now.table.entries.items c.remove-entry.new.self.items c.in_ok-place.place c.remove-entry.result newest.within
                c.remove-entry.ensures.value c.remove-entry.ensures.items live,
          );
      few = c.requires.held.few;
      room = omega (arith, c.remove-entry.ensures.len, c.remove-entry.ensures.capacity, c.requires.held.room);
      state =
          state-less c.args.self.now.order c.args.self.now.recent.items c.args.self.now.table.entries.items c.remove-entry.new.self.items c.args.self.now.table.live
          (c.args.self.now.table.live - 1) c.args.self.now.table.index.slots.items c.args.self.now.table.index.used
          c.in_ok-place.place c.requires.gathered c.remove-entry.ensures.items c.requires.held.state;
    }
