use Rattle.std.proofs.Common.{rules, ◌≡◌, ◌∙◌, ap, is_some, false, arith}
use Rattle.owner_items.specs.ItemList.{AreFalling, is_of}
use Rattle.owner_items.specs.Newest.{IsNewest, NonePasses}
use Rattle.owner_items.specs.Gathered.{all_items}
use Rattle.owner_items.specs.Held.{IsTwoPart}
use Rattle.owner_items.proofs.Parts.{parted-state, parted-back, parted-falling, recent-find, recent-all, rest-list, rest-falling, older-all, older-find}
use Rattle.owner_items.proofs.held.Held.forget.Goals as goal

pub returns-in-Some-clause-newest : goal.returns-in-Some-clause-newest
returns-in-Some-clause-newest c = grind (arith, parted-state, recent-find, c.requires.state, c.as_slice.ensures.value, c.in-Some.ensures, c.remove.ensures.value)

pub returns-in-Some-clause-rest : goal.returns-in-Some-clause-rest
returns-in-Some-clause-rest c = grind (arith, parted-state, rest-list, recent-all, c.requires.state, c.as_slice.ensures.value, c.in-Some.ensures, c.remove.ensures.items, c.remove.ensures.value)

pub returns-in-Some-clause-held : goal.returns-in-Some-clause-held
returns-in-Some-clause-held c =
    let none : is_some c.args.self.now.order ≡ false = search rules in
    let parts : IsTwoPart c.args.self.now.recent.items c.args.self.now.table.entries.items c.args.self.now.table.live c.args.self.now.table.index.slots.items c.args.self.now.table.index.used =
    parted-state c.args.self.now.order c.args.self.now.recent.items c.args.self.now.table.entries.items c.args.self.now.table.live
    c.args.self.now.table.index.slots.items c.args.self.now.table.index.used none c.requires.state
    in
    let newest : IsNewest (is_of c.args.kind c.args.key) c.args.self.now.recent.items c.in-Some.place = rw c.as_slice.ensures.value at c.in-Some.ensures in
    let falling : AreFalling (all_items c.remove.new.self.items c.args.self.now.table.entries.items) =
    rest-falling (is_of c.args.kind c.args.key) (all_items c.args.self.now.recent.items c.args.self.now.table.entries.items) (all_items c.remove.new.self.items c.args.self.now.table.entries.items) parts.falling
    (ap (λ z. all_items z c.args.self.now.table.entries.items) c.remove.ensures.items
    ∙ recent-all (is_of c.args.kind c.args.key) c.args.self.now.recent.items c.args.self.now.table.entries.items c.in-Some.place c.remove.result newest c.remove.ensures.value)
    in
    record {
      falling = parted-falling c.remove.new.self.items c.args.self.now.table.entries.items falling;
      counted = c.requires.counted;
      few = omega (arith, c.remove.ensures.len, c.requires.few);
      room = omega (arith, c.remove.ensures.len, c.requires.room);
      state =
          parted-back c.args.self.now.order c.remove.new.self.items c.args.self.now.table.entries.items c.args.self.now.table.live
          c.args.self.now.table.index.slots.items c.args.self.now.table.index.used none
          (record { falling = falling; table = parts.table });
    }

pub returns-clause-newest : goal.returns-clause-newest
returns-clause-newest c = grind (arith, parted-state, older-find, c.requires.state, c.as_slice.ensures.value, c.in_default.ensures, c.forget.ensures.newest)

pub returns-clause-rest : goal.returns-clause-rest
returns-clause-rest c = grind (arith, parted-state, rest-list, older-all, c.requires.state, c.as_slice.ensures.value, c.in_default.ensures, c.forget.ensures.rest)

pub returns-clause-held : goal.returns-clause-held
returns-clause-held c =
    let none : is_some c.args.self.now.order ≡ false = search rules in
    let parts : IsTwoPart c.args.self.now.recent.items c.args.self.now.table.entries.items c.args.self.now.table.live c.args.self.now.table.index.slots.items c.args.self.now.table.index.used =
    parted-state c.args.self.now.order c.args.self.now.recent.items c.args.self.now.table.entries.items c.args.self.now.table.live
    c.args.self.now.table.index.slots.items c.args.self.now.table.index.used none c.requires.state
    in
    let nothing : NonePasses (is_of c.args.kind c.args.key) c.args.self.now.recent.items = rw c.as_slice.ensures.value at c.in_default.ensures in
    let falling : AreFalling (all_items c.args.self.now.recent.items c.forget.new.self.entries.items) =
    rest-falling (is_of c.args.kind c.args.key) (all_items c.args.self.now.recent.items c.args.self.now.table.entries.items) (all_items c.args.self.now.recent.items c.forget.new.self.entries.items) parts.falling
    (older-all (is_of c.args.kind c.args.key) c.args.self.now.recent.items c.args.self.now.table.entries.items c.forget.new.self.entries.items nothing c.forget.ensures.rest)
    in
    record {
      falling = parted-falling c.args.self.now.recent.items c.forget.new.self.entries.items falling;
      counted = c.forget.ensures.table.counted;
      few = c.requires.few;
      room = omega (arith, c.forget.ensures.len, c.forget.ensures.capacity, c.requires.room);
      state =
          parted-back c.args.self.now.order c.args.self.now.recent.items c.forget.new.self.entries.items c.forget.new.self.live
          c.forget.new.self.index.slots.items c.forget.new.self.index.used none
          (record { falling = falling; table = c.forget.ensures.table });
    }
