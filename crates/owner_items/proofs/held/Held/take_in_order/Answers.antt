use Rattle.std.proofs.Common.{◌≡◌, IfNone, ap, arith}
use Rattle.owner_kinds.specs.KindTable.{IsKind}
use Rattle.owner_kinds.specs.KindShelf.{table_of}
use Rattle.owner_items.specs.Held.{items_of}
use Rattle.owner_items.proofs.Released.{Takes, takes-none, takes-order, takes-rest, takes-left, takes-done, takes-All, none-map}
use Rattle.owner_items.proofs.held.Held.take_in_order.Goals as goal
use Rattle.std.proofs.lemmas.Bool.Decides.{nat_tests}

pub returns-clause-none : goal.returns-clause-none
returns-clause-none g c = grind (arith, nat_tests, takes-none (table_of c.args.kinds.now) c.args.phase (items_of c.args.self.now) c.take_next.result (items_of c.take_next.new.self) c.take_next.ensures.next, c.take_next.ensures.next)

pub returns-clause-order : goal.returns-clause-order
returns-clause-order g c = grind (arith, none-map, takes-order, c.take_next.ensures.next, c.take_next.ensures.unchanged)

pub returns-clause-rest : goal.returns-clause-rest
returns-clause-rest g c = grind (arith, nat_tests, takes-rest (table_of c.args.kinds.now) c.args.phase (items_of c.args.self.now) c.take_next.result (items_of c.take_next.new.self) c.take_next.ensures.next c.requires.held.falling, c.take_next.ensures.next, c.requires.held.falling)

pub returns-clause-left : goal.returns-clause-left
returns-clause-left g c =
    let takes : Takes (table_of c.args.kinds.now) c.args.phase (items_of c.args.self.now) c.take_next.result (items_of c.take_next.new.self) = c.take_next.ensures.next in
    let same : IfNone c.take_next.result (items_of c.take_next.new.self ≡ (items_of c.args.self.now)) =
    none-map c.take_next.result (λ e. ap items_of e) c.take_next.ensures.unchanged
    in
    takes-left (table_of c.args.kinds.now) c.args.phase (items_of c.args.self.now) c.take_next.result (items_of c.take_next.new.self) takes same

pub returns-clause-done : goal.returns-clause-done
returns-clause-done g c =
    let takes : Takes (table_of c.args.kinds.now) c.args.phase (items_of c.args.self.now) c.take_next.result (items_of c.take_next.new.self) = c.take_next.ensures.next in
    let same : IfNone c.take_next.result (items_of c.take_next.new.self ≡ (items_of c.args.self.now)) =
    none-map c.take_next.result (λ e. ap items_of e) c.take_next.ensures.unchanged
    in
    takes-done (table_of c.args.kinds.now) c.args.phase (items_of c.args.self.now) c.take_next.result (items_of c.take_next.new.self) takes same

pub returns-clause-kinds : goal.returns-clause-kinds
returns-clause-kinds g c =
    let takes : Takes (table_of c.args.kinds.now) c.args.phase (items_of c.args.self.now) c.take_next.result (items_of c.take_next.new.self) = c.take_next.ensures.next in
    let same : IfNone c.take_next.result (items_of c.take_next.new.self ≡ (items_of c.args.self.now)) =
    none-map c.take_next.result (λ e. ap items_of e) c.take_next.ensures.unchanged
    in
    takes-All (λ item. IsKind (table_of c.args.kinds.now) item.kind) (table_of c.args.kinds.now) c.args.phase (items_of c.args.self.now) c.take_next.result (items_of c.take_next.new.self) takes same c.requires.kinds
