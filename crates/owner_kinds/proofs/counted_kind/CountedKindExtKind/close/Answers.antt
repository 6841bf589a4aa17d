use Rattle.std.proofs.Common.{◌≡◌, ◌≤◌, ap, sym, ◌∙◌, arith, refl}
use Rattle.owner_kinds.specs.Kind.{times}
use Rattle.owner_kinds.proofs.Keys.{none_held, place_held, times-keys_in_order}
use Rattle.owner_kinds.proofs.counted_kind.CountedKindExtKind.close.Goals as goal

pub returns-in-Some : goal.returns-in-Some
returns-in-Some c =
    let same = place_held c.args.key c.self.inside.keys.items c.in-Some.place (sym (rw c.deref.ensures.value at c.place_of.ensures) ∙ c.in-Some.is) in
    rw (← c.self.view_is, c.remove.ensures.items, same) refl

pub returns-in_default : goal.returns-in_default
returns-in_default c =
    let none : times c.args.key c.self.inside.keys.items ≡ 0 =
    none_held c.args.key c.self.inside.keys.items (sym (rw c.deref.ensures.value at c.place_of.ensures) ∙ c.in_default.is)
    in
    let held : 1 ≤ times c.args.key c.args.self.now.held = c.requires in
    let is : times c.args.key c.args.self.now.held ≡ times c.args.key c.self.inside.keys.items =
    ap (λ k. times c.args.key k.held) (sym c.self.view_is) ∙ times-keys_in_order c.args.key c.self.inside.keys.items
    in
    absurd (omega arith)
