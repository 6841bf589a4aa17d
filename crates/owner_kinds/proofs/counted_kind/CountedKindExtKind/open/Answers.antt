use Rattle.std.proofs.Common.{◌≡◌, ◌∷◌, ◌++◌, [], refl, rules}
use Rattle.owner_kinds.proofs.Keys.{keys_in_order-push}
use Rattle.owner_kinds.proofs.counted_kind.CountedKindExtKind.open.Goals as goal

pub returns-clause-ok : goal.returns-clause-ok
returns-clause-ok c =
    let pushed : c.push.new.self.items ≡ c.self.inside.keys.items ++ c.args.key ∷ [] = search rules in
    rw (← c.self.view_is, pushed, keys_in_order-push c.self.inside.keys.items c.args.key) refl
