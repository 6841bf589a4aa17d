use Rattle.std.proofs.Common.{length, rules}
use Rattle.owner_kinds.proofs.Keys.{length-keys_in_order}
use Rattle.owner_kinds.proofs.counted_kind.CountedKind.is_full.Goals as goal

pub returns : goal.returns
returns c = rw (← c.self.view_is, length-keys_in_order c.self.inside.keys.items) (search rules)
