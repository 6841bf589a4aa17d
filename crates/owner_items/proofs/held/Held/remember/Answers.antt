use Rattle.std.proofs.Common.{vec_len, vec_capacity, arith}
use Rattle.owner_items.proofs.Parts.{spare-some, remember-falling, parted-falling}
use Rattle.owner_items.proofs.held.Held.remember.Goals as goal

pub returns-clause-held : goal.returns-clause-held
returns-clause-held c = grind (arith, vec_len, vec_capacity, spare-some, remember-falling, parted-falling, c.requires.spare, c.requires.held.state, c.push.ensures.items, c.requires.newest, c.requires.held.counted, c.push.ensures.len)
