-- A context on which one more hook waits.
use Rattle.context_node.proofs.Words.{◌≡◌, Bool, List, Hook, Kept, IsSoundContext}
use Rattle.std.proofs.lemmas.Bool.Decides.{nat_tests}
use Rattle.std.proofs.Common.{arith}

-- the context is the same, but for being used and its hooks
abbrev pub SameChunks : Kept → Kept → Type 0
SameChunks k l = (used : Bool) × (hooks : List Hook) × (l ≡ record k { used = used; hooks = hooks })

pub same_sound : (k l : Kept) → SameChunks k l → IsSoundContext k → IsSoundContext l
same_sound k l same sound = grind (arith, nat_tests, same.2, sound.flat, sound.once, sound.numbers, sound.live, sound.placed, sound.known, sound.differ, sound.total)
