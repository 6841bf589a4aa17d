use Rattle.std.proofs.Common.{arith}
use Rattle.std.proofs.lemmas.Bool.Decides.{nat_tests}
use Rattle.alloc_set.specs.State.{footprint}
use Rattle.addr_space.proofs.Carried.{IsInside-live}
use Rattle.memory_trials.proofs.sets.a_moved_chunk_keeps_its_bytes.Goals as goal

pub read-requires-clause-inside : goal.read-requires-clause-inside
read-requires-clause-inside g c =
    IsInside-live (footprint c.realloc.new.self) c.realloc.new.space c.in_ok-to.to 9 8 c.realloc.ensures.moves.agrees (grind (arith, nat_tests, c.in_ok-to.ensures.live c.in_ok-to.to)) (omega arith)
