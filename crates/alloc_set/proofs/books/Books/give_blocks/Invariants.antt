use Rattle.alloc_set.proofs.Base.{footprint, IsCleared, IsKept, length, Moves, state_of, ◌≡◌}
use Rattle.alloc_set.proofs.books.Books.give_blocks.Given as goal

abbrev pub invariant-loop-number : goal.invariant-loop-number
invariant-loop-number l = record {
  kept : IsKept l.self;
  cleared : IsCleared l.self;
  rest : l.self ≡ record l.initial.self { blocks = l.self.blocks; total = l.self.total; count = l.self.count };
  moves : Moves (footprint (state_of l.initial.self)) (footprint (state_of l.self)) l.initial.space l.space;
  asked : l.space.taken ≡ l.initial.space.taken;
}

abbrev pub decreases-loop-number : goal.decreases-loop-number
decreases-loop-number l = length l.self.blocks.entries
