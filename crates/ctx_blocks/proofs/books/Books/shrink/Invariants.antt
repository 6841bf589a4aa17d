use Rattle.ctx_blocks.proofs.Base.{[], footprint, IsLaid, IsUnique, layout_of, length, Moves, nat_eq, take, total, ◌≡◌, ◌≤◌}
use Rattle.ctx_blocks.proofs.books.Books.shrink.Given as goal

abbrev pub invariant-loop-self : goal.invariant-loop-self
invariant-loop-self l = record {
  apart : IsUnique nat_eq l.self.blocks;
  laid : IsLaid (layout_of l.self);
  total : l.self.total ≡ total (layout_of l.self);
  rest : l.self ≡ record l.fn.self { blocks = l.self.blocks; chunks = l.self.chunks; total = l.self.total };
  chunks : l.self.chunks.entries ≡ [];
  blocks : l.self.blocks.entries ≡ take (length l.self.blocks.entries) l.fn.self.blocks.entries;
  enough : l.first ≤ length l.self.blocks.entries;
  asked : l.space.taken ≡ l.fn.space.taken;
  moves : Moves (footprint (layout_of l.fn.self)) (footprint (layout_of l.self)) l.fn.space l.space;
}

abbrev pub decreases-loop-self : goal.decreases-loop-self
decreases-loop-self l = length l.self.blocks.entries
