use Rattle.alloc_set.proofs.Base.{class_bytes, cut_rest, cut_up, CutsUp, footprint, Keeps, Moves, state_of, ◌<◌, ◌≡◌, ◌≤◌}
use Rattle.alloc_set.proofs.books.Books.cut_up.Given as goal

abbrev pub invariant-loop-class : goal.invariant-loop-class
invariant-loop-class l = record {
  last : l.class ≤ 11;
  cut : CutsUp l.initial.self l.self;
  little : l.self.active.room < class_bytes l.class;
  room : cut_rest l.class l.self.active.room ≡ cut_rest 11 l.initial.self.active.room;
  free : cut_up l.class l.self.active.room (state_of l.self).ledger.free ≡ cut_up 11 l.initial.self.active.room (state_of l.initial.self).ledger.free;
  moves : Moves (footprint (state_of l.initial.self)) (footprint (state_of l.self)) l.initial.space l.space;
  keeps : Keeps (footprint (state_of l.initial.self)) (footprint (state_of l.self)) l.initial.space l.space;
  asked : l.space.taken ≡ l.initial.space.taken;
}

abbrev pub decreases-loop-class : goal.decreases-loop-class
decreases-loop-class l = l.class
