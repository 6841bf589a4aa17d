use Rattle.alloc_set.proofs.Base.{drop, free_bytes, state_of, sum, ◌*◌, ◌+◌, ◌^◌, ◌≡◌, ◌≤◌}
use Rattle.alloc_set.proofs.books.Books.stats.Given as goal

abbrev pub invariant-loop-class : goal.invariant-loop-class
invariant-loop-class l = record {
  free : l.free + free_bytes l.class (drop l.class (state_of l.self).ledger.free) ≡ l.self.active.room + l.self.idle + free_bytes 0 (state_of l.self).ledger.free;
  chunks : l.chunks + sum (drop l.class (state_of l.self).ledger.free) ≡ sum (state_of l.self).ledger.free;
  most : l.free ≤ l.self.total + l.class * 2 ^ 57;
  few : l.chunks ≤ l.class * 2 ^ 57;
}
