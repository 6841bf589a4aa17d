use Rattle.alloc_set.proofs.Base.{grown, halved, held, ◌-◌, ◌^◌, ◌≡◌, ◌≤◌}
use Rattle.alloc_set.proofs.books.Books.fitted.Given as goal

abbrev pub invariant-loop-size : goal.invariant-loop-size
invariant-loop-size l = record {
  same : halved (l.space.limit - held l.space l.self.account) l.need l.size ≡ halved (l.space.limit - held l.space l.self.account) l.need (grown l.self.next l.need);
  enough : l.need ≤ l.size;
  most : l.size ≤ 2 ^ 24;
}

abbrev pub decreases-loop-size : goal.decreases-loop-size
decreases-loop-size l = l.size
