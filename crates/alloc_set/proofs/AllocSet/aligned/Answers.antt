use Rattle.alloc_set.proofs.Base.{arith, nat_tests, state_of}
use Rattle.alloc_set.proofs.Lemmas.{live_whole}
use Rattle.alloc_set.proofs.AllocSet.aligned.Goals as goal

pub returns : goal.returns
returns c = grind (arith, nat_tests, live_whole (state_of c.self.inside.books.value) c.self.inside.books.value.active.region c.self.inside.books.value.active.size c.self.invariant.settled, c.self.view_is, c.self.invariant.settled)
