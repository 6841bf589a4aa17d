use Rattle.alloc_set.proofs.Base.{arith, lookup, nat_tests, Some, state_of, ◌+◌, ◌==◌, ◌≡◌}
use Rattle.alloc_set.proofs.Lemmas.{noted_own}
use Rattle.alloc_set.proofs.books.Books.room.Goals as goal
use Rattle.alloc_set.proofs.books.Books.room.Goals.{Start}

-- the size of the block is noted
was : (c : Start) → lookup (λ n. c.args.at.region == n) c.args.self.now.blocks.entries ≡ Some (c.requires.own.1 + 48)
was c = noted_own (state_of c.args.self.now) c.args.self.now.active.region c.args.self.now.active.size c.requires.kept.settled c.args.at c.requires.own.0 c.requires.own.1 c.requires.own.2

pub overflow_sub-result : goal.overflow_sub-result
overflow_sub-result c = let one : c.in-Some.size.now ≡ c.requires.own.1 + 48 = cc (was (goal.at.overflow_sub-result c).Start, c.in-Some.ensures.value) in omega (arith, one)

pub unreachable-requires : goal.unreachable-requires
unreachable-requires c = absurd (cc (was (goal.at.unreachable-requires c).Start, c.in-None.ensures.value))

pub returns : goal.returns
returns c = grind (arith, nat_tests, was (goal.at.returns c).Start, c.requires.own.1, c.in-Some.ensures.value, c.requires.own.0, c.requires.own.2)
