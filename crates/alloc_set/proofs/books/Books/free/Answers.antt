use Rattle.alloc_set.proofs.Base.{Live}
use Rattle.alloc_set.proofs.books.Books.free.Goals as goal

pub shelve-requires-clause-class : goal.shelve-requires-clause-class
shelve-requires-clause-class c = let found = c.in-Some.ensures.class in (c.requires.kept.settled.placed c.args.at (Live c.in-Some.class found.0) found.1).sized.0
