use Rattle.alloc_set.proofs.Base.{arith, Books, class_bytes, class_size, drop, drop_all, drop_more, free_bytes, get_or, IsKept, length, length-map, List, nat_tests, refl, Shelf, state_of, stats, sum, sum_by-cons, ℕ, ◌*◌, ◌+◌, ◌<◌, ◌∙◌, ◌≡◌}
use Rattle.alloc_set.proofs.Lemmas.{bytes_of, count-few, count_is}
use Rattle.alloc_set.proofs.books.Books.stats.Goals as goal

-- the ledger counts eleven classes, and what it counts from one on is that class and what it counts from the next on
eleven : (b : Books) → IsKept b → length (state_of b).ledger.free ≡ 11
eleven b kept = length-map b.shelves (λ (s : Shelf). s.count) ∙ kept.shelved.eleven

from_class : (counts : List ℕ) (class : ℕ) → class < length counts
    → (free_bytes class (drop class counts) ≡ class_bytes class * get_or counts class 0 + free_bytes (class + 1) (drop (class + 1) counts)) × (sum (drop class counts) ≡ get_or counts class 0 + sum (drop (class + 1) counts))
from_class counts class below = rw (drop_more counts class 0 below) (refl, sum_by-cons (λ (x : ℕ). x) (get_or counts class 0) (drop (class + 1) counts))

pub loop-class-preserved : goal.loop-class-preserved
loop-class-preserved c = grind (arith, nat_tests, count_is c.args.self.now c.loop-class.class c.requires c.loop-class-test.true, from_class (state_of c.args.self.now).ledger.free c.loop-class.class, eleven c.args.self.now c.requires, bytes_of c.args.self.now c.loop-class.class c.from-in-loop-class.result c.requires c.loop-class-test.true, count-few c.args.self.now c.loop-class.class c.requires c.loop-class-test.true, c.loop-class-test.true, c.at-count.ensures, c.from-in-loop-class.ensures, c.class_size.ensures.value, c.requires, c.loop-class.invariant.free, c.loop-class.invariant.chunks, c.loop-class.invariant.most, c.requires.counted.most, c.loop-class.invariant.few)

pub returns : goal.returns
unfolding stats
returns c = grind (arith, drop_all, eleven, sum, c.requires, c.loop-class-test.false, c.loop-class.invariant.free, c.loop-class.invariant.chunks)
