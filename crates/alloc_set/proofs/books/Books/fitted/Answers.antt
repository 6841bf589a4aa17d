use Rattle.alloc_set.proofs.Base.{arith, cases_lt, halved, halved_by, nat_tests, None, refl, Some, suc, sym, zero, ℕ, ◌-◌, ◌/◌, ◌<◌, ◌∙◌, ◌≡◌, ◌≤◌}
use Rattle.alloc_set.proofs.books.Books.fitted.Goals as goal

-- any number of times that is enough gives the same
halved_by-enough : (f g left need size : ℕ) → size ≤ f → size ≤ g → halved_by f left need size ≡ halved_by g left need size
unfolding halved_by
halved_by-enough zero zero left need size f_enough g_enough = refl
halved_by-enough zero (suc g) left need size f_enough g_enough = grind (arith, nat_tests)
halved_by-enough (suc f) zero left need size f_enough g_enough = grind (arith, nat_tests)
halved_by-enough (suc f) (suc g) left need size f_enough g_enough = grind (arith, nat_tests, cases_lt 1048576 size, halved_by-enough f g left need (size / 2))

-- a size that fits stays, one that doesn't is halved while it is large, and then it isn't to be had
halved-fits : (left need size : ℕ) → size ≤ left → halved left need size ≡ Some size
unfolding halved halved_by
halved-fits left need zero fits = grind (arith, nat_tests)
halved-fits left need (suc size) fits = grind (arith, nat_tests)

halved-go : (left need size : ℕ) → left < size → 1048576 < size → need ≤ size / 2 → halved left need size ≡ halved left need (size / 2)
unfolding halved halved_by
halved-go left need size over large enough = grind (arith, halved_by-enough)

halved-stop : (left need size : ℕ) → left < size → size ≤ 1048576 → halved left need size ≡ None
unfolding halved halved_by
halved-stop left need zero over small = grind (arith, nat_tests)
halved-stop left need (suc size) over small = grind (arith, nat_tests)

pub loop-size-preserved : goal.loop-size-preserved
loop-size-preserved c = grind (arith, cases_lt, halved-go, c.loop-size.invariant, c.fits.ensures.1, c.loop-size.invariant.enough, c.requires.least, c.if-not-fits.true, c.loop-size-test.true, c.if-size-need.true, c.loop-size.invariant.same, c.loop-size.invariant.most)

pub returns-else-not-fits-clause-some : goal.returns-else-not-fits-clause-some
returns-else-not-fits-clause-some c = λ fits. sym c.loop-size.invariant.same ∙ halved-fits _ c.args.need c.loop-size.size fits

pub returns-after-loop-size-clause-some : goal.returns-after-loop-size-clause-some
returns-after-loop-size-clause-some c = λ fits. sym c.loop-size.invariant.same ∙ halved-fits _ c.args.need c.loop-size.size fits

pub returns-after-loop-size-clause-none : goal.returns-after-loop-size-clause-none
returns-after-loop-size-clause-none c = λ over. sym c.loop-size.invariant.same ∙ halved-stop _ c.args.need c.loop-size.size over c.loop-size-test.false
