-- Lemmas on the counts of what was taken.
use Rattle.std.proofs.Common.{◌≡◌, ℕ, ◌+◌, List, get_or, set, arith}
use Rattle.std.proofs.lemmas.Bool.Decides.{nat_tests}
use Rattle.std.proofs.lemmas.List.{get_or-set_same, set-get_or, set-set, set_past, length-set}
use Rattle.addr_space.specs.Space.{Space, Asks, raised, risen}

-- the counts where one of them is set to what it is once so much was added
pub raised-set : (counts : List ℕ) (account n : ℕ) → set counts account (risen (get_or counts account 0) n) ≡ raised counts account n
raised-set counts account n = grind (arith, nat_tests, set-get_or)

-- one rise after another
pub raised-more : (counts : List ℕ) (account m n : ℕ) → raised (raised counts account m) account n ≡ raised counts account (m + n)
raised-more counts account m n = grind (arith, nat_tests, set-set, set_past, length-set, get_or-set_same)

-- what two calls asked together
pub Asks-more : (account m n : ℕ) (s t u : Space) → Asks account m s t → Asks account n t u → Asks account (m + n) s u
Asks-more account m n s t u first second = grind (arith, nat_tests, raised, raised-more s.taken account m n, s.taken)
