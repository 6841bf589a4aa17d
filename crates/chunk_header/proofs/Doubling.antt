-- Lemmas on a size that is doubled while it is below a need, and on the sizes of blocks.
use Rattle.std.proofs.Common.{◌≡◌, ℕ, zero, suc, ◌+◌, ◌*◌, ◌<◌, ◌≤◌, refl, sym, arith, min, rules}
use Rattle.std.proofs.lemmas.Bool.{cases_lt}
use Rattle.std.proofs.lemmas.Bool.Decides.{nat_tests}
use Rattle.std.proofs.Common.{inl, inr}
use Rattle.chunk_header.specs.Growth.{doubled, grown, AreSizes}

-- a size that meets the need stays
pub doubled-stop : (times size need : ℕ) → need ≤ size → doubled times size need ≡ size
unfolding doubled
doubled-stop zero size need meets = refl
doubled-stop (suc times) size need meets = grind (arith, nat_tests)

-- any number of times that is enough gives the same
pub doubled-enough : (f g size need : ℕ) → 0 < size → need ≤ f + size → need ≤ g + size → doubled f size need ≡ doubled g size need
unfolding doubled
doubled-enough zero g size need some f_enough g_enough = sym (doubled-stop g size need (omega arith))
doubled-enough (suc f) zero size need some f_enough g_enough = doubled-stop (suc f) size need (omega arith)
doubled-enough (suc f) (suc g) size need some f_enough g_enough =
    elim (cases_lt size need) [
      | inl below ↦ let more = doubled-enough f g (2 * size) need (omega arith) (omega arith) (omega arith) in grind (arith, nat_tests)
      | inr meets ↦ grind (arith, nat_tests)
    ]

pub grown_stop : (size need : ℕ) → need ≤ size → grown size need ≡ size
unfolding grown
grown_stop size need meets = doubled-stop need size need meets

pub grown_go : (size need : ℕ) → 0 < size → size < need → grown size need ≡ grown (size * 2) need
unfolding grown doubled
grown_go size need some below =
    let more = doubled-enough need (suc need) size need some (omega arith) (omega arith) in grind (arith, nat_tests)

-- the first block's size is one that the next block may have
pub AreSizes-first : (init max next : ℕ) → AreSizes init max next → AreSizes init max init
AreSizes-first init max next s = search rules

-- and so is twice the next one's, up to the greatest
pub AreSizes-next : (init max next : ℕ) → AreSizes init max next → AreSizes init max (min (2 * next) max)
AreSizes-next init max next s = search rules
