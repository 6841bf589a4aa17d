-- Lemmas on the classes of chunks.
use Rattle.alloc_set.proofs.Base.{ap, arith, cases_lt, chunk_limit, class_bytes, class_size, class_up_to, count_leading_zeros, inl, inr, leading_top, limit_class, nat_tests, pow-succ', pow_mono, suc, sym, zero, ℕ, ◌-◌, ◌/◌, ◌<◌, ◌^◌, ◌∙◌, ◌≡◌, ◌≤◌}

-- a greater class has greater chunks
pub class_size-mono : (a b : ℕ) → a ≤ b → class_size a ≤ class_size b
class_size-mono a b le = let p : 2 ^ a ≤ 2 ^ b = pow_mono le in omega (arith, p)

pub class_size-least : (class : ℕ) → 8 ≤ class_size class
class_size-least class = omega (arith, class_size-mono 0 class (omega arith))

pub class_size-most : (class : ℕ) → class ≤ 10 → class_size class ≤ 8192
class_size-most class le = omega (arith, class_size-mono class 10 le)

-- the least class that has a size
pub class_up_to-is : (last size class : ℕ) → class ≤ last → size ≤ class_size class → ((lower : ℕ) → lower < class → class_size lower < size) → class_up_to last size ≡ class
unfolding class_up_to
class_up_to-is zero size class le holds lower = omega arith
class_up_to-is (suc last) size class le holds lower = grind (arith, nat_tests, class_size-mono, class_up_to-is last size class)

-- a class whose chunks are too large for the greatest block is passed
pub limit_class-pass : (class max : ℕ) → 0 < class → (max - 40) / 4 < class_bytes class → limit_class (class - 1) max ≡ limit_class class max
unfolding limit_class
limit_class-pass x0 max some over = grind (arith, nat_tests)

-- a class that isn't is the limit
pub limit_class-stop : (class max : ℕ) → (0 < class → class_bytes class ≤ (max - 40) / 4) → limit_class class max ≡ class
unfolding limit_class
limit_class-stop x0 max fits = grind (arith, nat_tests)

-- the limit is one of the classes from which it is sought
pub limit_class-most : (class max : ℕ) → limit_class class max ≤ class
unfolding limit_class
limit_class-most zero max = omega arith
limit_class-most (suc class) max = let before = limit_class-most class max in grind (arith, nat_tests)

pub chunk_limit-most : (max : ℕ) → chunk_limit max ≤ 8192
unfolding chunk_limit
chunk_limit-most max = class_size-most (limit_class 10 max) (limit_class-most 10 max)

-- twice the size of a class, and that of the next one
class_size-suc : (class : ℕ) → class_size (suc class) ≡ 2 ^ suc (suc (suc (suc class)))
class_size-suc class = omega (arith, pow-succ' 2 class, pow-succ' 2 (suc class), pow-succ' 2 (suc (suc class)), pow-succ' 2 (suc (suc (suc class))))

-- the class by the bits of the size before
pub class-bits : (size zeros : ℕ) → 8 < size → size ≤ 8192 → zeros ≡ count_leading_zeros 32 (size - 1)
    → (zeros ≤ 28) × (29 - zeros ≤ 10) × (size ≤ class_size (29 - zeros)) × ((lower : ℕ) → lower < 29 - zeros → class_size lower < size)
class-bits size zeros over small is =
    let top = leading_top 32 (size - 1) (omega arith) (omega arith) in
    let least : 3 ≤ top.0 = elim (cases_lt top.0 3) [
      | inl below ↦ let le : suc top.0 ≤ 3 = omega (arith, below) in let p : 2 ^ suc top.0 ≤ 2 ^ 3 = pow_mono le in absurd (omega (arith, p, top.3, over))
      | inr not_below ↦ not_below
    ] in
    let most : top.0 ≤ 12 = elim (cases_lt 12 top.0) [
      | inl above ↦ let le : 13 ≤ top.0 = omega (arith, above) in let p : 2 ^ 13 ≤ 2 ^ top.0 = pow_mono le in absurd (omega (arith, p, top.2, small))
      | inr not_above ↦ not_above
    ] in
    let k : ℕ = top.0 - 3 in
    let bits : top.0 ≡ suc (suc (suc k)) = omega (arith, least) in
    let class : 29 - zeros ≡ suc k = omega (arith, is, top.1, least) in
    let here : class_size (29 - zeros) ≡ 2 ^ suc top.0 = ap class_size class ∙ class_size-suc k ∙ ap (λ n. 2 ^ suc n) (sym bits) in
    let before : class_size k ≡ 2 ^ top.0 = omega (arith, pow-succ' 2 k, pow-succ' 2 (suc k), pow-succ' 2 (suc (suc k)), ap (λ n. 2 ^ n) bits) in
    (omega (arith, is, top.1, least), omega (arith, class, most), omega (arith, here, top.3), λ lower less. omega (arith, class_size-mono lower k (omega (arith, less, class)), before, top.2, over))

-- what bounds the sizes of the classes, and the limit
pub ruleset class_sizes = (class_size-most, chunk_limit-most)
