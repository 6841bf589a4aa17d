-- Lemmas on how many free chunks there may be.
use Rattle.slab_ctx.proofs.Words.{◌≡◌, ℕ, ◌*◌, ◌^◌, ◌≤◌, List, [], ◌∷◌, length, sum_by, arith, sum_by-cons, mul-le-mul_right, is_empty, free_in, free_chunks, per_block, stride, lives_of, IsKeptBut, Books}
use Rattle.slab_ctx.proofs.Numbers.{per_block-is, per_block-few}

-- a sum of so many at most each
sum-most : (f : ℕ → ℕ) (most : ℕ) → ((x : ℕ) → f x ≤ most) → (xs : List ℕ) → sum_by f xs ≤ most * length xs
sum-most f most all [] = omega arith
sum-most f most all (x ∷ xs) = omega (arith, sum_by-cons f x xs, all x, sum-most f most all xs)

module _ (b : Books) (few : ℕ) (kept : IsKeptBut b few) where
  pub free-is : b.free ≡ sum_by (free_in (per_block b.slots.size)) (lives_of b.slots.blocks)
  unfolding free_chunks
  free-is = kept.free

  -- so many free chunks are a number of 64 bits, with some more
  pub free-small : b.free ≤ 2 ^ 60
  free-small = omega (arith, free-is, sum-most (free_in (per_block b.slots.size)) 509 (λ x. omega (arith, per_block-few b.slots.size kept.slots.least)) (lives_of b.slots.blocks), kept.bytes, kept.most)

  -- and so are their bytes
  pub bytes-small : stride b.slots.size * b.free ≤ 2 ^ 62
  bytes-small =
      let size = b.slots.size in
      let per = per_block size in
      let lives = lives_of b.slots.blocks in
      let sum = mul-le-mul_right (stride size) (sum-most (free_in per) per (λ x. omega arith) lives) in
      let most = mul-le-mul_right (length lives) ((per_block-is size per).0 (omega arith)) in
      rw free-is (omega (arith, kept.bytes, kept.most))

  pub empty-small : b.empty ≤ 2 ^ 60
  empty-small = omega (arith, kept.empty, sum-most is_empty 1 (λ x. grind arith) (lives_of b.slots.blocks), kept.bytes, kept.most)
