-- Lemmas on the counts of live chunks.
use Rattle.ctx_blocks.proofs.Base.{[], Addr, arith, Block, block_at, cases_eq, Chunk, chunk_at, count_in, if◌then◌else◌, inl, inr, insert_entry, is_in, is_some, IsCounted, IsLaid, Layout, List, lookup, nat_tests, None, option_cases, same_addr, same_addr-cases, Some, sum_by, sum_by-cons, ℕ, ◌+◌, ◌==◌, ◌∷◌, ◌≡◌, ◌≤◌}

-- one or none by whether a region is another one
abbrev pub one_in : ℕ → ℕ → ℕ
one_in number region = if region == number then 1 else 0

-- a live chunk is counted in its region
counted_at : (at : Addr) (chunk : Chunk) (es : List (Addr × Chunk)) → lookup (same_addr at) es ≡ Some chunk → 1 ≤ sum_by (is_in at.region) es
counted_at at chunk [] found = absurd (cc)
counted_at at chunk (e ∷ es) found = grind (arith, sum_by-cons (is_in at.region) e es, counted_at at chunk es)

-- what the count gains where a chunk is put
pub count-put : (number : ℕ) (at : Addr) (chunk : Chunk) (es : List (Addr × Chunk)) → sum_by (is_in number) (insert_entry same_addr es at chunk) + (if is_some (lookup (same_addr at) es) then one_in number at.region else 0) ≡ sum_by (is_in number) es + one_in number at.region
count-put number at chunk [] = omega (arith, sum_by-cons (is_in number) (at, chunk) [])
count-put number at chunk (e ∷ es) =
    grind (arith, count-put number at chunk es, sum_by-cons (is_in number) e es, sum_by-cons (is_in number) (e.0, chunk) es, sum_by-cons (is_in number) e (insert_entry same_addr es at chunk))

-- a block that counts no live chunk has none, and one with a chunk counts some
pub some_in : (l : Layout) → IsCounted l → (at : Addr) (chunk : Chunk) (block : Block) → chunk_at l at ≡ Some chunk → block_at l at.region ≡ Some block → 1 ≤ block.live
some_in l counted at chunk block found owned = omega (arith, counted at.region block owned, counted_at at chunk l.chunks found)

pub none_in : (l : Layout) → IsCounted l → (number : ℕ) (block : Block) (at : Addr) → block_at l number ≡ Some block → block.live ≡ 0 → at.region ≡ number → chunk_at l at ≡ None
none_in l counted number block at owned none region = grind (arith, nat_tests, option_cases (chunk_at l at), some_in l counted)

-- where a region counts a chunk one is live there
some_counted : (number : ℕ) (es : List (Addr × Chunk)) → 1 ≤ sum_by (is_in number) es → (at : Addr) × (x : Chunk) × (at.region ≡ number) × (lookup (same_addr at) es ≡ Some x)
some_counted number [] some = absurd (omega arith)
some_counted number (e ∷ es) some =
    elim (cases_eq e.0.region number) [
      | inl here ↦ (e.0, e.1, here, grind arith)
      | inr there ↦
          let it = some_counted number es (grind (arith, sum_by-cons (is_in number) e es)) in
          elim (same_addr-cases it.0 e.0) [
            | inl same ↦ (it.0, e.1, it.2, grind (arith, same.1))
            | inr differs ↦ (it.0, it.1, it.2, grind (arith, differs.1, it.3))
          ]
    ]

-- a region that is no block has no chunk
pub none_placed : (l : Layout) → IsLaid l → (number : ℕ) → block_at l number ≡ None → count_in l number ≡ 0
none_placed l laid number none =
    elim (cases_eq (count_in l number) 0) [
      | inl zero ↦ zero
      | inr some ↦
          let it = some_counted number l.chunks (omega arith) in
          let owned = rw it.2 at ((laid.placed it.0 it.1 it.3).owned) in
          absurd (cc)
    ]
