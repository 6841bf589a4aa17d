-- Lemmas on a block that is added.
use Rattle.ctx_blocks.proofs.Base.{Addr, Agrees, arith, Block, block_at, block_bytes, cases_eq, Changes, footprint, held, if◌then◌else◌, inl, inr, IsFirst, IsLaid, Layout, length-block_bytes, List, map, mark_of, Moves, Moves-taken, nat_tests, None, option_cases, overwritten, refl, region_at, same_addr_from, SameContext, Some, Space, start_of, sym, total, unwritten, ℕ, ◌%◌, ◌+◌, ◌-◌, ◌==◌, ◌^◌, ◌∙◌, ◌≡◌, ◌≢◌, ◌≤◌, ◌⊎◌}
use Rattle.ctx_blocks.proofs.Laid.{mark_cases, region_is, behind, IsSound-laid}
use Rattle.ctx_blocks.proofs.Cleared.{first_only}
use Rattle.ctx_blocks.proofs.Put.{block_was}
use Rattle.ctx_blocks.proofs.Lessened.{start_same, placed_again, mark_same}

-- a region that is not live is no block of the context
pub unowned : (l : Layout) (sp : Space) (number : ℕ) → Agrees (footprint l) sp → region_at sp number ≡ None → block_at l number ≡ None
unowned l sp number agrees free = grind (arith, nat_tests, option_cases (block_at l number), region_is l number)

-- the block of a number and of so many bytes without chunks
abbrev pub empty_block : ℕ → ℕ → Block
empty_block k size = record { number = k; size = size; room = size - 40; live = 0; freed = 0 }

module _ (l m : Layout) (number k size : ℕ) (laid : IsLaid l) (same : SameContext l m) (chunks : m.chunks ≡ l.chunks) (fresh : block_at l number ≡ None)
    (blocks : (other : ℕ) → block_at m other ≡ (if number == other then Some (empty_block k size) else block_at l other))
    (first : IsFirst l.keeper l.first_number l.blocks) (least : 48 ≤ size) (most : size ≤ 2 ^ 31) (whole : size % 8 ≡ 0) where
  -- a block of the context is another one
  owned_differs : (other : ℕ) (b : Block) → block_at l other ≡ Some b → other ≢ number
  owned_differs other b owned e = let clash = rw e at owned in let none = fresh in absurd (cc)

  number_start : start_of m number ≡ 0
  number_start = grind (arith, nat_tests, first_only l.keeper l.first_number l.blocks first, owned_differs l.keeper (first_only l.keeper l.first_number l.blocks first).0 (first_only l.keeper l.first_number l.blocks first).2, start_same l m same number)

  others_now : (other : ℕ) → other ≢ number → block_at m other ≡ block_at l other
  others_now other differs = grind (arith, blocks other)

  pub IsLaid-added : IsLaid m
  IsLaid-added = record {
    filled = λ other b owned.
        elim (block_was l m number (empty_block k size) blocks other b owned) [
          | inl here ↦ rw (here.0, here.1, number_start) (record { small = most; even = omega (arith, whole, least); within = omega arith })
          | inr there ↦ rw same.keeper (laid.filled other b there.1)
        ];
    placed = λ at c found.
        let was = laid.placed at c (rw chunks at found) in
        placed_again l m same at c c was was.block (others_now at.region (owned_differs at.region was.block was.owned) ∙ was.owned) refl (omega arith) refl refl was.sized.fits;
    apart = rw (chunks, same.kind) laid.apart;
  }

  -- the marks are the old ones and that of the block
  marks_added : (b : Addr) (bytes : List ℕ) → mark_of m b ≡ Some bytes
      → ((b ≡ record { region = number; offset = 0 }) × (block_bytes l.context size ≡ bytes)) ⊎ ((b.region ≢ number) × (mark_of l b ≡ Some bytes))
  marks_added b bytes marked =
      elim (cases_eq b.region number) [
        | inl here ↦ elim (mark_cases m b bytes marked) [
          | inl it ↦ elim (block_was l m number (empty_block k size) blocks b.region it.0 it.2) [
            | inl new ↦ inl (same_addr_from b (record { region = number; offset = 0 }) here (it.1 ∙ rw here number_start), rw (new.1, same.context) at it.4)
            | inr old ↦ absurd (old.0 here)
          ]
          | inr other ↦
              let was = laid.placed (behind b) other.0 (rw chunks at other.2) in
              absurd (owned_differs b.region was.block was.owned here)
        ]
        | inr there ↦
            inr (there, mark_same l m same b bytes (λ x has. (x, sym (others_now b.region there) ∙ has, refl)) (λ c found. (c, rw chunks at found, refl, refl)) marked)
      ]

  pub Moves-added : total m ≡ total l + size → (sp mp tp : Space) → Agrees (footprint l) sp → region_at sp number ≡ None → Changes sp mp number (Some (unwritten l.account size))
      → ((account : ℕ) → held mp account ≡ held sp account + (if l.account == account then size else 0))
      → Changes mp tp number (overwritten (region_at mp number) 0 (map Some (block_bytes l.context size))) → Moves (footprint l) (footprint m) sp tp
  Moves-added totals sp mp tp agrees free took holds wrote =
      let now : block_at m number ≡ Some (empty_block k size) = grind (arith, blocks number) in
      Moves-taken (footprint l) (footprint m) sp mp tp (record { region = number; offset = 0 }) size (block_bytes l.context size) agrees free took wrote (omega (arith, length-block_bytes l.context size)) holds
      (IsSound-laid m IsLaid-added) same.account same.context totals (region_is m number (empty_block k size) now) (λ other differs. rw (others_now other differs) refl) marks_added
