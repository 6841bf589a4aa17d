-- Lemmas on the slots of a Slab's blocks: what holds of them stays when one block changes.
use Rattle.slab_ctx.proofs.Words.{◌≡◌, ◌+◌, ◌≢◌, ℕ, ◌≤◌, ◌==◌, if◌then◌else◌, List, [], ◌∷◌, length, Some, None, refl, sym, ◌∙◌, inl, inr, arith, Vec, cases_eq, Addr, Slab, Layout, block_at, chunk_at, PutsBlock, DropsBlock, SameContext, Block, Chunk, per_block, IsSlot, IsFilled, IsSlotted, stack_at, chunk_of, first_region, one_value}
use Rattle.std.proofs.lemmas.Bool.Decides.{nat_tests}

module _ (l m : Layout) (size : ℕ) (s t : List (ℕ × Vec ℕ)) (number : ℕ) (slotted : IsSlotted l size s) (same : SameContext l m) (differs : number ≢ l.keeper)
    (chunks : (at : Addr) → at.region ≢ number → chunk_at m at ≡ chunk_at l at)
    (stacks : (other : ℕ) → other ≢ number → stack_at t other ≡ stack_at s other)
    (placed : (at : Addr) (chunk : Chunk) → at.region ≡ number → chunk_at m at ≡ Some chunk → (chunk ≡ chunk_of size) × IsSlot size at.offset) where
  chunk_now : (at : Addr) (chunk : Chunk) → chunk_at m at ≡ Some chunk → (chunk ≡ chunk_of size) × IsSlot size at.offset × (at.region ≢ l.keeper)
  chunk_now at chunk found = grind (arith, cases_eq, slotted.chunk, slotted.slot, slotted.owned)

  step : ((other : ℕ) → other ≢ number → block_at m other ≡ block_at l other) → ((block : Block) → block_at m number ≡ Some block → IsFilled m size number block (stack_at t number)) → IsSlotted m size t
  step others here = record {
    kind = same.kind ∙ slotted.kind;
    first = same.first_number ∙ slotted.first;
    least = slotted.least;
    most = slotted.most;
    keeper = rw same.keeper (others l.keeper (λ e. differs (sym e)) ∙ slotted.keeper);
    filled = λ other block not_keeper found. elim (cases_eq other number) [
      | inl is ↦ rw is (here block (rw is at found))
      | inr there ↦ grind (arith, slotted.filled other block (λ e. not_keeper (e ∙ sym same.keeper)) (sym (others other there) ∙ found))
    ];
    chunk = λ at chunk found. (chunk_now at chunk found).0;
    slot = λ at chunk found. (chunk_now at chunk found).1;
    owned = λ at chunk found. rw same.keeper ((chunk_now at chunk found).2);
  }

  -- a block is new, or another one
  pub IsSlotted-put : (block : Block) → PutsBlock l m number block → IsFilled m size number block (stack_at t number) → IsSlotted m size t
  IsSlotted-put block puts filled = grind (arith, nat_tests, step, puts.at, puts.at number, one_value)

  -- a block is given back
  pub IsSlotted-drop : DropsBlock l m number → IsSlotted m size t
  IsSlotted-drop drops = step (λ other apart. grind (arith, drops.at other)) (λ b found. absurd (grind (arith, drops.at number)))

-- a block is taken
pub IsSlotted-added : (l m : Layout) (size : ℕ) (s t : List (ℕ × Vec ℕ)) (number : ℕ) (stack : List ℕ) → IsSlotted l size s → SameContext l m → block_at l number ≡ None → PutsBlock l m number (record { number = l.last_number + 1; size = 8192; room = 8152; live = 0; freed = 0 }) → m.chunks ≡ l.chunks
    → ((other : ℕ) → stack_at t other ≡ (if number == other then stack else stack_at s other)) → length stack ≡ per_block size → IsSlotted m size t
IsSlotted-added l m size s t number stack slotted same fresh put chunks stacks long =
    let differs : number ≢ l.keeper = λ e. let none = rw e at fresh in let some = slotted.keeper in absurd (cc) in
    let here : stack_at t number ≡ stack = grind (arith, stacks number) in
    IsSlotted-put l m size s t number slotted same differs (λ at apart. rw chunks refl) (λ other apart. grind (arith, stacks other))
    (λ at chunk region found. let was = rw chunks at found in (slotted.chunk at chunk was, slotted.slot at chunk was))
    (record { number = l.last_number + 1; size = 8192; room = 8152; live = 0; freed = 0 }) put
    (record { bytes = refl; rest = omega arith; long = rw here long; free = λ k below. absurd (omega arith); distinct = λ j k less below. absurd (omega arith) })

-- a context without blocks
pub IsSlotted_none : (l : Layout) (size : ℕ) (s : List (ℕ × Vec ℕ)) → l.kind ≡ Slab → l.first_number ≡ 0 → 1 ≤ size → size ≤ 1024 → l.blocks ≡ (l.keeper, first_region) ∷ [] → l.chunks ≡ [] → IsSlotted l size s
IsSlotted_none l size s kind one least most blocks chunks = grind arith
