-- Lemmas on what callers of a Slab see.
use Rattle.slab_ctx.proofs.Words.{◌≡◌, ℕ, ◌≤◌, Option, Some, IsSome, IfOk, OnOk, Result, true, length, refl, sym, ◌∙◌, arith, length-map, Addr, Space, same_addr-cases, Layout, from_live, others, live_of, numbered_of, lives_of, blocks_of, place_at, footprint, HasSlots, state_of, Books, resize}
use Rattle.addr_space.specs.Live.{MovesAt, MovesLive}
use Rattle.slab_ctx.specs.Calls.{Resizes}
use Rattle.std.proofs.lemmas.Bool.Decides.{nat_tests}

-- a value that there is
pub some_is : {A : Type 0} (o : Option A) → IsSome o → (a : A) × (o ≡ Some a)
some_is x0 some = grind (arith, nat_tests)

-- what is moved to where it is stays there
moves_stay : {A : Type 0} (f : Addr → Option A) (from to : Addr) (a : A) → to ≡ from → f from ≡ Some a → MovesAt f f from to a
moves_stay f from to a same is other = grind (arith, same_addr-cases)

-- a chunk that has its size stays
pub resizes_same : (b : Books) (s : Space) (from to : Addr) (place size : ℕ) → to ≡ from → size ≡ b.slots.size → size ≤ 1073741823 → place_at (state_of b) from ≡ Some place → Resizes (state_of b) (state_of b) place size from to s s
unfolding resize
resizes_same b s from to place size same is most there = record {
  answer = record { ledger = (state_of b).ledger; place = place; asked = 0; stays = true };
  is = grind arith;
  ledger = refl;
  place = moves_stay (place_at (state_of b)) from to place same there;
  asked = refl;
  stays = ((λ e. refl), (λ e. same));
}

-- as many blocks as numbers of live chunks
pub length_blocks : (l : Layout) → length (blocks_of l) ≡ length (lives_of l)
length_blocks l = length-map (others l.blocks) numbered_of ∙ sym (length-map (others l.blocks) live_of)

-- what follows of both clauses of a call that was served
pub both_ok : {A E : Type 0} {P Q : A → Type 0} {R : Type 0} (r : Result A E) → ((a : A) → P a → R → Q a) → IfOk r P → OnOk r R → IfOk r Q
both_ok x0 all p q = grind (arith, nat_tests)

-- a live chunk has the size of all of them
pub live_stays : (b : Books) (from to : Addr) (size : ℕ) → to ≡ from → size ≡ b.slots.size → HasSlots b.slots → IsSome ((footprint (state_of b)).live from) → MovesLive (footprint (state_of b)) (footprint (state_of b)) from to size
live_stays b from to size same is slots live = grind (arith, some_is, from_live, moves_stay, slots.chunk)
