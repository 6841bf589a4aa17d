-- Lemmas on a context whose chunks are forgotten and whose last blocks go.
use Rattle.ctx_blocks.proofs.Base.{[], Agrees, Agrees-nothing, ap, arith, Block, footprint, IsFirst, IsLaid, Layout, length, List, lookup, Moves, Moves-still, nat_tests, nothing, refl, SameContext, Some, Space, take, take-take, ℕ, ◌+◌, ◌-◌, ◌==◌, ◌∷◌, ◌≡◌}
use Rattle.ctx_blocks.proofs.Lessened.{Lessens}

pub Lessens-cleared : (l m : Layout) → IsLaid l → SameContext l m → m.blocks ≡ l.blocks → m.chunks ≡ [] → Lessens l m
Lessens-cleared l m laid same blocks chunks =
    record {
      same = same;
      chunk = λ at c found. let gone = rw chunks at found in absurd (cc);
      block = λ number b has. let had = rw blocks at has in (b, had, refl, laid.filled number b had);
      under = λ at c found w is. let gone = rw chunks at found in absurd (cc);
    }

-- one entry less of the first ones
pub take-less : {X : Type 0} (all now new : List X) → now ≡ take (length now) all → new ≡ take (length now - 1) now → length new + 1 ≡ length now → new ≡ take (length new) all
take-less all now new is less len = grind (arith, nat_tests, take-take (length new) (length now) all)

-- the keeper alone
pub first_only : (keeper number : ℕ) (blocks : List (ℕ × Block)) → IsFirst keeper number blocks → (b : Block) × (take 1 blocks ≡ (keeper, b) ∷ []) × (lookup (λ n. keeper == n) blocks ≡ Some b)
first_only keeper number [] first = absurd first
first_only keeper number (e ∷ es) first = (e.1, ap (λ k. (k, e.1) ∷ []) first.0, grind arith)

-- a context without blocks has nothing
pub Moves-nothing : (l : Layout) (account context : ℕ) → l.blocks ≡ [] → account ≡ l.account → context ≡ l.context → (s : Space) → Agrees (footprint l) s → Moves (footprint l) (nothing account context) s s
Moves-nothing l account context blocks same_account same_context s agrees = grind (arith, nat_tests, Moves-still (footprint l) (nothing account context) s agrees, Agrees-nothing account context s)
