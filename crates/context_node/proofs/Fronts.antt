-- An entry in front of the others.
use Rattle.context_node.proofs.Words.{◌≡◌, ℕ, true, false, Some, refl, ap, ◌∙◌, Forest, Empty, Node, at, has, changed, removed, changed_absent, removed_absent, AnyCtx, Entry, Kept}
use Rattle.context_node.proofs.Names.{at_here}
use Rattle.std.proofs.lemmas.Bool.Decides.{nat_tests}
use Rattle.std.proofs.Common.{arith}

-- it lies there
pub front_at : (n m : ℕ) (e : Entry) (all old : Forest Entry) → m ≡ n → all ≡ Node n e Empty old → at m all ≡ Some e
front_at n m e all old same is = ap (at m) is ∙ ap (λ (i : ℕ). at i (Node n e Empty old)) same ∙ at_here n e Empty old

-- it changes
pub front_changed : (n m : ℕ) (e y : Entry) (all old : Forest Entry) → m ≡ n → has n old ≡ false → all ≡ Node n e Empty old → changed m (λ _. y) all ≡ Node n y Empty old
front_changed n m e y all old same fresh is = grind (arith, nat_tests, changed, changed_absent)

-- it is taken out
pub front_removed : {A : Type 0} (n m : ℕ) (a : A) (all old : Forest A) → m ≡ n → has n old ≡ false → all ≡ Node n a Empty old → removed m all ≡ old
front_removed {A} n m a all old same fresh is = grind (arith, nat_tests, removed, removed_absent n old fresh)

-- a context with other entries, and another allocator
pub kept_now : (k : Kept) (memory : AnyCtx) (a b : Forest Entry) (p q : Forest ℕ) → a ≡ b → p ≡ q
    → record k { used = true; memory = memory; chunks = a; chunk_places = p } ≡ record k { used = true; memory = memory; chunks = b; chunk_places = q }
kept_now k memory a b p q same placed = rw (same, placed) refl

pub kept_back : (k : Kept) (a b : AnyCtx) (c d : Forest Entry) (p q : Forest ℕ) → a ≡ b → c ≡ d → p ≡ q → record k { memory = a; chunks = c; chunk_places = p } ≡ record k { memory = b; chunks = d; chunk_places = q }
kept_back k a b c d p q one two three = rw (one, two, three) refl
