-- The lines and sums of a report, one context at a time.
use Rattle.context_tree.proofs.Base.{nat_tests, ◌≡◌, ℕ, ◌+◌, ◌-◌, ◌^◌, min, List, [], ◌∷◌, ◌++◌, map, refl, sym, ap, ◌∙◌, arith, map-append}
use Rattle.context_tree.proofs.Words.{Space, Stats, MemoryCounters, What, Forest, Empty, Node, mapped, Visited, preorder, stats, ledger, line_of, added, capped, Total, lines, summed, Kept, context_of}

-- the line of a context that a walk comes to
abbrev pub told : Visited Kept → What
told v = line_of v.depth v.number v.value.name (stats (ledger v.value.memory))

-- what the contexts of a walk have together with what was summed before
abbrev pub all_added : Total → List (Visited Kept) → Total
all_added total [] = total
all_added total (v ∷ vs) = all_added (added total (stats (ledger v.value.memory))) vs

pub lines_told : (s : Space) (depth : ℕ) (t : Forest Kept) → lines depth (mapped (context_of s) t) ≡ map told (preorder depth t)
lines_told s depth Empty = refl
lines_told s depth (Node n k below beside) =
    ap (λ (xs : List What). line_of depth n k.name (stats (ledger k.memory)) ∷ xs)
    (rw (lines_told s (depth + 1) below, lines_told s depth beside) (sym (map-append told (preorder (depth + 1) below) (preorder depth beside))))

added_more : (total : Total) (xs ys : List (Visited Kept)) → all_added total (xs ++ ys) ≡ all_added (all_added total xs) ys
added_more total [] ys = refl
added_more total (v ∷ vs) ys = added_more (added total (stats (ledger v.value.memory))) vs ys

pub summed_added : (s : Space) (total : Total) (depth : ℕ) (t : Forest Kept) → summed total (mapped (context_of s) t) ≡ all_added total (preorder depth t)
summed_added s total depth Empty = refl
summed_added s total depth (Node n k below beside) =
    let one : Total = added total (stats (ledger k.memory)) in
    ap (λ (x : Total). summed x (mapped (context_of s) beside)) (summed_added s one (depth + 1) below)
    ∙ summed_added s (all_added one (preorder (depth + 1) below)) depth beside
    ∙ sym (added_more one (preorder (depth + 1) below) (preorder depth beside))

-- what stands still at the end of its type stays there
within : (a b most : ℕ) → min (min a most + b) most ≡ min (a + b) most
within a b most = omega arith

still : (a most : ℕ) → min (min a most) most ≡ min a most
still a most = omega arith

capped_once : (total : Total) (s : Stats) → capped (added (capped total) s) ≡ capped (added total s)
capped_once total s = grind (arith, nat_tests, within total.total s.total (2 ^ 64 - 1), total.total, s.total, within total.blocks s.blocks (2 ^ 64 - 1), total.blocks, s.blocks, within total.free s.free (2 ^ 64 - 1), total.free, s.free, within total.chunks s.chunks (2 ^ 64 - 1), total.chunks, s.chunks)

-- so a sum that stands still on the way is what it is at the end
pub capped_all : (total : Total) (vs : List (Visited Kept)) → capped (all_added (capped total) vs) ≡ capped (all_added total vs)
capped_all total [] = rw (still total.total (2 ^ 64 - 1), still total.blocks (2 ^ 64 - 1), still total.free (2 ^ 64 - 1), still total.chunks (2 ^ 64 - 1)) refl
capped_all total (v ∷ vs) =
    let s : Stats = stats (ledger v.value.memory) in
    sym (capped_all (added (capped total) s) vs)
    ∙ ap (λ (x : Total). capped (all_added x vs)) (capped_once total s)
    ∙ capped_all (added total s) vs

-- what the last line shows of sums that stand still
abbrev pub counted : Total → MemoryCounters
counted t = record { total = t.total; blocks = t.blocks; free = t.free; chunks = t.chunks }
