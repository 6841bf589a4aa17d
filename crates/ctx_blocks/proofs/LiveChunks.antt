-- Lemmas on lists of live chunks, in which no two are at one address.
use Rattle.ctx_blocks.proofs.Base.{[], Addr, AreUnique, arith, Chunk, if◌then◌else◌, is_in, List, lookup, None, Option, same_addr, Some, sum_by, sum_by-cons, with_chunk, without_chunk, ℕ, ◌+◌, ◌∷◌, ◌≡◌}
use Rattle.ctx_blocks.proofs.Counts.{one_in, count-put}

abbrev Entries : Type 0
Entries = List (Addr × Chunk)

-- what stands at an address of a list
abbrev at_addr : Addr → Entries → Option Chunk
at_addr at es = lookup (same_addr at) es

-- a chunk that is put is at its address, and every other one stays
pub lookup-with : (at other : Addr) (chunk : Chunk) (es : Entries) → at_addr other (with_chunk es at chunk) ≡ (if same_addr at other then Some chunk else at_addr other es)
lookup-with at other chunk [] = grind arith
lookup-with at other chunk (e ∷ es) = grind (arith, lookup-with at other chunk es)

-- no two are at one address still
pub unique-with : (at : Addr) (chunk : Chunk) (es : Entries) → AreUnique es → AreUnique (with_chunk es at chunk)
unique-with at chunk [] unique = grind arith
unique-with at chunk (e ∷ es) unique = grind (arith, unique-with at chunk es, lookup-with at e.0 chunk es)

-- a chunk that goes is at no address, and every other one stays
pub lookup-without : (at other : Addr) (es : Entries) → AreUnique es → at_addr other (without_chunk es at) ≡ (if same_addr at other then None else at_addr other es)
lookup-without at other [] unique = grind arith
lookup-without at other (e ∷ es) unique = grind (arith, lookup-without at other es unique.1)

pub unique-without : (at : Addr) (es : Entries) → AreUnique es → AreUnique (without_chunk es at)
unique-without at [] unique = tt
unique-without at (e ∷ es) unique = grind (arith, unique-without at es unique.1, lookup-without at e.0 es unique.1)

-- what the count loses where a chunk goes
pub count-without : (number : ℕ) (at : Addr) (chunk : Chunk) (es : Entries) → at_addr at es ≡ Some chunk → sum_by (is_in number) (without_chunk es at) + one_in number at.region ≡ sum_by (is_in number) es
count-without number at chunk [] found = absurd (cc)
count-without number at chunk (e ∷ es) found =
    grind (arith, count-without number at chunk es, sum_by-cons (is_in number) e es, sum_by-cons (is_in number) e (without_chunk es at))

-- what putting, resizing and removing a chunk do to the list
pub ruleset listed = (lookup-with, count-put, unique-with, lookup-without, count-without, unique-without)
