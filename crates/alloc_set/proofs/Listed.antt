-- Lemmas on the list of the chunks that stand at addresses.
use Rattle.alloc_set.proofs.Base.{[], Addr, AllByRecursion, arith, Chunk, false, if◌then◌else◌, inl, inr, IsDistinct, IsEquivalence, IsUnique, keys_of, List, lookup, lookup-none, lookup-remove_entry, nat_tests, None, none_passes_from_lookup, none_past_head, same_addr, same_addr-cases, Some, sum_by-cons, sum_by-insert, sum_by-remove_entry, with_chunk, without_chunk, ◌∷◌, ◌≡◌}

addr_laws : IsEquivalence same_addr
addr_laws = grind (arith, nat_tests)

-- what stands at an address
pub lookup-without : (at : Addr) (es : List (Addr × Chunk)) → IsUnique es → (other : Addr) → lookup (same_addr other) (without_chunk es at) ≡ (if same_addr at other then None else lookup (same_addr other) es)
lookup-without at es unique other = lookup-remove_entry addr_laws (same_addr at) (addr_laws.congr at) other es unique

pub lookup-with : (at : Addr) (chunk : Chunk) (es : List (Addr × Chunk)) → IsUnique es → (other : Addr) → lookup (same_addr other) (with_chunk es at chunk) ≡ (if same_addr at other then Some chunk else lookup (same_addr other) es)
lookup-with at chunk es unique other = grind (arith, addr_laws.symm other at, lookup-without at es unique other)

-- an address at which nothing stands is none of the list's
apart-from : (at : Addr) (es : List (Addr × Chunk)) → lookup (same_addr at) es ≡ None → AllByRecursion (λ y. same_addr at y ≡ false) (keys_of es)
apart-from at [] none = tt
apart-from at (e ∷ es) none = let apart = none_passes_from_lookup (same_addr at) (e ∷ es) none in (apart.0, apart-from at es (lookup-none (same_addr at) es apart.1))

pub IsUnique-none : IsUnique []
unfolding IsDistinct
IsUnique-none = tt

pub IsUnique-without : (at : Addr) (es : List (Addr × Chunk)) → IsUnique es → IsUnique (without_chunk es at)
unfolding IsDistinct
IsUnique-without at [] unique = tt
IsUnique-without at (e ∷ es) unique =
    let none = lookup-none (same_addr e.0) es (none_past_head addr_laws e.0 e es unique (addr_laws.refl e.0)) in
    let apart = apart-from e.0 (without_chunk es at) (grind (arith, none, lookup-without at es unique.1 e.0)) in
    elim (same_addr-cases at e.0) [ inl same ↦ rw same.1 unique.1 | inr differs ↦ rw differs.1 (apart, IsUnique-without at es unique.1) ]

pub IsUnique-with : (at : Addr) (chunk : Chunk) (es fs : List (Addr × Chunk)) → IsUnique es → fs ≡ with_chunk es at chunk → IsUnique fs
unfolding IsDistinct
IsUnique-with at chunk es fs unique is = rw is (apart-from at (without_chunk es at) (grind (arith, addr_laws.refl at, lookup-without at es unique at)), IsUnique-without at es unique)

-- what putting and forgetting a chunk do to the list
pub ruleset listed = (lookup-with, sum_by-cons, IsUnique-with, lookup-without, sum_by-remove_entry, IsUnique-without)

pub ruleset noted_sums = (sum_by-insert)
