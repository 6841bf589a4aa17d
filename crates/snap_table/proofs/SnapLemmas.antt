-- Counts of snapshots over a stack.
use Rattle.std.proofs.Common.{◌≡◌, ℕ, ◌+◌, ◌-◌, ◌≤◌, Bool, true, false, not, cond, nat_eq, ltb, leb, List, [], ◌∷◌, ◌++◌, sum, length, map, filter, refl, sym, ap, ◌∙◌, subst, arith}
use Rattle.std.specs.List.{sum_by, count_by}
use Rattle.std.specs.Ordering.{nat_cmp}
use Rattle.std.specs.BTreeMap.{is_at}
use Rattle.std.proofs.lemmas.List.{length-map}
use Rattle.std.proofs.lemmas.List.Filters.{sum_by-filter_both}
use Rattle.std.proofs.lemmas.List.Sums.{sum-map, sum_by-append, count_by-le-length}
use Rattle.std.proofs.lemmas.Map.Steps.{lookup-le-sum}
use Rattle.std.proofs.lemmas.Bool.Decides.{nat_tests}
use Rattle.counts.specs.Counts.{count_of, total, Tallies}
use Rattle.snap_table.specs.declared.active.Active.{Active}
use Rattle.snap_table.specs.Snapshots.{Snapshots, size, snapshots_of, is_deep, kept_below, lowered, CountsBoth}

-- how often an entry of the stack passes, by its snapshot
weight : (ℕ → Bool) → Active → ℕ
weight test entry = cond (test entry.snapshot) 1 0

fused : (test : ℕ → Bool) (stack : List Active) → map (λ x. cond (test x) 1 0) (snapshots_of stack) ≡ map (weight test) stack
unfolding weight
fused test [] = refl
fused test (entry ∷ stack) = ap (λ ns. cond (test entry.snapshot) 1 0 ∷ ns) (fused test stack)

weigh : (test : ℕ → Bool) (stack : List Active) → count_by test (snapshots_of stack) ≡ sum_by (weight test) stack
weigh test stack = sym (sum-map (λ x. cond (test x) 1 0) (snapshots_of stack)) ∙ ap sum (fused test stack) ∙ sum-map (weight test) stack

same_length : (stack : List Active) → length (snapshots_of stack) ≡ length stack
same_length stack = simp length-map

-- no snapshot counts more often than the table is large
pub counted-within : (table : Snapshots) (held : List (ℕ × ℕ)) (q : ℕ) → CountsBoth held table.registered table.stack → count_of nat_cmp held q ≤ size table
counted-within table held q both =
    let registered : count_of nat_cmp table.registered q ≤ total table.registered = lookup-le-sum (is_at (nat_cmp q)) table.registered in
    let stacked : count_by (is_at (nat_cmp q)) (snapshots_of table.stack) ≤ length table.stack = subst (λ n. count_by (is_at (nat_cmp q)) (snapshots_of table.stack) ≤ n) (same_length table.stack) (count_by-le-length (is_at (nat_cmp q)) (snapshots_of table.stack)) in
    omega (arith, both q, registered, stacked)

-- an entry is of a lower level exactly where it isn't deep
shallow : (level n : ℕ) → ltb n level ≡ not (leb level n)
shallow level n = grind (arith, nat_tests)

-- the counts that are left when the deep entries are gone
pub both-kept : (old new registered : List (ℕ × ℕ)) (stack : List Active) (level : ℕ) → CountsBoth old registered stack → ((q : ℕ) → count_of nat_cmp new q ≡ count_of nat_cmp old q - count_by (is_at (nat_cmp q)) (snapshots_of (filter (is_deep level) stack))) → CountsBoth new registered (kept_below level stack)
both-kept old new registered stack level both less q =
    let deep : count_by (is_at (nat_cmp q)) (snapshots_of (filter (is_deep level) stack)) ≡ sum_by (weight (is_at (nat_cmp q))) (filter (is_deep level) stack) = weigh (is_at (nat_cmp q)) (filter (is_deep level) stack) in
    let kept : count_by (is_at (nat_cmp q)) (snapshots_of (kept_below level stack)) ≡ sum_by (weight (is_at (nat_cmp q))) (kept_below level stack) = weigh (is_at (nat_cmp q)) (kept_below level stack) in
    let all : count_by (is_at (nat_cmp q)) (snapshots_of stack) ≡ sum_by (weight (is_at (nat_cmp q))) stack = weigh (is_at (nat_cmp q)) stack in
    let parts : sum_by (weight (is_at (nat_cmp q))) (filter (is_deep level) stack) + sum_by (weight (is_at (nat_cmp q))) (kept_below level stack) ≡ sum_by (weight (is_at (nat_cmp q))) stack = sum_by-filter_both (is_deep level) (λ entry. ltb entry.level level) (λ entry. shallow level entry.level) (weight (is_at (nat_cmp q))) stack in
    omega (arith, both q, less q, deep, kept, all, parts)

-- what counts both registrations and entries counts the list of both
pub tallies-both : (held registered : List (ℕ × ℕ)) (stack : List Active) (taken : List ℕ) → CountsBoth held registered stack → Tallies nat_cmp taken registered → Tallies nat_cmp (taken ++ snapshots_of stack) held
tallies-both held registered stack taken both tallies q = sum_by-append (λ x. cond (is_at (nat_cmp q) x) 1 0) taken (snapshots_of stack) ∙ ap (λ n. n + count_by (is_at (nat_cmp q)) (snapshots_of stack)) (tallies q) ∙ sym (both q)

same_snapshot : (level : ℕ) (entry : Active) → (lowered level entry).snapshot ≡ entry.snapshot
same_snapshot level entry = elim (nat_eq entry.level level) as (λ b. (cond b (record entry { level = level - 1 }) entry).snapshot ≡ entry.snapshot) [ true ↦ refl | false ↦ refl ]

-- lowering levels changes no snapshot
pub snapshots-lowered : (level : ℕ) (stack : List Active) → snapshots_of (map (lowered level) stack) ≡ snapshots_of stack
snapshots-lowered level [] = refl
snapshots-lowered level (entry ∷ stack) = λ i. same_snapshot level entry i ∷ snapshots-lowered level stack i
