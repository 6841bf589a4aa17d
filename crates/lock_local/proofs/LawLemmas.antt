-- How many locks a session holds, and which.
use Rattle.lock_local.proofs.Base.{[], All, All-head, All-tail, AllByRecursion, AreLocks, arith, cond, distinct_count, false, is_held, is_lock, IsDistinct, IsEquivalence, IsInOrder, length, length-from_keys, List, list_any, Lock, lock_total, lt-ltb, map, Mode, nat_lt, nat_tests, OwnerCount, refl, same_name, sum_by-cons, sym, whole_of, ℕ, ◌∙◌, ◌∷◌, ◌≡◌}
use Rattle.lock_local.proofs.OwnerLemmas.{Counted, counts}
use Rattle.lock_local.proofs.OrderLemmas.{Before, lock_swapped, before_lock}
use Rattle.lock_local.proofs.ChangeLemmas.{Owned, WellCounted}

-- the names of locks, each an object and a mode
abbrev name_of : Lock → ℕ × Mode
name_of l = (l.object, l.mode)

names_equiv : IsEquivalence same_name
names_equiv = grind (arith, nat_tests)

others_behind : (x : Lock) (xs : List Lock) → All (Before x) xs → AllByRecursion (λ n. same_name (name_of x) n ≡ false) (map name_of xs)
others_behind x [] h = tt
others_behind x (y ∷ xs) h = (before_lock x y.object y.mode (All-head (Before x) y xs h), others_behind x xs (All-tail (Before x) y xs h))

names_distinct : (xs : List Lock) → IsInOrder xs → IsDistinct same_name (map name_of xs)
unfolding IsDistinct
names_distinct [] h = tt
names_distinct (x ∷ xs) h = (others_behind x xs h.0, names_distinct xs h.1)

named_held : (xs : List Lock) (o : ℕ) (m : Mode) → All Owned xs → list_any (same_name (o, m)) (map name_of xs) ≡ is_held xs o m
named_held [] o m h = refl
named_held (x ∷ xs) o m h = grind (arith, nat_tests, lock_swapped o m x.object x.mode, All-head Owned x xs h, All-tail Owned x xs h, named_held xs o m (All-tail Owned x xs h))

names_length : (xs : List Lock) → length xs ≡ length (map name_of xs)
names_length [] = refl
names_length (x ∷ xs) = omega (arith, names_length xs)

-- as many locks as any list of their names has different ones
pub length_different : (xs : List Lock) (names : List (ℕ × Mode)) → AreLocks xs → ((o : ℕ) (m : Mode) → list_any (same_name (o, m)) names ≡ is_held xs o m) → length xs ≡ distinct_count same_name names
length_different xs names a h = grind (arith, nat_tests, names_length xs, names_distinct xs a.in_order, length-from_keys names_equiv (map name_of xs) names (names_distinct xs a.in_order) (λ q. named_held xs q.0 q.1 a.owned ∙ sym (h q.0 q.1)))

-- a lock is held where all owners together hold it at least once
some_count : (xs : List OwnerCount) → All Counted xs → nat_lt 0 (length xs) ≡ nat_lt 0 (counts xs)
some_count [] h = refl
some_count (x ∷ xs) h = grind (arith, nat_tests, All-head Counted x xs h, lt-ltb 0 (length (x ∷ xs)) (omega arith), sum_by-cons (λ (c : OwnerCount). c.count) x xs, lt-ltb 0 (counts (x ∷ xs)) (omega (arith, (All-head Counted x xs h), sum_by-cons (λ (c : OwnerCount). c.count) x xs)))

pub held_whole : (xs : List Lock) (o : ℕ) (m : Mode) → All WellCounted xs → is_held xs o m ≡ nat_lt 0 (whole_of xs o m)
held_whole [] o m h = refl
held_whole (x ∷ xs) o m h = grind (arith, nat_tests, All-head WellCounted x xs h, some_count x.owners (All-head WellCounted x xs h), All-tail WellCounted x xs h, held_whole xs o m (All-tail WellCounted x xs h), sum_by-cons (λ (l : Lock). cond (is_lock o m l) (lock_total l) 0) x xs)
