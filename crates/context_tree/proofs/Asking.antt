-- What was asked of an account for contexts that weren't made.
use Rattle.context_tree.proofs.Base.{nat_tests, ℕ, ◌+◌, ◌≤◌, inl, inr, arith}
use Rattle.context_tree.proofs.Words.{Space, Asks, Asks-more, TreeError, Memory, AsksInVain, AsksPart, AsksPartInVain}

-- a part behind what was asked before, in all at most so many bytes
pub part_more : (account m n most : ℕ) (s t u : Space) → m + n ≤ most → Asks account m s t → AsksPart account n t u → AsksPart account most s u
part_more account m n most s t u few first part = grind (arith, nat_tests, part.0, part.1, Asks-more account m part.0 s t u first part.2, part.2)

-- the topmost context, in vain
pub topmost_in_vain : (e : TreeError) (account : ℕ) (s t : Space) → AsksInVain e account 8192 s t → AsksPartInVain e account 65536 s t
topmost_in_vain e account s t (inl nothing) = inl nothing
topmost_in_vain e account s t (inr first) = inr (first.0, (8192, omega arith, first.1))

-- the topmost context and a part of the others, all of which are given back
pub opening_in_vain : (account : ℕ) (s t u v : Space) → Asks account 8192 s t → AsksPart account 57344 t u → Asks account 0 u v → AsksPartInVain Memory account 65536 s v
opening_in_vain account s t u v first part back = grind (arith, nat_tests, part_more account 8192 57344 65536 s t u (omega arith) first part, Asks-more)
