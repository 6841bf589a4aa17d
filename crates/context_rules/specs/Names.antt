-- Names of contexts and chunks.
use Rattle.std.specs.Prelude.{ℕ, ◌==◌, Bool, false, ◌||◌, List, [], ◌∷◌, codes}
use lib.Pointwise.{pointwise}

-- whether two names are one
abbrev pub same_name : List ℕ → List ℕ → Bool
same_name a b = pointwise ◌==◌ a b

-- whether a name is one of a list
abbrev pub is_among : List ℕ → List (List ℕ) → Bool
is_among name [] = false
is_among name (other ∷ others) = same_name name other || is_among name others

-- the names that sessions keep for their own contexts
abbrev pub of_the_process : List (List ℕ)
of_the_process = codes "TopMemoryContext" ∷ codes "ErrorContext" ∷ codes "CacheMemoryContext" ∷ []

abbrev pub of_a_transaction : List (List ℕ)
of_a_transaction = codes "TopTransactionContext" ∷ codes "CurTransactionContext" ∷ codes "TransactionAbortContext" ∷ []

abbrev pub of_a_portal : List (List ℕ)
of_a_portal = codes "TopPortalContext" ∷ codes "PortalContext" ∷ codes "ExprContext" ∷ codes "CachedPlan" ∷ []

unfoldable pub is_reserved : List ℕ → Bool
is_reserved name = is_among name of_the_process || (is_among name of_a_transaction || is_among name of_a_portal)
