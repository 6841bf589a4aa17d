-- What names mean that stand for contexts of the transaction.
use Rattle.session_store.proofs.Words.{◌≡◌, ℕ, ◌-◌, false, true, List, [], ◌∷◌, length, Option, refl, ap, sym, ◌∙◌, arith, codes, slice_get, option_and_then, option_map, Space, CtxId, same_name, stands_for, level_at, Level, context_of, first_of, last_of, StoreState, level_state, levels_of, session_of}
use Rattle.context_rules.specs.Contexts as contexts
use Rattle.session_rules.specs.Lookup.{context_named}
use Rattle.session_store.proofs.Lists.{first_map, first_reverse, last_reverse}
use Rattle.std.proofs.lemmas.Bool.Decides.{nat_tests}

-- the number of a level's context
abbrev pub number_of : Option Level → Option ℕ
number_of level = option_map (λ (id : CtxId). id.number) (option_and_then (λ (found : Level). found.context) level)

context_state : (o : Option Level) → context_of (option_map level_state o) ≡ number_of o
context_state x0 = grind (arith, nat_tests)

outermost : (levels : List Level) → context_of (last_of (levels_of levels)) ≡ number_of (level_at levels 1)
outermost levels = grind (arith, nat_tests, last_reverse, context_state, number_of)

pub at_end : (level : Level) (levels : List Level) → slice_get (level ∷ levels) (length levels) ≡ level_at (level ∷ levels) (length (level ∷ levels))
at_end level levels = grind (arith, nat_tests)

deepest : (levels : List Level) → context_of (first_of (levels_of levels)) ≡ number_of (level_at levels (length levels))
deepest [] = refl
deepest (level ∷ levels) =
    ap context_of (first_map level_state _) ∙ context_state _ ∙ ap number_of (first_reverse level levels ∙ at_end level levels)

module _ (name : List ℕ) (top : same_name name (codes "TopMemoryContext") ≡ false) (cache : same_name name (codes "CacheMemoryContext") ≡ false) where
  pub named_outermost : (a : StoreState) (s : Space) → same_name name (codes "TopTransactionContext") ≡ true → number_of (level_at a.levels 1) ≡ context_named name (session_of a s)
  unfolding session_of
  named_outermost a s here = rw (top, cache, here) (sym (outermost a.levels))

  module _ (outer : same_name name (codes "TopTransactionContext") ≡ false) where
    pub named_deepest : (a : StoreState) (s : Space) → same_name name (codes "CurTransactionContext") ≡ true → number_of (level_at a.levels (length a.levels)) ≡ context_named name (session_of a s)
    unfolding session_of
    named_deepest a s here = rw (top, cache, outer, here) (sym (deepest a.levels))

    pub named_script : (a : StoreState) (s : Space) → same_name name (codes "CurTransactionContext") ≡ false → contexts.context_named name (stands_for a.tree s) ≡ context_named name (session_of a s)
    unfolding session_of
    named_script a s inner = rw (top, cache, outer, inner) refl
