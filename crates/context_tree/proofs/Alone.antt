-- A context that goes or is reset behind all that was below it.
use Rattle.context_tree.proofs.Base.{arith, nat_tests, ◌≡◌, ◌≢◌, ◌⊎◌, ℕ, true, false, None, sym, ap, ◌∙◌, subst, or_parts}
use Rattle.context_tree.proofs.Words.{Space, CtxId, Forest, Empty, has, at, Once, first, children, is_above, removed, changed, has_of_removed, has_changed, first_child_other, children_absent, ShelfState, Contexts, Ended, and_then, gone, children_gone, cleared, cleared_alone, emptied, is_within, TreeState, stands_for, HooksFit, Did}
use Rattle.context_tree.proofs.Fewer.{bare_with, removed_with}
use Rattle.context_tree.proofs.Composed.{did_more}
use Rattle.context_tree.proofs.Going.{gone_last}

-- a reset makes no context
alone_has : (k n : ℕ) (t : Contexts) → has k (cleared_alone n t).contexts ≡ true → has k t ≡ true
alone_has k n t h = grind (arith, nat_tests, at n t, changed n emptied t, at, has_changed k n emptied t)

-- the current context, where one may go
pub apart_below : (n cur : ℕ) (t : Contexts) → Once t → (is_within n cur t ≡ false) ⊎ ((cur ≡ n) × (removed n t ≡ Empty)) → is_above n cur t ≡ false
apart_below n cur t o apart = grind (arith, nat_tests, or_parts, is_above n cur t, is_above, first_child_other, children_absent)

-- no node comes first
pub none_first : {A : Type 0} (t : Forest A) → first t ≡ None → t ≡ Empty
none_first x0 e = grind (arith, nat_tests)

module _ (id : CtxId) (a b : TreeState) (s t : Space) (x y : ShelfState) (did : Did (children_gone id.number (stands_for a s)) a b s t x y) where
  pub now_hooks : HooksFit (stands_for b t) y
  now_hooks = subst (λ (c : Contexts). HooksFit c y) (sym did.contexts) did.hooks

  pub now_bare : children id.number (stands_for b t) ≡ Empty
  now_bare = ap (λ (c : Contexts). children id.number c) did.contexts ∙ bare_with id.number (stands_for a s)

  pub now_apart : (is_within id.number a.current.number (stands_for a s) ≡ false) ⊎ ((a.current.number ≡ id.number) × (removed id.number (stands_for a s) ≡ Empty))
      → (b.current.number ≢ id.number) ⊎ (removed id.number (stands_for b t) ≡ Empty)
  now_apart apart = grind (arith, nat_tests, or_parts, is_above id.number a.current.number (stands_for a s), removed, removed_with id.number Empty (stands_for a s))

  pub gone_is : and_then (children_gone id.number (stands_for a s)) (gone id.number (stands_for b t)) ≡ gone id.number (stands_for a s)
  gone_is = ap (λ (c : Contexts). and_then (children_gone id.number (stands_for a s)) (gone id.number c)) did.contexts ∙ gone_last id.number (stands_for a s)

  pub cleared_is : and_then (children_gone id.number (stands_for a s)) (cleared_alone id.number (stands_for b t)) ≡ cleared id.number (stands_for a s)
  cleared_is = ap (λ (c : Contexts). and_then (children_gone id.number (stands_for a s)) (cleared_alone id.number c)) did.contexts

  module _ (c : TreeState) (u : Space) (z : ShelfState) where
    pub gone_did : Did (gone id.number (stands_for b t)) b c t u y z → Did (gone id.number (stands_for a s)) a c s u x z
    gone_did next =
        subst (λ (e : Ended). Did e a c s u x z) gone_is
        (did_more (children_gone id.number (stands_for a s)) (gone id.number (stands_for b t)) a b c s t u x y z
        (λ k h. ap (λ (f : Contexts). has k f) (sym did.contexts) ∙ has_of_removed k id.number (stands_for b t) h) did next)

    pub cleared_did : Did (cleared_alone id.number (stands_for b t)) b c t u y z → Did (cleared id.number (stands_for a s)) a c s u x z
    cleared_did next =
        subst (λ (e : Ended). Did e a c s u x z) cleared_is
        (did_more (children_gone id.number (stands_for a s)) (cleared_alone id.number (stands_for b t)) a b c s t u x y z
        (λ k h. ap (λ (f : Contexts). has k f) (sym did.contexts) ∙ alone_has k id.number (stands_for b t) h) did next)
