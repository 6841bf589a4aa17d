-- A session is seen as its store.
use Rattle.session_core.proofs.Base.{◌≡◌, ℕ, List, length, Option, sym, subst}
use Rattle.session_core.proofs.Words.{Error, What, Space, ShelfState, Element, CommonState, Serves, StoreState, Keeps, StandsIn, Shared, Now, Performed, now}

module _ (store v : StoreState) (is : store ≡ v) where
  -- what was performed from the store was performed from the value
  pub seen : {Z W : Type 0} (k : ℕ) (es : List Element) (shared : Shared Z W) (b : Now) (P : List What → Type 0) (r : Option Error) → Performed k es (now store shared) b P r → Performed k es (now v shared) b P r
  seen k es shared b P r h = subst (λ (a : StoreState). Performed k es (now a shared) b P r) is h

  -- the same where the elements are told by the store
  pub seen_from : {Z W : Type 0} (k : ℕ) (es : StoreState → List Element) (shared : Shared Z W) (b : Now) (P : List What → Type 0) (r : Option Error) → Performed k (es store) (now store shared) b P r → Performed k (es v) (now v shared) b P r
  seen_from k es shared b P r h = subst (λ (a : StoreState). Performed k (es a) (now a shared) b P r) is h

  pub keeps_of : (s : Space) → Keeps v s → Keeps store s
  keeps_of s h = subst (λ (a : StoreState). Keeps a s) (sym is) h

  pub stands_of : (s : Space) (x : ShelfState) (c : CommonState) → StandsIn v s x c → StandsIn store s x c
  stands_of s x c h = subst (λ (a : StoreState). StandsIn a s x c) (sym is) h

  pub serves_of : (c : CommonState) → Serves v.owners c → Serves store.owners c
  serves_of c h = subst (λ (a : StoreState). Serves a.owners c) (sym is) h

-- a store that is seen as a value has as many levels
pub levels_seen : (store v : StoreState) (P : ℕ → Type 0) → store ≡ v → P (length v.levels) → P (length store.levels)
levels_seen store v P is h = subst (λ (a : StoreState). P (length a.levels)) (sym is) h
