-- A portal's context goes, or all below it.
use Rattle.session_ends.proofs.Base.{◌≡◌, ℕ, false, Option, Some, None, List, [], IfSome, sym, ap, ◌∙◌, subst, MatchOption, option_map}
use Rattle.session_ends.proofs.Words.{Space, Once, is_above, CtxId, What, ShelfState, Contexts, is_within, Did, DidNothing, TreeState, HooksFit, IsLive, stands_for, Portal, ResourceState, CommonState, balances_none, Level, of_contexts, where_there, StoreState, contexts_in, scene_of, session_of, Acted, did_acted}
use Rattle.context_rules.specs.Ends as ends

module _ (tree : TreeState) (owners : ResourceState) (levels : List Level) (portals : List Portal) (v : StoreState) (is : record { tree = tree; owners = owners; levels = levels; portals = portals } ≡ v) where
  pub is_hooked : (s : Space) (x : ShelfState) → HooksFit (contexts_in v s) x → HooksFit (stands_for tree s) x
  unfolding session_of
  is_hooked s x h = subst (λ (z : StoreState). HooksFit (contexts_in z s) x) (sym is) h

  pub is_once : (s : Space) → Once (contexts_in v s) → Once (stands_for tree s)
  unfolding session_of
  is_once s h = subst (λ (z : StoreState). Once (contexts_in z s)) (sym is) h

  pub is_live : (context : Option CtxId) → IfSome context (IsLive v.tree) → IfSome context (IsLive tree)
  is_live context h = subst (λ (z : StoreState). IfSome context (IsLive z.tree)) (sym is) h

  pub is_apart : (s : Space) (context : Option CtxId) → IfSome context (λ id. is_within id.number v.tree.current.number (contexts_in v s) ≡ false) → IfSome context (λ id. is_within id.number tree.current.number (stands_for tree s) ≡ false)
  unfolding session_of
  is_apart s context h = subst (λ (z : StoreState). IfSome context (λ (id : CtxId). is_within id.number z.tree.current.number (contexts_in z s) ≡ false)) (sym is) h

  pub is_above_none : (s : Space) (context : Option CtxId) → IfSome context (λ id. is_above id.number v.tree.current.number (contexts_in v s) ≡ false) → IfSome context (λ id. is_above id.number tree.current.number (stands_for tree s) ≡ false)
  unfolding session_of
  is_above_none s context h = subst (λ (z : StoreState). IfSome context (λ (id : CtxId). is_above id.number z.tree.current.number (contexts_in z s) ≡ false)) (sym is) h

module _ (O : Type 0) (emits : O → List What → O → Type 0) (none : (o : O) → emits o [] o) where
  pub memory_acted : (end : ℕ → Contexts → ends.Ended) (a : StoreState) (b : TreeState) (s t : Space) (x y : ShelfState) (c : CommonState) (o p : O) (context : Option CtxId)
      → MatchOption context (DidNothing a.tree b s t x y) (λ id. Did (end id.number (stands_for a.tree s)) a.tree b s t x y)
      → MatchOption context (p ≡ o) (λ id. emits o (end id.number (stands_for a.tree s)).events p)
      → Acted (λ scene. where_there (option_map (λ (id : CtxId). id.number) context) (λ n z. of_contexts (end n z.session.contexts) z) scene) a (record { tree = b; owners = a.owners; levels = a.levels; portals = a.portals }) s t x y c c (λ events. emits o events p)
  unfolding session_of
  memory_acted end a b s t x y c o p None did says = record {
    leads = λ around.
        ap (λ (z : TreeState). scene_of (record a { tree = z }) s x c around) (sym did.tree)
        ∙ ap (λ (z : Space). scene_of (record a { tree = b }) z x c around) (sym did.space)
        ∙ ap (λ (z : ShelfState). scene_of (record a { tree = b }) t z c around) (sym did.shelf);
    says = λ around. subst (λ (z : O). emits o [] z) (sym says) (none o);
    balances = balances_none a.owners c;
  }
  memory_acted end a b s t x y c o p (Some id) did says = did_acted (end id.number) a b s t x y c (λ events. emits o events p) did says
