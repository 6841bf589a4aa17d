-- The name is kept for sessions, or leads to a context.
use Rattle.session_store.proofs.Words.{◌≡◌, ℕ, List, true, false, Option, Some, None, refl, sym, ap, ◌∙◌, is_some, option_map, CtxId, Contexts, context_named, is_taken, is_reserved, StoreState, session_of}
use Rattle.session_store.proofs.store.Store.is_taken.Goals as goal

by_number : (o : Option CtxId) → is_some o ≡ is_some (option_map (λ (id : CtxId). id.number) o)
by_number None = refl
by_number (Some id) = refl

found : (name : List ℕ) (t : Contexts) (o : Option CtxId) → is_reserved name ≡ false → option_map (λ (id : CtxId). id.number) o ≡ context_named name t → is_some o ≡ is_taken name t
found name t o free e = rw free (by_number o ∙ ap is_some e)

pub returns-then-is_reserved : goal.returns-then-is_reserved
returns-then-is_reserved g c s = let kept : is_reserved c.args.name.now ≡ true = sym c.is_reserved.ensures ∙ c.if-is_reserved.true in rw kept refl

pub returns : goal.returns
unfolding session_of
returns g c s =
    c.is_some.ensures
    ∙ found c.args.name.now (session_of c.args.self.now s).contexts c.find.result (sym c.is_reserved.ensures ∙ c.if-is_reserved.false)
    (c.find.ensures.some s ∙ ap (λ (a : StoreState). context_named c.args.name.now (session_of a s).contexts) c.self.view_is)
