-- What the names mean, and that it is there where the session stands.
use Rattle.session_store.proofs.Words.{◌≡◌, ℕ, length, sym, ap, ◌∙◌, subst, arith, option_map, CtxId, context_named, IsLive, stands_for, level_at, StoreState}
use Rattle.session_store.proofs.Lemmas.{own_in}
use Rattle.session_store.proofs.Named.{named_deepest, named_outermost, named_script, number_of}
use Rattle.session_store.proofs.store.Store.named.Goals as goal

pub returns-then-is_word-clause-live : goal.returns-then-is_word-clause-live
returns-then-is_word-clause-live g c s x commons stands =
    subst (λ (a : StoreState). IsLive a.tree c.top.result) c.self.view_is (c.top.ensures.stands s (own_in _ _ _ _ _ c.self.view_is s x commons stands 1 (omega arith) (omega arith)))

pub returns-then-is_word-2-clause-live : goal.returns-then-is_word-2-clause-live
returns-then-is_word-2-clause-live g c s x commons stands =
    subst (λ (a : StoreState). IsLive a.tree c.cache.result) c.self.view_is (c.cache.ensures.stands s (own_in _ _ _ _ _ c.self.view_is s x commons stands 3 (omega arith) (omega arith)))

pub returns-then-is_word-3-clause-named : goal.returns-then-is_word-3-clause-named
returns-then-is_word-3-clause-named g c s =
    ap (option_map (λ (id : CtxId). id.number)) c.level_context.ensures.context
    ∙ named_outermost c.args.name.now (sym c.is_word.ensures ∙ c.if-is_word.false) (sym c.is_word-2.ensures ∙ c.if-is_word-2.false) c.args.self.now s (sym c.is_word-3.ensures ∙ c.if-is_word-3.true)

pub returns-then-is_word-4-clause-named : goal.returns-then-is_word-4-clause-named
returns-then-is_word-4-clause-named g c s =
    let depth : c.depth.result ≡ length c.args.self.now.levels = c.depth.ensures.depth ∙ ap (λ (a : StoreState). length a.levels) c.self.view_is in
    ap (option_map (λ (id : CtxId). id.number)) c.level_context-then-is_word-4.ensures.context
    ∙ ap (λ (n : ℕ). number_of (level_at c.args.self.now.levels n)) depth
    ∙ named_deepest c.args.name.now (sym c.is_word.ensures ∙ c.if-is_word.false) (sym c.is_word-2.ensures ∙ c.if-is_word-2.false) (sym c.is_word-3.ensures ∙ c.if-is_word-3.false) c.args.self.now s (sym c.is_word-4.ensures ∙ c.if-is_word-4.true)

pub returns-clause-named : goal.returns-clause-named
returns-clause-named g c s =
    c.find.ensures.some s
    ∙ ap (λ (a : StoreState). context_named c.args.name.now (stands_for a.tree s)) c.self.view_is
    ∙ named_script c.args.name.now (sym c.is_word.ensures ∙ c.if-is_word.false) (sym c.is_word-2.ensures ∙ c.if-is_word-2.false) (sym c.is_word-3.ensures ∙ c.if-is_word-3.false) c.args.self.now s (sym c.is_word-4.ensures ∙ c.if-is_word-4.false)
