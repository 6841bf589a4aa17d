-- The level above has a context that is there, and it lies where its id says.
use Rattle.session_store.proofs.Words.{◌≡◌, ◌<◌, ℕ, Option, Some, length, IfSome, sym, ap, ◌∙◌, subst, drop, option_map, option_map_or, CtxId, IsLive, first_of, level_parent, StoreState, level_state, levels_of, IsThere, LevelLies}
use Rattle.session_store.proofs.Lemmas.{above_first, all_level, has_kept, context_live, had_levels}
use Rattle.session_store.proofs.store.Store.context_above.Goals as goal

pub returns-in-None-clause-live : goal.returns-in-None-clause-live
returns-in-None-clause-live g c =
    subst (λ (a : StoreState). IsLive a.tree c.top.result) c.self.view_is
    (c.top.ensures.stands c.requires.there.0 (has_kept 1 c.self.inside.tree c.requires.there.0 ∙ (had_levels _ _ _ _ _ c.self.view_is c.requires.there.1).top))

pub returns-in-None-context : goal.returns-in-None-context
returns-in-None-context g c = record {
  number =
      let first : first_of (drop 1 (levels_of c.self.inside.levels)) ≡ Some (level_state c.in-Some.level) =
      above_first c.self.inside.levels (subst (λ (a : StoreState). 0 < length a.levels) (sym c.self.view_is) c.requires.level) ∙ ap (option_map level_state) (sym c.above.ensures ∙ c.in-Some.is) in
      subst (λ (a : StoreState). c.top-in-None-context.result.number ≡ level_parent (first_of (drop 1 (levels_of a.levels)))) c.self.view_is
      (c.top-in-None-context.ensures.number ∙ sym (ap level_parent first ∙ ap (λ (o : Option CtxId). option_map_or (λ (n : ℕ). n) (option_map (λ (id : CtxId). id.number) o) 1) c.in-None-context.is));
  live =
      subst (λ (a : StoreState). IsLive a.tree c.top-in-None-context.result) c.self.view_is
      (c.top-in-None-context.ensures.stands c.requires.there.0 (has_kept 1 c.self.inside.tree c.requires.there.0 ∙ (had_levels _ _ _ _ _ c.self.view_is c.requires.there.1).top));
}

pub returns-in-Some-context : goal.returns-in-Some-context
returns-in-Some-context g c = record {
  number =
      let first : first_of (drop 1 (levels_of c.self.inside.levels)) ≡ Some (level_state c.in-Some.level) =
      above_first c.self.inside.levels (subst (λ (a : StoreState). 0 < length a.levels) (sym c.self.view_is) c.requires.level) ∙ ap (option_map level_state) (sym c.above.ensures ∙ c.in-Some.is) in
      subst (λ (a : StoreState). c.in-Some-context.context.number ≡ level_parent (first_of (drop 1 (levels_of a.levels)))) c.self.view_is
      (sym (ap level_parent first ∙ ap (λ (o : Option CtxId). option_map_or (λ (n : ℕ). n) (option_map (λ (id : CtxId). id.number) o) 1) c.in-Some-context.is));
  live =
      let there = had_levels _ _ _ _ _ c.self.view_is c.requires.there.1 in
      let at = sym c.above.ensures ∙ c.in-Some.is in
      let live = context_live c.self.inside.tree c.self.inside.owners c.in-Some.level
      (all_level (LevelLies c.self.inside.tree c.self.inside.owners) c.self.inside.levels _ c.in-Some.level c.self.invariant.levels at)
      (all_level (IsThere c.self.inside.tree) c.self.inside.levels _ c.in-Some.level there.levels at) in
      subst (λ (a : StoreState). IsLive a.tree c.in-Some-context.context) c.self.view_is
      (subst (λ (o : Option CtxId). IfSome o (IsLive c.self.inside.tree)) c.in-Some-context.is live);
}
