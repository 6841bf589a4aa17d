-- The topmost context goes with all below it: nothing is left.
use Rattle.session_ends.proofs.Base.{arith, nat_tests, ◌≡◌, ◌⊎◌, ℕ, true, false, List, [], ◌∷◌, ◌++◌, All, sym, ap, ◌∙◌, subst, inr, append-nil, both_ways, All-cons, All-weaker}
use Rattle.session_ends.proofs.Words.{Space, held, Empty, has, removed, CtxId, What, ShelfState, gone, is_within, Did, TreeState, stands_for, total_of, Scene, Ended, context_gone, in_order, switched, Stands, nothing_left, CommonState, balances_more, StoreState, scene_of, session_of, IsPlaced, Lies, Acted, IsSilent, Keeps, StandsIn, has_kept, nowhere, did_acted, switch_acted, held_is}
use Rattle.session_ends.proofs.Ending.{keeps_left}
use Rattle.session_ends.proofs.Out.{some_on}

-- no context lies
none_lies : (b : TreeState) → ((n : ℕ) → has n b.kept ≡ true → ⊥) → (ids : List CtxId) → All (Lies b) ids
none_lies b none x2 = grind (arith, nat_tests, All-cons)

-- one act in silence, and then another
acted_two : (f h : Scene → Ended) (a b c : StoreState) (s t u : Space) (x y z : ShelfState) (commons : CommonState) (Said : List What → Type 0) → Acted f a b s t x y commons commons IsSilent → Acted h b c t u y z commons commons Said → Acted (in_order (f ∷ h ∷ [])) a c s u x z commons commons Said
acted_two f h a b c s t u x y z commons Said first second = record {
  leads = λ around. ap (λ (w : Scene). (h w).scene) (first.leads around) ∙ second.leads around;
  says = λ around.
      subst Said
      (sym
      (ap (λ (es : List What). es ++ ((h (f (scene_of a s x commons around)).scene).events ++ [])) (first.says around)
      ∙ append-nil (h (f (scene_of a s x commons around)).scene).events
      ∙ ap (λ (w : Scene). (h w).events) (first.leads around)))
      (second.says around);
  balances = balances_more _ _ _ _ _ _ first.balances second.balances;
}

module _ (a : StoreState) (s : Space) (x : ShelfState) (commons : CommonState) (top : CtxId) (number : top.number ≡ 1) (stands : StandsIn a s x commons) where
  all_gone : removed top.number (stands_for a.tree s) ≡ Empty
  unfolding session_of
  all_gone =
      let h : Stands (scene_of a s x commons nowhere) = stands nowhere in
      ap (λ (n : ℕ). removed n (stands_for a.tree s)) number ∙ nothing_left (stands_for a.tree s) a.tree.next h.contexts

  pub top_apart : (tree : TreeState) → tree ≡ record a.tree { current = top }
      → (is_within top.number tree.current.number (stands_for tree s) ≡ false) ⊎ ((tree.current.number ≡ top.number) × (removed top.number (stands_for tree s) ≡ Empty))
  unfolding stands_for
  top_apart tree is = inr (ap (λ (t : TreeState). t.current.number) is, ap (λ (t : TreeState). removed top.number (stands_for t s)) is ∙ all_gone)

  module _ (b : TreeState) (t : Space) (y : ShelfState) (did : Did (gone top.number (stands_for (record a.tree { current = top }) s)) (record a.tree { current = top }) b s t x y) where
    left_empty : stands_for b t ≡ Empty
    unfolding stands_for
    left_empty = did.contexts ∙ all_gone

    nowhere_kept : (n : ℕ) → has n b.kept ≡ true → ⊥
    nowhere_kept n there = both_ways (has n b.kept) (sym (has_kept n b t) ∙ ap (has n) left_empty) there

    pub placed_nowhere : a.levels ≡ [] → IsPlaced a.tree a.owners a.levels a.portals → IsPlaced b a.owners a.levels a.portals
    placed_nowhere none placed = grind (arith, nat_tests, nowhere_kept, none_lies, All-weaker, some_on, placed.portals)

    pub holds_nothing : Keeps a s → held t a.tree.account ≡ 0
    holds_nothing keeps =
        let k = keeps_left a top b a.owners a.levels a.portals s t keeps did.moves in
        ap (held t) (sym did.moves.account) ∙ k.held ∙ held_is (record { tree = b; owners = a.owners; levels = a.levels; portals = a.portals }) t ∙ ap total_of left_empty

    pub closed : (m : CommonState) (Said : List What → Type 0) → Said (gone top.number (stands_for (record a.tree { current = top }) s)).events
        → Acted (in_order (switched 1 ∷ context_gone 1 ∷ [])) a (record { tree = b; owners = a.owners; levels = a.levels; portals = a.portals }) s t x y m m Said
    closed m Said says =
        subst (λ (n : ℕ). Acted (in_order (switched n ∷ context_gone n ∷ [])) a (record { tree = b; owners = a.owners; levels = a.levels; portals = a.portals }) s t x y m m Said) number
        (acted_two (switched top.number) (context_gone top.number) a (record a { tree = record a.tree { current = top } }) (record { tree = b; owners = a.owners; levels = a.levels; portals = a.portals }) s s t x x y m Said
        (switch_acted a top s x m) (did_acted (gone top.number) (record a { tree = record a.tree { current = top } }) b s t x y m Said did says))
