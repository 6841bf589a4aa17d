-- A level is left, act by act, in scenes of a store's session.
use Rattle.session_ends.proofs.Base.{arith, nat_tests, ◌≡◌, ℕ, Bool, Option, Some, None, List, [], ◌∷◌, ◌++◌, refl, sym, ap, ◌∙◌, subst, MatchOption, unwrap_or, option_map}
use Rattle.session_ends.proofs.Words.{Space, CtxId, What, ShelfState, gone, Did, DidNothing, TreeState, stands_for, ResourceState, Level, LevelState, context_of, first_of, Around, Scene, Ended, context_gone, in_order, where_there, owner_gone, level_owner_gone, level_popped, switched_up, Balances, CommonState, StoreState, level_state, levels_of, session_of, Acted, leveled, made_same, scene_leveled, context_left, going, level_left, number_in}
use Rattle.session_owners.specs.Fitting as fitting
use Rattle.session_ends.proofs.Ending.{going_gone}

-- an act went from scene to scene, and what was said is what it says
pub record Went (O : Type 0) (emits : O → List What → O → Type 0) (act : Scene → Ended) (a b : Scene) (o p : O) : Type 0 where
  pub leads : (act a).scene ≡ b
  pub says : emits o (act a).events p

module _ (O : Type 0) (emits : O → List What → O → Type 0) where
  -- the same at each scene that the store's session is, once the levels are others
  pub acted_went : (act : Scene → Ended) (a b : StoreState) (before : List Level) (ls ks : List LevelState) (s t : Space) (x y : ShelfState) (c d : CommonState) (o p : O) → levels_of a.levels ≡ ls → levels_of b.levels ≡ ks
      → ((around : Around) → Went O emits act (leveled a ls s x c around) (leveled (record b { levels = before }) ks t y d around) o p) → Balances a.owners b.owners c d → Acted act a b s t x y c d (λ events. emits o events p)
  unfolding session_of
  acted_went act a b before ls ks s t x y c d o p e f went balances = record {
    leads = λ around. ap (λ (z : Scene). (act z).scene) (scene_leveled a ls s x c around e) ∙ (let w = went around in w.leads) ∙ sym (scene_leveled b ks t y d around f);
    says = λ around. subst (λ (z : Scene). emits o (act z).events p) (sym (scene_leveled a ls s x c around e)) (let w = went around in w.says);
    balances = balances;
  }

  -- what an act does to the owners
  went_owners : (act : Scene → Ended) (a : StoreState) (p : ResourceState) (ls : List LevelState) (s : Space) (x : ShelfState) (c d : CommonState) (around : Around) (o q : O) → fitting.Acted act a.owners p c d (λ events. emits o events q)
      → Went O emits act (leveled a ls s x c around) (leveled (record a { owners = p }) ls s x d around) o q
  unfolding session_of
  went_owners act a p ls s x c d around o q made =
      let fit : fitting.OwnersFit a.owners c (leveled a ls s x c around) = record { owners = refl; next_owner = refl; next_serial = refl; recent = refl; descriptors = refl; kinds = refl; locked = refl; pinned = refl; locks = refl; snapshots = refl; plans = refl } in
      record { leads = made.leads (leveled a ls s x c around) fit; says = made.says (leveled a ls s x c around) fit }

  module _ (none : (o : O) → emits o [] o) where
    went_silent : (act : Scene → Ended) (a b : Scene) (o : O) → act a ≡ record { scene = b; events = [] } → Went O emits act a b o o
    went_silent act a b o e = record { leads = ap (λ (z : Ended). z.scene) e; says = subst (λ (z : Ended). emits o z.events o) (sym e) (none o) }

    went_end : (a : Scene) (o : O) → Went O emits (in_order []) a a o o
    went_end a o = record { leads = refl; says = none o }

    -- what becomes of a level's context
    went_dropped : (a : StoreState) (b : TreeState) (s t : Space) (x y : ShelfState) (context : Option CtxId) (ls : List LevelState) (commons : CommonState) (around : Around) (o p : O)
        → MatchOption context (DidNothing a.tree b s t x y) (λ id. Did (gone id.number (stands_for a.tree s)) a.tree b s t x y)
        → MatchOption context (p ≡ o) (λ id. emits o (gone id.number (stands_for a.tree s)).events p)
        → Went O emits (λ scene. where_there (option_map (λ (id : CtxId). id.number) context) context_gone scene) (leveled a ls s x commons around) (leveled (record a { tree = b }) ls t y commons around) o p
    unfolding session_of
    went_dropped a b s t x y None ls commons around o p did says = grind (arith, nat_tests, did.tree, did.space, did.shelf)
    went_dropped a b s t x y (Some id) ls commons around o p did says = grind (arith, nat_tests, made_same, gone id.number (stands_for a.tree s), id.number, a.tree, a.tree.current.number, b.current.number, a.tree.next, b.next, s.limit, t.limit, did.contexts, did.current, did.next, did.moves.limit, did.shelf)

    module _ (more : (o p q : O) (xs ys : List What) → emits o xs p → emits p ys q → emits o (xs ++ ys) q) where
      went_then : (f : Scene → Ended) (acts : List (Scene → Ended)) (a b c : Scene) (o p q : O) → Went O emits f a b o p → Went O emits (in_order acts) b c p q → Went O emits (in_order (f ∷ acts)) a c o q
      went_then f acts a b c o p q h k = grind (arith, nat_tests, in_order, h.leads, k.leads, in_order acts (f a).scene, h.says, k.says)

      -- the deepest level is left
      pub left_went : (merged : Bool) (a : StoreState) (outer : List LevelState) (level : Level) (s t : Space) (x y : ShelfState) (commons : CommonState) (around : Around) (up : CtxId) (kept : Option CtxId) (b : TreeState) (q : ResourceState) (o0 o1 o2 : O)
          → fitting.Acted (λ scene. where_there (number_in level.owner) owner_gone scene) a.owners q commons commons (λ events. emits o0 events o1)
          → up.number ≡ unwrap_or (context_of (first_of outer)) 1
          → kept ≡ going merged level.context (stands_for (record a.tree { current = up }) s)
          → MatchOption kept (DidNothing (record a.tree { current = up }) b s t x y) (λ id. Did (gone id.number (stands_for (record a.tree { current = up }) s)) (record a.tree { current = up }) b s t x y)
          → MatchOption kept (o2 ≡ o1) (λ id. emits o1 (gone id.number (stands_for (record a.tree { current = up }) s)).events o2)
          → Went O emits (level_left merged) (leveled a (level_state level ∷ outer) s x commons around) (leveled (record a { tree = b; owners = q }) outer t y commons around) o0 o2
      unfolding session_of stands_for
      left_went merged a outer level s t x y commons around up kept b q o0 o1 o2 made above goes did says =
          let ls : List LevelState = level_state level ∷ outer in
          let c : StoreState = record a { tree = record a.tree { current = up }; owners = q } in
          let z0 : Scene = leveled a ls s x commons around in
          let z1 : Scene = leveled (record a { owners = q }) ls s x commons around in
          let z2 : Scene = leveled c ls s x commons around in
          let z3 : Scene = leveled (record c { tree = b }) ls t y commons around in
          let z4 : Scene = leveled (record c { tree = b }) outer t y commons around in
          let left = went_owners (λ scene. where_there (number_in level.owner) owner_gone scene) a q ls s x commons commons around o0 o1 made in
          let dropped = went_dropped c b s t x y kept ls commons around o1 o2 did says in
          let same : context_left merged z2 ≡ where_there (option_map (λ (id : CtxId). id.number) kept) context_gone z2 =
          going_gone merged level.context z2 ∙ ap (λ (k : Option CtxId). where_there (option_map (λ (id : CtxId). id.number) k) context_gone z2) (sym goes) in
          let k1 : List (Scene → Ended) = level_popped ∷ [] in
          let k2 : List (Scene → Ended) = context_left merged ∷ k1 in
          let k3 : List (Scene → Ended) = switched_up ∷ k2 in
          let all = went_then level_owner_gone k3 z0 z1 z4 o0 o1 o2 (record { leads = left.leads; says = left.says })
          (went_then switched_up k2 z1 z2 z4 o1 o1 o2
          (went_silent switched_up z1 z2 o1 (ap (λ (m : ℕ). record { scene = record z1 { session = record z1.session { current = m } }; events = [] }) (sym above)))
          (went_then (context_left merged) k1 z2 z3 z4 o1 o2 o2
          (record { leads = ap (λ (e : Ended). e.scene) same ∙ dropped.leads; says = subst (λ (e : Ended). emits o1 e.events o2) (sym same) dropped.says })
          (went_then level_popped [] z3 z4 z4 o2 o2 o2 (went_silent level_popped z3 z4 o2 refl) (went_end z4 o2)))) in
          record { leads = all.leads; says = all.says }
