-- What calls on the tree of a store make of the store: it is seen as a value, and the tree is one of its fields.
use Rattle.session_store.proofs.Words.{◌≡◌, ℕ, ◌+◌, ◌≤◌, Bool, true, false, List, [], ◌∷◌, Option, Some, Result, OnOk, OnErr, refl, sym, ap, ◌∙◌, subst, arith, if◌then◌else◌, Asks, Space, held, both_err, either_way, on_err, has, CtxId, What, Hook, ShelfState, taken, CtxKind, Contexts, created, created_events, reparented, reparented_events, TreeError, Did, DidNothing, TreeState, Agrees, HooksFit, IsLive, SameRegions, StaysPut, left_of, stands_for, ResourceState, Level, Portal, allocated, registered, resized, zeros, of_contexts, switched, where_there, abort_context, first_of, context_made, context_moved, contexts_become, chunk_resized, hook_waits, memory_taken, Stands, CommonState, StoreState, contexts_in, held_in, left_in, scene_of, session_of, HasLevels, IsPlaced, Acted, ContextsAlone, IsSilent, Keeps, Refused, StandsIn, own_there}
use Rattle.pgs_step.specs.declared.events.What.TheVariants as what
use Rattle.context_rules.specs.Ends.{Ended}
use Rattle.session_store.proofs.Answered.{on_answer, on_both, on_three}
use Rattle.session_store.proofs.Sums.{left_is}
use Rattle.session_store.proofs.Kept.{AreThere, Goes, alone_on, are_there, goes_did, goes_nothing, has_kept, nowhere, placed_on, switch_alone}
use Rattle.session_store.proofs.Led.{change_acted, did_acted, made_acted, moved_acted, refused_nothing, refused_regions, refused_same, resized_acted, switch_acted, taken_acted, waits_acted}
use Rattle.std.proofs.lemmas.Bool.Decides.{nat_tests}

module _ (tree : TreeState) (owners : ResourceState) (levels : List Level) (portals : List Portal) (v : StoreState) (is : record { tree = tree; owners = owners; levels = levels; portals = portals } ≡ v) where
  -- what is known of the value, of the field
  pub live_in : (id : CtxId) → IsLive v.tree id → IsLive tree id
  live_in id live = subst (λ (a : StoreState). IsLive a.tree id) (sym is) live

  pub keeps_in : (s : Space) → Keeps v s → Keeps (record { tree = tree; owners = owners; levels = levels; portals = portals }) s
  keeps_in s keeps = subst (λ (a : StoreState). Keeps a s) (sym is) keeps

  pub agrees_in : (s : Space) → Keeps v s → Agrees tree s
  agrees_in s keeps = let k = keeps_in s keeps in k.agrees

  pub stands_in : (s : Space) (x : ShelfState) (commons : CommonState) → StandsIn v s x commons → StandsIn (record { tree = tree; owners = owners; levels = levels; portals = portals }) s x commons
  stands_in s x commons stands = subst (λ (a : StoreState). StandsIn a s x commons) (sym is) stands

  pub there_in : (s : Space) (x : ShelfState) (commons : CommonState) → StandsIn v s x commons → AreThere tree owners levels portals
  there_in s x commons stands = are_there (record { tree = tree; owners = owners; levels = levels; portals = portals }) s x commons (stands_in s x commons stands)

  -- the topmost context is there, and so are those of the levels
  pub levels_in : (s : Space) (x : ShelfState) (commons : CommonState) → StandsIn v s x commons → HasLevels v.tree v.levels
  unfolding session_of
  levels_in s x commons stands =
      let h : Stands (scene_of (record { tree = tree; owners = owners; levels = levels; portals = portals }) s x commons nowhere) = stands_in s x commons stands nowhere in
      let there = there_in s x commons stands in
      subst (λ (a : StoreState). HasLevels a.tree a.levels) is
      (record {
        top = sym (has_kept 1 tree s) ∙ own_there (scene_of (record { tree = tree; owners = owners; levels = levels; portals = portals }) s x commons nowhere) h 1 (omega arith) (omega arith);
        levels = there.levels;
      })

  pub had_levels : HasLevels v.tree v.levels → HasLevels tree levels
  had_levels h = subst (λ (a : StoreState). HasLevels a.tree a.levels) (sym is) h

  pub hooks_in : (s : Space) (x : ShelfState) (commons : CommonState) → StandsIn v s x commons → HooksFit (stands_for tree s) x
  unfolding session_of
  hooks_in s x commons stands =
      let h : Stands (scene_of (record { tree = tree; owners = owners; levels = levels; portals = portals }) s x commons nowhere) = stands_in s x commons stands nowhere in
      record { out = h.hooks.out; words = h.hooks.words }

  -- the session's own contexts are there
  pub own_in : (s : Space) (x : ShelfState) (commons : CommonState) → StandsIn v s x commons → (n : ℕ) → 1 ≤ n → n ≤ abort_context → has n (stands_for tree s) ≡ true
  unfolding session_of
  own_in s x commons stands n l u = own_there (scene_of (record { tree = tree; owners = owners; levels = levels; portals = portals }) s x commons nowhere) (stands_in s x commons stands nowhere) n l u

  -- what a call on the tree says of the account, the current context, what is left and the contexts
  pub left_through : (P : ℕ → ℕ → ℕ → Contexts → Type 0) (s : Space) (at : CtxId) → at ≡ tree.current → Keeps v s → P tree.account at.number (left_of tree s) (stands_for tree s)
      → P v.tree.account v.tree.current.number (left_in v s) (contexts_in v s)
  unfolding session_of
  left_through P s at current keeps holds = grind (arith, nat_tests, left_is)

  pub held_through : (P : ℕ → ℕ → Contexts → Type 0) (s : Space) → Keeps v s → P tree.account (held s tree.account) (stands_for tree s) → P v.tree.account (held_in v s) (contexts_in v s)
  unfolding session_of
  held_through P s keeps holds = grind (arith, nat_tests)

  -- the tree is another one
  module _ (b : TreeState) (s t : Space) where
    pub placed_after : (x : ShelfState) (commons : CommonState) → StandsIn v s x commons → IsPlaced tree owners levels portals → Goes tree b s t → IsPlaced b owners levels portals
    placed_after x commons stands placed goes = placed_on tree b owners levels portals placed (there_in s x commons stands) goes.stays goes.current

    pub alone_after : (commons : CommonState) → Keeps v s → Goes tree b s t → ContextsAlone v (record { tree = b; owners = owners; levels = levels; portals = portals }) s t commons commons
    alone_after commons keeps goes =
        subst (λ (a : StoreState). ContextsAlone a (record { tree = b; owners = owners; levels = levels; portals = portals }) s t commons commons) is
        (alone_on (record { tree = tree; owners = owners; levels = levels; portals = portals }) b s t commons (keeps_in s keeps) goes)

    -- contexts went or were reset, unless that was refused
    module _ (x y : ShelfState) (r : Result (Unit {0}) TreeError) where
      pub goes_after : (ended : Ended) → Keeps v s → OnOk r (Did ended tree b s t x y) → OnErr r (DidNothing tree b s t x y) → Goes tree b s t
      goes_after ended keeps did nothing =
          either_way r (on_answer r (λ d. goes_did ended tree b s t x y d) did) (on_err r (λ n. goes_nothing tree b s t x y (agrees_in s keeps) n) nothing)

      pub acted_after : (end : Contexts → Ended) (Said : List What → Type 0) → OnOk r (Did (end (stands_for tree s)) tree b s t x y) → OnOk r (Said (end (stands_for tree s)).events)
          → OnOk r ((commons : CommonState) → Acted (λ scene. of_contexts (end scene.session.contexts) scene) v (record { tree = b; owners = owners; levels = levels; portals = portals }) s t x y commons commons Said)
      acted_after end Said did says =
          subst (λ (a : StoreState). OnOk r ((commons : CommonState) → Acted (λ scene. of_contexts (end scene.session.contexts) scene) a (record { tree = b; owners = owners; levels = levels; portals = portals }) s t x y commons commons Said)) is
          (on_both r (λ d e commons. did_acted end (record { tree = tree; owners = owners; levels = levels; portals = portals }) b s t x y commons Said d e) did says)

      pub asked_after : (ended : Ended) → OnOk r (Did ended tree b s t x y) → OnErr r (DidNothing tree b s t x y) → Asks v.tree.account 0 s t
      asked_after ended did nothing = either_way r (on_answer r (λ d. d.asked) did) (on_err r (λ n. ap (λ (z : Space). z.taken) n.space) nothing)

      pub refused_after : OnErr r (DidNothing tree b s t x y) → OnErr r ((commons : CommonState) → Refused v (record { tree = b; owners = owners; levels = levels; portals = portals }) s t x y commons commons)
      refused_after nothing =
          subst (λ (a : StoreState). OnErr r ((commons : CommonState) → Refused a (record { tree = b; owners = owners; levels = levels; portals = portals }) s t x y commons commons)) is
          (on_err r (λ n commons. refused_nothing (record { tree = tree; owners = owners; levels = levels; portals = portals }) b s t x y commons n) nothing)

    -- the contexts change alone, unless that was refused
    module _ (r : Result (Unit {0}) TreeError) where
      pub taken_after : (chunk : Option (List ℕ)) (size : ℕ) (zeroed : Bool) (at : CtxId) → at ≡ tree.current → Keeps v s → OnOk r (stands_for b t ≡ allocated at.number (left_of tree s) chunk size (if zeroed then zeros size else []) (stands_for tree s)) → StaysPut tree b → t.limit ≡ s.limit
          → OnOk r ((x : ShelfState) (commons : CommonState) → Acted (memory_taken chunk size zeroed v.tree.current.number) v (record { tree = b; owners = owners; levels = levels; portals = portals }) s t x x commons commons IsSilent)
      taken_after chunk size zeroed at current keeps contexts put limit =
          subst (λ (a : StoreState). OnOk r ((x : ShelfState) (commons : CommonState) → Acted (memory_taken chunk size zeroed a.tree.current.number) a (record { tree = b; owners = owners; levels = levels; portals = portals }) s t x x commons commons IsSilent)) is
          (subst (λ (id : CtxId). OnOk r ((x : ShelfState) (commons : CommonState) → Acted (memory_taken chunk size zeroed id.number) (record { tree = tree; owners = owners; levels = levels; portals = portals }) (record { tree = b; owners = owners; levels = levels; portals = portals }) s t x x commons commons IsSilent)) current
          (on_answer r (λ e. taken_acted (record { tree = tree; owners = owners; levels = levels; portals = portals }) b s t limit chunk size zeroed at.number (keeps_in s keeps) e put) contexts))

      pub taken_at : (chunk : Option (List ℕ)) (size : ℕ) (zeroed : Bool) (at : CtxId) → Keeps v s → OnOk r (stands_for b t ≡ allocated at.number (left_of tree s) chunk size (if zeroed then zeros size else []) (stands_for tree s)) → StaysPut tree b → t.limit ≡ s.limit
          → OnOk r ((x : ShelfState) (commons : CommonState) → Acted (memory_taken chunk size zeroed at.number) v (record { tree = b; owners = owners; levels = levels; portals = portals }) s t x x commons commons IsSilent)
      taken_at chunk size zeroed at keeps contexts put limit =
          subst (λ (a : StoreState). OnOk r ((x : ShelfState) (commons : CommonState) → Acted (memory_taken chunk size zeroed at.number) a (record { tree = b; owners = owners; levels = levels; portals = portals }) s t x x commons commons IsSilent)) is
          (on_answer r (λ e. taken_acted (record { tree = tree; owners = owners; levels = levels; portals = portals }) b s t limit chunk size zeroed at.number (keeps_in s keeps) e put) contexts)

      pub resized_after : (chunk : List ℕ) (size : ℕ) → Keeps v s → OnOk r (stands_for b t ≡ resized (held s tree.account) s.limit chunk size (stands_for tree s)) → StaysPut tree b → t.limit ≡ s.limit
          → OnOk r ((x : ShelfState) (commons : CommonState) → Acted (chunk_resized chunk size) v (record { tree = b; owners = owners; levels = levels; portals = portals }) s t x x commons commons IsSilent)
      resized_after chunk size keeps contexts put limit =
          subst (λ (a : StoreState). OnOk r ((x : ShelfState) (commons : CommonState) → Acted (chunk_resized chunk size) a (record { tree = b; owners = owners; levels = levels; portals = portals }) s t x x commons commons IsSilent)) is
          (on_answer r (λ e. resized_acted (record { tree = tree; owners = owners; levels = levels; portals = portals }) b s t limit chunk size (keeps_in s keeps) e put) contexts)

      pub change_after : (change : Contexts → Contexts) → OnOk r (stands_for b t ≡ change (stands_for tree s)) → StaysPut tree b → t.limit ≡ s.limit
          → OnOk r ((x : ShelfState) (commons : CommonState) → Acted (contexts_become change) v (record { tree = b; owners = owners; levels = levels; portals = portals }) s t x x commons commons IsSilent)
      change_after change contexts put limit =
          subst (λ (a : StoreState). OnOk r ((x : ShelfState) (commons : CommonState) → Acted (contexts_become change) a (record { tree = b; owners = owners; levels = levels; portals = portals }) s t x x commons commons IsSilent)) is
          (on_answer r (λ e. change_acted (record { tree = tree; owners = owners; levels = levels; portals = portals }) b s t limit change e put) contexts)

      pub same_after : OnErr r (b ≡ tree) → OnErr r (t ≡ s) → OnErr r ((x : ShelfState) (commons : CommonState) → Refused v (record { tree = b; owners = owners; levels = levels; portals = portals }) s t x x commons commons)
      same_after same still =
          subst (λ (a : StoreState). OnErr r ((x : ShelfState) (commons : CommonState) → Refused a (record { tree = b; owners = owners; levels = levels; portals = portals }) s t x x commons commons)) is
          (both_err r (λ e u x commons. refused_same (record { tree = tree; owners = owners; levels = levels; portals = portals }) b s t x x commons e u refl) same still)

    -- a context is made, unless that was refused
    module _ (r : Result CtxId TreeError) where
      pub made_after : (parent : ℕ) (name : List ℕ) (kind : CtxKind) (Said : List What → Type 0) → OnOk r (stands_for b t ≡ created parent tree.next name kind false (stands_for tree s)) → OnOk r (b.next ≡ tree.next + 1) → OnOk r (Said (created_events parent tree.next name))
          → b.current ≡ tree.current → t.limit ≡ s.limit → OnOk r ((x : ShelfState) (commons : CommonState) → Acted (context_made parent name false kind) v (record { tree = b; owners = owners; levels = levels; portals = portals }) s t x x commons commons Said)
      made_after parent name kind Said contexts next says current limit =
          subst (λ (a : StoreState). OnOk r ((x : ShelfState) (commons : CommonState) → Acted (context_made parent name false kind) a (record { tree = b; owners = owners; levels = levels; portals = portals }) s t x x commons commons Said)) is
          (on_three r (λ c n e. made_acted (record { tree = tree; owners = owners; levels = levels; portals = portals }) b s t limit parent name kind Said c current n e) contexts next says)

      pub regions_after : OnErr r (b ≡ tree) → OnErr r (SameRegions s t) → OnErr r ((x : ShelfState) (commons : CommonState) → Refused v (record { tree = b; owners = owners; levels = levels; portals = portals }) s t x x commons commons)
      regions_after same regions =
          subst (λ (a : StoreState). OnErr r ((x : ShelfState) (commons : CommonState) → Refused a (record { tree = b; owners = owners; levels = levels; portals = portals }) s t x x commons commons)) is
          (both_err r (λ e u x commons. refused_regions (record { tree = tree; owners = owners; levels = levels; portals = portals }) b s t x commons e u) same regions)

  -- a context moves, unless that was refused
  module _ (b : TreeState) (r : Result (Unit {0}) TreeError) where
    pub moved_after : (n parent : ℕ) (Said : List What → Type 0) → OnOk r ((s : Space) → stands_for b s ≡ reparented n parent (stands_for tree s)) → OnOk r ((s : Space) → Said (reparented_events n parent (stands_for tree s)))
        → b.current ≡ tree.current → b.next ≡ tree.next → OnOk r ((s : Space) (x : ShelfState) (commons : CommonState) → Acted (context_moved n parent) v (record { tree = b; owners = owners; levels = levels; portals = portals }) s s x x commons commons Said)
    moved_after n parent Said contexts says current next =
        subst (λ (a : StoreState). OnOk r ((s : Space) (x : ShelfState) (commons : CommonState) → Acted (context_moved n parent) a (record { tree = b; owners = owners; levels = levels; portals = portals }) s s x x commons commons Said)) is
        (on_both r (λ c e s x commons. moved_acted (record { tree = tree; owners = owners; levels = levels; portals = portals }) b s s refl n parent Said (c s) current next (e s) x commons) contexts says)

  -- a hook waits
  pub waits_after : (b : TreeState) (s : Space) (n : ℕ) (hook : Hook) (x y : ShelfState) (commons : CommonState) (Said : List What → Type 0) → first_of x.fresh ≡ Some hook → y ≡ taken x → stands_for b s ≡ registered n hook (stands_for tree s) → StaysPut tree b
      → Said (what.Hook hook.word n ∷ []) → Acted (λ scene. where_there (first_of scene.around.shelf.fresh) (hook_waits n) scene) v (record { tree = b; owners = owners; levels = levels; portals = portals }) s s x y commons commons Said
  waits_after b s n hook x y commons Said first after contexts put says =
      subst (λ (a : StoreState). Acted (λ scene. where_there (first_of scene.around.shelf.fresh) (hook_waits n) scene) a (record { tree = b; owners = owners; levels = levels; portals = portals }) s s x y commons commons Said) is
      (waits_acted (record { tree = tree; owners = owners; levels = levels; portals = portals }) b s s refl n hook x y commons Said first after contexts put says)

  -- another context is the current one
  module _ (b : TreeState) (id : CtxId) (same : b ≡ record tree { current = id }) (s : Space) where
    pub switched_after : (x : ShelfState) (commons : CommonState) → Acted (switched id.number) v (record { tree = b; owners = owners; levels = levels; portals = portals }) s s x x commons commons IsSilent
    switched_after x commons =
        subst (λ (t : TreeState). Acted (switched id.number) v (record { tree = t; owners = owners; levels = levels; portals = portals }) s s x x commons commons IsSilent) (sym {b = record tree { current = id }} same)
        (subst (λ (a : StoreState). Acted (switched id.number) a (record { tree = record tree { current = id }; owners = owners; levels = levels; portals = portals }) s s x x commons commons IsSilent) is
        (switch_acted (record { tree = tree; owners = owners; levels = levels; portals = portals }) id s x commons))

    pub switched_alone : (commons : CommonState) → Keeps v s → ContextsAlone v (record { tree = b; owners = owners; levels = levels; portals = portals }) s s commons commons
    switched_alone commons keeps =
        subst (λ (t : TreeState). ContextsAlone v (record { tree = t; owners = owners; levels = levels; portals = portals }) s s commons commons) (sym {b = record tree { current = id }} same)
        (subst (λ (a : StoreState). ContextsAlone a (record { tree = record tree { current = id }; owners = owners; levels = levels; portals = portals }) s s commons commons) is
        (switch_alone (record { tree = tree; owners = owners; levels = levels; portals = portals }) id s commons (keeps_in s keeps)))
