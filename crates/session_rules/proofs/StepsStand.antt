-- The steps of commands lead from a session that stands to one that stands.
use Rattle.session_rules.proofs.Base.{◌≡◌, ◌≢◌, ℕ, ◌+◌, ◌<◌, ◌≤◌, ◌⊎◌, ◌++◌, length, Bool, true, false, Option, Some, None, List, [], ◌∷◌, refl, sym, ap, ◌∙◌, subst, inl, inr, arith, ◌==◌, All, if◌then◌else◌, All-weaker, nat_tests, cases_eq, eq-eqb, ne_eqb, both_ways}
use Rattle.session_rules.proofs.Below.{Empty, has, Once, at, children, parent_of, put, changed, size, AllNodes, has_at, times_some, has_changed, Error, Active, ShelfState, KindTable, IsSoundTable, table_of, once_of, fresh, sound_created, parent_absent, Ledger, CtxKind, Chunk, Context, Contexts, created, found, is_protected, new_context, allocated, freed, resized, written, zeros, Owner, OwnerTree, has_begun, IsSound}
use Rattle.session_rules.proofs.Rules.{LevelState, OpenPortal, StandingPlan, deepest_changed, first_of, owner_of, plan_reference, Scene, Moment, LevelContext, OfLevel, Text, memory_in, aborted, cleaned_up, committed, subcommitted, does, Ended, changes, in_order, nothing, say, switched, where_there, chunk_resized, memory_taken, snapshot_pushed, level_stands, fallible, is_call, refused_call, Element, held, left, level_context_name, level_made, level_parent, limit, new_context_made, new_owner_made, IsLevel, IsOfPortal, AreContexts, AreHooks, AreLevels, AreOuter, AreOwners, ArePlans, ArePortals, AreStacked, FitLevels, HasItems, IsActive, IsAtRest, IsDead, IsDeepest, IsFresh, IsLive, IsMade, IsOpen, IsOwner, IsOwnerOf, IsPlace, IsPlan, IsPortal, IsReleased, IsRow, IsWorking, Stands, WasReleased, active_depth, owner_at, referred, MemoryRole}
use Rattle.session_rules.proofs.Kept.{at_put, at_put_other, children_put, has_put_other, parent_put, parent_put_other, all_put, Stay, contexts_changed, contexts_created, has_created, new_empty, new_parent, new_protected, protected_has, stay_changed, stay_created, stay_same, top_protected, hooks_changed, hooks_put, depth_small, depth_working, stacked_pushed, stacked_taken, stacked_within, lone_changed, lone_put, held_created, Besides, Fits, Spares, besides_of, with_besides, IsCached, levels_apart, levels_other, parent_apart, plans_counted, plans_current, plans_moved, IsRowOf, attached_by, off_parent, place_level, place_same, place_spared, portals_by, portals_moved, row_changed, row_of, row_parent_off, row_put, is_there, levels_stay, no_value, one_value}
use Rattle.context_rules.specs.Chunks.{without}
use Rattle.owner_core.specs.Owners as owners
use Rattle.session_rules.proofs.EndsStand.{Leaves, deepest_active, aborted_stands, cleaned_up_stands, committed_stands, is_settled, settled, subcommitted_leaves}

-- a refused call changes nothing but the count
pub not_refused : (a b : Bool) (x y : Error) (own : Option Error) → (if a then Some x else (if b then Some y else own)) ≡ None → own ≡ None
not_refused a b x y own e = grind (arith, nat_tests)

pub own_refusal : (w : Option ℕ) (fail call : ℕ) (own : Option Error) → refused_call w fail call own ≡ None → own ≡ None
own_refusal w fail call own e = not_refused (call == fail) (is_call w call) _ _ own e

pub fallible_keeps : (P : Scene → Type 0) (w : Option ℕ) (moment : Moment) (own : Option Error) (act : Scene → Ended) → P moment.scene → (own ≡ None → P (act moment.scene).scene) → P (fallible w moment own act).moment.scene
fallible_keeps P w moment own act before behind = grind (arith, nat_tests, own_refusal w moment.fail (moment.calls + 1) own)

-- what work in a level leads to: the session stands, its levels are as they were, and where portals were at rest they still are
pub record Works (s z : Scene) : Type 0 where
  pub stands : Stands z
  pub levels : z.session.levels ≡ s.session.levels
  pub at_rest : All IsAtRest s.session.portals → All IsAtRest z.session.portals

pub nothing_works : (s : Scene) → Stands s → Works s s
nothing_works s h = record { stands = h; levels = refl; at_rest = λ r. r }

-- steps that leave the portals as they are
pub record Beside (s z : Scene) : Type 0 where
  pub works : Works s z
  pub portals : z.session.portals ≡ s.session.portals

pub beside_by : (s z : Scene) → z.session.levels ≡ s.session.levels → z.session.portals ≡ s.session.portals → Stands z → Beside s z
beside_by s z levels portals h = record { works = record { stands = h; levels = levels; at_rest = subst (All IsAtRest) (sym portals) }; portals = portals }

pub nothing_beside : (s : Scene) → Stands s → Beside s s
nothing_beside s h = beside_by s s refl refl h

pub fit_working : (levels : List LevelState) (t u : Contexts) (x y : OwnerTree) (a b : ℕ) → IsWorking levels → FitLevels levels t x a → FitLevels levels u y b
fit_working levels t u x y a b w h = grind (arith, nat_tests, deepest_active)

pub not_released_outer : (levels : List LevelState) (n : ℕ) (x : OwnerTree) → AreOuter levels → WasReleased n levels x → ⊥
not_released_outer levels n x h r = grind (arith, nat_tests, both_ways)

pub not_released : (levels : List LevelState) (n : ℕ) (x : OwnerTree) → IsWorking levels → WasReleased n levels x → ⊥
not_released levels n x h r = grind (arith, nat_tests, both_ways)

-- The contexts of a session change, the protected ones stay, and the current one and the plans are other ones.
pub contexts_step : (s : Scene) → Stands s → IsWorking s.session.levels → (u : Contexts) (next current : ℕ) (x : ShelfState) (plans : List StandingPlan) → AreContexts u next → Stay s.session.contexts u → has current u ≡ true → AreHooks u x
    → ArePlans plans u current (referred s.session.owners) → ArePortals s.session.portals s.session.levels u s.session.owners current
    → Stands (record s { session = record s.session { contexts = u; next_context = next; current = current; plans = plans }; around = record s.around { shelf = x } })
contexts_step s h working u next current x plans c stay there hooks planned open_portals = grind (arith, nat_tests, levels_stay s.session.levels s.session.contexts u s.session.owners s.session.owners, fit_working s.session.levels s.session.contexts u s.session.owners s.session.owners s.session.current current working h.fit)

-- the plans where no plan's context gets a child
pub still_planned : (s : Scene) (u : Contexts) → Stands s → Stay s.session.contexts u → ((m : ℕ) → IsCached m s.session.contexts → children m u ≡ Empty) → ArePlans s.session.plans u s.session.current (referred s.session.owners)
still_planned s u h stay lone = grind (arith, nat_tests, plans_moved s.session.plans s.session.contexts u s.session.current (referred s.session.owners))

-- the portals where each row is as it was
pub still_portals : (s : Scene) (u : Contexts) → Stands s → Stay s.session.contexts u → ((n : ℕ) (expr : Option ℕ) → IsPlace n expr s.session.contexts s.session.current → IsRow expr (children n u))
    → ArePortals s.session.portals s.session.levels u s.session.owners s.session.current
still_portals s u h stay rows = grind (arith, nat_tests, portals_moved s.session.portals s.session.levels s.session.contexts u s.session.owners s.session.current s.session.current, place_same)

-- Plans, their contexts and tables change.
pub besides_step : (s : Scene) (x : Besides) → Stands s → IsWorking s.session.levels → table_of x.kinds ≡ table_of s.around.kinds → Fits s.session.next_context s.session.current (referred s.session.owners) x → Spares (besides_of s) x
    → Stands (with_besides x s)
besides_step s x h working same fits spares =
    search (
      spares.there s.session.current (All-weaker (λ plan. IsPlan plan s.session.contexts s.session.current) (λ plan. s.session.current ≢ plan.context) (λ plan i. i.other) s.session.plans h.plans.each) h.current,
      levels_stay s.session.levels s.session.contexts x.contexts s.session.owners s.session.owners
          (λ m i prot. spares.same m (levels_apart s.session.levels s.session.contexts s.session.owners s.session.plans s.session.current h.levels h.plans.each m i) prot)
          (λ m i there. record { there = there; parent = refl }) h.levels,
      fit_working s.session.levels s.session.contexts x.contexts s.session.owners s.session.owners s.session.current s.session.current working h.fit,
      subst (λ (kinds : KindTable). AreOwners kinds s.session.owners s.session.next_owner s.session.next_serial s.session.levels s.session.portals) (sym same) h.owners,
      subst (λ (kinds : KindTable). IsSoundTable kinds) (sym same) h.kinds,
      portals_moved s.session.portals s.session.levels s.session.contexts x.contexts s.session.owners s.session.current s.session.current
          (λ n expr i. place_spared (besides_of s) x s.session.current spares h.plans.each n expr s.session.current i) h.portals,
    )

-- The stack of active snapshots changes.
pub stack_works : (s : Scene) (stack : List Active) → Stands s → AreStacked 1 (active_depth s.session.levels) stack → Works s (record s { session = record s.session { snapshots = stack } })
stack_works s stack h stacked = record { stands = search; levels = refl; at_rest = λ r. r }

-- a snapshot is pushed in a level
pub push_stacked : (levels : List LevelState) (snapshot : ℕ) (stack : List Active) → IsWorking levels → AreStacked 1 (active_depth levels) stack
    → AreStacked 1 (active_depth levels) (stack ++ (record { snapshot = snapshot; level = length levels } ∷ []))
push_stacked levels snapshot stack working h = grind (arith, nat_tests, depth_working, stacked_pushed 1)

-- a change of the contexts alone
pub record KeepsContexts (t u : Contexts) (next : ℕ) : Type 0 where
  pub contexts : AreContexts u next
  pub stay : Stay t u
  pub there : (m : ℕ) → has m t ≡ true → has m u ≡ true
  pub lone : (m : ℕ) → children m t ≡ Empty → children m u ≡ Empty
  pub rows : (n : ℕ) (expr : Option ℕ) (current : ℕ) → IsPlace n expr t current → IsRow expr (children n u)
  pub hooks : (x : ShelfState) → AreHooks t x → AreHooks u x

pub keeps_same : (t : Contexts) (next : ℕ) → AreContexts t next → KeepsContexts t t next
keeps_same t next h = record { contexts = h; stay = stay_same t; there = λ m y. y; lone = λ m e. e; rows = λ n expr current i. i.row; hooks = λ x k. k }

pub keeps_changed : (t : Contexts) (next n : ℕ) (f : Context → Context) → AreContexts t next → ((c : Context) → (f c).protected ≡ c.protected) → ((c : Context) → (f c).hooks ≡ c.hooks) → ((c : Context) → IsFresh c → IsFresh (f c))
    → KeepsContexts t (changed n f t) next
keeps_changed t next n f h own hooks fresh = record {
  contexts = contexts_changed t next h n f own fresh;
  stay = stay_changed t next h n f own;
  there = λ m y. has_changed m n f t ∙ y;
  lone = λ m e. lone_changed m n f t e;
  rows = λ k expr current i. row_changed t h.once k expr current i n f own;
  hooks = λ x k. hooks_changed n f t x hooks k;
}

pub kept_step : (s : Scene) → Stands s → IsWorking s.session.levels → (u : Contexts) → KeepsContexts s.session.contexts u s.session.next_context
    → Stands (record s { session = record s.session { contexts = u } })
kept_step s h working u k =
    contexts_step s h working u s.session.next_context s.session.current s.around.shelf s.session.plans k.contexts k.stay (k.there s.session.current h.current) (k.hooks s.around.shelf h.hooks)
    (still_planned s u h k.stay (λ m c. k.lone m c.lone)) (still_portals s u h k.stay (λ n expr i. k.rows n expr s.session.current i))

-- chunks
pub keeps_allocated : (t : Contexts) (next n left : ℕ) (name : Option (List ℕ)) (bytes : ℕ) (known : List ℕ) → AreContexts t next → KeepsContexts t (allocated n left name bytes known t) next
keeps_allocated t next n left name bytes known h = grind (arith, nat_tests, keeps_changed t next n, keeps_same t next h)

pub fresh_chunks : (c : Context) (g : List Chunk → List Chunk) (ledger : Ledger) → g [] ≡ [] → IsFresh c → IsFresh (record c { ledger = ledger; chunks = g c.chunks })
fresh_chunks c g ledger e fresh unused = let w = fresh unused in (ap g w.0 ∙ e, w.1)

pub keeps_freed : (t : Contexts) (next : ℕ) (name : List ℕ) → AreContexts t next → KeepsContexts t (freed name t) next
keeps_freed t next name h = grind (arith, nat_tests, found name t, without name, keeps_changed t next, fresh_chunks, keeps_same t next h)

pub keeps_resized : (t : Contexts) (next held limit : ℕ) (name : List ℕ) (bytes : ℕ) → AreContexts t next → KeepsContexts t (resized held limit name bytes t) next
keeps_resized t next held limit name bytes h = grind (arith, nat_tests, keeps_changed t next, fresh_chunks, keeps_same t next h)

pub keeps_written : (t : Contexts) (next : ℕ) (name : List ℕ) (place : ℕ) (bytes : List ℕ) → AreContexts t next → KeepsContexts t (written name place bytes t) next
keeps_written t next name place bytes h = grind (arith, nat_tests, found name t, keeps_same t next h, keeps_changed t next, fresh_chunks)

-- where a level is being started, the stack is that of the levels above it
pub stacked_above_it : (levels : List LevelState) (stack : List Active) → AreStacked 1 (active_depth levels) stack → AreStacked 1 (length levels) stack
stacked_above_it levels stack h = stacked_within 1 (length levels) 1 (active_depth levels) stack (omega arith) (depth_small levels) h

-- no portal is one of an aborted level where none is
pub not_dead : (p : OpenPortal) (levels : List LevelState) → AreOuter levels → IsDead p levels → ⊥
not_dead p levels outer d = grind (arith, nat_tests, both_ways)

-- a portal stays where a level is pushed
pub pushed_portal : (new : LevelState) (levels : List LevelState) (t : Contexts) (x : OwnerTree) (current : ℕ) (p : OpenPortal) → new.starting ≡ true → new.owner ≡ None → AreOuter levels → IsAtRest p → IsPortal p levels t x current
    → IsPortal p (new ∷ levels) t x current
pushed_portal new levels t x current p starting none outer rests i = grind (arith, nat_tests, depth_small levels, attached_by, no_value new.owner, not_dead p levels outer)

-- a portal where the deepest level changes and keeps its owner
pub same_portal : (old new : LevelState) (levels : List LevelState) (t u : Contexts) (x : OwnerTree) (a b : ℕ) (p : OpenPortal) → new.owner ≡ old.owner → (IsLive p (old ∷ levels) → IsLive p (new ∷ levels)) → new.aborted ≡ old.aborted
    → ((n : ℕ) (expr : Option ℕ) → IsPlace n expr t a → IsPlace n expr u b) → IsPortal p (old ∷ levels) t x a → IsPortal p (new ∷ levels) u x b
same_portal old new levels t u x a b p same live aborted stay i = record {
  place = λ n e. stay n p.expr (i.place n e);
  made = i.made;
  owner = λ n e. attached_by n p.created (old ∷ levels) (new ∷ levels) x x (λ u. u) refl (λ u. u) (at (length levels + 1 == p.created)) (λ j. elim j [ inl q ↦ inl (sym same ∙ q) | inr k ↦ inr k ]) (i.owner n e);
  stage = elim i.stage [ inl l ↦ inl (live l) | inr d ↦ inr (record { aborted = aborted ∙ d.aborted; created = d.created; within = d.within; active = d.active; failed = d.failed; owner = d.owner; expr = d.expr }) ];
}
  where
    at : (b : Bool) → (if b then new.owner else owner_at p.created levels) ≡ (if b then old.owner else owner_at p.created levels)
    at true = same
    at false = refl

-- A level is pushed.
pub level_made_stands : (name : Option Text) (implicit : Bool) (s : Scene) → Stands s → All IsAtRest s.session.portals → AreOuter s.session.levels → (implicit ≡ true → s.session.levels ≡ []) → Stands (level_made name implicit s).scene
level_made_stands name implicit s h at_rest outer alone =
    let new : LevelState = record { name = name; context = None; owner = None; implicit = implicit; aborted = false; starting = true } in
    let level : IsLevel new s.session.levels s.session.contexts s.session.owners = record { context = λ n e. absurd (cc e); owner = λ n e. absurd (cc e); implicit = alone } in
    let deepest : IsDeepest new s.session.contexts s.session.owners s.session.current = grind (arith, nat_tests) in
    let each : (n : ℕ) → has n s.session.owners ≡ true → IsOwner n (new ∷ s.session.levels) ⊎ (IsOfPortal n s.session.portals ⊎ IsReleased new n s.session.owners) = grind (arith, nat_tests, not_released_outer s.session.levels) in
    let begun : (n : ℕ) → has_begun n s.session.owners ≡ true → IsReleased new n s.session.owners = λ n u. absurd (not_released_outer s.session.levels n s.session.owners outer (h.owners.begun n u)) in
    let portals : All (λ p. IsPortal p (new ∷ s.session.levels) s.session.contexts s.session.owners s.session.current) s.session.portals =
    λ k r below. pushed_portal new s.session.levels s.session.contexts s.session.owners s.session.current _ refl refl outer (at_rest k r below) (h.portals.each k r below) in
    search (stacked_above_it s.session.levels s.session.snapshots h.snapshots)

-- the parent of a new context of a level is there, and protected
pub parent_protected : (levels : List LevelState) (t : Contexts) (x : OwnerTree) (next : ℕ) → AreContexts t next → AreLevels levels t x → AreOuter levels → is_protected (level_parent (first_of levels)) t ≡ true
parent_protected levels t x next h l o = grind (arith, nat_tests, top_protected t next h, is_there)

-- The context of a level that is being started is made.
pub level_context_stands : (level : LevelState) (levels : List LevelState) (s : Scene) → level.starting ≡ true → level.context ≡ None → Stands (settled (level ∷ levels) s)
    → Stands (new_context_made LevelContext (settled (level ∷ levels) s)).scene
level_context_stands level levels s starting none h =
    let t : Contexts = s.session.contexts in
    let x : OwnerTree = s.session.owners in
    let next : ℕ = s.session.next_context in
    let p : ℕ = level_parent (first_of levels) in
    let name : Text = level_context_name (first_of levels) in
    let c : AreContexts t next = h.contexts in
    let outer : AreOuter levels = h.fit.1 in
    let guarded : is_protected p t ≡ true = parent_protected levels t x next c h.levels.1 outer in
    let there : has p t ≡ true = protected_has p t guarded in
    let u : Contexts = created p next name CtxKind.Default true t in
    let stay : Stay t u = stay_created t next c p name CtxKind.Default true in
    let rest : AreLevels levels u x =
    levels_stay levels t u x x (λ m i prot. stay m prot) (λ m i there. record { there = there; parent = refl }) h.levels.1 in
    record {
      contexts = contexts_created t next c p name CtxKind.Default true there (λ _. guarded);
      current = has_created t next c s.session.current p name CtxKind.Default true h.current;
      hooks = hooks_put p next (new_context name CtxKind.Default true) t s.around.shelf c.once refl h.hooks;
      levels = grind (arith, nat_tests, one_value (Some next) next, new_protected t next c p name CtxKind.Default there, new_parent t next c p name CtxKind.Default true there);
      fit = grind (arith, nat_tests, both_ways level.starting, one_value (Some next) next, new_empty t next c p name CtxKind.Default true there);
      owners = grind (arith, nat_tests);
      kinds = h.kinds;
      portals = portals_by s.session.portals (level ∷ levels) (record level { context = Some next } ∷ levels) t u x x s.session.current s.session.current
          (λ q i. same_portal level (record level { context = Some next }) levels t u x s.session.current s.session.current q refl (λ l. record { some = l.some; within = l.within; active = l.active; line = l.line }) refl
          (λ n expr k. place_same n expr t u s.session.current (stay n k.protected)
          (row_put t c.once n expr s.session.current k p next (new_context name CtxKind.Default true) Empty
          (λ z. off_parent levels t x h.levels.1 outer n k.parent k.own (sym z)) (λ z. omega (arith, z, c.below n (protected_has n t k.protected))) refl
          (λ e q z.
          let r : IsRowOf e n t = row_of e n t s.session.current c.once (subst (λ (o : Option ℕ). IsPlace n o t s.session.current) q k) in
          row_parent_off levels t x next c h.levels.1 e n k.own k.parent r.parent (sym z))) k) i) h.portals;
      plans = plans_moved s.session.plans t u s.session.current (referred x)
          (λ m k. (
            stay m k.protected,
            lone_put m p next (new_context name CtxKind.Default true) Empty t (λ z. parent_apart levels t x h.levels.1 outer m k (sym z)) (λ z. omega (arith, z, c.below m (protected_has m t k.protected))) refl k.lone,
          )) h.plans;
      snapshots = h.snapshots;
    }

-- numbers of owners are below the next one
pub owner_below : (x : OwnerTree) (a b n : ℕ) → IsSound x a b → has n x ≡ true → n < a
owner_below x a b n h u = grind (arith, nat_tests, times_some n x u)

-- a new owner
abbrev pub new_owner : Owner
new_owner = record { begun = false; items = [] }

pub record IsNewOwner (o : Option ℕ) (n : ℕ) (x y : OwnerTree) : Type 0 where
  pub there : has n y ≡ true
  pub parent : parent_of n y ≡ o
  pub alone : children n y ≡ Empty
  pub idle : at n y ≡ Some new_owner
  pub others : (m : ℕ) → m ≢ n → at m y ≡ at m x
  pub had : (m : ℕ) → m ≢ n → has m y ≡ has m x
  pub parents : (m : ℕ) → m ≢ n → parent_of m y ≡ parent_of m x
  pub lone : (m : ℕ) → m ≢ n → ((p : ℕ) → o ≡ Some p → m ≢ p) → children m x ≡ Empty → children m y ≡ Empty
  pub items : (kinds : KindTable) → AllNodes (HasItems kinds) x → AllNodes (HasItems kinds) y

pub new_owner_is : (o : Option ℕ) (n : ℕ) (x : OwnerTree) → Once x → has n x ≡ false → ((p : ℕ) → o ≡ Some p → has p x ≡ true) → IsNewOwner o n x (owners.created o n x)
new_owner_is None n x once new there = grind (arith, nat_tests, eq-eqb n n refl, parent_absent n x new, ne_eqb n)
new_owner_is (Some p) n x once new there = grind (arith, nat_tests, has_at n (put p n new_owner Empty x) new_owner, at_put p n new_owner Empty x once, parent_put p n new_owner Empty x once, children_put p n new_owner Empty x once, at_put_other, has_put_other, parent_put_other, lone_put, all_put)

-- a portal isn't one of a level that is being started
pub created_below : (level : LevelState) (levels : List LevelState) → level.starting ≡ true → (level.aborted ≡ true → IsOpen level) → (p : OpenPortal) → IsLive p (level ∷ levels) ⊎ IsDead p (level ∷ levels) → p.created ≤ length levels
created_below level levels starting gone p s = grind (arith, nat_tests)

pub first_is : (levels : List LevelState) (p : ℕ) → owner_of (first_of levels) ≡ Some p → IsOwner p levels
first_is [] p e = absurd (no_value None p refl e)
first_is (level ∷ levels) p e = inl e

-- The owner of a level that is being started is made.
pub level_owner_stands : (level : LevelState) (levels : List LevelState) (s : Scene) → level.starting ≡ true → level.owner ≡ None → size s.session.owners < 65536 → Stands (settled (level ∷ levels) s)
    → Stands (new_owner_made OfLevel (settled (level ∷ levels) s)).scene
level_owner_stands level levels s starting none few h =
    let t : Contexts = s.session.contexts in
    let x : OwnerTree = s.session.owners in
    let n : ℕ = s.session.next_owner in
    let b : ℕ = s.session.next_serial in
    let o : Option ℕ = owner_of (first_of levels) in
    let y : OwnerTree = owners.created o n x in
    let once : Once x = once_of x n b h.owners.sound in
    let unused : has n x ≡ false = fresh x n b h.owners.sound in
    let outer : AreOuter levels = h.fit.1 in
    let parent_there : (p : ℕ) → owner_of (first_of levels) ≡ Some p → has p x ≡ true = above_there levels t x h.levels.1 in
    let new : IsNewOwner o n x y = new_owner_is o n x once unused parent_there in
    let other : (m : ℕ) → has m x ≡ true → m ≢ n = λ m u e. both_ways (has n x) unused (ap (λ (k : ℕ). has k x) (sym e) ∙ u) in
    let rest : AreLevels levels t y = grind (arith, nat_tests, levels_stay levels t t x y, stay_same t) in
    record {
      contexts = h.contexts;
      current = h.current;
      hooks = h.hooks;
      levels = (
        record {
          context = h.levels.0.context;
          owner = λ m e. subst (λ (k : ℕ). IsOwnerOf k levels y) (one_value (Some n) n m refl e) (record {
            there = new.there;
            parent = new.parent;
            newer = λ p e. owner_below x n b p h.owners.sound (parent_there p e);
          });
          implicit = h.levels.0.implicit;
        },
        rest,
      );
      fit = grind (arith, nat_tests, both_ways level.starting, one_value (Some n) n);
      owners = record {
        sound = sound_created o x n b h.owners.sound few;
        each = grind (arith, nat_tests, cases_eq, no_value level.owner);
        begun = grind (arith, nat_tests, cases_eq, no_value level.owner);
        items = new.items (table_of s.around.kinds) h.owners.items;
      };
      kinds = h.kinds;
      portals = portals_by s.session.portals (level ∷ levels) (record level { owner = Some n } ∷ levels) t t x y s.session.current s.session.current
          (λ q i. record {
            place = i.place;
            made = i.made;
            owner = grind (arith, nat_tests, created_below level levels starting h.fit.0.open_level q i.stage, attached_by, first_is levels, ne_eqb (length levels + 1) q.created, both_ways (has n x) unused, one_value (Some n) n);
            stage = grind (arith, nat_tests);
          }) h.portals;
      plans = plans_counted s.session.plans t s.session.current (referred x) (referred y) (λ m. sym (held_created plan_reference m o n x)) h.plans;
      snapshots = h.snapshots;
    }
  where
    above_there : (levels : List LevelState) (t : Contexts) (x : OwnerTree) → AreLevels levels t x → (p : ℕ) → owner_of (first_of levels) ≡ Some p → has p x ≡ true
    above_there [] t x l p e = absurd (no_value None p refl e)
    above_there (level ∷ levels) t x l p e = (l.0.owner p e).there

-- the level that was started, with the context of the level as the current one
abbrev pub started : LevelState → List LevelState → Scene → Option ℕ → Scene
started level levels s o =
    (in_order (where_there o switched ∷ changes (λ session. record session { levels = deepest_changed (λ level. record level { starting = false }) session.levels }) ∷ []) (settled (level ∷ levels) s)).scene

-- The level that was started stands.
pub level_stands_stands : (level : LevelState) (levels : List LevelState) (s : Scene) → level.aborted ≡ false → IsMade level → Stands (settled (level ∷ levels) s)
    → Stands (level_stands (settled (level ∷ levels) s)).scene
level_stands_stands level levels s active made h =
    let c = is_there level.context made.context in
    let x : OwnerTree = s.session.owners in
    let now : LevelState = record level { starting = false } in
    let working : IsActive now = record { made = record { context = made.context; owner = made.owner }; started = refl; unaborted = active } in
    let result : Stands (started level levels s (Some c.0)) = record {
      contexts = h.contexts;
      current = protected_has c.0 s.session.contexts (h.levels.0.context c.0 c.1).protected;
      hooks = h.hooks;
      levels = (record { context = h.levels.0.context; owner = h.levels.0.owner; implicit = h.levels.0.implicit }, h.levels.1);
      fit = (deepest_active now s.session.contexts x c.0 working, h.fit.1);
      owners = grind (arith, nat_tests);
      kinds = h.kinds;
      portals = portals_by s.session.portals (level ∷ levels) (now ∷ levels) s.session.contexts s.session.contexts x x s.session.current c.0
          (λ q i. same_portal level now levels s.session.contexts s.session.contexts x s.session.current c.0 q refl
          (λ l. record { some = l.some; within = l.within; active = omega (arith, l.active, depth_small (level ∷ levels), depth_working now levels working); line = l.line }) refl
          (λ n expr k. place_level (level ∷ levels) s.session.contexts x h.contexts.once h.levels c.0 (inl c.1) n expr s.session.current k) i) h.portals;
      plans = plans_current s.session.plans s.session.contexts s.session.current c.0 (referred x) (levels_other (level ∷ levels) s.session.contexts x h.levels c.0 (inl c.1)) h.plans;
      snapshots = stacked_within 1 (active_depth (now ∷ levels)) 1 (active_depth (level ∷ levels)) s.session.snapshots (omega arith) (omega (arith, depth_small (level ∷ levels), depth_working now levels working)) h.snapshots;
    } in
    subst (λ (o : Option ℕ). Stands (started level levels s o)) (sym c.1) result

-- a scene that stands is settled
pub settled_as : (P : Scene → Type 0) (scene : Scene) (levels : List LevelState) → Stands scene → scene.session.levels ≡ levels → (Stands (settled levels scene) → P (settled levels scene)) → P scene
settled_as P scene levels h e all = grind (arith, nat_tests, is_settled scene h)

-- a limit that wasn't reached
pub below_limit : (most n : ℕ) → limit most n ≡ None → n < most
below_limit most n e = grind (arith, nat_tests)

-- Each element, whatever call is refused.
module _ (w : Option ℕ) (moment : Moment) (h : Stands moment.scene) where
  pub commit_stands : (level : LevelState) → moment.scene.session.levels ≡ level ∷ [] → Leaves [] (does w Element.CommitTop moment).moment.scene
  unfolding does
  commit_stands level is =
      settled_as (λ (z : Scene). Leaves [] (committed z).scene) moment.scene (level ∷ []) h is (λ k. committed_stands level moment.scene k)

  pub merge_stands : (level : LevelState) (levels : List LevelState) → moment.scene.session.levels ≡ level ∷ levels → 1 ≤ length levels → All IsAtRest moment.scene.session.portals → Leaves levels (does w Element.Subcommit moment).moment.scene
  unfolding does
  merge_stands level levels is some at_rest =
      settled_as (λ (z : Scene). Leaves levels (subcommitted z).scene) moment.scene (level ∷ levels) h is (λ k. subcommitted_leaves level levels moment.scene some at_rest k)

  pub abort_stands : (level : LevelState) (levels : List LevelState) → moment.scene.session.levels ≡ level ∷ levels → level.aborted ≡ false → IsOpen level
      → Leaves (record level { aborted = true } ∷ levels) (does w Element.Abort moment).moment.scene
  unfolding does
  abort_stands level levels is active open_level = grind (arith, nat_tests, settled_as, aborted_stands level levels)

  pub cleanup_stands : (level : LevelState) (levels : List LevelState) → moment.scene.session.levels ≡ level ∷ levels → level.aborted ≡ true → Leaves levels (does w Element.Cleanup moment).moment.scene
  unfolding does
  cleanup_stands level levels is gone =
      settled_as (λ (z : Scene). Leaves levels (cleaned_up z).scene) moment.scene (level ∷ levels) h is (λ k. cleaned_up_stands level levels moment.scene gone k)

  pub enlarge_works : Works moment.scene (does w (Element.Enlarge OfLevel) moment).moment.scene
  unfolding does
  enlarge_works = fallible_keeps (Works moment.scene) w moment None nothing (nothing_works moment.scene h) (λ _. nothing_works moment.scene h)

  pub pop_works : Works moment.scene (does w Element.PopSnapshot moment).moment.scene
  unfolding does
  pop_works = grind (arith, nat_tests, in_order, say, nothing_works moment.scene h, stack_works moment.scene, stacked_taken)

  -- in an active level
  module _ (working : IsWorking moment.scene.session.levels) where
    pub push_works : (snapshot : ℕ) → Works moment.scene (does w (Element.PushSnapshot snapshot) moment).moment.scene
    unfolding does
    push_works snapshot =
        fallible_keeps (Works moment.scene) w moment None (snapshot_pushed snapshot) (nothing_works moment.scene h)
        (λ _. stack_works moment.scene (moment.scene.session.snapshots ++ (record { snapshot = snapshot; level = length moment.scene.session.levels } ∷ [])) h
        (push_stacked moment.scene.session.levels snapshot moment.scene.session.snapshots working h.snapshots))

    pub free_works : (name : Text) → Works moment.scene (does w (Element.FreeChunk name) moment).moment.scene
    unfolding does
    free_works name =
        (beside_by moment.scene _ refl refl (kept_step moment.scene h working (freed name moment.scene.session.contexts) (keeps_freed moment.scene.session.contexts moment.scene.session.next_context name h.contexts))).works

    pub put_works : (name : Text) (from : ℕ) (bytes : List ℕ) → Works moment.scene (does w (Element.Put name from bytes) moment).moment.scene
    unfolding does
    put_works name from bytes =
        (beside_by moment.scene _ refl refl (kept_step moment.scene h working (written name from bytes moment.scene.session.contexts)
        (keeps_written moment.scene.session.contexts moment.scene.session.next_context name from bytes h.contexts))).works

    pub realloc_works : (name : Text) (bytes : ℕ) → Works moment.scene (does w (Element.Realloc name bytes) moment).moment.scene
    unfolding does
    realloc_works name bytes =
        fallible_keeps (Works moment.scene) w moment _ (chunk_resized name bytes) (nothing_works moment.scene h)
        (λ _. (beside_by moment.scene _ refl refl (kept_step moment.scene h working (resized (held moment.scene.session) moment.scene.around.space name bytes moment.scene.session.contexts)
        (keeps_resized moment.scene.session.contexts moment.scene.session.next_context (held moment.scene.session) moment.scene.around.space name bytes h.contexts))).works)

    pub alloc_beside : (role : MemoryRole) (name : Option Text) (bytes : ℕ) (zeroed : Bool) → Beside moment.scene (does w (Element.Alloc role name bytes zeroed) moment).moment.scene
    unfolding does
    alloc_beside role name bytes zeroed =
        fallible_keeps (Beside moment.scene) w moment _ (λ scene. where_there (memory_in role scene.session) (memory_taken name bytes zeroed) scene) (nothing_beside moment.scene h) (λ _. memory (memory_in role moment.scene.session))
      where
        memory : (o : Option ℕ) → Beside moment.scene (where_there o (memory_taken name bytes zeroed) moment.scene).scene
        memory None = nothing_beside moment.scene h
        memory (Some n) = beside_by moment.scene _ refl refl (kept_step moment.scene h working _ (keeps_allocated moment.scene.session.contexts moment.scene.session.next_context n (left moment.scene) name bytes (if zeroed then zeros bytes else []) h.contexts))
