-- A level that aborts names nothing outside it.
use Rattle.session_laws.proofs.Words.{◌≡◌, ℕ, ◌-◌, ◌≤◌, Bool, true, false, if◌then◌else◌, List, [], ◌∷◌, ◌++◌, map, length, reverse, Option, Some, None, refl, sym, ap, ◌∙◌, subst, inl, arith, append-nil, ◌+◌, ◌==◌, ◌&&◌, All, filter, option_to_list, ◌⊎◌, is_none, unwrap_or, option_map_or, and_from, eqb-true, both_ways, eq-eqb, or_left, All-head, All-tail, Empty, Node, Once, at, children, has, moved, subtree, Forest, removed, order, order_at, Moves, nat_tests}
use Rattle.session_laws.proofs.Scenes.{What, Context, Contexts, gone_events, LevelState, OpenPortal, StandingPlan, top_context, level_above, abort_context, context_of, deepest_changed, first_of, level_context, level_owner, owner_of, Scene, has_failed, Ended, children_gone, context_gone, for_each, in_order, portal_becomes, where_so, where_there, changes, portal_gone, switched, owner_moved, owner_released, owner_gone, portal_aborted, portal_failed, portal_withdrawn, stack_popped, aborted, cleaned_up, level_context_gone, level_owner_gone, level_popped, level_released, switched_up, IsAttached, IsPlan, IsPortal, active_depth, Stands, Ending, gone_levels, is_deep, Active}
use Rattle.session_laws.proofs.Rules.{is_one_of, seen_after, allows_all, aborted_leads, all_aborted, off_begins, owner_when_active, resettled, settled, switched_off, Keeps, last, next, by_each, by_order, by_there, level_context_goes, level_releases, portal_aborts, portal_cleans, Begun, Leaving, level_begun, staying, Awaited, ItsOwner, Neither, ends_behind, Node as Replayed, contexts_behind, is_there, placed_where, protected_has, Leads, with_parts}
use Rattle.session_laws.proofs.Lives.{IsRead, Reads, read_both, read_none, then_read}
use Rattle.session_laws.proofs.Parents.{FitsContexts, FitsTree, fits_moved, Growth, growing_contexts}
use Rattle.session_laws.proofs.ParentsLife.{HasContexts, KeepsContexts, contexts_end_leaves}
use Rattle.session_laws.proofs.InsidePhases.{Confined, GoInside, below_inside, confined, confined_sees, gone_confined, is_confined, node_inside, owner_confined, root_within, roots_of, AreBare, InRelease, IsBare, owner_read, InEnd, IsOver, Stayed, confined_stays, all_in, next_in, next_over, none_left, owners_confined}
use Rattle.session_laws.proofs.InsideWalk.{AreKnown, AreSeen, Lessens, Sees, nothing_ends, number_of, by_discarded, by_moved, by_switch, inside_acts, inside_phase, inside_stack}
use Rattle.session_laws.proofs.InsideHooks.{AreQuiet, no_hooks, quiet_emptied, quiet_removed}
use Rattle.pgs_step.specs.declared.events.What.TheVariants as what
use Rattle.portal_store.specs.declared.portal.PortalState.TheVariants as portal

-- the replayed contexts are those of the session behind what keeps them
same_nodes : (events : List What) (leaving : Leaving) (growth : Growth) → growth.nodes ≡ leaving.parents.contexts → (seen_after growing_contexts growth events).nodes ≡ (seen_after staying leaving events).parents.contexts
same_nodes [] leaving growth e = e
same_nodes (event ∷ events) leaving growth e = same_nodes events (staying.next event leaving) (growing_contexts.next event growth) (ap (contexts_behind event) e)

pub contexts_fit : (s t : Scene) (events : List What) (leaving : Leaving) → KeepsContexts s t events → FitsContexts leaving.parents.contexts s → FitsContexts (seen_after staying leaving events).parents.contexts t
contexts_fit s t events leaving law fits =
    let growth : Growth = record { nodes = leaving.parents.contexts; next = s.session.next_context } in
    let read : IsRead growing_contexts HasContexts growth t events = law.so growth (record { fits = fits; next = refl }) in
    subst (λ (nodes : List Replayed). FitsContexts nodes t) (same_nodes events leaving growth refl) read.fits.fits

pub contexts_confined : (entry : Begun) (s t : Scene) (events : List What) (leaving : Leaving) → KeepsContexts s t events → FitsContexts leaving.parents.contexts s → FitsContexts (seen_after (confined entry) leaving events).parents.contexts t
contexts_confined entry s t events leaving law fits =
    subst (λ (l : Leaving). FitsContexts l.parents.contexts t) (sym (confined_sees entry leaving events)) (contexts_fit s t events leaving law fits)

-- what is seen while the portals of a level end with it
pub record InPortals (leaving : Leaving) (s : Scene) : Type 0 where
  pub contexts : FitsContexts leaving.parents.contexts s
  pub owners : FitsTree leaving.parents.owners s.session.owners
  pub plans : AreKnown s.session.plans leaving.plans
  pub quiet : AreQuiet None s.session.contexts

-- the contexts of portals of the level of this number may be touched in its end
abbrev pub AreIn : ℕ → Begun → List OpenPortal → Type 0
AreIn n entry [] = Unit {0}
AreIn n entry (p ∷ ps) = ((c : ℕ) → p.created ≡ n → p.context ≡ Some c → is_one_of c (roots_of entry) ≡ true) × AreIn n entry ps

pub seen_in : (n : ℕ) (begun : List Begun) → 1 ≤ n → (ps : List OpenPortal) → AreSeen ps begun → AreIn n (level_begun n begun) ps
seen_in n begun low [] h = tt
seen_in n begun low (p ∷ ps) h = grind (arith, nat_tests, seen_in n begun low ps h.1)

module _ (entry : Begun) where
  -- a context goes with all below it, or all below it does
  pub gone_read : (n : ℕ) → is_one_of n (roots_of entry) ≡ true → (s : Scene) → Reads (confined entry) InPortals s (context_gone n s).scene (context_gone n s).events
  gone_read n one s = record {
    so = λ leaving k.
        let t : Contexts = s.session.contexts in
        let c : Confined entry n leaving [] (gone_events (subtree n t)) = gone_confined entry n one (subtree n t) leaving [] (inside (at n t) leaving k) in
        record {
          allowed = c.allowed;
          fits = record {
            contexts = contexts_confined entry s (context_gone n s).scene (context_gone n s).events leaving ((contexts_end_leaves.levels.leaves.acts.gone n).so s) k.contexts;
            owners = subst (λ (nodes : List Replayed). FitsTree nodes s.session.owners) (sym c.owners) k.owners;
            plans = subst (AreKnown s.session.plans) (sym c.plans) k.plans;
            quiet = quiet_removed None n t k.quiet;
          };
        };
  }
    where
      inside : (o : Option Context) (leaving : Leaving) → InPortals leaving s → GoInside n leaving.parents.contexts (order (option_map_or (λ a. Node n a (children n s.session.contexts) Empty) o Empty) ++ [])
      inside o leaving k = grind (arith, nat_tests, append-nil, node_inside)

  pub children_read : (n : ℕ) → is_one_of n (roots_of entry) ≡ true → (s : Scene) → Reads (confined entry) InPortals s (children_gone n s).scene (children_gone n s).events
  children_read n one s = record {
    so = λ leaving k.
        let t : Contexts = s.session.contexts in
        let c : Confined entry n leaving [] (gone_events (children n t)) =
        gone_confined entry n one (children n t) leaving []
        (subst (GoInside n leaving.parents.contexts) (sym (append-nil (order (children n t)))) (below_inside n leaving.parents.contexts t k.contexts.tree)) in
        record {
          allowed = c.allowed;
          fits = record {
            contexts = contexts_confined entry s (children_gone n s).scene (children_gone n s).events leaving ((contexts_end_leaves.levels.leaves.acts.children n).so s) k.contexts;
            owners = subst (λ (nodes : List Replayed). FitsTree nodes s.session.owners) (sym c.owners) k.owners;
            plans = subst (AreKnown s.session.plans) (sym c.plans) k.plans;
            quiet = quiet_emptied None n t k.quiet;
          };
        };
  }

  -- what changes portals alone
  pub portals_read : (ps : List OpenPortal) (s : Scene) → Reads (confined entry) InPortals s (record s { session = record s.session { portals = ps } }) []
  portals_read ps s = grind (arith, nat_tests)

  -- an owner moves to that of the level
  moved_read : (o lo : ℕ) (s : Scene) → Moves o lo s.session.owners → entry.owner ≡ Some lo → Reads (confined entry) InPortals s (owner_moved o lo s).scene (owner_moved o lo s).events
  moved_read o lo s w is = record {
    so = λ leaving k.
        let nodes : List Replayed = leaving.parents.owners in
        let there : (is_there o nodes && is_there lo nodes) ≡ true = and_from (is_there o nodes) (is_there lo nodes) (k.owners.there o ∙ w.node) (k.owners.there lo ∙ w.parent) in
        record {
          allowed = grind (arith, nat_tests, and_from, is_confined, owner_confined, root_within);
          fits = record {
            contexts = record { tree = k.contexts.tree; below = k.contexts.below };
            owners = subst (λ (b : Bool). FitsTree (placed_where b o (Some lo) nodes) (moved o lo s.session.owners)) (sym there) (fits_moved o lo nodes s.session.owners k.owners w);
            plans = k.plans;
            quiet = k.quiet;
          };
        };
  }

  -- a portal of the level fails
  failed_read : (p : OpenPortal) (s : Scene) → ((c : ℕ) → p.context ≡ Some c → is_one_of c (roots_of entry) ≡ true) → Reads (confined entry) InPortals s (portal_failed p s).scene (portal_failed p s).events
  failed_read p s inside = go p.context inside
    where
      becomes : Scene → Ended
      becomes = portal_becomes p.name (λ old. record old { state = portal.Failed; owner = None; expr = None })

      go : (o : Option ℕ) → ((c : ℕ) → o ≡ Some c → is_one_of c (roots_of entry) ≡ true)
          → Reads (confined entry) InPortals s (in_order (becomes ∷ where_there o children_gone ∷ []) s).scene (in_order (becomes ∷ where_there o children_gone ∷ []) s).events
      go None inside = portals_read _ s
      go (Some c) inside = read_both (confined entry) InPortals (portals_read _ s) (read_both (confined entry) InPortals (children_read c (inside c refl) (becomes s).scene) (read_none (confined entry) InPortals _))

module _ (level : LevelState) (levels : List LevelState) (made : active_depth (level ∷ levels) ≡ length (level ∷ levels) → (lo : ℕ) × (level.owner ≡ Some lo)) (entry : Begun) (own : entry.owner ≡ level.owner) where
  abbrev height : ℕ
  height = length (level ∷ levels)

  -- one from further out belongs to the level above
  moves : (p : OpenPortal) (front back : List OpenPortal) (s : Scene) (o lo : ℕ) → Ending level levels (gone_levels level levels) front (p ∷ back) s → p.owner ≡ Some o → level.owner ≡ Some lo → Moves o lo s.session.owners
  moves p front back s o lo h is_o is_lo =
      let i : IsPortal p (level ∷ levels) s.session.contexts s.session.owners s.session.current =
      All-head (λ q. IsPortal q (level ∷ levels) s.session.contexts s.session.owners s.session.current) p back h.rest in
      let a : IsAttached o p.created (level ∷ levels) s.session.owners = i.owner o is_o in
      record { node = a.there; parent = (h.all.0.owner lo is_lo).there; other = λ z. a.other (inl (is_lo ∙ ap Some z)); apart = ap (has lo) a.lone }

  withdrawn_read : (p : OpenPortal) (front back : List OpenPortal) (s : Scene) → Ending level levels (gone_levels level levels) front (p ∷ back) s
      → Reads (confined entry) InPortals s (portal_withdrawn height level.owner p s).scene (portal_withdrawn height level.owner p s).events
  withdrawn_read p front back s h = by_state (has_failed p.state)
    where
      becomes : Scene → Ended
      becomes = portal_becomes p.name (λ old. record old { active = height - 1; owner = if has_failed old.state then None else old.owner })

      after : (act : Scene → Ended) → Reads (confined entry) InPortals s (act s).scene (act s).events → Reads (confined entry) InPortals s (in_order (act ∷ becomes ∷ []) s).scene (in_order (act ∷ becomes ∷ []) s).events
      after act k = read_both (confined entry) InPortals k (read_both (confined entry) InPortals (portals_read entry _ (act s).scene) (read_none (confined entry) InPortals _))

      by_level : (o : ℕ) → p.owner ≡ Some o → (lo : Option ℕ) → level.owner ≡ lo → Reads (confined entry) InPortals s (where_there lo (owner_moved o) s).scene (where_there lo (owner_moved o) s).events
      by_level o e None is = read_none (confined entry) InPortals s
      by_level o e (Some lo) is = moved_read entry o lo s (moves p front back s o lo h e is) (own ∙ is)

      by_owner : (o : Option ℕ) → p.owner ≡ o → Reads (confined entry) InPortals s (where_there o (λ owner. where_there level.owner (owner_moved owner)) s).scene (where_there o (λ owner. where_there level.owner (owner_moved owner)) s).events
      by_owner o e = grind (arith, nat_tests, read_none, confined, by_level)

      by_state : (b : Bool) → Reads (confined entry) InPortals s (in_order (where_so b (where_there p.owner (λ owner. where_there level.owner (owner_moved owner))) ∷ becomes ∷ []) s).scene
          (in_order (where_so b (where_there p.owner (λ owner. where_there level.owner (owner_moved owner))) ∷ becomes ∷ []) s).events
      by_state b = grind (arith, nat_tests, after, by_owner, read_none, confined)

  portal_read : (p : OpenPortal) (front back : List OpenPortal) (s : Scene) → Ending level levels (gone_levels level levels) front (p ∷ back) s
      → ((c : ℕ) → p.created ≡ height → p.context ≡ Some c → is_one_of c (roots_of entry) ≡ true) → Reads (confined entry) InPortals s (portal_aborted height level.owner p s).scene (portal_aborted height level.owner p s).events
  portal_read p front back s h inside = by_created (p.created == height) refl
    where
      by_active : (b : Bool) → Reads (confined entry) InPortals s (where_so b (portal_withdrawn height level.owner p) s).scene (where_so b (portal_withdrawn height level.owner p) s).events
      by_active true = withdrawn_read p front back s h
      by_active false = read_none (confined entry) InPortals s

      by_created : (b : Bool) → (p.created == height) ≡ b
          → Reads (confined entry) InPortals s (elim b as (λ _. Ended) [ true ↦ portal_failed p s | false ↦ where_so (p.active == height) (portal_withdrawn height level.owner p) s ]).scene
          (elim b as (λ _. Ended) [ true ↦ portal_failed p s | false ↦ where_so (p.active == height) (portal_withdrawn height level.owner p) s ]).events
      by_created b e = grind (arith, nat_tests, failed_read, inside, eqb-true, by_active)

  pub all_read : (ps front : List OpenPortal) (s : Scene) → Ending level levels (gone_levels level levels) front ps s → AreIn height entry ps
      → Reads (confined entry) InPortals s (for_each (portal_aborted height level.owner) ps s).scene (for_each (portal_aborted height level.owner) ps s).events
  all_read [] front s h inside = read_none (confined entry) InPortals s
  all_read (p ∷ ps) front s h inside =
      let act : OpenPortal → Scene → Ended = portal_aborted height level.owner in
      let first : Leads level levels (gone_levels level levels) ps s (act p s).scene = aborted_leads level levels made p front ps s h in
      let next : Scene = with_parts first.goes.parts s in
      let rest : Reads (confined entry) InPortals next (for_each act ps next).scene (for_each act ps next).events = all_read ps first.front next first.goes.ending inside.1 in
      read_both (confined entry) InPortals (portal_read p front ps s h inside.0)
      (subst (λ (z : Scene). Reads (confined entry) InPortals z (for_each act ps z).scene (for_each act ps z).events) (sym first.goes.is) rest)

-- the contexts of plans are bare where the session stands
bare_is : (plan : StandingPlan) (s : Scene) → Once s.session.contexts → AreQuiet None s.session.contexts → IsPlan plan s.session.contexts s.session.current → IsBare plan.context s.session.contexts
bare_is plan s o q i = record { lone = i.lone; free = λ c is. no_hooks plan.context c s.session.contexts o q is i.protected i.parent }

pub bare_of : (plans : List StandingPlan) (known : List ℕ) (s : Scene) → Once s.session.contexts → AreQuiet None s.session.contexts → All (λ plan. IsPlan plan s.session.contexts s.session.current) plans → AreKnown plans known
    → AreBare plans s.session.contexts known
bare_of [] known s o q each h = tt
bare_of (plan ∷ plans) known s o q each h =
    let P : StandingPlan → Type 0 = λ plan. IsPlan plan s.session.contexts s.session.current in
    (h.0, bare_is plan s o q (All-head P plan plans each), bare_of plans known s o q (All-tail P plan plans each) h.1)

-- what is seen of owners behind a release
pub record HasOwnersSeen (leaving : Leaving) (s : Scene) : Type 0 where
  pub tree : FitsTree leaving.parents.owners s.session.owners

module _ (entry : Begun) where
  pub release_read : (top : Bool) (o : Option ℕ) (s : Scene) (leaving : Leaving) → entry.owner ≡ o → InPortals leaving s → All (λ plan. IsPlan plan s.session.contexts s.session.current) s.session.plans
      → IsRead (confined entry) HasOwnersSeen leaving (where_there o (owner_released false top) s).scene (where_there o (owner_released false top) s).events
  release_read top None s leaving own k each = record { allowed = refl; fits = record { tree = k.owners } }
  release_read top (Some root) s leaving own k each =
      let nodes : List Replayed = leaving.parents.owners in
      let start : InRelease root nodes leaving s = grind (arith, nat_tests, bare_of) in
      let read : IsRead (confined entry) (InRelease root nodes) leaving (owner_released false top root s).scene (owner_released false top root s).events =
      (owner_read entry root own nodes top s (root_within root nodes)).so leaving start in
      record { allowed = read.allowed; fits = record { tree = subst (λ (x : List Replayed). FitsTree x (owner_released false top root s).scene.session.owners) (sym read.fits.owners) read.fits.tree } }

  -- snapshots that are popped
  popped_read : (entries : List Active) (leaving : Leaving) (s t : Scene) → t.session.owners ≡ s.session.owners → HasOwnersSeen leaving s → IsRead (confined entry) HasOwnersSeen leaving t (map (λ (x : Active). what.Pop x.snapshot) entries)
  popped_read [] leaving s t same k = record { allowed = refl; fits = record { tree = subst (FitsTree leaving.parents.owners) (sym same) k.tree } }
  popped_read (x ∷ entries) leaving s t same k =
      let more : IsRead (confined entry) HasOwnersSeen (staying.next (what.Pop x.snapshot) leaving) t (map (λ (x : Active). what.Pop x.snapshot) entries) =
      popped_read entries (staying.next (what.Pop x.snapshot) leaving) s t same (record { tree = k.tree }) in
      record { allowed = more.allowed; fits = record { tree = more.fits.tree } }

  pub stack_read : (n : ℕ) (leaving : Leaving) (s : Scene) → HasOwnersSeen leaving s → IsRead (confined entry) HasOwnersSeen leaving (stack_popped n s).scene (stack_popped n s).events
  stack_read n leaving s k = popped_read (filter (is_deep n) (reverse s.session.snapshots)) leaving s (stack_popped n s).scene refl k

-- The end of a level, from its abort to its cleanup, is read, and names nothing outside the level.

-- what the parts of an end leave of levels, portals and plans
pub switches_up : Keeps Lessens switched_up
switches_up = record { so = λ s. (by_switch (unwrap_or (context_of (level_above s.session)) top_context)).so s }

pub level_owner_goes : Keeps Lessens level_owner_gone
level_owner_goes = record { so = λ s. (by_there Lessens inside_acts (level_owner s.session) owner_gone by_discarded).so s }

-- the parts of an abort behind its word, but for the last
abbrev abort_parts : ℕ → Option ℕ → List OpenPortal → List (Scene → Ended)
abort_parts n own ps = switched abort_context ∷ for_each (portal_aborted n own) ps ∷ level_released false (n == 1) ∷ stack_popped n ∷ []

abort_lessens : (n : ℕ) (own : Option ℕ) (ps : List OpenPortal) → Keeps Lessens (in_order (abort_parts n own ps))
abort_lessens n own ps = by_order Lessens inside_acts (next (by_switch abort_context) (next (by_each Lessens inside_acts (portal_aborted n own) (portal_aborts Lessens inside_acts by_moved n own) ps) (next (level_releases Lessens inside_acts inside_phase false (n == 1)) (next (inside_stack.stack_gone n) last))))

-- a level that is in its end
pub record Halted (leaving : Leaving) (t : Scene) : Type 0 where
  pub level : LevelState
  pub levels : List LevelState
  pub are : t.session.levels ≡ level ∷ levels
  pub aborted : level.aborted ≡ true
  pub sees : Sees leaving t
  pub awaited : leaving.awaited ≡ Neither
  pub ends : InEnd (level_begun (length levels + 1) leaving.begun) leaving.ends
  pub over : IsOver (level_begun (length levels + 1) leaving.begun) leaving

-- what is awaited where no level is just being pushed
abbrev pub IsSoon : Awaited → Type 0
IsSoon awaited = (awaited ≡ ItsOwner) ⊎ (awaited ≡ Neither)

-- the deepest level aborts
pub record AbortRead (leaving : Leaving) (s : Scene) : Type 0 where
  pub allowed : allows_all staying leaving (aborted s).events ≡ true
  pub halted : Halted (seen_after staying leaving (aborted s).events) (aborted s).scene
  pub owners : FitsTree (seen_after staying leaving (aborted s).events).parents.owners (aborted s).scene.session.owners

-- what is known of a scene before a level ends
pub record MayEnd (leaving : Leaving) (s : Scene) : Type 0 where
  pub contexts : FitsContexts leaving.parents.contexts s
  pub owners : FitsTree leaving.parents.owners s.session.owners
  pub quiet : AreQuiet None s.session.contexts
  pub sees : Sees leaving s

-- A level that is aborted is cleaned up.
abbrev sweep : ℕ → OpenPortal → Scene → Ended
sweep n p = where_so (p.created == n) (in_order (where_there p.context context_gone ∷ portal_gone p.name ∷ []))

sweeps : (n : ℕ) (p : OpenPortal) → Keeps Lessens (sweep n p)
sweeps n p = portal_cleans Lessens inside_acts n p

-- what is seen of contexts alone
record HasContextsSeen (leaving : Leaving) (s : Scene) : Type 0 where
  contexts : FitsContexts leaving.parents.contexts s

module _ (entry : Begun) where
  sweep_read : (n : ℕ) (p : OpenPortal) (s : Scene) → ((c : ℕ) → p.created ≡ n → p.context ≡ Some c → is_one_of c (roots_of entry) ≡ true) → Reads (confined entry) InPortals s (sweep n p s).scene (sweep n p s).events
  sweep_read n p s inside = go (p.created == n) refl
    where
      by_context : (o : Option ℕ) → ((c : ℕ) → o ≡ Some c → is_one_of c (roots_of entry) ≡ true)
          → Reads (confined entry) InPortals s (in_order (where_there o context_gone ∷ portal_gone p.name ∷ []) s).scene (in_order (where_there o context_gone ∷ portal_gone p.name ∷ []) s).events
      by_context None f = portals_read entry _ s
      by_context (Some c) f = read_both (confined entry) InPortals (gone_read entry c (f c refl) s) (read_both (confined entry) InPortals (portals_read entry _ (context_gone c s).scene) (read_none (confined entry) InPortals _))

      go : (b : Bool) → (p.created == n) ≡ b
          → Reads (confined entry) InPortals s (where_so b (in_order (where_there p.context context_gone ∷ portal_gone p.name ∷ [])) s).scene (where_so b (in_order (where_there p.context context_gone ∷ portal_gone p.name ∷ [])) s).events
      go b e = grind (arith, nat_tests, by_context, inside, eqb-true, read_none, confined)

  sweeps_read : (n : ℕ) (ps : List OpenPortal) (s : Scene) → AreIn n entry ps → Reads (confined entry) InPortals s (for_each (sweep n) ps s).scene (for_each (sweep n) ps s).events
  sweeps_read n [] s inside = read_none (confined entry) InPortals s
  sweeps_read n (p ∷ ps) s inside = read_both (confined entry) InPortals (sweep_read n p s inside.0) (sweeps_read n ps (sweep n p s).scene inside.1)

  -- the owner of the level goes
  owner_gone_read : (o : Option ℕ) (leaving : Leaving) (s : Scene) → entry.owner ≡ o → InPortals leaving s → IsRead (confined entry) HasContextsSeen leaving (where_there o owner_gone s).scene (where_there o owner_gone s).events
  owner_gone_read None leaving s own k = record { allowed = refl; fits = record { contexts = k.contexts } }
  owner_gone_read (Some root) leaving s own k = record {
    allowed = owners_confined entry root (order_at root s.session.owners) leaving own (node_inside root leaving.parents.owners s.session.owners k.owners);
    fits = record { contexts = contexts_confined entry s (owner_gone root s).scene (owner_gone root s).events leaving ((contexts_end_leaves.discarded root).so s) k.contexts };
  }

  -- its context goes
  context_gone_read : (o : Option ℕ) (leaving : Leaving) (s : Scene) → entry.context ≡ o → HasContextsSeen leaving s
      → IsRead (confined entry) HasContextsSeen leaving (where_there o context_gone s).scene (where_there o context_gone s).events
  context_gone_read None leaving s own k = record { allowed = refl; fits = k }
  context_gone_read (Some c) leaving s own k =
      let one : is_one_of c (roots_of entry) ≡ true = subst (λ (o : Option ℕ). is_one_of c (option_to_list o ++ entry.portals) ≡ true) (sym own) (or_left (c == c) (is_one_of c entry.portals) (eq-eqb c c refl)) in
      let said : Confined entry c leaving [] (gone_events (subtree c s.session.contexts)) = gone_confined entry c one (subtree c s.session.contexts) leaving [] (inside (at c s.session.contexts)) in
      record {
        allowed = said.allowed;
        fits = record { contexts = contexts_confined entry s (context_gone c s).scene (context_gone c s).events leaving ((contexts_end_leaves.levels.leaves.acts.gone c).so s) k.contexts };
      }
    where
      inside : (o : Option Context) → GoInside c leaving.parents.contexts (order (option_map_or (λ a. Node c a (children c s.session.contexts) Empty) o Empty) ++ [])
      inside None = tt
      inside (Some a) = subst (GoInside c leaving.parents.contexts) (sym (append-nil (order_at c s.session.contexts))) (node_inside c leaving.parents.contexts s.session.contexts k.contexts.tree)

gone_away : {A : Type 0} (n : ℕ) (t : Forest A) → has n (removed n t) ≡ false
gone_away n Empty = refl
gone_away n (Node k a below beside) = grind (arith, nat_tests, gone_away n beside, gone_away n below)

pub record CleanRead (leaving : Leaving) (s : Scene) : Type 0 where
  pub allowed : allows_all staying leaving (cleaned_up s).events ≡ true
  pub sees : Sees (seen_after staying leaving (cleaned_up s).events) (cleaned_up s).scene
  pub awaited : (seen_after staying leaving (cleaned_up s).events).awaited ≡ Neither
  pub ends : (seen_after staying leaving (cleaned_up s).events).ends ≡ []

module _ (level : LevelState) (levels : List LevelState) (s : Scene) (leaving : Leaving) (k : MayEnd leaving (settled (level ∷ levels) s)) where
  abbrev s0 : Scene
  s0 = settled (level ∷ levels) s

  abbrev n : ℕ
  n = length (level ∷ levels)

  abbrev entry : Begun
  entry = level_begun n leaving.begun

  same_n : length levels + 1 ≡ n
  same_n = omega arith

  own_context : entry.context ≡ level.context
  own_context = ap (λ (m : ℕ). (level_begun m leaving.begun).context) (sym same_n) ∙ k.sees.begun.0.context

  own_owner : entry.owner ≡ level.owner
  own_owner = ap (λ (m : ℕ). (level_begun m leaving.begun).owner) (sym same_n) ∙ k.sees.begun.0.owner

  -- it aborts
  module _ (h : Stands (settled (level ∷ levels) s)) where
    abbrev later : Leaving
    later = staying.next (what.AbortLevel n) leaving

    abbrev z0 : Scene
    z0 = settled (level ∷ levels) (switched_off s)

    abbrev z1 : Scene
    z1 = (for_each (portal_aborted n level.owner) s.session.portals z0).scene

    made : active_depth (level ∷ levels) ≡ n → (lo : ℕ) × (level.owner ≡ Some lo)
    made e = owner_when_active level levels h.fit.0.made (omega (arith, e))

    begins : Ending level levels (gone_levels level levels) [] s.session.portals z0
    begins = resettled level levels (gone_levels level levels) [] s.session.portals (switched_off s) (off_begins level levels (gone_levels level levels) s h)

    start : InPortals later z0
    start = grind (arith, nat_tests)

    portals_part : IsRead (confined entry) InPortals later z1 (for_each (portal_aborted n level.owner) s.session.portals z0).events
    portals_part = (all_read level levels made entry own_owner s.session.portals [] z0 begins (seen_in n leaving.begun (omega arith) s.session.portals k.sees.portals)).so later start

    plans_there : All (λ plan. IsPlan plan z1.session.contexts z1.session.current) z1.session.plans
    plans_there =
        let loop : Leads level levels (gone_levels level levels) [] z0 z1 = all_aborted level levels made s.session.portals z0 begins in
        subst (λ (z : Scene). All (λ plan. IsPlan plan z.session.contexts z.session.current) z.session.plans) (sym loop.goes.is) loop.goes.ending.plans.each

    still_level : level_owner z1.session ≡ level.owner
    still_level = ap (λ (ls : List LevelState). owner_of (first_of ls)) ((by_each Lessens inside_acts (portal_aborted n level.owner) (portal_aborts Lessens inside_acts by_moved n level.owner) s.session.portals).so z0).levels

    abbrev tail : Scene → Ended
    tail = in_order (level_released false (n == 1) ∷ stack_popped n ∷ changes (λ session. record session { levels = deepest_changed (λ old. record old { aborted = true }) session.levels }) ∷ [])

    tail_part : (l : Leaving) → InPortals l z1 → IsRead (confined entry) HasOwnersSeen l (tail z1).scene (tail z1).events
    tail_part l i =
        let z2 : Scene = (level_released false (n == 1) z1).scene in
        let z3 : Scene = (stack_popped n z2).scene in
        then_read (confined entry) l z2 (tail z1).scene (level_released false (n == 1) z1).events ((stack_popped n z2).events ++ [])
        (release_read entry (n == 1) (level_owner z1.session) z1 l (own_owner ∙ sym still_level) i plans_there)
        (λ a. then_read (confined entry) _ z3 (tail z1).scene (stack_popped n z2).events [] (stack_read entry n _ z2 a) (λ b. record { allowed = refl; fits = record { tree = b.tree } }))

    rest : IsRead (confined entry) HasOwnersSeen later (tail z1).scene ((for_each (portal_aborted n level.owner) s.session.portals z0).events ++ (tail z1).events)
    rest = then_read (confined entry) later z1 (tail z1).scene (for_each (portal_aborted n level.owner) s.session.portals z0).events (tail z1).events portals_part (λ i. tail_part _ i)

    first_ends : leaving.ends ≡ [] → InEnd entry later.ends
    first_ends e = subst (λ (ends : List Begun). InEnd entry (ends_behind (what.AbortLevel n) leaving.begun ends)) (sym e) (refl, tt)

    pub aborts_read : leaving.ends ≡ [] → IsSoon leaving.awaited → AbortRead leaving s0
    aborts_read e soon =
        let read : IsRead (confined entry) HasOwnersSeen later (aborted s0).scene ((for_each (portal_aborted n level.owner) s.session.portals z0).events ++ (tail z1).events) = rest in
        let events : List What = (for_each (portal_aborted n level.owner) s.session.portals z0).events ++ (tail z1).events in
        let stayed : Stayed entry later events = confined_stays entry later events (first_ends e) read.allowed in
        let l : Lessens s0 (in_order (abort_parts n level.owner s.session.portals) s0).scene (in_order (abort_parts n level.owner s.session.portals) s0).events = (abort_lessens n level.owner s.session.portals).so s0 in
        let now : Leaving = seen_after staying later events in
        grind (arith, nat_tests, and_from, nothing_ends, protected_has, own_context, both_ways, confined_sees, same_n)

  -- it is cleaned up
  abbrev behind : Leaving
  behind = staying.next (what.CleanupLevel n) leaving

  abbrev c1 : Scene
  c1 = (for_each (sweep n) s.session.portals s0).scene

  abbrev c2 : Scene
  c2 = (level_owner_gone c1).scene

  abbrev c3 : Scene
  c3 = (switched_up c2).scene

  abbrev sweeping : List (Scene → Ended)
  sweeping = for_each (sweep n) s.session.portals ∷ level_owner_gone ∷ switched_up ∷ []

  swept_lessens : Lessens s0 c3 (in_order sweeping s0).events
  swept_lessens = (by_order Lessens inside_acts (next (by_each Lessens inside_acts (sweep n) (sweeps n) s.session.portals) (next level_owner_goes (next switches_up last)))).so s0

  swept_in : InPortals behind s0
  swept_in = record { contexts = k.contexts; owners = k.owners; plans = k.sees.plans; quiet = k.quiet }

  first_level : level_owner c1.session ≡ level.owner
  first_level = ap (λ (ls : List LevelState). owner_of (first_of ls)) ((by_each Lessens inside_acts (sweep n) (sweeps n) s.session.portals).so s0).levels

  third_level : level_context c3.session ≡ level.context
  third_level = ap (λ (ls : List LevelState). context_of (first_of ls)) swept_lessens.levels

  abbrev c_last : Ended
  c_last = in_order (switched_up ∷ level_context_gone ∷ level_popped ∷ []) c2

  context_part : (l : Leaving) → HasContextsSeen l c2 → IsRead (confined entry) HasContextsSeen l c_last.scene c_last.events
  context_part l i =
      then_read (confined entry) l (level_context_gone c3).scene c_last.scene (level_context_gone c3).events []
      (context_gone_read entry (level_context c3.session) l c3 (own_context ∙ sym third_level) (record { contexts = record { tree = i.contexts.tree; below = i.contexts.below } }))
      (λ a. record { allowed = refl; fits = record { contexts = record { tree = a.contexts.tree; below = a.contexts.below } } })

  abbrev all_events : List What
  all_events = (for_each (sweep n) s.session.portals s0).events ++ ((level_owner_gone c1).events ++ c_last.events)

  whole : IsRead (confined entry) HasContextsSeen behind c_last.scene all_events
  whole =
      then_read (confined entry) behind c1 c_last.scene (for_each (sweep n) s.session.portals s0).events ((level_owner_gone c1).events ++ c_last.events)
      ((sweeps_read entry n s.session.portals s0 (seen_in n leaving.begun (omega arith) s.session.portals k.sees.portals)).so behind swept_in)
      (λ i. then_read (confined entry) _ c2 c_last.scene (level_owner_gone c1).events c_last.events (owner_gone_read entry (level_owner c1.session) _ c1 (own_owner ∙ sym first_level) i) (λ j. context_part _ j))

  -- in the end the level isn't in its end any more
  none_named : level.context ≡ None → InEnd entry leaving.ends → behind.ends ≡ []
  none_named none i = grind (arith, nat_tests, none_left, and_from, is_none, eq-eqb, number_of, own_context)

  still_in : InEnd entry leaving.ends → InEnd entry behind.ends
  still_in i = next_in entry (what.CleanupLevel n) leaving refl i

  still_over : InEnd entry leaving.ends → IsOver entry leaving → IsOver entry behind
  still_over i o = next_over entry (what.CleanupLevel n) leaving refl i o

  left_away : (c : ℕ) → level.context ≡ Some c → has c c_last.scene.session.contexts ≡ false
  left_away c is =
      ap (λ (o : Option ℕ). has c (where_there o context_gone c3).scene.session.contexts) (third_level ∙ is) ∙ gone_away c c3.session.contexts

  closed : InEnd entry leaving.ends → IsOver entry leaving → (stayed : Stayed entry behind all_events) → (o : Option ℕ) → level.context ≡ o → (seen_after staying behind all_events).ends ≡ []
  closed i o stayed None is = stayed.closed (none_named is i)
  closed i o stayed (Some c) is =
      let tree : FitsContexts (seen_after staying behind all_events).parents.contexts c_last.scene = grind (arith, nat_tests, confined_sees, whole) in
      stayed.over (still_over i o) c (own_context ∙ is) (tree.tree.there c ∙ left_away c is)

  pub cleans_read : InEnd entry leaving.ends → IsOver entry leaving → leaving.awaited ≡ Neither → CleanRead leaving s0
  cleans_read i o aw =
      let stayed : Stayed entry behind all_events = confined_stays entry behind all_events (still_in i) whole.allowed in
      let now : Leaving = seen_after staying behind all_events in
      let l : Lessens s0 (level_context_gone c3).scene (in_order (sweeping ++ (level_context_gone ∷ [])) s0).events =
      (by_order Lessens inside_acts (next (by_each Lessens inside_acts (sweep n) (sweeps n) s.session.portals) (next level_owner_goes (next switches_up (next (level_context_goes Lessens inside_acts) last))))).so s0 in
      grind (arith, nat_tests, and_from, closed, all_in)
