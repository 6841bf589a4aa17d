-- A portal ends within its transaction: what each part asks for.
use Rattle.session_ends.proofs.Base.{nat_tests, ◌≡◌, ℕ, ◌+◌, ◌≤◌, Bool, true, false, Option, Some, None, List, [], ◌∷◌, ◌++◌, length, IfSome, refl, sym, ap, ◌∙◌, subst, arith, inl, inr, ◌==◌, if◌then◌else◌, option_map, cases_Bool, eqb-false, false_from_ne_true, bytes_decides}
use Rattle.session_ends.proofs.Words.{Space, parent_of, mapped-has, CtxId, OwnerId, What, ShelfState, is_within, HooksFit, IsLive, has_begun, Portal, has_name, portal_named, owners_of, CommonState, LevelState, OpenPortal, Scene, in_order, nothing, where_so, where_there, executor_ended, is_ready, portal_ended, portal_owner_ended, at_portal, owner_gone, owner_released, AreContexts, AreDifferent, AreHooks, FitLevels, IsAttached, IsPlace, IsPortal, IsWorking, Stands, owner_at, protected_has, is_there, place_spared, executor_beside, Named, named_in, split_portals, this_live, this_portal, Beside, nothing_beside, HasSettled, besides_of, release_settles, depth_small, not_released, StoreState, contexts_in, levels_of, portal_state, portals_of, scene_of, session_of, Lies, PortalLies, Acted, if_some, has_kept, nowhere, acted_as, PlansMayGo, executor_at, number_in, owner_ended}
use Rattle.session_owners.specs.ResourceState as owners
use Rattle.session_rules.specs.Lookup as rules
use Rattle.session_rules.specs.Standing.{IsLive as IsLivePortal}
use Rattle.session_rules.proofs.EndsStand.{owner_made}
use Rattle.session_ends.proofs.Dealing.{place_apart}
use Rattle.session_ends.proofs.Going.{may_go}
use Rattle.session_ends.proofs.Out.{some_is}

-- the portal of a name, and its name
pub named_is : (name : List ℕ) (ps : List Portal) → option_map portal_state (portal_named name ps) ≡ rules.portal_named name (portals_of ps)
named_is name [] = refl
named_is name (p ∷ ps) = elim (cases_Bool (has_name name p)) [ inl y ↦ rw y refl | inr y ↦ rw y (named_is name ps) ]

pub named_title : (name : List ℕ) (ps : List Portal) (p : Portal) → portal_named name ps ≡ Some p → p.name ≡ name
named_title name [] p e = absurd (cc e)
named_title name (q ∷ ps) p e = elim (cases_Bool (has_name name q)) [
  | inl y ↦ let same : Some q ≡ Some p = rw y at e in let is : q ≡ p = cc same in ap (λ (r : Portal). r.name) (sym is) ∙ (bytes_decides q.name name).0 y
  | inr y ↦ named_title name ps p (rw y at e)
]

pub named_state : (name : List ℕ) (ps : List Portal) (p : Portal) → portal_named name ps ≡ Some p → rules.portal_named name (portals_of ps) ≡ Some (portal_state p)
named_state name ps p e = sym (named_is name ps) ∙ ap (option_map portal_state) e

-- the levels above an active one have their owners, and so does it
level_owner_made : (levels : List LevelState) → IsWorking levels → (t : Scene) → FitLevels levels t.session.contexts t.session.owners t.session.current → (k : ℕ) → 1 ≤ k → k ≤ length levels → (q : ℕ) × (owner_at k levels ≡ Some q)
level_owner_made [] w t fit k low high = absurd w
level_owner_made (level ∷ above) w t fit k low high = elim (cases_Bool (length above + 1 == k)) [
  | inl y ↦ let o = is_there level.owner w.made.owner in (o.0, rw y o.1)
  | inr y ↦
      let ne = eqb-false (length above + 1) k y in
      let q = owner_made above fit.1 k low (omega (arith, high, ne)) in
      (q.0, rw y q.1)
]

-- A session stands in which a command is at work, and this is one of its portals.
module _ (a : StoreState) (s : Space) (x : ShelfState) (c : CommonState) (h : Stands (scene_of a s x c nowhere)) (working : IsWorking (levels_of a.levels)) (p : Portal) (named : rules.portal_named p.name (portals_of a.portals) ≡ Some (portal_state p)) where
  pub found_named : Named p.name (portal_state p) (portals_of a.portals)
  found_named = named_in p.name (portal_state p) (portals_of a.portals) named

  found_portal : IsPortal (portal_state p) (levels_of a.levels) (contexts_in a s) (owners_of a.owners) a.tree.current.number
  unfolding session_of
  found_portal = this_portal (scene_of a s x c nowhere) h working p.name (portal_state p) found_named

  pub found_different : AreDifferent (found_named.front ++ (portal_state p ∷ found_named.back))
  unfolding session_of
  found_different = let w = split_portals (scene_of a s x c nowhere) h working p.name (portal_state p) found_named in w.different

  pub found_hooks : HooksFit (contexts_in a s) x
  unfolding session_of
  found_hooks = record { out = h.hooks.out; words = h.hooks.words }

  pub found_plans : PlansMayGo a s x
  unfolding session_of
  found_plans = may_go a s x found_hooks h.contexts.once h.plans.each h.plans.apart

  attached : (id : OwnerId) → p.owner ≡ Some id → IsAttached id.number p.created (levels_of a.levels) (owners_of a.owners)
  attached id f = let i = found_portal in i.owner id.number (ap number_in f)

  pub found_owner_live : PortalLies a.tree a.owners p → IfSome p.owner (owners.IsLive a.owners)
  found_owner_live lies = grind (arith, nat_tests, if_some, attached, some_is, lies.owner, mapped-has)

  pub found_unbegun : IfSome p.owner (λ o. has_begun o.number (owners_of a.owners) ≡ false)
  unfolding session_of
  found_unbegun = grind (arith, nat_tests, if_some, false_from_ne_true, not_released)

  pub found_below : IfSome p.owner (λ o. (q : ℕ) × (parent_of o.number (owners_of a.owners) ≡ Some q))
  unfolding session_of
  found_below =
      if_some p.owner (λ id f.
      let k = attached id f in
      let l : IsLivePortal (portal_state p) (levels_of a.levels) = this_live (scene_of a s x c nowhere) h working p.name (portal_state p) found_named in
      let q = level_owner_made (levels_of a.levels) working (scene_of a s x c nowhere) h.fit p.created l.some (omega (arith, l.within, l.active, depth_small (levels_of a.levels))) in
      (q.0, k.parent ∙ q.1))

  pub found_place : (id : CtxId) → p.context ≡ Some id → IsPlace id.number (option_map (λ (c : CtxId). c.number) p.expr) (contexts_in a s) a.tree.current.number
  found_place id f = let i = found_portal in i.place id.number (ap (option_map (λ (c : CtxId). c.number)) f)

  -- behind the end of its executor
  pub executed_stands : (b : StoreState) (t : Space) (y : ShelfState) (d : CommonState) (Said : List What → Type 0) → Acted (where_so (is_ready p.state) (executor_ended (portal_state p))) a b s t x y c d Said → Stands (scene_of b t y d nowhere)
  unfolding session_of
  executed_stands b t y d Said acted =
      let z : Scene = scene_of a s x c nowhere in
      let beside : (r : Bool) → Beside z (where_so r (executor_ended (portal_state p)) z).scene = go in
      subst Stands (acted.leads nowhere) (let w = beside (is_ready p.state) in w.works.stands)
    where
      go : (r : Bool) → Beside (scene_of a s x c nowhere) (where_so r (executor_ended (portal_state p)) (scene_of a s x c nowhere)).scene
      go true = executor_beside p.name (portal_state p) (scene_of a s x c nowhere) h working named
      go false = nothing_beside (scene_of a s x c nowhere) h

-- what an owner leaves that is released into its parent and discarded
pub record LeavesPlaces (s t : Scene) : Type 0 where
  pub contexts : AreContexts t.session.contexts t.session.next_context
  pub hooks : AreHooks t.session.contexts t.around.shelf
  pub places : (n : ℕ) (expr : Option ℕ) → IsPlace n expr s.session.contexts s.session.current → IsPlace n expr t.session.contexts t.session.current
  pub descriptors : t.around.descriptors ≡ s.around.descriptors

pub leaves_places : (s : Scene) → Stands s → (o : Option ℕ) → LeavesPlaces s (owner_ended o s).scene
leaves_places s h None = record { contexts = h.contexts; hooks = h.hooks; places = λ n expr k. k; descriptors = refl }
leaves_places s h (Some n) =
    let g : HasSettled n s (owner_released true false n s).scene = release_settles true false n s s.session.next_serial h.owners.sound (record { contexts = h.contexts; hooks = h.hooks; plans = h.plans }) in
    subst (λ (z : Scene). LeavesPlaces s (owner_gone n z).scene) (sym g.is) (record {
      contexts = g.fits.contexts;
      hooks = g.fits.hooks;
      places = λ m expr k. place_spared (besides_of s) g.besides s.session.current g.spares h.plans.each m expr s.session.current k;
      descriptors = refl;
    })

-- Behind that its context can go.
module _ (a b : StoreState) (s t : Space) (x y : ShelfState) (c d : CommonState) (Said : List What → Type 0) (o : Option OwnerId) (h : Stands (scene_of a s x c nowhere)) (acted : Acted (owner_ended (number_in o)) a b s t x y c d Said) where
  left : LeavesPlaces (scene_of a s x c nowhere) (scene_of b t y d nowhere)
  left = subst (LeavesPlaces (scene_of a s x c nowhere)) (acted.leads nowhere) (leaves_places (scene_of a s x c nowhere) h (number_in o))

  pub left_hooks : HooksFit (contexts_in b t) y
  unfolding session_of
  left_hooks = let l = left in record { out = l.hooks.out; words = l.hooks.words }

  pub left_descriptors : b.owners.descriptors ≡ a.owners.descriptors
  left_descriptors = let l = left in l.descriptors

  module _ (p : Portal) (place : (id : CtxId) → p.context ≡ Some id → IsPlace id.number (option_map (λ (c : CtxId). c.number) p.expr) (contexts_in a s) a.tree.current.number) where
    pub left_live : PortalLies b.tree b.owners p → IfSome p.context (IsLive b.tree)
    unfolding session_of
    left_live lies =
        let l = left in
        if_some p.context (λ id f.
        let k = l.places id.number (option_map (λ (c : CtxId). c.number) p.expr) (place id f) in
        some_is (Lies b.tree) p.context id lies.context f (sym (has_kept id.number b.tree t) ∙ protected_has id.number (contexts_in b t) k.protected))

    pub left_apart : IfSome p.context (λ id. is_within id.number b.tree.current.number (contexts_in b t) ≡ false)
    unfolding session_of
    left_apart =
        let l = left in
        if_some p.context (λ id f. place_apart (contexts_in b t) b.tree.next b.tree.current.number id.number (option_map (λ (c : CtxId). c.number) p.expr) l.contexts (l.places id.number (option_map (λ (c : CtxId). c.number) p.expr) (place id f)))

-- the executor and the owner of a portal that is ready
pub both_are : (p : Portal) (o : Option OwnerId) (z : Scene) → o ≡ (if is_ready p.state then p.owner else None)
    → in_order (executor_at (number_in o) p.scan ∷ owner_ended (number_in o) ∷ []) z ≡ where_so (is_ready p.state) (in_order (executor_ended (portal_state p) ∷ portal_owner_ended (portal_state p) ∷ [])) z
both_are p o z e = grind (arith, nat_tests, in_order, p.scan, p.state, p.owner)

-- at the portal of a name
pub at_some : (name : List ℕ) (p : Portal) (a b : StoreState) (s t : Space) (x y : ShelfState) (c d : CommonState) (Said : List What → Type 0) → portal_named name a.portals ≡ Some p → Acted (portal_ended (portal_state p)) a b s t x y c d Said → Acted (at_portal name portal_ended) a b s t x y c d Said
unfolding session_of
at_some name p a b s t x y c d Said e h =
    acted_as (portal_ended (portal_state p)) (at_portal name portal_ended) a b s t x y c d Said
    (λ around. ap (λ (o : Option OpenPortal). where_there o portal_ended (scene_of a s x c around)) (sym (named_state name a.portals p e))) h

pub at_none : (name : List ℕ) (a : StoreState) (s : Space) (x : ShelfState) (c : CommonState) (Said : List What → Type 0) → portal_named name a.portals ≡ None → Acted nothing a a s s x x c c Said → Acted (at_portal name portal_ended) a a s s x x c c Said
unfolding session_of
at_none name a s x c Said e h =
    acted_as nothing (at_portal name portal_ended) a a s s x x c c Said
    (λ around. ap (λ (o : Option OpenPortal). where_there o portal_ended (scene_of a s x c around)) (sym (sym (named_is name a.portals) ∙ ap (option_map portal_state) e))) h
