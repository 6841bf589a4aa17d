-- The steps by which a portal is made lead from a session that stands to one that stands, and the portal is so far made.
use Rattle.portal_commands.proofs.Base.{nat_tests, ◌≡◌, ◌≢◌, ℕ, Bool, true, false, Option, Some, None, List, [], ◌∷◌, IsSome, length, refl, sym, ap, ◌∙◌, subst, inl, arith, codes, is_some, option_and_then}
use Rattle.portal_commands.proofs.Words.{Space, has, size, table_of, KindTable, KindId, OwnerId, Mode, CtxKind, new_scan, Error, What, is_text-same, Portal, PortalState, IsReference, owners_of, LevelState, OpenPortal, SessionState, level_owner, Around, Moment, Scene, in_order, portal_becomes, where_there, Element, InPortal, OfPortal, PortalContext, RowContext, Text, does, does_all, portal_named, context_made, new_context_made, new_owner_made, portal_made, IsItem, IsWorking, Stands, NoOne, keeper_of, takes, is_there, context_portal, made_portal, named_changed, named_in, owner_portal, row_portal, Beside, owner_named, portal_allocates, portal_enlarges, portal_locks, portal_takes, below_limit, Leads, fallible_leads, leads_nowhere, leads_on, no_value_of, StoreState, levels_of, portals_of, session_of, IsOwnerOf, at_calls, IsBetweenSteps, Now, Performed, scene_in, empty_around, known_behind, stands_behind, IsMaking, IsOnItsWay}
use Rattle.portal_store.specs.Portals as list
use Rattle.portal_commands.proofs.Listed.{named_as}

-- a session that stands, with these levels, which has a portal of this name on its way
pub record Goes (name : Text) (levels : List LevelState) (has_context has_owner has_row : Bool) (s : Scene) : Type 0 where
  pub stands : Stands s
  pub are : s.session.levels ≡ levels
  pub way : IsOnItsWay name has_context has_owner has_row s.session

module _ (w : Option ℕ) (name : Text) (levels : List LevelState) (active : IsWorking levels) where
  working : (s : Scene) → s.session.levels ≡ levels → IsWorking s.session.levels
  working s are = subst IsWorking (sym are) active

  -- one element
  pub one_leads : (Q : Scene → Type 0) (x : Element) (m : Moment) → ((z : Scene) → Q z → Stands z) → Leads Q (does w x m) → Leads Q (does_all w (x ∷ []) m)
  one_leads Q x m so first = leads_on w Q Q x [] m first (λ n q. leads_nowhere w Q n (so n.scene q) q)

  pub created_leads : (object rows : ℕ) (bad : Option ℕ) (m : Moment) → Stands m.scene → m.scene.session.levels ≡ levels → portal_named name m.scene.session.portals ≡ None
      → Leads (Goes name levels false false false) (does w (Element.MakePortal name object rows bad) m)
  unfolding does
  created_leads object rows bad m stands are free =
      fallible_leads (Goes name levels false false false) w m _ (portal_made name object rows bad) stands (λ z q. q.stands)
      (λ _. record {
        stands = made_portal m.scene name object rows bad stands (working m.scene are) free;
        are = are;
        way = record {
          portal = record { name = name; context = None; expr = None; owner = None; scan = new_scan object rows bad; created = length m.scene.session.levels; active = length m.scene.session.levels; state = PortalState.New };
          named = rw (is_text-same name) refl;
          context = refl;
          owner = refl;
          row = refl;
          created = refl;
        };
      })

  pub context_leads : (o : Bool) (m : Moment) → Goes name levels false o false m.scene → Leads (Goes name levels true o false) (does w (Element.MakeContext (PortalContext name)) m)
  unfolding does
  context_leads o m k =
      fallible_leads (Goes name levels true o false) w m _ (new_context_made (PortalContext name)) k.stands (λ z q. q.stands)
      (λ _. record {
        stands = context_portal m.scene k.stands (working m.scene k.are) name k.way.portal (named_in name k.way.portal m.scene.session.portals k.way.named) (no_value_of k.way.portal.context k.way.context);
        are = k.are;
        way = record {
          portal = record k.way.portal { context = Some m.scene.session.next_context };
          named = named_changed name k.way.portal (λ p. record p { context = Some m.scene.session.next_context }) m.scene.session.portals (λ q. refl) k.way.named;
          context = refl;
          owner = k.way.owner;
          row = k.way.row;
          created = k.way.created;
        };
      })

  level_owned : (m : Moment) → m.scene.session.levels ≡ levels → (lo : ℕ) × (level_owner m.scene.session ≡ Some lo)
  level_owned m are = grind (arith, nat_tests, m.scene.session.levels, working m.scene are, m.scene, is_there)

  pub owner_leads : (m : Moment) → Goes name levels true false false m.scene → Leads (Goes name levels true true false) (does w (Element.MakeOwner (OfPortal name)) m)
  unfolding does
  owner_leads m k =
      let lo = level_owned m k.are in
      fallible_leads (Goes name levels true true false) w m _ (new_owner_made (OfPortal name)) k.stands (λ z q. q.stands)
      (λ room. record {
        stands = grind (arith, nat_tests, owner_portal m.scene k.stands (working m.scene k.are) name k.way.portal (named_in name k.way.portal m.scene.session.portals k.way.named) lo.0 lo.1 (no_value_of k.way.portal.owner k.way.owner) k.way.created (below_limit 65536 (size m.scene.session.owners) room), m.scene, k.stands, working m.scene k.are, k.are, k.way.portal, named_in name k.way.portal m.scene.session.portals k.way.named, m.scene.session.portals, k.way.named, lo.0, lo.1, no_value_of k.way.portal.owner k.way.owner, k.way.portal.owner, k.way.owner, k.way.created, below_limit 65536 (size m.scene.session.owners) room, m.scene.session.owners);
        are = k.are;
        way = record {
          portal = record k.way.portal { owner = Some m.scene.session.next_owner };
          named = named_changed name k.way.portal (λ p. record p { owner = Some m.scene.session.next_owner }) m.scene.session.portals (λ q. refl) k.way.named;
          context = k.way.context;
          owner = refl;
          row = k.way.row;
          created = k.way.created;
        };
      })

  -- an element that leaves the portals as they are
  pub beside_leads : (c o r : Bool) (x : Element) (m : Moment) → Goes name levels c o r m.scene → Beside m.scene (does w x m).moment.scene → Leads (Goes name levels c o r) (does w x m)
  beside_leads c o r x m k b = grind (arith, nat_tests, b.works.stands, b.works.levels, k.are, k.way.portal, b.portals, k.way.named, k.way.context, k.way.owner, k.way.row, k.way.created)

  pub row_leads : (o : Bool) (m : Moment) → Goes name levels true o false m.scene → Leads (Goes name levels true o true) (does w (Element.MakeContext (RowContext name)) m)
  unfolding does
  row_leads o m k =
      fallible_leads (Goes name levels true o true) w m _ (new_context_made (RowContext name)) k.stands (λ z q. q.stands) (λ _. row_made)
    where
      row_made : Goes name levels true o true (new_context_made (RowContext name) m.scene).scene
      row_made =
          let c = is_there k.way.portal.context k.way.context in
          let is : option_and_then (λ (p : OpenPortal). p.context) (portal_named name m.scene.session.portals) ≡ Some c.0 = ap (option_and_then (λ (p : OpenPortal). p.context)) k.way.named ∙ c.1 in
          subst (λ (o2 : Option ℕ).
          Goes name levels true o true (where_there o2 (λ parent. in_order (context_made parent (codes "ExprContext") true CtxKind.Small ∷ portal_becomes name (λ p. record p { expr = Some m.scene.session.next_context }) ∷ [])) m.scene).scene) (sym is)
          (record {
            stands = row_portal m.scene k.stands (working m.scene k.are) name k.way.portal (named_in name k.way.portal m.scene.session.portals k.way.named) c.0 c.1 (no_value_of k.way.portal.expr k.way.row);
            are = k.are;
            way = record {
              portal = record k.way.portal { expr = Some m.scene.session.next_context };
              named = named_changed name k.way.portal (λ p. record p { expr = Some m.scene.session.next_context }) m.scene.session.portals (λ q. refl) k.way.named;
              context = k.way.context;
              owner = k.way.owner;
              row = refl;
              created = k.way.created;
            };
          })

-- a reference is no plan's, and an item of a known kind
no_plan : (kind : KindId) → keeper_of kind ≡ NoOne → kind.0 ≢ 5
no_plan kind unkept e = grind (arith, nat_tests, kind.0)

reference_item : (kinds : KindTable) (kind : KindId) (key serial : ℕ) → IsReference kind → IsItem kinds (record { kind = kind; key = key; serial = serial })
reference_item kinds kind key serial is = record { kind = inl (record { from = omega (arith, is.from); to = omega (arith, is.to) }); buffer = λ e. absurd (omega (arith, e, is.from)) }

-- the same of a session between two steps
pub goes_in : (name : Text) (c o r : Bool) (n : Now) (around : Around) → IsMaking name c o r n → Goes name (levels_of n.store.levels) c o r (scene_in n around)
unfolding session_of
goes_in name c o r n around h = record { stands = h.between.stands around; are = refl; way = h.way }

pub making_of : (name : Text) (c o r : Bool) (n : Now) (levels : List LevelState) → IsBetweenSteps n → IsWorking levels → Goes name levels c o r (scene_in n empty_around) → IsMaking name c o r n
unfolding session_of
making_of name c o r n levels between active k = record { between = between; working = subst IsWorking (sym k.are) active; way = k.way }

module _ (name : Text) (c o r : Bool) (k : ℕ) (es : List Element) (a b : Now) (P : List What → Type 0) (e : Option Error) (done : Performed k es a b P e) where
  -- where nothing was refused, the portal has come so far
  pub making_behind : (levels : List LevelState) → IsWorking levels → IsBetweenSteps a
      → ((around : Around) (w : Option ℕ) → Leads (Goes name levels c o r) (does_all w es (at_calls (scene_in a) a.calls.count a.calls.fail around)))
      → e ≡ None → IsMaking name c o r b
  making_behind levels active between leads none = grind (arith, nat_tests, making_of name c o r b levels (stands_behind k es a b P e (Goes name levels c o r) done leads between.serves) active (known_behind k es a b P e (Goes name levels c o r) done leads none empty_around), stands_behind k es a b P e (Goes name levels c o r) done leads between.serves, between.serves, known_behind k es a b P e (Goes name levels c o r) done leads none empty_around)

  pub making_on : (c1 o1 r1 : Bool) → IsMaking name c1 o1 r1 a
      → ((w : Option ℕ) (m : Moment) → Goes name (levels_of a.store.levels) c1 o1 r1 m.scene → Leads (Goes name (levels_of a.store.levels) c o r) (does_all w es m)) → e ≡ None → IsMaking name c o r b
  making_on c1 o1 r1 h leads none =
      making_behind (levels_of a.store.levels) h.working h.between (λ around w. leads w (at_calls (scene_in a) a.calls.count a.calls.fail around) (goes_in name c1 o1 r1 a around h)) none

-- a portal begins
pub making_begins : (name : Text) (object rows : ℕ) (bad : Option ℕ) (a b : Now) (P : List What → Type 0) (e : Option Error) → Performed 1 (Element.MakePortal name object rows bad ∷ []) a b P e
    → IsBetweenSteps a → IsWorking (levels_of a.store.levels) → portal_named name (portals_of a.store.portals) ≡ None → e ≡ None → IsMaking name false false false b
unfolding session_of
making_begins name object rows bad a b P e done between active free none =
    making_behind name false false false 1 (Element.MakePortal name object rows bad ∷ []) a b P e done (levels_of a.store.levels) active between
    (λ around w.
    one_leads w name (levels_of a.store.levels) active (Goes name (levels_of a.store.levels) false false false) (Element.MakePortal name object rows bad) (at_calls (scene_in a) a.calls.count a.calls.fail around) (λ z q. q.stands)
    (created_leads w name (levels_of a.store.levels) active object rows bad (at_calls (scene_in a) a.calls.count a.calls.fail around) (between.stands around) refl free)) none

-- each of the steps
module _ (name : Text) (a b : Now) (P : List What → Type 0) (e : Option Error) where
  pub context_on : Performed 1 (Element.MakeContext (PortalContext name) ∷ []) a b P e → IsMaking name false false false a → e ≡ None → IsMaking name true false false b
  context_on done h none =
      making_on name true false false 1 _ a b P e done false false false h
      (λ w m k. one_leads w name (levels_of a.store.levels) h.working (Goes name (levels_of a.store.levels) true false false) (Element.MakeContext (PortalContext name)) m (λ z q. q.stands)
      (context_leads w name (levels_of a.store.levels) h.working false m k)) none

  pub owner_on : Performed 1 (Element.MakeOwner (OfPortal name) ∷ []) a b P e → IsMaking name true false false a → e ≡ None → IsMaking name true true false b
  owner_on done h none =
      making_on name true true false 1 _ a b P e done true false false h
      (λ w m k. one_leads w name (levels_of a.store.levels) h.working (Goes name (levels_of a.store.levels) true true false) (Element.MakeOwner (OfPortal name)) m (λ z q. q.stands)
      (owner_leads w name (levels_of a.store.levels) h.working m k)) none

  pub row_on : Performed 1 (Element.MakeContext (RowContext name) ∷ []) a b P e → IsMaking name true true false a → e ≡ None → IsMaking name true true true b
  row_on done h none =
      making_on name true true true 1 _ a b P e done true true false h
      (λ w m k. one_leads w name (levels_of a.store.levels) h.working (Goes name (levels_of a.store.levels) true true true) (Element.MakeContext (RowContext name)) m (λ z q. q.stands)
      (row_leads w name (levels_of a.store.levels) h.working true m k)) none

  -- one that leaves the portals as they are
  pub besides_on : (k : ℕ) (x : Element) → Performed k (x ∷ []) a b P e → IsMaking name true true false a → ((w : Option ℕ) (m : Moment) → Stands m.scene → IsWorking m.scene.session.levels → Beside m.scene (does w x m).moment.scene) → e ≡ None
      → IsMaking name true true false b
  besides_on k x done h beside none =
      making_on name true true false k _ a b P e done true true false h
      (λ w m g. one_leads w name (levels_of a.store.levels) h.working (Goes name (levels_of a.store.levels) true true false) x m (λ z q. q.stands)
      (beside_leads w name (levels_of a.store.levels) h.working true true false x m g (beside w m g.stands (subst IsWorking (sym g.are) h.working)))) none

  pub lock_on : (object : ℕ) (mode : Mode) → Performed 1 (Element.TakeLock (OfPortal name) object mode ∷ []) a b P e → IsMaking name true true false a → e ≡ None → IsMaking name true true false b
  lock_on object mode done h none = besides_on 1 (Element.TakeLock (OfPortal name) object mode) done h (λ w m stands working. portal_locks w m stands working name object mode) none

  pub memory_on : (bytes : ℕ) → Performed 1 (Element.Alloc (InPortal name) None bytes false ∷ []) a b P e → IsMaking name true true false a → e ≡ None → IsMaking name true true false b
  memory_on bytes done h none = besides_on 1 (Element.Alloc (InPortal name) None bytes false) done h (λ w m stands working. portal_allocates w m stands working name None bytes) none

  pub reference_on : (kind : KindId) (key : ℕ) → IsReference kind → Performed 2 (takes (OfPortal name) kind key) a b P e → IsMaking name true true false a → e ≡ None → IsMaking name true true false b
  reference_on kind key is done h none =
      let ls : List LevelState = levels_of a.store.levels in
      making_on name true true false 2 _ a b P e done true true false h
      (λ w m g. leads_on w (Goes name ls true true false) (Goes name ls true true false) (Element.Enlarge (OfPortal name)) (Element.Take (OfPortal name) kind key ∷ []) m
      (beside_leads w name ls h.working true true false (Element.Enlarge (OfPortal name)) m g (portal_enlarges w m g.stands (subst IsWorking (sym g.are) h.working) name))
      (λ n q. one_leads w name ls h.working (Goes name ls true true false) (Element.Take (OfPortal name) kind key) n (λ z q. q.stands)
      (beside_leads w name ls h.working true true false (Element.Take (OfPortal name) kind key) n q
      (portal_takes w n q.stands (subst IsWorking (sym q.are) h.working) name kind key is.unkept (no_plan kind is.unkept) (λ serial. reference_item (table_of n.scene.around.kinds) kind key serial is))))) none

-- whose owner and whose context are there
named_part : (store : StoreState) (s : Space) (name : Text) (c o r : Bool) → IsOnItsWay name c o r (session_of store s) → (p : Portal) × (list.portal_named name store.portals ≡ Some p) × (is_some p.context ≡ c) × (is_some p.owner ≡ o)
unfolding session_of
named_part store s name c o r way = grind (arith, nat_tests, store.portals, named_as name store.portals, way.named, way.portal, way.context, way.owner)

is_some_of : {A : Type 0} (o : Option A) → is_some o ≡ true → IsSome o
is_some_of x0 e = grind (arith, nat_tests)

pub has_owner : (store : StoreState) (s : Space) (name : Text) (c r : Bool) → IsOnItsWay name c true r (session_of store s) → IsSome (option_and_then (λ p. p.owner) (list.portal_named name store.portals))
has_owner store s name c r way = grind (arith, nat_tests, named_part store s name c true r way, is_some_of)

pub has_context : (store : StoreState) (s : Space) (name : Text) (o r : Bool) → IsOnItsWay name true o r (session_of store s) → IsSome (option_and_then (λ p. p.context) (list.portal_named name store.portals))
has_context store s name o r way = grind (arith, nat_tests, named_part store s name true o r way, is_some_of)

pub has_name : (store : StoreState) (s : Space) (name : Text) (c o r : Bool) → IsOnItsWay name c o r (session_of store s) → IsSome (list.portal_named name store.portals)
has_name store s name c o r way = let p = named_part store s name c o r way in subst IsSome (sym p.1) (is_some_of (Some p.0) refl)

pub way_context : (name : Text) (o r : Bool) (session : SessionState) → IsOnItsWay name true o r session → (c : ℕ) × (option_and_then (λ p. p.context) (portal_named name session.portals) ≡ Some c)
way_context name o r session way = let c = is_there way.portal.context way.context in (c.0, ap (option_and_then (λ (p : OpenPortal). p.context)) way.named ∙ c.1)

-- the owner of a portal is there, and its release hasn't begun
pub portals_owner : (name : Text) (a : Now) (owner : OwnerId) → IsBetweenSteps a → IsWorking (levels_of a.store.levels) → IsOwnerOf (OfPortal name) a.store owner → has owner.number (owners_of a.store.owners) ≡ true
unfolding session_of
portals_owner name a owner between working is = owner_named None (at_calls (scene_in a) 0 0 empty_around) (between.stands empty_around) working name owner.number (is a.space)
