-- The steps of a portal lead from a session that stands to one that stands.
use Rattle.session_rules.proofs.Base.{◌≡◌, ◌≢◌, ◌⊎◌, ℕ, ◌+◌, ◌≤◌, ◌<◌, true, false, Option, Some, None, List, [], ◌∷◌, ◌++◌, length, refl, sym, ap, ◌∙◌, subst, inl, inr, arith, ◌==◌, ◌||◌, All, codes, option_and_then, cases_eq, cases_Bool, both_ways, eq-eqb, or_parts, All-nil, All-cons, All-head, All-tail, All-append, All-weaker, nat_tests}
use Rattle.session_rules.proofs.Below.{Forest, Empty, Node, Once, has, children, parent_of, put, size, apart_of, Contexts, created, is_protected, new_context, table_of, OwnerTree, once_of, fresh, sound_created, new_scan, Scan, is_text, is_text-means, is_text-same, PortalState, CtxKind}
use Rattle.session_rules.proofs.Rules.{LevelState, OpenPortal, cache_context, first_of, level_owner, plan_reference, portals_context, Scene, OfPortal, PortalContext, Text, portal_changed, portal_named, in_order, portal_becomes, context_made, new_context_made, new_owner_made, owner_made, portal_made, WasReleased, AreContexts, AreDifferent, AreHooks, AreLevels, AreOther, AreOwners, ArePlans, ArePortals, IsAtRest, IsAtWork, IsDead, IsLive, IsOfPortal, IsOwner, IsPlace, IsPortal, IsWorking, Stands, active_depth, owner_at, referred}
use Rattle.session_rules.proofs.Kept.{children_put, has_put_other, Stay, contexts_created, has_created, is_unused, new_parent, new_protected, protected_has, stay_created, stay_same, held_created, hooks_put, levels_stay, no_value, one_value, lone_put, plans_counted, Changes, all_back, all_front, changed_one, different_new, different_changed, different_owned, others_back, others_front, owner_beside, owner_here, owner_split, IsRowOf, attached_by, own_rows, place_same, row_of, row_put, depth_small, depth_working}
use Rattle.owner_core.specs.Owners as owners
use Rattle.session_rules.proofs.ItemsStand.{owner_there}
use Rattle.session_rules.proofs.StepsStand.{IsNewOwner, fit_working, new_owner_is, not_released, still_planned}

-- the portal of a name among the others
pub record Named (name : Text) (p : OpenPortal) (ps : List OpenPortal) : Type 0 where
  pub front : List OpenPortal
  pub back : List OpenPortal
  pub is : ps ≡ front ++ (p ∷ back)
  pub titled : p.name ≡ name

pub named_in : (name : Text) (p : OpenPortal) (ps : List OpenPortal) → portal_named name ps ≡ Some p → Named name p ps
named_in name p [] e = absurd (cc e)
named_in name p (q ∷ qs) e = elim (cases_Bool (is_text q.name name)) [
  | inl y ↦
      let same : q ≡ p = let z : Some q ≡ Some p = rw y at e in cc z in
      record { front = []; back = qs; is = ap (λ (x : OpenPortal). x ∷ qs) same; titled = ap (λ (x : OpenPortal). x.name) (sym same) ∙ is_text-means q.name name y }
  | inr y ↦
      let w : Named name p qs = named_in name p qs (rw y at e) in
      record { front = q ∷ w.front; back = w.back; is = ap (λ (xs : List OpenPortal). q ∷ xs) w.is; titled = w.titled }
]

-- and behind its change
pub named_changed : (name : Text) (p : OpenPortal) (f : OpenPortal → OpenPortal) (ps : List OpenPortal) → ((q : OpenPortal) → (f q).name ≡ q.name) → portal_named name ps ≡ Some p → portal_named name (portal_changed name f ps) ≡ Some (f p)
named_changed name p f [] keeps e = absurd (cc e)
named_changed name p f (q ∷ qs) keeps e = grind (arith, nat_tests, named_changed name p f qs keeps)

-- in a level where steps are taken each portal is live
pub live_here : (p : OpenPortal) (levels : List LevelState) → IsWorking levels → IsLive p levels ⊎ IsDead p levels → IsLive p levels
live_here p levels working s = grind (arith, nat_tests, both_ways)

-- how deep it is there
pub depth_here : (levels : List LevelState) → IsWorking levels → (active_depth levels ≡ length levels) × (1 ≤ length levels)
depth_here levels working = grind (arith, nat_tests, depth_working)

-- A portal changes, and contexts and owners with it.
pub portal_step : (s : Scene) (p q : OpenPortal) (front back : List OpenPortal) (u : Contexts) (next : ℕ) (y : OwnerTree) (count : ℕ) → Stands s → IsWorking s.session.levels → s.session.portals ≡ front ++ (p ∷ back)
    → AreContexts u next → Stay s.session.contexts u → has s.session.current u ≡ true → AreHooks u s.around.shelf → ArePlans s.session.plans u s.session.current (referred y)
    → AreLevels s.session.levels u y → AreOwners (table_of s.around.kinds) y count s.session.next_serial s.session.levels (front ++ (q ∷ back)) → AreDifferent (front ++ (q ∷ back))
    → ((r : OpenPortal) → IsPortal r s.session.levels s.session.contexts s.session.owners s.session.current → AreOther r p ⊎ AreOther p r → IsPortal r s.session.levels u y s.session.current) → IsPortal q s.session.levels u y s.session.current
    → (portals : List OpenPortal) → portals ≡ front ++ (q ∷ back)
    → Stands (record s { session = record s.session { contexts = u; next_context = next; owners = y; next_owner = count; portals = portals } })
portal_step s p q front back u next y count h working are contexts stay there hooks plans levels owned different others own portals is =
    let t : Contexts = s.session.contexts in
    let x : OwnerTree = s.session.owners in
    let cur : ℕ = s.session.current in
    let ls : List LevelState = s.session.levels in
    let was : ArePortals (front ++ (p ∷ back)) ls t x cur = subst (λ (ps : List OpenPortal). ArePortals ps ls t x cur) are h.portals in
    let fronts = others_front p front back was.different in
    let backs = others_back p front back was.different in
    let before : All (λ r. IsPortal r ls t x cur) front = all_front (λ r. IsPortal r ls t x cur) front (p ∷ back) was.each in
    let behind : All (λ r. IsPortal r ls t x cur) (p ∷ back) = all_back (λ r. IsPortal r ls t x cur) front (p ∷ back) was.each in
    let tail = All-tail (λ r. IsPortal r ls t x cur) p back behind in
    let each : All (λ r. IsPortal r ls u y cur) (front ++ (q ∷ back)) =
    All-append (λ r. IsPortal r ls u y cur) front (q ∷ back) (λ k r below. others _ (before k r below) (inl (fronts k r below)))
    (All-cons (λ r. IsPortal r ls u y cur) q back own (λ k r below. others _ (tail k r below) (inr (backs k r below)))) in
    search (
      fit_working ls t u x y cur cur working h.fit,
      subst (λ (ps : List OpenPortal). AreOwners (table_of s.around.kinds) y count s.session.next_serial ls ps) (sym is) owned,
      subst (λ (ps : List OpenPortal). ArePortals ps ls u y cur) (sym is) (record { each = each; different = different }),
    )

-- the portal of a name in a session that stands
module _ (s : Scene) (h : Stands s) (working : IsWorking s.session.levels) (name : Text) (p : OpenPortal) (n : Named name p s.session.portals) where
  pub split_portals : ArePortals (n.front ++ (p ∷ n.back)) s.session.levels s.session.contexts s.session.owners s.session.current
  split_portals = subst (λ (ps : List OpenPortal). ArePortals ps s.session.levels s.session.contexts s.session.owners s.session.current) n.is h.portals

  pub this_portal : IsPortal p s.session.levels s.session.contexts s.session.owners s.session.current
  this_portal =
      All-head (λ r. IsPortal r s.session.levels s.session.contexts s.session.owners s.session.current) p n.back
      (all_back (λ r. IsPortal r s.session.levels s.session.contexts s.session.owners s.session.current) n.front (p ∷ n.back) split_portals.each)

  pub this_live : IsLive p s.session.levels
  this_live = live_here p s.session.levels working this_portal.stage

  pub changes_in : (f : OpenPortal → OpenPortal) → portal_changed name f s.session.portals ≡ n.front ++ (f p ∷ n.back)
  changes_in f = grind (arith, nat_tests, changed_one, split_portals)

  -- whose owner is whose then
  pub same_owners : (q : OpenPortal) → ((k : ℕ) → p.owner ≡ Some k → q.owner ≡ Some k) → AreOwners (table_of s.around.kinds) s.session.owners s.session.next_owner s.session.next_serial s.session.levels (n.front ++ (q ∷ n.back))
  same_owners q keeps = record {
    sound = h.owners.sound;
    each = λ m u. elim (h.owners.each m u) [
      | inl i ↦ inl i
      | inr k ↦ inr (elim k [
        | inl j ↦ inl (elim (owner_split m p n.front n.back (subst (IsOfPortal m) n.is j)) [ inl e ↦ owner_here m q n.front n.back (keeps m e) | inr r ↦ owner_beside m q n.front n.back r ])
        | inr r ↦ inr r
      ])
    ];
    begun = h.owners.begun;
    items = h.owners.items;
  }

  -- It alone changes.
  pub alone_portal : (f : OpenPortal → OpenPortal) → Changes p (f p) → ((k : ℕ) → p.owner ≡ Some k → (f p).owner ≡ Some k) → IsPortal (f p) s.session.levels s.session.contexts s.session.owners s.session.current → Stands (portal_becomes name f s).scene
  alone_portal f change keeps own =
      portal_step s p (f p) n.front n.back s.session.contexts s.session.next_context s.session.owners s.session.next_owner h working n.is h.contexts (stay_same s.session.contexts) h.current h.hooks h.plans h.levels
      (same_owners (f p) keeps) (different_changed p (f p) n.front n.back change split_portals.different) (λ r i o. i) own (portal_changed name f s.session.portals) (changes_in f)

  -- It gets a context.
  pub context_portal : p.context ≡ None → Stands (new_context_made (PortalContext name) s).scene
  context_portal none =
      let t : Contexts = s.session.contexts in
      let next : ℕ = s.session.next_context in
      let cur : ℕ = s.session.current in
      let title : Text = codes "PortalContext" in
      let f : OpenPortal → OpenPortal = λ r. record r { context = Some next } in
      let q : OpenPortal = f p in
      let guarded : is_protected portals_context t ≡ true = (h.contexts.own portals_context (omega arith) (omega arith)).protected in
      let there : has portals_context t ≡ true = protected_has portals_context t guarded in
      let u : Contexts = created portals_context next title CtxKind.Small true t in
      let stay : Stay t u = stay_created t next h.contexts portals_context title CtxKind.Small true in
      let newer : (m : ℕ) → has m t ≡ true → m ≢ next = λ m have z. omega (arith, z, h.contexts.below m have) in
      let i = this_portal in
      let off : (m : ℕ) (expr : Option ℕ) → IsPlace m expr t cur → IsPlace m expr u cur = λ m expr k.
      place_same m expr t u cur (stay m k.protected)
      (row_put t h.contexts.once m expr cur k portals_context next (new_context title CtxKind.Small true) Empty (λ z. omega (arith, z, k.own)) (newer m (protected_has m t k.protected)) refl
      (λ e f z.
      let r : IsRowOf e m t = row_of e m t cur h.contexts.once (subst (λ (o : Option ℕ). IsPlace m o t cur) f k) in
      own_rows t next h.contexts portals_context (omega arith) (omega arith) e m k.own r.parent (sym z))) k in
      let other : (r : OpenPortal) → IsPortal r s.session.levels t s.session.owners cur → IsPortal r s.session.levels u s.session.owners cur = λ r k.
      record { place = λ m e. off m r.expr (k.place m e); made = k.made; owner = k.owner; stage = k.stage } in
      let own : IsPortal q s.session.levels u s.session.owners cur = grind (arith, nat_tests, one_value (Some next) next, new_protected t next h.contexts portals_context title CtxKind.Small there, new_parent t next h.contexts portals_context title CtxKind.Small true there, children_put portals_context next (new_context title CtxKind.Small true) Empty t h.contexts.once there (is_unused t next h.contexts), is_unused t next h.contexts, this_live) in
      let fresh_context : (r : OpenPortal) → IsPortal r s.session.levels t s.session.owners cur → (m : ℕ) → r.context ≡ Some m → m ≢ next = λ r k m e. newer m (protected_has m t (k.place m e).protected) in
      portal_step s p q n.front n.back u (next + 1) s.session.owners s.session.next_owner h working n.is
      (contexts_created t next h.contexts portals_context title CtxKind.Small true there (λ _. guarded)) stay
      (has_created t next h.contexts cur portals_context title CtxKind.Small true h.current)
      (hooks_put portals_context next (new_context title CtxKind.Small true) t s.around.shelf h.contexts.once refl h.hooks)
      (still_planned s u h stay (λ m k. lone_put m portals_context next (new_context title CtxKind.Small true) Empty t (λ z. omega (arith, z, k.own)) (newer m (protected_has m t k.protected)) refl k.lone))
      (levels_stay s.session.levels t u s.session.owners s.session.owners (λ m j prot. stay m prot) (λ m j w. record { there = w; parent = refl }) h.levels)
      (same_owners q (λ k e. e))
      (different_new p q n.front n.back next refl (λ k e. e) (λ m e. one_value (Some next) m next e refl)
      (all_portals (λ r. (m : ℕ) → r.context ≡ Some m → m ≢ next) fresh_context) split_portals.different)
      (λ r k o. other r k) own (portal_changed name f s.session.portals) (changes_in f)
    where
      all_portals : (P : OpenPortal → Type 0) → ((r : OpenPortal) → IsPortal r s.session.levels s.session.contexts s.session.owners s.session.current → P r) → All P (n.front ++ (p ∷ n.back))
      all_portals P so = All-weaker (λ r. IsPortal r s.session.levels s.session.contexts s.session.owners s.session.current) P so (n.front ++ (p ∷ n.back)) split_portals.each

-- a new node is the first below its parent
pub put_here : {A : Type 0} (q m : ℕ) (a : A) (t : Forest A) → Once t → has q t ≡ true → has m t ≡ false → children q (put q m a Empty t) ≡ Node m a Empty (children q t)
put_here q m a Empty o h u = absurd (cc h)
put_here q m a (Node k b below beside) o h u = grind (arith, nat_tests, apart_of k b below beside o, or_parts (k == m) (has m below || has m beside) u, or_parts (has m below) (has m beside), has_put_other q q m a Empty below, put_here q m a below, put_here q m a beside)

-- a level's owner is there
pub owners_there : (levels : List LevelState) (t : Contexts) (x : OwnerTree) (m : ℕ) → AreLevels levels t x → IsOwner m levels → has m x ≡ true
owners_there [] t x m l i = absurd i
owners_there (level ∷ levels) t x m l i = elim i [ inl e ↦ (l.0.owner m e).there | inr j ↦ owners_there levels t x m l.1 j ]

-- the owner of the deepest level
pub owner_deep : (levels : List LevelState) (lo : ℕ) → option_and_then (λ (level : LevelState). level.owner) (first_of levels) ≡ Some lo → (owner_at (length levels) levels ≡ Some lo) × IsOwner lo levels
owner_deep [] lo e = absurd (no_value None lo refl e)
owner_deep (level ∷ levels) lo e = (rw (eq-eqb (length levels + 1) (length (level ∷ levels)) (omega arith)) e, inl e)

module _ (s : Scene) (h : Stands s) (working : IsWorking s.session.levels) (name : Text) (p : OpenPortal) (n : Named name p s.session.portals) where
  -- It gets an owner.
  pub owner_portal : (lo : ℕ) → level_owner s.session ≡ Some lo → p.owner ≡ None → p.created ≡ length s.session.levels → size s.session.owners < 65536 → Stands (new_owner_made (OfPortal name) s).scene
  owner_portal lo is_lo none deep few =
      let t : Contexts = s.session.contexts in
      let x : OwnerTree = s.session.owners in
      let cur : ℕ = s.session.current in
      let ls : List LevelState = s.session.levels in
      let count : ℕ = s.session.next_owner in
      let b : ℕ = s.session.next_serial in
      let y : OwnerTree = owners.created (Some lo) count x in
      let once : Once x = once_of x count b h.owners.sound in
      let unused : has count x ≡ false = fresh x count b h.owners.sound in
      let there : has lo x ≡ true = owner_there ls t x lo h.levels is_lo in
      let new : IsNewOwner (Some lo) count x y = new_owner_is (Some lo) count x once unused (λ q e. subst (λ (j : ℕ). has j x ≡ true) (one_value (Some lo) lo q refl e) there) in
      let other : (m : ℕ) → has m x ≡ true → m ≢ count = λ m u e. both_ways (has count x) unused (ap (λ (k : ℕ). has k x) (sym e) ∙ u) in
      let f : OpenPortal → OpenPortal = λ r. record r { owner = Some count } in
      let q : OpenPortal = f p in
      let i = this_portal s h working name p n in
      let l : IsLive p ls = this_live s h working name p n in
      let up = owner_deep ls lo is_lo in
      let others : (r : OpenPortal) → IsPortal r ls t x cur → IsPortal r ls t y cur = λ r k. search (λ (m : ℕ) (e : _).
      let a = k.owner m e in
      attached_by m r.created ls ls x y (λ w. new.had m (other m a.there) ∙ w) (new.parents m (other m a.there))
      (new.lone m (other m a.there) (λ j g z. a.other (subst (λ (v : ℕ). IsOwner v ls) (one_value (Some lo) lo j refl g ∙ sym z) up.1))) refl (λ j. j) a) in
      let own : IsPortal q ls t y cur = grind (arith, nat_tests, one_value (Some count) count, both_ways (has count x) unused, owners_there ls t x count h.levels, depth_small ls) in
      let was : ArePortals (n.front ++ (p ∷ n.back)) ls t x cur = split_portals s h working name p n in
      let owned : AreOwners (table_of s.around.kinds) y (count + 1) b ls (n.front ++ (q ∷ n.back)) = record {
        sound = sound_created (Some lo) x count b h.owners.sound few;
        each = λ m u. elim (cases_eq m count) [
          | inl e ↦ inr (inl (owner_here m q n.front n.back (ap Some (sym e))))
          | inr ne ↦ elim (h.owners.each m (sym (new.had m ne) ∙ u)) [
            | inl j ↦ inl j
            | inr k ↦ inr (elim k [
              | inl j ↦ inl (elim (owner_split m p n.front n.back (subst (IsOfPortal m) n.is j)) [ inl e ↦ absurd (no_value p.owner m none e) | inr r ↦ owner_beside m q n.front n.back r ])
              | inr r ↦ absurd (not_released ls m x working r)
            ])
          ]
        ];
        begun = grind (arith, nat_tests, cases_eq, not_released ls);
        items = new.items (table_of s.around.kinds) h.owners.items;
      } in
      let off : All (λ r. (m : ℕ) → r.owner ≡ Some m → m ≢ count) (n.front ++ (p ∷ n.back)) =
      All-weaker (λ r. IsPortal r ls t x cur) (λ r. (m : ℕ) → r.owner ≡ Some m → m ≢ count) (λ r k m e. other m (k.owner m e).there) (n.front ++ (p ∷ n.back)) was.each in
      let result : Stands (in_order (owner_made (Some lo) ∷ portal_becomes name f ∷ []) s).scene =
      portal_step s p q n.front n.back t s.session.next_context y (count + 1) h working n.is h.contexts (stay_same t) h.current h.hooks
      (plans_counted s.session.plans t cur (referred x) (referred y) (λ m. sym (held_created plan_reference m (Some lo) count x)) h.plans)
      (levels_stay ls t t x y (λ m j prot. stay_same t m prot) (λ m j u. record { there = new.had m (other m u) ∙ u; parent = new.parents m (other m u) }) h.levels)
      owned (different_owned p q n.front n.back count refl (λ k e. e) (λ m e. one_value (Some count) m count e refl) off was.different)
      (λ r k o. others r k) own (portal_changed name f s.session.portals) (changes_in s h working name p n f) in
      subst (λ (o : Option ℕ). Stands (in_order (owner_made o ∷ portal_becomes name f ∷ []) s).scene) (sym is_lo) result

  -- It gets the context of one row.
  pub row_portal : (c : ℕ) → p.context ≡ Some c → p.expr ≡ None → Stands (in_order (context_made c (codes "ExprContext") true CtxKind.Small ∷ portal_becomes name (λ r. record r { expr = Some s.session.next_context }) ∷ []) s).scene
  row_portal c at_c none =
      let t : Contexts = s.session.contexts in
      let next : ℕ = s.session.next_context in
      let cur : ℕ = s.session.current in
      let ls : List LevelState = s.session.levels in
      let x : OwnerTree = s.session.owners in
      let title : Text = codes "ExprContext" in
      let f : OpenPortal → OpenPortal = λ r. record r { expr = Some next } in
      let q : OpenPortal = f p in
      let i = this_portal s h working name p n in
      let place : IsPlace c None t cur = subst (λ (o : Option ℕ). IsPlace c o t cur) none (i.place c at_c) in
      let there : has c t ≡ true = protected_has c t place.protected in
      let u : Contexts = created c next title CtxKind.Small true t in
      let stay : Stay t u = stay_created t next h.contexts c title CtxKind.Small true in
      let newer : (m : ℕ) → has m t ≡ true → m ≢ next = λ m have z. omega (arith, z, h.contexts.below m have) in
      let was : ArePortals (n.front ++ (p ∷ n.back)) ls t x cur = split_portals s h working name p n in
      let others : (r : OpenPortal) → IsPortal r ls t x cur → AreOther r p ⊎ AreOther p r → IsPortal r ls u x cur = λ r k o. record {
        place = λ m e.
            let pl : IsPlace m r.expr t cur = k.place m e in
            let ne : m ≢ c = λ z. elim o [ inl d ↦ d.context m (at_c ∙ ap Some (sym z)) e | inr d ↦ d.context m e (at_c ∙ ap Some (sym z)) ] in
            place_same m r.expr t u cur (stay m pl.protected)
            (row_put t h.contexts.once m r.expr cur pl c next (new_context title CtxKind.Small true) Empty ne (newer m (protected_has m t pl.protected)) refl
            (λ v g z.
            let w : IsRowOf v m t = row_of v m t cur h.contexts.once (subst (λ (j : Option ℕ). IsPlace m j t cur) g pl) in
            let same : m ≡ portals_context = let e2 : Some m ≡ Some portals_context = sym w.parent ∙ ap (λ (j : ℕ). parent_of j t) z ∙ place.parent in cc e2 in
            absurd (omega (arith, same, pl.own)))) pl;
        made = k.made;
        owner = k.owner;
        stage = k.stage;
      } in
      let own : IsPortal q ls u x cur = grind (arith, nat_tests, one_value p.context c, one_value (Some next) next cur refl, put_here c next (new_context title CtxKind.Small true) t h.contexts.once there (is_unused t next h.contexts), is_unused t next h.contexts, no_value p.context c, this_live s h working name p n) in
      portal_step s p q n.front n.back u (next + 1) x s.session.next_owner h working n.is
      (contexts_created t next h.contexts c title CtxKind.Small true there (λ _. place.protected)) stay
      (has_created t next h.contexts cur c title CtxKind.Small true h.current)
      (hooks_put c next (new_context title CtxKind.Small true) t s.around.shelf h.contexts.once refl h.hooks)
      (still_planned s u h stay (λ m k. lone_put m c next (new_context title CtxKind.Small true) Empty t
      (λ z. let e2 : Some cache_context ≡ Some portals_context = sym k.parent ∙ ap (λ (j : ℕ). parent_of j t) z ∙ place.parent in let e3 : cache_context ≡ portals_context = cc e2 in absurd (omega (arith, e3)))
      (newer m (protected_has m t k.protected)) refl k.lone))
      (levels_stay ls t u x x (λ m j prot. stay m prot) (λ m j w. record { there = w; parent = refl }) h.levels)
      (same_owners s h working name p n q (λ k e. e))
      (different_changed p q n.front n.back (record { name = refl; context = λ k e. e; owner = λ k e. e }) was.different)
      others own (portal_changed name f s.session.portals) (changes_in s h working name p n f)

  -- It is ready, has failed, is fetched from, or its scan is another one.
  pub state_portal : (state : PortalState) → IsAtRest (record p { state = state }) ⊎ IsAtWork (record p { state = state }) (length s.session.levels) → Stands (portal_becomes name (λ r. record r { state = state }) s).scene
  state_portal state line =
      let i = this_portal s h working name p n in
      let l : IsLive p s.session.levels = this_live s h working name p n in
      alone_portal s h working name p n (λ r. record r { state = state }) (record { name = refl; context = λ k e. e; owner = λ k e. e }) (λ k e. e)
      (record { place = i.place; made = i.made; owner = i.owner; stage = inl (record { some = l.some; within = l.within; active = l.active; line = line }) })

  pub scan_portal : (change : Scan → Scan) → Stands (portal_becomes name (λ r. record r { scan = change r.scan }) s).scene
  scan_portal change = grind (arith, nat_tests, this_portal s h working name p n, this_live s h working name p n, alone_portal s h working name p n)

  pub active_portal : Stands (portal_becomes name (λ r. record r { active = length s.session.levels }) s).scene
  active_portal =
      grind (arith, nat_tests, this_portal s h working name p n, this_live s h working name p n, depth_here s.session.levels working, alone_portal s h working name p n)

-- A portal of a new name is made.
pub new_names : (name : Text) (ps : List OpenPortal) → portal_named name ps ≡ None → (p : OpenPortal) → p.name ≡ name → p.context ≡ None → p.owner ≡ None → All (AreOther p) ps
new_names name [] e p named c o = All-nil (AreOther p)
new_names name (q ∷ qs) e p named c o = elim (cases_Bool (is_text q.name name)) [
  | inl y ↦ let z : Some q ≡ None = rw y at e in absurd (cc z)
  | inr y ↦
      All-cons (AreOther p) q qs
      (record {
        name = λ z. both_ways (is_text q.name name) y (ap (λ (k : Text). is_text k name) (z ∙ named) ∙ is_text-same name);
        context = λ n f g. absurd (no_value p.context n c g);
        owner = λ n f g. absurd (no_value p.owner n o g);
      }) (new_names name qs (rw y at e) p named c o)
]

pub made_portal : (s : Scene) (name : Text) (object rows : ℕ) (bad : Option ℕ) → Stands s → IsWorking s.session.levels → portal_named name s.session.portals ≡ None → Stands (portal_made name object rows bad s).scene
made_portal s name object rows bad h working free =
    let d = depth_here s.session.levels working in
    let p : OpenPortal = record { name = name; context = None; expr = None; owner = None; scan = new_scan object rows bad; created = length s.session.levels; active = length s.session.levels; state = PortalState.New } in
    let own : IsPortal p s.session.levels s.session.contexts s.session.owners s.session.current = grind (arith, nat_tests) in
    let each : (n : ℕ) → has n s.session.owners ≡ true → IsOwner n s.session.levels ⊎ (IsOfPortal n (p ∷ s.session.portals) ⊎ WasReleased n s.session.levels s.session.owners) =
    λ n u. elim (h.owners.each n u) [ inl i ↦ inl i | inr k ↦ inr (elim k [ inl j ↦ inl (inr j) | inr r ↦ inr r ]) ] in
    search (All-cons (λ r. IsPortal r s.session.levels s.session.contexts s.session.owners s.session.current) p s.session.portals own h.portals.each, new_names name s.session.portals free p refl refl refl)
