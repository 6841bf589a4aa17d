-- A session of which the deepest level ends, on its way through the portals.
use Rattle.session_rules.proofs.Base.{◌≡◌, All, ◌≢◌, ℕ, ◌+◌, find, true, false, Option, Some, None, List, [], ◌∷◌, ◌++◌, refl, sym, ap, ◌∙◌, subst, inl, inr, arith, if◌then◌else◌, option_map_or, cases_eq, cases_Bool, All-head, All-tail, All-weaker, nat_tests}
use Rattle.session_rules.proofs.Below.{Empty, Once, has, children, parent_of, changed, removed, at_some, at_absent, has_changed, at_changed, at_changed_other, parent_changed, children_changed, Item, KindId, ShelfState, Contexts, is_protected, gone, handed_in, Kind, KindTable, IsSoundTable, table_of, is_of, without_newest, Owner, OwnerTree, forgotten, has_begun, IsSound, once_of, sound_forgotten, Lock, What, All-without}
use Rattle.session_rules.proofs.Rules.{LevelState, OpenPortal, StandingPlan, cache_context, plan_reference, portals_context, Scene, newest, portals_but, Ended, changes, context_gone, for_each, in_order, portal_gone, say, where_there, given_back, item_released, AreContexts, AreLevels, ArePlans, HasItems, IsItem, IsPlace, IsPortal, IsRow, referred, AreEnding, Ending, IsDone, IsLoose}
use Rattle.session_rules.proofs.Kept.{all_changed, IsSame, contexts_level_gone, off_outside, same_removed, hooks_ended, parts_gone, held_forgotten, levels_stay, lone_changed, lone_left, levels_apart, plans_moved, but_one, different_without, others_back, others_front, owner_split, IsRowOf, attached_by, off_levels, off_rows, place_same, place_spared, row_left, row_of, Fits, Settles, besides_of, item_settles}

-- what an end changes on this way
pub record Parts : Type 0 where
  pub locks : List Lock
  pub recent : List ℕ
  pub kinds : List Kind
  pub plans : List StandingPlan
  pub contexts : Contexts
  pub shelf : ShelfState
  pub owners : OwnerTree
  pub portals : List OpenPortal

abbrev pub with_parts : Parts → Scene → Scene
with_parts x scene = record {
  session = record scene.session { locks = x.locks; recent = x.recent; plans = x.plans; contexts = x.contexts; owners = x.owners; portals = x.portals };
  around = record scene.around { kinds = x.kinds; shelf = x.shelf };
}

abbrev pub parts_of : Scene → Parts
parts_of scene = record {
  locks = scene.session.locks;
  recent = scene.session.recent;
  kinds = scene.around.kinds;
  plans = scene.session.plans;
  contexts = scene.session.contexts;
  shelf = scene.around.shelf;
  owners = scene.session.owners;
  portals = scene.session.portals;
}

-- an act leads to portals that are done and those that aren't
pub record Goes (level : LevelState) (levels done : List LevelState) (front back : List OpenPortal) (s t : Scene) : Type 0 where
  pub parts : Parts
  pub same : table_of parts.kinds ≡ table_of s.around.kinds
  pub is : t ≡ with_parts parts s
  pub ending : Ending level levels done front back (with_parts parts s)

-- what an act leads to, whatever became of the portal that it is for
pub record Leads (level : LevelState) (levels done : List LevelState) (back : List OpenPortal) (s t : Scene) : Type 0 where
  pub front : List OpenPortal
  pub goes : Goes level levels done front back s t

module _ (level : LevelState) (levels done : List LevelState) where
  pub goes_nothing : (front back : List OpenPortal) (s : Scene) → Ending level levels done front back s → Goes level levels done front back s s
  goes_nothing front back s h = record { parts = parts_of s; same = refl; is = refl; ending = h }

  -- one act and then another
  pub then_goes : (act : Scene → Ended) (a b c d : List OpenPortal) (s t : Scene) (one : Goes level levels done a b s t) → Goes level levels done c d (with_parts one.parts s) (act (with_parts one.parts s)).scene
      → Goes level levels done c d s (act t).scene
  then_goes act a b c d s t one two = grind (arith, nat_tests)

  -- an act for each portal
  pub each_goes : (act : OpenPortal → Scene → Ended) → ((p : OpenPortal) (front back : List OpenPortal) (s : Scene) → Ending level levels done front (p ∷ back) s → Leads level levels done back s (act p s).scene)
      → (ps front : List OpenPortal) (s : Scene) → Ending level levels done front ps s → Leads level levels done [] s (for_each act ps s).scene
  each_goes act one [] front s h = record { front = front; goes = goes_nothing front [] s h }
  each_goes act one (p ∷ ps) front s h =
      let first : Leads level levels done ps s (act p s).scene = one p front ps s h in
      let next : Scene = with_parts first.goes.parts s in
      let rest : Leads level levels done [] next (for_each act ps next).scene = each_goes act one ps first.front next first.goes.ending in
      record { front = rest.front; goes = then_goes (for_each act ps) first.front ps rest.front [] s (act p s).scene first.goes rest.goes }

-- owners of which one changes its items
pub begun_changed : (m n : ℕ) (f : Owner → Owner) (x : OwnerTree) → ((o : Owner) → (f o).begun ≡ o.begun) → has_begun m (changed n f x) ≡ has_begun m x
begun_changed m n f x same = grind (arith, nat_tests, cases_eq, cases_Bool, at_some, at_changed, at_absent, has_changed, at_changed_other)

pub loose_changed : (level : LevelState) (m n : ℕ) (f : Owner → Owner) (x : OwnerTree) → IsLoose level m x → IsLoose level m (changed n f x)
loose_changed level m n f x l = grind (arith, nat_tests, children_changed l.owner n f x, has_changed m n f (children l.owner x))

pub ending_changed : (kinds : KindTable) (level : LevelState) (levels : List LevelState) (portals : List OpenPortal) (x : OwnerTree) (a b n : ℕ) (f : Owner → Owner) → ((o : Owner) → (f o).begun ≡ o.begun) → ((o : Owner) → HasItems kinds o → HasItems kinds (f o))
    → IsSound (changed n f x) a b → AreEnding kinds x a b level levels portals → AreEnding kinds (changed n f x) a b level levels portals
ending_changed kinds level levels portals x a b n f begun known sound h = grind (arith, nat_tests, has_changed, loose_changed level, begun_changed, all_changed (HasItems kinds) n f x known h.items)

-- An owner gives its newest item of a kind and key back.
module _ (level : LevelState) (levels done : List LevelState) where
  pub item_goes : (o : ℕ) (kind : KindId) (key : ℕ) (front back : List OpenPortal) (s : Scene) → has o s.session.owners ≡ true → Ending level levels done front back s → Goes level levels done front back s (item_released o kind key s).scene
  item_goes o kind key front back s there h = go (newest o kind key s.session) refl
    where
      go : (i : Option Item) → newest o kind key s.session ≡ i
          → Goes level levels done front back s (where_there i (λ item. in_order (changes (λ session. record session { owners = forgotten o kind key session.owners }) ∷ say (What.Release item o) ∷ given_back item ∷ [])) s).scene
      go None e = goes_nothing level levels done front back s h
      go (Some item) e =
          let x : OwnerTree = s.session.owners in
          let y : OwnerTree = forgotten o kind key x in
          let f : Owner → Owner = λ owner. record owner { items = without_newest (is_of kind key) owner.items } in
          let a = at_some o x there in
          let t : Scene = record s { session = record s.session { owners = y } } in
          let once : Once x = once_of x s.session.next_owner s.session.next_serial h.owners.sound in
          let found : find (is_of kind key) a.0.items ≡ Some item = ap (λ (z : Option Owner). find (is_of kind key) (option_map_or (λ owner. owner.items) z [])) (sym a.1) ∙ e in
          let one : (m : ℕ) → referred x m ≡ (if is_of plan_reference m item then 1 else 0) + referred y m = λ m. omega (arith, held_forgotten plan_reference m o kind key item a.0 x once a.1 found) in
          let fits : Fits s.session.next_context s.session.current (referred x) (besides_of t) = record { contexts = h.contexts; hooks = h.hooks; plans = h.plans } in
          let g : Settles (referred y) t (given_back item t).scene = item_settles item t (referred x) (referred y) one fits in
          let u : Contexts = g.besides.contexts in
          let still : (ls : List LevelState) (p : OpenPortal) → IsPortal p ls s.session.contexts x s.session.current → IsPortal p ls u y s.session.current = λ ls p i. search (
            λ (m : ℕ) (q : _). place_spared (besides_of s) g.besides s.session.current g.spares h.plans.each m p.expr s.session.current (i.place m q),
            λ (m : ℕ) (q : _). attached_by m p.created ls ls x y (λ w. has_changed m o f x ∙ w) (parent_changed m o f x) (lone_changed m o f x) refl (λ j. j) (i.owner m q),
          ) in
          let kinds : KindTable = table_of s.around.kinds in
          let owners : AreEnding kinds y s.session.next_owner s.session.next_serial level levels (front ++ back) =
          ending_changed kinds level levels (front ++ back) x s.session.next_owner s.session.next_serial o f (λ z. refl) (λ z k. All-without (IsItem kinds) (is_of kind key) z.items k)
          (sound_forgotten o a.0 (is_of kind key) x s.session.next_owner s.session.next_serial h.owners.sound a.1) h.owners in
          record {
            parts = record { locks = g.besides.locks; recent = g.besides.recent; kinds = g.besides.kinds; plans = g.besides.plans; contexts = u; shelf = g.besides.shelf; owners = y; portals = s.session.portals };
            same = g.same;
            is = g.is;
            ending = search (
              levels_stay (level ∷ levels) s.session.contexts u x y
                  (λ m i prot. g.spares.same m (levels_apart (level ∷ levels) s.session.contexts x s.session.plans s.session.current h.all h.plans.each m i) prot)
                  (λ m i w. record { there = has_changed m o f x ∙ w; parent = parent_changed m o f x }) h.all,
              subst (λ (k : KindTable). IsSoundTable k) (sym g.same) h.kinds,
              subst (λ (k : KindTable). AreEnding k y s.session.next_owner s.session.next_serial level levels (front ++ back)) (sym g.same) owners,
              All-weaker (IsDone level done s.session.contexts x s.session.current) (IsDone level done u y s.session.current) (λ p d. record { portal = still done p d.portal; away = d.away }) front h.ended,
              All-weaker (λ p. IsPortal p (level ∷ levels) s.session.contexts x s.session.current) (λ p. IsPortal p (level ∷ levels) u y s.session.current) (still (level ∷ levels)) back h.rest,
            );
          }

-- what stays where a context of a portal goes, or all below it
pub record Beside (c : ℕ) (t u : Contexts) (current : ℕ) : Type 0 where
  pub same : (m : ℕ) → m ≢ c → has m (children c t) ≡ false → is_protected m t ≡ true → IsSame m t u
  pub lone : (m : ℕ) → m ≢ c → has m (children c t) ≡ false → children m t ≡ Empty → children m u ≡ Empty
  pub rows : (m : ℕ) (expr : Option ℕ) → m ≢ c → has m (children c t) ≡ false → IsPlace m expr t current → IsRow expr (children m u)

module _ (t : Contexts) (next : ℕ) (h : AreContexts t next) (c : ℕ) (expr : Option ℕ) (current : ℕ) (place : IsPlace c expr t current) where
  -- what isn't its row isn't below a portal's context
  pub below_place : (m : ℕ) → ((e : ℕ) → expr ≡ Some e → m ≢ e) → has m (children c t) ≡ false
  below_place m off = grind (arith, nat_tests)

  pub row_here : (e : ℕ) → expr ≡ Some e → IsRowOf e c t
  row_here e q = row_of e c t current h.once (subst (λ (o : Option ℕ). IsPlace c o t current) q place)

  -- a row of another portal isn't its context
  pub row_other : (m : ℕ) (o : Option ℕ) → IsPlace m o t current → (e : ℕ) → o ≡ Some e → e ≢ c
  row_other m o k e q z = grind (arith, nat_tests, row_of e m t current h.once)

  pub beside_removed : Beside c t (removed c t) current
  beside_removed = record {
    same = λ m ne out prot. same_removed t next h m c (ne, out) prot;
    lone = λ m ne out e. lone_left m c t h.once ne out e;
    rows = λ m o ne out k. row_left t h.once m o current k c ne out (λ e q. row_other m o k e q);
  }

  -- levels, plans and other portals
  pub levels_beside : (level : LevelState) (levels : List LevelState) (u : Contexts) (x : OwnerTree) → Beside c t u current → AreLevels (level ∷ levels) t x → AreLevels (level ∷ levels) u x
  levels_beside level levels u x b l =
      levels_stay (level ∷ levels) t u x x
      (λ m i prot. b.same m (off_levels (level ∷ levels) t x l m i c portals_context (omega arith) (omega arith) place.parent)
      (below_place m (λ e q. let r : IsRowOf e c t = row_here e q in off_rows (level ∷ levels) t x l m i e c place.own place.parent r.parent)) prot)
      (λ m i there. record { there = there; parent = refl }) l

  pub plans_beside : (plans : List StandingPlan) (u : Contexts) (times : ℕ → ℕ) → Beside c t u current → ArePlans plans t current times → ArePlans plans u current times
  plans_beside plans u times b p =
      plans_moved plans t u current times
      (λ m k.
      let ne : m ≢ c = λ z. let w : Some cache_context ≡ Some portals_context = sym k.parent ∙ ap (λ (j : ℕ). parent_of j t) z ∙ place.parent in absurd (three (cc w)) in
      let out : has m (children c t) ≡ false = off_outside t next h m cache_context c (omega arith) (omega arith) place.own k.parent in
      (b.same m ne out k.protected, b.lone m ne out k.lone)) p
    where
      three : cache_context ≡ portals_context → ⊥
      three e = omega (arith, e)

  pub places_beside : (u : Contexts) → Beside c t u current → (m : ℕ) (o : Option ℕ) → m ≢ c → IsPlace m o t current → IsPlace m o u current
  places_beside u b m o ne k =
      let out : has m (children c t) ≡ false = off_outside t next h m portals_context c (omega arith) (omega arith) place.own k.parent in
      place_same m o t u current (b.same m ne out k.protected) (b.rows m o ne out k) k

-- A portal goes, with its context; its owner is left to the deepest level.
module _ (level : LevelState) (levels done : List LevelState) where
  pub gone_owners : (kinds : KindTable) (x : OwnerTree) (a b : ℕ) (p : OpenPortal) (front back : List OpenPortal) → ((n : ℕ) → p.owner ≡ Some n → IsLoose level n x) → AreEnding kinds x a b level levels (front ++ (p ∷ back)) → AreEnding kinds x a b level levels (front ++ back)
  gone_owners kinds x a b p front back loose h = record {
    sound = h.sound;
    each = λ n u. elim (h.each n u) [
      | inl i ↦ inl i
      | inr k ↦ elim k [
        | inl j ↦ elim (owner_split n p front back j) [ inl e ↦ inr (inr (loose n e)) | inr q ↦ inr (inl q) ]
        | inr l ↦ inr (inr l)
      ]
    ];
    begun = h.begun;
    fresh = h.fresh;
    items = h.items;
  }

  pub close_goes : (p : OpenPortal) (front back : List OpenPortal) (s : Scene) → ((n : ℕ) → p.owner ≡ Some n → IsLoose level n s.session.owners) → Ending level levels done front (p ∷ back) s
      → Goes level levels done front back s (in_order (where_there p.context context_gone ∷ portal_gone p.name ∷ []) s).scene
  close_goes p front back s loose h = go p.context refl
    where
      left : portals_but p.name s.session.portals ≡ front ++ back
      left = ap (portals_but p.name) h.are ∙ but_one p front back h.different

      first : IsPortal p (level ∷ levels) s.session.contexts s.session.owners s.session.current
      first = All-head (λ q. IsPortal q (level ∷ levels) s.session.contexts s.session.owners s.session.current) p back h.rest

      owners : AreEnding (table_of s.around.kinds) s.session.owners s.session.next_owner s.session.next_serial level levels (front ++ back)
      owners = gone_owners (table_of s.around.kinds) s.session.owners s.session.next_owner s.session.next_serial p front back loose h.owners

      go : (c : Option ℕ) → p.context ≡ c → Goes level levels done front back s (in_order (where_there c context_gone ∷ portal_gone p.name ∷ []) s).scene
      go None e = record {
        parts = record (parts_of s) { portals = portals_but p.name s.session.portals };
        same = refl;
        is = refl;
        ending = search (owners, left, All-tail (λ q. IsPortal q (level ∷ levels) s.session.contexts s.session.owners s.session.current) p back h.rest, different_without p front back h.different);
      }
      go (Some c) e =
          let t : Contexts = s.session.contexts in
          let x : OwnerTree = s.session.owners in
          let next : ℕ = s.session.next_context in
          let cur : ℕ = s.session.current in
          let place : IsPlace c p.expr t cur = first.place c e in
          let u : Contexts = removed c t in
          let b : Beside c t u cur = beside_removed t next h.contexts c p.expr cur place in
          let still : (ls : List LevelState) (q : OpenPortal) → ((n : ℕ) → q.context ≡ Some n → n ≢ c) → IsPortal q ls t x cur → IsPortal q ls u x cur = λ ls q ne i.
          search (λ (n : ℕ) (f : _). places_beside t next h.contexts c p.expr cur place u b n q.expr (ne n f) (i.place n f)) in
          let fronts = others_front p front back h.different in
          let backs = others_back p front back h.different in
          let tail = All-tail (λ q. IsPortal q (level ∷ levels) t x cur) p back h.rest in
          let ended : All (IsDone level done u x cur) front = λ k q below. let o = fronts k q below in let d = h.ended k q below in record { portal = still done _ (λ n f z. o.context n (e ∙ ap Some (sym z)) f) d.portal; away = d.away } in
          let rest : All (λ q. IsPortal q (level ∷ levels) u x cur) back = λ k q below. let o = backs k q below in still (level ∷ levels) _ (λ n f z. o.context n f (e ∙ ap Some (sym z))) (tail k q below) in
          record {
            parts = record (parts_of s) { contexts = u; shelf = handed_in (gone c t).hooks s.around.shelf; portals = portals_but p.name s.session.portals };
            same = refl;
            is = refl;
            ending = search (
              contexts_level_gone t next h.contexts c place.own,
              hooks_ended t (gone c t) s.around.shelf (parts_gone c t h.contexts.once) h.hooks,
              levels_beside t next h.contexts c p.expr cur place level levels u x b h.all,
              owners,
              plans_beside t next h.contexts c p.expr cur place s.session.plans u (referred x) b h.plans,
              different_without p front back h.different,
              left,
            );
          }
