-- A portal of a store gets its contexts and its owner.
use Rattle.session_ends.proofs.Base.{arith, nat_tests, ◌≡◌, ℕ, ◌+◌, true, Option, Some, List, [], ◌∷◌, ◌++◌, append-nil, All, refl, sym, ap, ◌∙◌, subst, codes, option_and_then, option_map, All-cons, All-head, All-tail}
use Rattle.session_ends.proofs.Words.{Space, CtxId, OwnerId, What, ShelfState, Contexts, created, created_events, TreeState, stands_for, Portal, HasDistinctNames, changed, portal_named, Plans, Level, ResourceState, owners_of, plans_of, contexts_of, Balances, CommonState, seen_by, balances_none, OpenPortal, level_owner, portals_context, Around, Scene, portal_changed, Ended, in_order, portal_becomes, where_there, OfPortal, PortalContext, RowContext, Text, context_made, new_context_made, new_owner_made, owner_made, StoreState, levels_of, portal_state, portals_of, scene_of, session_of, IsPlaced, LevelLies, Lies, Acted, Keeps, StandsIn, HasOwner, have_owners, owner_on, acted_as, have_portal_owners, portals_kept}
use Rattle.any_ctx.specs.declared.any.CtxKind.TheVariants as kind
use Rattle.session_owners.specs.ResourceState as owners
use Rattle.session_owners.specs.Fitting as fitting
use Rattle.session_rules.specs.Lookup as rules
use Rattle.session_ends.proofs.Naming.{changed_is, named_is}
use Rattle.session_ends.proofs.Becoming.{placed_changed, portaled}

-- a scene by what the making of a portal's context changes
abbrev scene_by : StoreState → ShelfState → CommonState → Around → Contexts → ℕ → ℕ → List OpenPortal → ℕ → Scene
scene_by a x commons around contexts current next portals limit = record {
  session = record {
    contexts = contexts;
    current = current;
    next_context = next;
    owners = owners_of a.owners;
    next_owner = a.owners.next_owner;
    next_serial = a.owners.next_serial;
    locks = a.owners.locks;
    levels = levels_of a.levels;
    portals = portals;
    snapshots = a.owners.stack;
    plans = plans_of a.owners;
    recent = a.owners.recent;
  };
  around = record (seen_by a.owners commons around) { shelf = x; space = limit; descriptors = a.owners.descriptors };
}

same_scene : (a : StoreState) (x : ShelfState) (commons : CommonState) (around : Around) (c d : Contexts) (i j m n : ℕ) (ps qs : List OpenPortal) (k l : ℕ) → c ≡ d → i ≡ j → m ≡ n → ps ≡ qs → k ≡ l → scene_by a x commons around c i m ps k ≡ scene_by a x commons around d j n qs l
same_scene a x commons around c d i j m n ps qs k l p q r u v = grind (arith, nat_tests)

-- a context is made below another one, and the portal of a name has it
abbrev pub made_below : Text → Text → (ℕ → OpenPortal → OpenPortal) → ℕ → Scene → Ended
made_below name title sets parent scene = in_order (context_made parent title true kind.Small ∷ portal_becomes name (sets scene.session.next_context) ∷ []) scene

pub below_acted : (a : StoreState) (b : TreeState) (qs : List Portal) (name title : List ℕ) (sets : ℕ → OpenPortal → OpenPortal) (parent : ℕ) (s t : Space) (x : ShelfState) (commons : CommonState) (Said : List What → Type 0)
    → stands_for b t ≡ created parent a.tree.next title kind.Small true (stands_for a.tree s) → b.current ≡ a.tree.current → b.next ≡ a.tree.next + 1 → t.limit ≡ s.limit → Said (created_events parent a.tree.next title)
    → portals_of qs ≡ portal_changed name (sets a.tree.next) (portals_of a.portals) → Acted (made_below name title sets parent) a (record a { tree = b; portals = qs }) s t x x commons commons Said
unfolding session_of
below_acted a b qs name title sets parent s t x commons Said is current next limit says open_now = record {
  leads = λ around.
      same_scene a x commons around (created parent a.tree.next title kind.Small true (stands_for a.tree s)) (stands_for b t) a.tree.current.number b.current.number (a.tree.next + 1) b.next
      (portal_changed name (sets a.tree.next) (portals_of a.portals)) (portals_of qs) s.limit t.limit
      (sym is) (ap (λ (i : CtxId). i.number) (sym current)) (sym next) (sym open_now) (sym limit);
  says = λ around. subst Said (sym (append-nil (created_events parent a.tree.next title))) says;
  balances = balances_none a.owners commons;
}

-- the context of a portal, and that of one row, below the portal's
abbrev pub has_context : ℕ → OpenPortal → OpenPortal
has_context n p = record p { context = Some n }

abbrev pub has_expr : ℕ → OpenPortal → OpenPortal
has_expr n p = record p { expr = Some n }

below_portal : (o : Option Portal) (id : CtxId) → option_and_then (λ p. p.context) o ≡ Some id → option_and_then (λ q. q.context) (option_map portal_state o) ≡ Some id.number
below_portal x0 id is = grind (arith, nat_tests)

parent_of_row : (a : StoreState) (s : Space) (x : ShelfState) (commons : CommonState) (around : Around) (name : List ℕ) (id : CtxId) → option_and_then (λ p. p.context) (portal_named name a.portals) ≡ Some id
    → option_and_then (λ q. q.context) (rules.portal_named name (scene_of a s x commons around).session.portals) ≡ Some id.number
unfolding session_of
parent_of_row a s x commons around name id is = ap (option_and_then (λ q. q.context)) (sym (named_is name a.portals)) ∙ below_portal (portal_named name a.portals) id is

module _ (a : StoreState) (b : TreeState) (qs : List Portal) (name title : List ℕ) (parent id : CtxId) (s t : Space) (x : ShelfState) (commons : CommonState) (Said : List What → Type 0) (distinct : HasDistinctNames a.portals) (number : id.number ≡ a.tree.next)
    (is : stands_for b t ≡ created parent.number a.tree.next title kind.Small true (stands_for a.tree s)) (current : b.current ≡ a.tree.current) (next : b.next ≡ a.tree.next + 1) (limit : t.limit ≡ s.limit) (says : Said (created_events parent.number a.tree.next title)) where
  pub context_acted : parent.number ≡ portals_context → title ≡ codes "PortalContext" → qs ≡ changed name (λ p. record p { context = Some id }) a.portals
      → Acted (new_context_made (PortalContext name)) a (record a { tree = b; portals = qs }) s t x x commons commons Said
  context_acted up called e =
      let now : portals_of qs ≡ portal_changed name (has_context a.tree.next) (portals_of a.portals) =
      ap portals_of e ∙ changed_is name (λ p. record p { context = Some id }) (has_context id.number) a.portals distinct (λ p. refl)
      ∙ ap (λ (n : ℕ). portal_changed name (has_context n) (portals_of a.portals)) number in
      subst (λ (n : ℕ). Acted (made_below name (codes "PortalContext") has_context n) a (record a { tree = b; portals = qs }) s t x x commons commons Said) up
      (subst (λ (words : List ℕ). Acted (made_below name words has_context parent.number) a (record a { tree = b; portals = qs }) s t x x commons commons Said) called
      (below_acted a b qs name title has_context parent.number s t x commons Said is current next limit says now))

  pub row_acted : option_and_then (λ p. p.context) (portal_named name a.portals) ≡ Some parent → title ≡ codes "ExprContext" → qs ≡ changed name (λ p. record p { expr = Some id }) a.portals
      → Acted (new_context_made (RowContext name)) a (record a { tree = b; portals = qs }) s t x x commons commons Said
  row_acted below called e =
      let now : portals_of qs ≡ portal_changed name (has_expr a.tree.next) (portals_of a.portals) =
      ap portals_of e ∙ changed_is name (λ p. record p { expr = Some id }) (has_expr id.number) a.portals distinct (λ p. refl)
      ∙ ap (λ (n : ℕ). portal_changed name (has_expr n) (portals_of a.portals)) number in
      acted_as (made_below name (codes "ExprContext") has_expr parent.number) (new_context_made (RowContext name)) a (record a { tree = b; portals = qs }) s t x x commons commons Said
      (λ around.
      let z : Scene = scene_of a s x commons around in
      ap (λ (o : Option ℕ). where_there o (λ n. in_order (context_made n (codes "ExprContext") true kind.Small ∷ portal_becomes name (λ q. record q { expr = Some z.session.next_context }) ∷ [])) z)
      (sym (parent_of_row a s x commons around name parent below)))
      (subst (λ (words : List ℕ). Acted (made_below name words has_expr parent.number) a (record a { tree = b; portals = qs }) s t x x commons commons Said) called
      (below_acted a b qs name title has_expr parent.number s t x commons Said is current next limit says now))

-- the owner of a portal
abbrev has_owner : List ℕ → ℕ → Scene → Scene
has_owner name n z = record z { session = record z.session { portals = portal_changed name (λ p. record p { owner = Some n }) z.session.portals } }

pub owner_acted : (a : StoreState) (p : ResourceState) (qs : List Portal) (name : List ℕ) (id : OwnerId) (parent : Option ℕ) (s : Space) (x : ShelfState) (commons : CommonState) (Said : List What → Type 0) → HasDistinctNames a.portals
    → parent ≡ level_owner (session_of a s) → id.number ≡ a.owners.next_owner → fitting.Acted (owner_made parent) a.owners p commons commons Said → Balances a.owners p commons commons → qs ≡ changed name (λ q. record q { owner = Some id }) a.portals
    → Acted (new_owner_made (OfPortal name)) a (record a { owners = p; portals = qs }) s s x x commons commons Said
unfolding session_of
owner_acted a p qs name id parent s x commons Said distinct up number made balances e =
    let now : portals_of qs ≡ portal_changed name (λ q. record q { owner = Some a.owners.next_owner }) (portals_of a.portals) =
    ap portals_of e ∙ changed_is name (λ q. record q { owner = Some id }) (λ q. record q { owner = Some id.number }) a.portals distinct (λ q. refl)
    ∙ ap (λ (n : ℕ). portal_changed name (λ q. record q { owner = Some n }) (portals_of a.portals)) number in
    record {
      leads = λ around.
          let z : Scene = scene_of a s x commons around in
          ap (λ (o : Option ℕ). has_owner name a.owners.next_owner (owner_made o z).scene) (sym up)
          ∙ ap (has_owner name a.owners.next_owner)
          (made.leads z (record { owners = refl; next_owner = refl; next_serial = refl; kinds = refl; locked = refl; pinned = refl; locks = refl; snapshots = refl; plans = refl; recent = refl; descriptors = refl }))
          ∙ ap (λ (ps : List OpenPortal). portaled (record a { owners = p }) ps s x commons around) (sym now);
      says = λ around.
          let z : Scene = scene_of a s x commons around in
          subst (λ (o : Option ℕ). Said ((owner_made o z).events ++ [])) up
          (subst Said (sym (append-nil (owner_made parent z).events))
          (made.says z (record { owners = refl; next_owner = refl; next_serial = refl; kinds = refl; locked = refl; pinned = refl; locks = refl; snapshots = refl; plans = refl; recent = refl; descriptors = refl })));
      balances = balances;
    }

-- what the store names lies where it did, where all owners that lay do
levels_kept : (tree : TreeState) (a b : ResourceState) (levels : List Level) → ((id : OwnerId) → owners.IsLive a id → owners.IsLive b id) → All (LevelLies tree a) levels → All (HasOwner a) levels → All (LevelLies tree b) levels
levels_kept tree a b x3 on lies there = grind (arith, nat_tests, All-cons, owner_on, All-head, All-tail)

pub owner_placed : (a : StoreState) (p : ResourceState) (qs : List Portal) (name : List ℕ) (id : OwnerId) (s : Space) (x : ShelfState) (commons : CommonState) → StandsIn a s x commons → IsPlaced a.tree a.owners a.levels a.portals
    → ((other : OwnerId) → owners.IsLive a.owners other → owners.IsLive p other) → p.plans ≡ a.owners.plans → owners.IsLive p id → qs ≡ changed name (λ q. record q { owner = Some id }) a.portals → IsPlaced a.tree p a.levels qs
owner_placed a p qs name id s x commons stands placed on plans live e =
    let moved : IsPlaced a.tree p a.levels a.portals = record {
      current = placed.current;
      levels = levels_kept a.tree a.owners p a.levels on placed.levels (have_owners a s x commons stands);
      plans = subst (λ (z : Plans). All (Lies a.tree) (contexts_of z.standing)) (sym plans) placed.plans;
      portals = portals_kept a.tree a.owners p a.portals on placed.portals (have_portal_owners a s x commons stands);
    } in
    placed_changed a.tree p a.levels a.portals qs name (λ q. record q { owner = Some id }) moved
    (λ q there lies. record { context = lies.context; expr = lies.expr; owner = λ here. live; scan = lies.scan }) e

-- the space has what the store has in it, whatever its owners and its portals
pub keeps_open : (a : StoreState) (o : ResourceState) (ps : List Portal) (s : Space) → Keeps a s → Keeps (record a { owners = o; portals = ps }) s
unfolding session_of
keeps_open a o ps s k = record { agrees = k.agrees; held = k.held }
