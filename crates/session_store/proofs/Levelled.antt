-- What calls on a store's levels make of the session, and that acts of the rules lead there.
use Rattle.session_store.proofs.Words.{◌≡◌, ℕ, ◌+◌, ◌≤◌, arith, Bool, true, false, Option, Some, None, List, [], ◌∷◌, ◌++◌, append-nil, length, All, IfSome, refl, sym, ap, ◌∙◌, subst, ◌-◌, unwrap_or, option_and_then, option_map, All-push, All-weaker, Space, has, mapped-has, CtxId, OwnerId, What, ShelfState, Contexts, created, created_events, TreeState, IsLive, stands_for, ResourceState, owners_of, plans_of, contexts_of, Level, Portal, level_at, new_level, LevelState, context_of, deepest_changed, first_of, owner_of, Around, Scene, Ended, LevelContext, OfLevel, level_context_name, level_made, level_parent, new_context_made, new_owner_made, owner_made, level_stands, Stands, own_there, Balances, CommonState, seen_by, balances_none, StoreState, level_state, levels_of, portals_of, scene_of, session_of, IsPlaced, IsThere, LevelLies, Lies, PortalLies, Acted, IsSilent, Keeps, StandsIn}
use Rattle.pgs_step.specs.declared.events.What.TheVariants as what
use Rattle.any_ctx.specs.declared.any.CtxKind.TheVariants as kind
use Rattle.session_owners.specs.ResourceState as owners
use Rattle.session_rules.proofs.EndsStand.{settled}
use Rattle.session_owners.specs.Fitting as fitting
use Rattle.session_store.proofs.Answered.{some_both, some_more}
use Rattle.session_store.proofs.Depths.{above_is, all_deepest, all_level, levels_are, levels_long}
use Rattle.session_store.proofs.Kept.{nowhere}
use Rattle.session_store.proofs.Lists.{all_both}
pub use Rattle.session_store.proofs.Owned.{HasOwner, have_owners, owner_number, owners_there}
use Rattle.std.proofs.lemmas.Bool.Decides.{nat_tests}

-- the space has what the store has in it, whatever its owners and its levels
pub keeps_parts : (a : StoreState) (o : ResourceState) (ls : List Level) (s : Space) → Keeps a s → Keeps (record a { owners = o; levels = ls }) s
unfolding session_of
keeps_parts a o ls s k = record { agrees = k.agrees; held = k.held }

pub keeps_current : (a : StoreState) (id : CtxId) (o : ResourceState) (ls : List Level) (s : Space) → Keeps a s → Keeps (record { tree = record a.tree { current = id }; owners = o; levels = ls; portals = a.portals }) s
unfolding session_of stands_for
keeps_current a id o ls s k = record {
  agrees = let g = k.agrees in record { account = g.account; each = g.each; owned = g.owned; apart = g.apart; known = g.known };
  held = k.held;
}

-- the scene with other levels
abbrev pub leveled : StoreState → List LevelState → Space → ShelfState → CommonState → Around → Scene
leveled a ls s x commons around = record {
  session = record (session_of a s) { levels = ls };
  around = record (seen_by a.owners commons around) { shelf = x; space = s.limit; descriptors = a.owners.descriptors };
}

pub scene_leveled : (a : StoreState) (ls : List LevelState) (s : Space) (x : ShelfState) (commons : CommonState) (around : Around) → levels_of a.levels ≡ ls → scene_of a s x commons around ≡ leveled a ls s x commons around
unfolding session_of
scene_leveled a ls s x commons around e = ap (λ (z : List LevelState). leveled a z s x commons around) e

-- a level begins
pub begun_acted : (a : StoreState) (name : Option (List ℕ)) (implicit : Bool) (s : Space) (x : ShelfState) (commons : CommonState) (Said : List What → Type 0) → Said (what.BeginLevel (length a.levels + 1) ∷ [])
    → Acted (level_made name implicit) a (record a { levels = a.levels ++ new_level name implicit ∷ [] }) s s x x commons commons Said
unfolding session_of
begun_acted a name implicit s x commons Said says = record {
  leads = λ around. ap (λ (ls : List LevelState). leveled a ls s x commons around) (sym (levels_are a.levels (new_level name implicit)));
  says = λ around. subst (λ (n : ℕ). Said (what.BeginLevel (n + 1) ∷ [])) (sym (levels_long a.levels)) says;
  balances = balances_none a.owners commons;
}

-- a level stands
module _ (a : StoreState) (outer : List Level) (s : Space) (x : ShelfState) (commons : CommonState) where
  stood : (name : Option (List ℕ)) (c : Option CtxId) (o : Option OwnerId) (implicit aborted starting : Bool) (around : Around)
      → let old : Level = record { name = name; context = c; owner = o; implicit = implicit; aborted = aborted; starting = starting } in
      level_stands (leveled a (level_state old ∷ levels_of outer) s x commons around)
      ≡ record {
        scene = leveled (record a { tree = record a.tree { current = unwrap_or c a.tree.current } }) (level_state (record old { starting = false }) ∷ levels_of outer) s x commons around;
        events = [];
      }
  unfolding session_of stands_for
  stood name x1 o implicit aborted starting around = grind (arith, nat_tests)

  pub stood_acted : (level : Level) → a.levels ≡ outer ++ level ∷ []
      → Acted level_stands a (record a { tree = record a.tree { current = unwrap_or level.context a.tree.current }; levels = outer ++ record level { starting = false } ∷ [] }) s s x x commons commons IsSilent
  unfolding session_of
  stood_acted level e = record {
    leads = λ around.
        ap (λ (z : Scene). (level_stands z).scene) (scene_leveled a (level_state level ∷ levels_of outer) s x commons around (ap levels_of e ∙ levels_are outer level))
        ∙ ap (λ (z : Ended). z.scene) (stood level.name level.context level.owner level.implicit level.aborted level.starting around)
        ∙ ap (λ (ls : List LevelState). leveled (record a { tree = record a.tree { current = unwrap_or level.context a.tree.current } }) ls s x commons around) (sym (levels_are outer (record level { starting = false })));
    says = λ around.
        ap (λ (z : Scene). (level_stands z).events) (scene_leveled a (level_state level ∷ levels_of outer) s x commons around (ap levels_of e ∙ levels_are outer level))
        ∙ ap (λ (z : Ended). z.events) (stood level.name level.context level.owner level.implicit level.aborted level.starting around);
    balances = balances_none a.owners commons;
  }

-- the owner of a level is made
pub owner_acted : (a : StoreState) (outer : List Level) (level : Level) (s : Space) (x : ShelfState) (commons : CommonState) (p : ResourceState) (id : OwnerId) (parent : Option ℕ) (Said : List What → Type 0) → a.levels ≡ outer ++ level ∷ []
    → parent ≡ owner_of (first_of (levels_of outer)) → id.number ≡ a.owners.next_owner → fitting.Acted (owner_made parent) a.owners p commons commons Said → Balances a.owners p commons commons
    → Acted (new_owner_made OfLevel) a (record a { owners = p; levels = outer ++ record level { owner = Some id } ∷ [] }) s s x x commons commons Said
unfolding session_of
owner_acted a outer level s x commons p id parent Said e up number made balances = record {
  leads = λ around.
      let z : Scene = leveled a (level_state level ∷ levels_of outer) s x commons around in
      ap (λ (z : Scene). (new_owner_made OfLevel z).scene) (scene_leveled a (level_state level ∷ levels_of outer) s x commons around (ap levels_of e ∙ levels_are outer level))
      ∙ ap (λ (o : Option ℕ). let y : Scene = (owner_made o z).scene in record y { session = record y.session { levels = deepest_changed (λ old. record old { owner = Some a.owners.next_owner }) y.session.levels } }) (sym up)
      ∙ ap (λ (y : Scene). record y { session = record y.session { levels = deepest_changed (λ old. record old { owner = Some a.owners.next_owner }) y.session.levels } })
      (made.leads z (record { owners = refl; next_owner = refl; next_serial = refl; kinds = refl; locked = refl; pinned = refl; locks = refl; snapshots = refl; plans = refl; recent = refl; descriptors = refl }))
      ∙ ap (λ (n : ℕ). leveled (record a { owners = p }) (record (level_state level) { owner = Some n } ∷ levels_of outer) s x commons around) (sym number)
      ∙ ap (λ (ls : List LevelState). leveled (record a { owners = p }) ls s x commons around) (sym (levels_are outer (record level { owner = Some id })));
  says = λ around.
      let z : Scene = leveled a (level_state level ∷ levels_of outer) s x commons around in
      subst (λ (z : Scene). Said (new_owner_made OfLevel z).events) (sym (scene_leveled a (level_state level ∷ levels_of outer) s x commons around (ap levels_of e ∙ levels_are outer level)))
      (subst (λ (o : Option ℕ). Said ((owner_made o z).events ++ [])) up
      (subst Said (sym (append-nil (owner_made parent z).events))
      (made.says z (record { owners = refl; next_owner = refl; next_serial = refl; kinds = refl; locked = refl; pinned = refl; locks = refl; snapshots = refl; plans = refl; recent = refl; descriptors = refl }))));
  balances = balances;
}

-- a level's context and owner lie where their ids say
pub context_live : (tree : TreeState) (table : ResourceState) (level : Level) → LevelLies tree table level → IsThere tree level → IfSome level.context (IsLive tree)
context_live tree table level lies there = some_both level.context (λ id l h. l h) lies.context there

pub owner_live : (tree : TreeState) (table : ResourceState) (level : Level) → LevelLies tree table level → HasOwner table level → IfSome level.owner (owners.IsLive table)
owner_live tree table level lies there = grind (arith, nat_tests, some_both, level.owner, mapped-has, table.rooms, lies.owner)

-- the session with its deepest level apart
pub stands_deep : (a : StoreState) (s : Space) (x : ShelfState) (commons : CommonState) (outer : List Level) (level : Level) → a.levels ≡ outer ++ level ∷ [] → StandsIn a s x commons
    → Stands (settled (level_state level ∷ levels_of outer) (scene_of a s x commons nowhere))
unfolding session_of
stands_deep a s x commons outer level e stands =
    subst (λ (ls : List LevelState). Stands (settled ls (scene_of a s x commons nowhere))) (ap levels_of e ∙ levels_are outer level) (stands nowhere)

pub top_there : (a : StoreState) (s : Space) (x : ShelfState) (commons : CommonState) → StandsIn a s x commons → has 1 (stands_for a.tree s) ≡ true
unfolding session_of
top_there a s x commons stands = own_there (scene_of a s x commons nowhere) (stands nowhere) 1 (let e : 1 ≤ 1 = omega arith in e) (let e : 1 ≤ 5 = omega arith in e)

pub abort_there : (a : StoreState) (s : Space) (x : ShelfState) (commons : CommonState) → StandsIn a s x commons → has 5 (stands_for a.tree s) ≡ true
unfolding session_of
abort_there a s x commons stands = own_there (scene_of a s x commons nowhere) (stands nowhere) 5 (let e : 1 ≤ 5 = omega arith in e) (let e : 5 ≤ 5 = omega arith in e)

-- the levels lie once the deepest is another one
pub deepest_placed : (tree tree' : TreeState) (table table' : ResourceState) (levels outer : List Level) (portals : List Portal) (level new : Level) → IsPlaced tree table levels portals → levels ≡ outer ++ level ∷ []
    → ((l : Level) → LevelLies tree table l → HasOwner table l → LevelLies tree' table' l) → All (HasOwner table) levels → (LevelLies tree table level → LevelLies tree' table' new)
    → Lies tree' tree'.current → All (Lies tree') (contexts_of table'.plans.standing) → All (PortalLies tree' table') portals → IsPlaced tree' table' (outer ++ new ∷ []) portals
deepest_placed tree tree' table table' levels outer portals level new placed e on owned then current plans queries =
    let both = all_deepest (LevelLies tree table) levels outer level e placed.levels in
    let has = all_deepest (HasOwner table) levels outer level e owned in
    record {
      current = current;
      levels = All-push (LevelLies tree' table') outer new (all_both (LevelLies tree table) (HasOwner table) (LevelLies tree' table') on outer both.0 has.0) (then both.1);
      plans = plans;
      portals = queries;
    }

-- what lies in a tree lies there whichever context is the current one
pub lies_at : (tree : TreeState) (table : ResourceState) (id : CtxId) (level : Level) → LevelLies tree table level → LevelLies (record tree { current = id }) table level
lies_at tree table id level lies = record {
  context = some_both level.context (λ c l h. l) lies.context lies.context;
  owner = lies.owner;
}

pub portals_at : (tree : TreeState) (table : ResourceState) (id : CtxId) (portals : List Portal) → All (PortalLies tree table) portals → All (PortalLies (record tree { current = id }) table) portals
portals_at tree table id portals lies =
    All-weaker (PortalLies tree table) (PortalLies (record tree { current = id }) table)
    (λ p l. record {
      context = some_more p.context (λ c here. here) l.context;
      expr = some_more p.expr (λ c here. here) l.expr;
      owner = l.owner;
      scan = l.scan;
    }) portals lies

-- what lies in the owners still does where all that lay does
pub owner_on : (tree : TreeState) (table table' : ResourceState) (level : Level) → ((id : OwnerId) → owners.IsLive table id → owners.IsLive table' id) → LevelLies tree table level → HasOwner table level → LevelLies tree table' level
owner_on tree table table' level on lies has = grind (arith, nat_tests, lies.context, some_both, level.owner, mapped-has, table.rooms, lies.owner)

-- the current context, where another one may be taken instead
pub current_lies : (tree : TreeState) (to : Option CtxId) → IfSome to (IsLive tree) → Lies tree tree.current → Lies (record tree { current = unwrap_or to tree.current }) (unwrap_or to tree.current)
current_lies tree None live lies = lies
current_lies tree (Some id) live lies = λ there. live

-- the number of what is above
pub parent_number : (o : Option LevelState) → unwrap_or (context_of o) 1 ≡ level_parent o
parent_number x0 = grind (arith, nat_tests)

-- the owner of the level above
pub above_live : (a : StoreState) (s : Space) (x : ShelfState) (commons : CommonState) (n : ℕ) (above : Option Level) → IsPlaced a.tree a.owners a.levels a.portals → StandsIn a s x commons → above ≡ level_at a.levels n → IfSome (option_and_then (λ level. level.owner) above) (owners.IsLive a.owners)
above_live a s x commons n None placed stands e = tt
above_live a s x commons n (Some level) placed stands e = grind (arith, nat_tests, owner_live a.tree a.owners level (all_level (LevelLies a.tree a.owners) a.levels n level placed.levels (sym e)) (all_level (HasOwner a.owners) a.levels n level (have_owners a s x commons stands) (sym e)), a.tree, a.owners, all_level (LevelLies a.tree a.owners) a.levels n level placed.levels (sym e), a.levels, placed.levels, all_level (HasOwner a.owners) a.levels n level (have_owners a s x commons stands) (sym e))

pub above_owner : (a : StoreState) (outer : List Level) (level : Level) → a.levels ≡ outer ++ level ∷ []
    → option_map (λ (id : OwnerId). id.number) (option_and_then (λ level. level.owner) (level_at a.levels (length a.levels - 1))) ≡ owner_of (first_of (levels_of outer))
above_owner a outer level e = grind (arith, nat_tests, a.levels, above_is outer level)

-- a scene by what the making of a level's context changes
abbrev pub scene_made : StoreState → ShelfState → CommonState → Around → Contexts → ℕ → ℕ → List LevelState → ℕ → Scene
scene_made a x commons around contexts current next levels limit = record {
  session = record {
    contexts = contexts;
    current = current;
    next_context = next;
    owners = owners_of a.owners;
    next_owner = a.owners.next_owner;
    next_serial = a.owners.next_serial;
    locks = a.owners.locks;
    levels = levels;
    portals = portals_of a.portals;
    snapshots = a.owners.stack;
    plans = plans_of a.owners;
    recent = a.owners.recent;
  };
  around = record (seen_by a.owners commons around) { shelf = x; space = limit; descriptors = a.owners.descriptors };
}

pub made_same : (a : StoreState) (x : ShelfState) (commons : CommonState) (around : Around) (c d : Contexts) (i j m n : ℕ) (ls ks : List LevelState) (k l : ℕ) → c ≡ d → i ≡ j → m ≡ n → ls ≡ ks → k ≡ l → scene_made a x commons around c i m ls k ≡ scene_made a x commons around d j n ks l
made_same a x commons around c d i j m n ls ks k l p q r u v = grind (arith, nat_tests)

-- the context of a level is made
pub context_acted : (a : StoreState) (outer : List Level) (level : Level) (b : TreeState) (s t : Space) (x : ShelfState) (commons : CommonState) (id : CtxId) (parent : ℕ) (name : List ℕ) (Said : List What → Type 0) → a.levels ≡ outer ++ level ∷ []
    → parent ≡ level_parent (first_of (levels_of outer)) → name ≡ level_context_name (first_of (levels_of outer)) → id.number ≡ a.tree.next
    → stands_for b t ≡ created parent a.tree.next name kind.Default true (stands_for a.tree s) → b.current ≡ a.tree.current → b.next ≡ a.tree.next + 1 → t.limit ≡ s.limit → Said (created_events parent a.tree.next name)
    → Acted (new_context_made LevelContext) a (record a { tree = b; levels = outer ++ record level { context = Some id } ∷ [] }) s t x x commons commons Said
unfolding session_of
context_acted a outer level b s t x commons id parent name Said e up called number is current next limit says =
    let p : ℕ = level_parent (first_of (levels_of outer)) in
    let n : List ℕ = level_context_name (first_of (levels_of outer)) in
    let was : created p a.tree.next n kind.Default true (stands_for a.tree s) ≡ stands_for b t =
    ap (λ (q : ℕ). created q a.tree.next n kind.Default true (stands_for a.tree s)) (sym up)
    ∙ ap (λ (m : List ℕ). created parent a.tree.next m kind.Default true (stands_for a.tree s)) (sym called) ∙ sym is in
    let levels : record (level_state level) { context = Some a.tree.next } ∷ levels_of outer ≡ levels_of (outer ++ record level { context = Some id } ∷ []) =
    ap (λ (m : ℕ). record (level_state level) { context = Some m } ∷ levels_of outer) (sym number) ∙ sym (levels_are outer (record level { context = Some id })) in
    record {
      leads = λ around.
          ap (λ (z : Scene). (new_context_made LevelContext z).scene) (scene_leveled a (level_state level ∷ levels_of outer) s x commons around (ap levels_of e ∙ levels_are outer level))
          ∙ made_same a x commons around (created p a.tree.next n kind.Default true (stands_for a.tree s)) (stands_for b t) a.tree.current.number b.current.number (a.tree.next + 1) b.next
          (record (level_state level) { context = Some a.tree.next } ∷ levels_of outer) (levels_of (outer ++ record level { context = Some id } ∷ [])) s.limit t.limit
          was (ap (λ (i : CtxId). i.number) (sym current)) (sym next) levels (sym limit);
      says = grind (arith, nat_tests, scene_leveled, levels_are outer level, a.tree.next);
      balances = balances_none a.owners commons;
    }

pub above_in : (a : StoreState) (outer : List Level) (level : Level) (above : Option Level) → a.levels ≡ outer ++ level ∷ [] → above ≡ level_at a.levels (length a.levels - 1) → option_map level_state above ≡ first_of (levels_of outer)
above_in a outer level above e is = grind (arith, nat_tests, above_is outer level)
