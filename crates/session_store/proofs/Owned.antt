-- What calls on a store's owners make of it.
use Rattle.session_store.proofs.Words.{◌≡◌, ◌↔◌, ℕ, true, false, Option, Some, List, [], ◌∷◌, length, map, All, IfSome, refl, sym, ap, ◌∙◌, subst, Result, Ok, Err, OnOk, OnErr, ◌==◌, IsErr, reverse, option_and_then, option_map, option_map_or, All-nil, All-cons, All-weaker, Space, at, changed, has, has_changed, mapped-has, OwnerId, What, ShelfState, Contexts, TreeState, stands_for, Plans, Owner, ResourceState, Roomy, owners_of, AreLeft, contexts_of, level_at, Level, Portal, beside, LevelState, SessionState, file_kind, first_of, last_of, owner_of, pushed_at, snapshot_pushed, holds, Around, Scene, Ended, nothing, AreLevels, IsPortal, Stands, OwnersFit, Balances, CommonState, pinned_beside, seen_by, StoreState, level_state, levels_of, portal_state, portals_of, scene_of, session_of, IsPlaced, LevelLies, Lies, OwnerLies, PortalLies, Acted, IsSilent, Keeps, Refused, StandsIn}
use Rattle.session_owners.specs.ResourceState as ids
use Rattle.session_rules.specs.Checks.{holds_snapshot}
use Rattle.session_owners.specs.Counted.{holds_file}
use Rattle.session_owners.specs.Fitting as own
use Rattle.session_store.specs.Owned.{OwnersAlone}
use Rattle.session_store.proofs.Answered.{if_some, some_both, some_more}
use Rattle.session_store.proofs.Depths.{all_level, levels_long}
use Rattle.session_store.proofs.Lists.{all_both, all_left, all_mapped, all_reverse, first_map, first_reverse}
use Rattle.session_store.proofs.Named.{at_end}
use Rattle.session_store.proofs.Sums.{held_is}
use Rattle.session_store.proofs.Kept.{nowhere}
use Rattle.std.proofs.lemmas.Bool.Decides.{nat_tests}
use Rattle.std.proofs.Common.{arith}

-- The owners change. What is there was there, and lies where it lay, and no context of a plan comes.
pub record OwnersGo (a b : ResourceState) : Type 0 where
  pub had : (n : ℕ) → has n (owners_of b) ≡ true → has n (owners_of a) ≡ true
  pub stays : (n : ℕ) → has n (owners_of b) ≡ true → at n b.places ≡ at n a.places
  pub left : AreLeft a.plans.standing b.plans.standing

has_rooms : (n : ℕ) (table : ResourceState) → has n (owners_of table) ≡ has n table.rooms
has_rooms n table = mapped-has (λ (room : Roomy). room.owner) n table.rooms

owner_on : (a b : ResourceState) (id : OwnerId) → OwnersGo a b → OwnerLies a id → OwnerLies b id
owner_on a b id go lies there = grind (arith, nat_tests, id.number, has_rooms id.number b, go.stays, has_rooms id.number a, go.had)

owners_levels : (tree : TreeState) (a b : ResourceState) (levels : List Level) → OwnersGo a b → All (LevelLies tree a) levels → All (LevelLies tree b) levels
owners_levels tree a b levels go = grind (arith, nat_tests, some_more, owner_on)

pub portal_owners : (tree : TreeState) (a b : ResourceState) (portal : Portal) → OwnersGo a b → PortalLies tree a portal → PortalLies tree b portal
portal_owners tree a b portal go lies = record { context = lies.context; expr = lies.expr; owner = some_more portal.owner (λ id. owner_on a b id go) lies.owner; scan = lies.scan }

pub portals_owners : (tree : TreeState) (a b : ResourceState) (portals : List Portal) → OwnersGo a b → All (PortalLies tree a) portals → All (PortalLies tree b) portals
portals_owners tree a b portals go lies = All-weaker (PortalLies tree a) (PortalLies tree b) (λ portal. portal_owners tree a b portal go) portals lies

pub placed_owners : (tree : TreeState) (a b : ResourceState) (levels : List Level) (portals : List Portal) → IsPlaced tree a levels portals → OwnersGo a b → IsPlaced tree b levels portals
placed_owners tree a b levels portals placed go = record {
  current = placed.current;
  levels = owners_levels tree a b levels go placed.levels;
  plans = all_left (Lies tree) (contexts_of a.plans.standing) (contexts_of b.plans.standing) go.left placed.plans;
  portals = portals_owners tree a b portals go placed.portals;
}

-- nothing of the tree changes
pub keeps_owners : (a : StoreState) (b : ResourceState) (s : Space) → Keeps a s → Keeps (record a { owners = b }) s
keeps_owners a b s k = record { agrees = k.agrees; held = k.held ∙ held_is a s ∙ sym (held_is (record a { owners = b }) s) }

pub owners_alone : (a : StoreState) (b : ResourceState) (c d : CommonState) → OwnersGo a.owners b → Balances a.owners b c d → OwnersAlone a (record a { owners = b }) c d
owners_alone a b c d go balances = record {
  tree = refl;
  levels = refl;
  portals = refl;
  keeps = keeps_owners a b;
  balances = balances;
  stays = λ id live now. go.stays id.number now ∙ live;
}

-- an owner's data changes, all below it are released, it goes
plans_same : (a b : ResourceState) → b.plans ≡ a.plans → AreLeft a.plans.standing b.plans.standing
plans_same a b same = subst (λ (p : Plans). AreLeft a.plans.standing p.standing) (sym same) (λ id here. here)

pub go_same : (a b : ResourceState) → owners_of b ≡ owners_of a → b.places ≡ a.places → b.plans ≡ a.plans → OwnersGo a b
go_same a b same places plans = grind (arith, nat_tests, plans_same a b plans, at)

pub go_stack : (a b : ResourceState) → b ≡ record a { stack = b.stack } → OwnersGo a b
go_stack a b is = go_same a b (ap owners_of is) (ap (λ (r : ResourceState). r.places) is) (ap (λ (r : ResourceState). r.plans) is)

pub go_changed : (a b : ResourceState) (owner : ℕ) (f : Owner → Owner) → owners_of b ≡ changed owner f (owners_of a) → b.places ≡ a.places → AreLeft a.plans.standing b.plans.standing → OwnersGo a b
go_changed a b owner f is places left = grind (arith, nat_tests, has_changed, at)

-- the owners change, and no plan does
pub go_alone : (a b : ResourceState) (owner : ℕ) (f : Owner → Owner) → owners_of b ≡ changed owner f (owners_of a) → b.places ≡ a.places → b.plans ≡ a.plans → OwnersGo a b
go_alone a b owner f is places plans = go_changed a b owner f is places (plans_same a b plans)

-- where the call was answered, and where it was refused
pub go_answered : {A E : Type 0} (r : Result A E) (a b : ResourceState) (owner : ℕ) (f : Owner → Owner) → OnOk r (owners_of b ≡ changed owner f (owners_of a)) → OnErr r (b ≡ a) → b.places ≡ a.places → b.plans ≡ a.plans → OwnersGo a b
go_answered (Ok x) a b owner f is same places plans = go_alone a b owner f is places plans
go_answered (Err e) a b owner f is same places plans = go_same a b (ap owners_of same) places plans

-- the same, where references to plans change
pub go_left : {A E : Type 0} (r : Result A E) (a b : ResourceState) (owner : ℕ) (f : Owner → Owner) → OnOk r (owners_of b ≡ changed owner f (owners_of a)) → OnErr r (b ≡ a) → b.places ≡ a.places → AreLeft a.plans.standing b.plans.standing → OwnersGo a b
go_left x0 a b owner f is same places left = grind (arith, nat_tests, go_changed, go_same)

-- the owner of a level is there where the session stands
abbrev pub HasOwner : ResourceState → Level → Type 0
HasOwner table level = IfSome level.owner (λ id. has id.number (owners_of table) ≡ true)

owner_there : (table : ResourceState) (o : Option OwnerId) → ((n : ℕ) → option_map (λ (id : OwnerId). id.number) o ≡ Some n → has n (owners_of table) ≡ true) → IfSome o (λ id. has id.number (owners_of table) ≡ true)
owner_there table o there = if_some o (λ id e. there id.number (ap (option_map (λ (i : OwnerId). i.number)) e))

pub owners_there : (contexts : Contexts) (table : ResourceState) (levels : List Level) → AreLevels (map level_state levels) contexts (owners_of table) → All (HasOwner table) levels
owners_there contexts table [] h = All-nil (HasOwner table)
owners_there contexts table (level ∷ levels) h = grind (arith, nat_tests, All-cons, owner_there, level.owner, h.0.owner, owners_there contexts table levels h.1, h.1)

pub have_owners : (a : StoreState) (s : Space) (x : ShelfState) (commons : CommonState) → StandsIn a s x commons → All (HasOwner a.owners) a.levels
unfolding session_of
have_owners a s x commons stands =
    let h : Stands (scene_of a s x commons nowhere) = stands nowhere in
    all_reverse (HasOwner a.owners) a.levels (owners_there (stands_for a.tree s) a.owners (reverse a.levels) h.levels)

-- the owner of a portal is there where the session stands
abbrev pub HasPortalOwner : ResourceState → Portal → Type 0
HasPortalOwner table portal = IfSome portal.owner (λ id. has id.number (owners_of table) ≡ true)

pub portal_owners_there : (levels : List LevelState) (contexts : Contexts) (table : ResourceState) (current : ℕ) (portals : List Portal) → All (λ p. IsPortal p levels contexts (owners_of table) current) (portals_of portals) → All (HasPortalOwner table) portals
portal_owners_there levels contexts table current portals =
    all_mapped portal_state (λ p. IsPortal p levels contexts (owners_of table) current) (HasPortalOwner table) (λ portal is. owner_there table portal.owner (λ n e. (is.owner n e).there)) portals

pub have_portal_owners : (a : StoreState) (s : Space) (x : ShelfState) (commons : CommonState) → StandsIn a s x commons → All (HasPortalOwner a.owners) a.portals
unfolding session_of
have_portal_owners a s x commons stands =
    let h : Stands (scene_of a s x commons nowhere) = stands nowhere in
    portal_owners_there (levels_of a.levels) (stands_for a.tree s) a.owners a.tree.current.number a.portals h.portals.each

-- the owners of portals lie on where all that lay do
pub portals_kept : (tree : TreeState) (a b : ResourceState) (portals : List Portal) → ((id : OwnerId) → ids.IsLive a id → ids.IsLive b id) → All (PortalLies tree a) portals → All (HasPortalOwner a) portals → All (PortalLies tree b) portals
portals_kept tree a b portals on = grind (arith, nat_tests, all_both, some_both, has_rooms)

pub level_owner_live : (tree : TreeState) (table : ResourceState) (levels : List Level) (portals : List Portal) (n : ℕ) (level : Level) → IsPlaced tree table levels portals → All (HasOwner table) levels → level_at levels n ≡ Some level → IfSome level.owner (ids.IsLive table)
level_owner_live tree table levels portals n level placed there e = grind (arith, nat_tests, all_level (LevelLies tree table) levels n level placed.levels e, placed.levels, some_both, level.owner, has_rooms, all_level (HasOwner table) levels n level there e)

-- the store's owners are those of each scene of it
pub owners_fit : (a : StoreState) (s : Space) (x : ShelfState) (commons : CommonState) (around : Around) → OwnersFit a.owners commons (scene_of a s x commons around)
unfolding session_of
owners_fit a s x commons around = record { owners = refl; next_owner = refl; next_serial = refl; recent = refl; descriptors = refl; kinds = refl; locked = refl; pinned = refl; locks = refl; snapshots = refl; plans = refl }

-- an act on owners
pub owners_acted : (act : Scene → Ended) (a : StoreState) (b : ResourceState) (s : Space) (x : ShelfState) (c d : CommonState) (Said : List What → Type 0) → own.Acted act a.owners b c d Said → Balances a.owners b c d → Acted act a (record a { owners = b }) s s x x c d Said
unfolding session_of
owners_acted act a b s x c d Said h balances = record {
  leads = λ around. h.leads (scene_of a s x c around) (owners_fit a s x c around);
  says = λ around. h.says (scene_of a s x c around) (owners_fit a s x c around);
  balances = balances;
}

-- an act that is another one at the store's scenes
pub acted_as : (act other : Scene → Ended) (a b : StoreState) (s t : Space) (x y : ShelfState) (c d : CommonState) (Said : List What → Type 0)
    → ((around : Around) → act (scene_of a s x c around) ≡ other (scene_of a s x c around)) → Acted act a b s t x y c d Said → Acted other a b s t x y c d Said
acted_as act other a b s t x y c d Said same h = record {
  leads = λ around. ap (λ (e : Ended). e.scene) (sym (same around)) ∙ h.leads around;
  says = λ around. subst (λ (e : Ended). Said e.events) (same around) (h.says around);
  balances = h.balances;
}

-- a call on the owners was refused
pub refused_owners : (a : StoreState) (b : ResourceState) (s : Space) (x : ShelfState) (commons : CommonState) → b ≡ a.owners → Refused a (record a { owners = b }) s s x x commons commons
refused_owners a b s x commons same = record {
  store = ap (λ (z : ResourceState). record a { owners = z }) same;
  shelf = refl;
  commons = refl;
  session = ap (λ (z : ResourceState). session_of (record a { owners = z }) s) same;
  limit = refl;
}

-- the deepest level by its place
pub deepest_is : (levels : List Level) → first_of (levels_of levels) ≡ option_map level_state (level_at levels (length levels))
deepest_is [] = refl
deepest_is (level ∷ levels) = first_map level_state _ ∙ ap (option_map level_state) (first_reverse level levels ∙ at_end level levels)

-- the owner of a level by its number
pub owner_number : (o : Option Level) → owner_of (option_map level_state o) ≡ option_map (λ (id : OwnerId). id.number) (option_and_then (λ (found : Level). found.owner) o)
owner_number x0 = grind (arith, nat_tests)

-- the owners' room is no matter
pub same_session : (a : StoreState) (b : ResourceState) (s : Space) → owners_of b ≡ owners_of a.owners → b.next_owner ≡ a.owners.next_owner → b.next_serial ≡ a.owners.next_serial → b.recent ≡ a.owners.recent → b.locks ≡ a.owners.locks → b.stack ≡ a.owners.stack → b.plans ≡ a.owners.plans
    → session_of (record a { owners = b }) s ≡ session_of a s
unfolding session_of
same_session a b s p q r f l k m = grind (arith, nat_tests, b.next_owner, b.next_serial, b.recent, b.locks, b.stack)

-- only the owners' room is another one
pub room_acted : (a : StoreState) (b : ResourceState) (s : Space) (x : ShelfState) (commons : CommonState) → session_of (record a { owners = b }) s ≡ session_of a s → b.descriptors ≡ a.owners.descriptors → Balances a.owners b commons commons
    → Acted nothing a (record a { owners = b }) s s x x commons commons IsSilent
unfolding session_of
room_acted a b s x commons session descriptors balances = record {
  leads = λ around.
      ap (λ (z : SessionState). record { session = z; around = record (seen_by a.owners commons around) { shelf = x; space = s.limit; descriptors = a.owners.descriptors } }) (sym session)
      ∙ ap (λ (n : ℕ). record { session = session_of (record a { owners = b }) s; around = record (seen_by a.owners commons around) { shelf = x; space = s.limit; descriptors = n } }) (sym descriptors)
      ∙ ap (λ (n : ℕ). record { session = session_of (record a { owners = b }) s; around = record around { kinds = commons.kinds; locked = beside n commons.locks; pinned = pinned_beside (owners_of a.owners) commons.pins; shelf = x; space = s.limit; descriptors = b.descriptors } }) (sym balances.locks.session)
      ∙ ap (λ (z : SessionState). record { session = session_of (record a { owners = b }) s; around = record around { kinds = commons.kinds; locked = beside b.session commons.locks; pinned = pinned_beside z.owners commons.pins; shelf = x; space = s.limit; descriptors = b.descriptors } }) (sym session);
  says = λ around. refl;
  balances = balances;
}

module _ (tree : TreeState) (owners : ResourceState) (levels : List Level) (portals : List Portal) (v : StoreState) (is : record { tree = tree; owners = owners; levels = levels; portals = portals } ≡ v) where
  -- what is known of the value, of the field
  pub owner_in : (id : OwnerId) → ids.IsLive v.owners id → ids.IsLive owners id
  owner_in id live = subst (λ (a : StoreState). ids.IsLive a.owners id) (sym is) live

  pub owners_after : (act : Scene → Ended) (b : ResourceState) (s : Space) (x : ShelfState) (c d : CommonState) (Said : List What → Type 0) → own.Acted act owners b c d Said → Balances owners b c d → Acted act v (record { tree = tree; owners = b; levels = levels; portals = portals }) s s x x c d Said
  owners_after act b s x c d Said h balances =
      subst (λ (a : StoreState). Acted act a (record { tree = tree; owners = b; levels = levels; portals = portals }) s s x x c d Said) is (owners_acted act (record { tree = tree; owners = owners; levels = levels; portals = portals }) b s x c d Said h balances)

  -- a snapshot is pushed at the deepest level
  pub pushed_after : (b : ResourceState) (level snapshot : ℕ) (s : Space) (x : ShelfState) (commons : CommonState) (Said : List What → Type 0) → level ≡ length levels → own.Acted (pushed_at level snapshot) owners b commons commons Said → Balances owners b commons commons
      → Acted (snapshot_pushed snapshot) v (record { tree = tree; owners = b; levels = levels; portals = portals }) s s x x commons commons Said
  unfolding session_of
  pushed_after b level snapshot s x commons Said deepest h balances =
      let a : StoreState = record { tree = tree; owners = owners; levels = levels; portals = portals } in
      subst (λ (z : StoreState). Acted (snapshot_pushed snapshot) z (record { tree = tree; owners = b; levels = levels; portals = portals }) s s x x commons commons Said) is
      (acted_as (pushed_at level snapshot) (snapshot_pushed snapshot) a (record a { owners = b }) s s x x commons commons Said
      (λ around. ap (λ (n : ℕ). pushed_at n snapshot (scene_of a s x commons around)) (deepest ∙ sym (levels_long levels)))
      (owners_acted (pushed_at level snapshot) a b s x commons commons Said h balances))

  -- the newest active snapshot is of the deepest level
  pub held_at : {A E : Type 0} (level : ℕ) (s : Space) (r : Result A E) → level ≡ length levels → IsErr r ↔ (option_map_or (λ entry. entry.level == level) (last_of owners.stack) false ≡ false) → IsErr r ↔ (holds_snapshot (session_of v s) ≡ false)
  unfolding session_of
  held_at level s r deepest h = grind (arith, nat_tests, levels_long levels)

  pub refused_after : (b : ResourceState) (s : Space) (x : ShelfState) (commons : CommonState) → b ≡ owners → Refused v (record { tree = tree; owners = b; levels = levels; portals = portals }) s s x x commons commons
  refused_after b s x commons same =
      subst (λ (a : StoreState). Refused a (record { tree = tree; owners = b; levels = levels; portals = portals }) s s x x commons commons) is (refused_owners (record { tree = tree; owners = owners; levels = levels; portals = portals }) b s x commons same)

  pub owners_alone_after : (b : ResourceState) (c d : CommonState) → OwnersGo owners b → Balances owners b c d → OwnersAlone v (record { tree = tree; owners = b; levels = levels; portals = portals }) c d
  owners_alone_after b c d go balances =
      subst (λ (a : StoreState). OwnersAlone a (record { tree = tree; owners = b; levels = levels; portals = portals }) c d) is (owners_alone (record { tree = tree; owners = owners; levels = levels; portals = portals }) b c d go balances)

-- a session holds a file where its owners do
pub file_held : (a : StoreState) (file : ℕ) (s : Space) → holds_file file (owners_of a.owners) ≡ holds file_kind file (session_of a s)
unfolding session_of
file_held a file s = refl
