-- What calls make of a store, its space, the shelf of hooks and the commons of the run.
use Rattle.std.specs.Prelude.{◌≡◌, ◌≢◌, true, List, []}
use Rattle.pgs_step.specs.declared.ids.CtxId.{CtxId}
use Rattle.pgs_step.specs.declared.ids.OwnerId.{OwnerId}
use Rattle.pgs_step.specs.declared.events.What.{What}
use Rattle.addr_space.specs.Space.{Space, held}
use Rattle.forest.specs.Forest.{has}
use Rattle.reset_callbacks.specs.ShelfState.{ShelfState}
use Rattle.context_tree.specs.State.{Agrees, IsLive, Moves, TreeState}
use Rattle.session_rules.specs.World.{Around, Scene}
use Rattle.session_rules.specs.Acts.{Ended}
use Rattle.session_rules.specs.Standing.{Stands}
use Rattle.session_owners.specs.ResourceState as owners
use Rattle.session_owners.specs.ResourceState.{owners_of}
use Rattle.session_owners.specs.Commons.{Balances, CommonState}
use Rattle.session_store.specs.State.{StoreState, contexts_in, held_in, scene_of, session_of}

-- The space has what the contexts have in it, and what the account holds are their blocks.
pub record Keeps (store : StoreState) (s : Space) : Type 0 where
  pub agrees : Agrees store.tree s
  pub held : held s store.tree.account ≡ held_in store s

-- While a tree of another account moves in the same space, the space keeps what the store has in it, and store and space stand for
-- the same session.
abbrev pub StaysBeside : StoreState → Type 0
StaysBeside store =
    (a b : TreeState) (s t : Space) → Moves a b s t → Agrees a s → Keeps store s → a.account ≢ store.tree.account
    → Keeps store t × (session_of store t ≡ session_of store s)

-- the session stands in any surroundings with this shelf and these commons
abbrev pub StandsIn : StoreState → Space → ShelfState → CommonState → Type 0
StandsIn store s x c = (around : Around) → Stands (scene_of store s x c around)

-- An act led from one store, space, shelf and commons to others, in any surroundings, what it said is so, and the commons are in balance.
pub record Acted (act : Scene → Ended) (a b : StoreState) (s t : Space) (x y : ShelfState) (c d : CommonState) (Said : List What → Type 0) : Type 0 where
  pub leads : (around : Around) → (act (scene_of a s x c around)).scene ≡ scene_of b t y d around
  pub says : (around : Around) → Said (act (scene_of a s x c around)).events
  pub balances : Balances a.owners b.owners c d

-- nothing was said
abbrev pub IsSilent : List What → Type 0
IsSilent events = events ≡ []

-- Of a store the contexts changed and nothing else: the space has what they have, it keeps what isn't theirs, and what is there still
-- lies where it did.
pub record ContextsAlone (a b : StoreState) (s t : Space) (c d : CommonState) : Type 0 where
  pub keeps : Keeps b t
  pub moves : Moves a.tree b.tree s t
  pub owners : b.owners ≡ a.owners
  pub commons : d ≡ c
  pub levels : b.levels ≡ a.levels
  pub portals : b.portals ≡ a.portals
  pub stays : (id : CtxId) → IsLive a.tree id → has id.number (contexts_in a s) ≡ true → has id.number (contexts_in b t) ≡ true → IsLive b.tree id

-- Contexts and owners changed and nothing else of a store: the space has what the contexts have, it keeps what isn't theirs, the commons are
-- in balance, and what is there still lies where it did.
pub record BothAlone (a b : StoreState) (s t : Space) (c d : CommonState) : Type 0 where
  pub keeps : Keeps b t
  pub moves : Moves a.tree b.tree s t
  pub balances : Balances a.owners b.owners c d
  pub levels : b.levels ≡ a.levels
  pub portals : b.portals ≡ a.portals
  pub stays : (id : CtxId) → IsLive a.tree id → has id.number (contexts_in a s) ≡ true → has id.number (contexts_in b t) ≡ true → IsLive b.tree id
  pub owner_stays : (id : OwnerId) → owners.IsLive a.owners id → has id.number (owners_of b.owners) ≡ true → owners.IsLive b.owners id

-- Of a store the portals changed and nothing else.
pub record PortalsAlone (a b : StoreState) : Type 0 where
  pub tree : b.tree ≡ a.tree
  pub owners : b.owners ≡ a.owners
  pub levels : b.levels ≡ a.levels

-- The call was refused: the store, the shelf and the commons are as they were, and the session is.
pub record Refused (a b : StoreState) (s t : Space) (x y : ShelfState) (c d : CommonState) : Type 0 where
  pub store : b ≡ a
  pub shelf : y ≡ x
  pub commons : d ≡ c
  pub session : session_of b t ≡ session_of a s
  pub limit : t.limit ≡ s.limit

-- No plan was made: the same, but for the number for which room is reserved.
pub record Unmade (a b : StoreState) (s t : Space) (x y : ShelfState) (c d : CommonState) : Type 0 where
  pub store : b ≡ record a { owners = record a.owners { plans = record a.owners.plans { reserved = b.owners.plans.reserved } } }
  pub shelf : y ≡ x
  pub commons : d ≡ c
  pub session : session_of b t ≡ session_of a s
  pub limit : t.limit ≡ s.limit
