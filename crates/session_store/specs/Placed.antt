-- Where the contexts and the owners lie that a store names, and whether they are there.
use Rattle.std.specs.Prelude.{◌≡◌, true, List, All, IfSome}
use Rattle.pgs_step.specs.declared.ids.CtxId.{CtxId}
use Rattle.pgs_step.specs.declared.ids.OwnerId.{OwnerId}
use Rattle.forest.specs.Forest.{has}
use Rattle.context_tree.specs.State.{TreeState, IsLive}
use Rattle.session_owners.specs.ResourceState as owners
use Rattle.session_owners.specs.ResourceState.{ResourceState}
use Rattle.session_owners.specs.Fitting.{contexts_of}
use Rattle.subxact_stack.specs.declared.levels.Level.{Level}
use Rattle.exec_core.specs.Turn.{IsScan}
use Rattle.portal_store.specs.declared.portal.Portal.{Portal}
use Rattle.session_rules.specs.State.{top_context}

-- a context, and an owner, lies where its id says, if it is there
abbrev pub Lies : TreeState → CtxId → Type 0
Lies tree id = has id.number tree.kept ≡ true → IsLive tree id

abbrev pub OwnerLies : ResourceState → OwnerId → Type 0
OwnerLies table id = has id.number table.rooms ≡ true → owners.IsLive table id

-- a level's do, once they are made
pub record LevelLies (tree : TreeState) (table : ResourceState) (level : Level) : Type 0 where
  pub context : IfSome level.context (Lies tree)
  pub owner : IfSome level.owner (OwnerLies table)

-- a portal's do, once they are made, and its scan is as its calls leave it
pub record PortalLies (tree : TreeState) (table : ResourceState) (portal : Portal) : Type 0 where
  pub context : IfSome portal.context (Lies tree)
  pub expr : IfSome portal.expr (Lies tree)
  pub owner : IfSome portal.owner (OwnerLies table)
  pub scan : IsScan portal.scan

-- What the store names lies where its id says: the current context, what the levels and the portals have, and the contexts of plans.
pub record IsPlaced (tree : TreeState) (table : ResourceState) (list : List Level) (queries : List Portal) : Type 0 where
  pub current : Lies tree tree.current
  pub levels : All (LevelLies tree table) list
  pub plans : All (Lies tree) (contexts_of table.plans.standing)
  pub portals : All (PortalLies tree table) queries

-- the context of a level, once it is made, is there
abbrev pub IsThere : TreeState → Level → Type 0
IsThere tree level = IfSome level.context (λ id. has id.number tree.kept ≡ true)

-- The topmost context is there, and so is that of each level, once it is made.
pub record HasLevels (tree : TreeState) (list : List Level) : Type 0 where
  pub top : has top_context tree.kept ≡ true
  pub levels : All (IsThere tree) list
