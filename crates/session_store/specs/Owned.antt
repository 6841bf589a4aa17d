-- What calls on a store's owners make of it.
use Rattle.std.specs.Prelude.{◌≡◌, true}
use Rattle.addr_space.specs.Space.{Space}
use Rattle.forest.specs.Forest.{has}
use Rattle.pgs_step.specs.declared.ids.OwnerId.{OwnerId}
use Rattle.session_owners.specs.ResourceState as owners
use Rattle.session_owners.specs.ResourceState.{owners_of}
use Rattle.session_owners.specs.Commons.{Balances, CommonState}
use Rattle.session_store.specs.State.{StoreState}
use Rattle.session_store.specs.Calls.{Keeps}

-- Of a store the owners changed and nothing else but the commons, which are in balance, and what is there still lies where it did.
pub record OwnersAlone (a b : StoreState) (c d : CommonState) : Type 0 where
  pub tree : b.tree ≡ a.tree
  pub levels : b.levels ≡ a.levels
  pub portals : b.portals ≡ a.portals
  pub keeps : (s : Space) → Keeps a s → Keeps b s
  pub balances : Balances a.owners b.owners c d
  pub stays : (id : OwnerId) → owners.IsLive a.owners id → has id.number (owners_of b.owners) ≡ true → owners.IsLive b.owners id
