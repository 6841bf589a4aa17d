-- What the sessions of a run share of resources, and how what one session holds of it stands to it.
use Rattle.std.specs.Prelude.{◌≡◌, ℕ, ◌+◌, ◌-◌, ◌≤◌, ◌^◌, Bool, if◌then◌else◌, List, map, slice_index}
use Rattle.std.specs.List.{list_any}
use Rattle.lock_shared.specs.declared.shared_locks.Holding.{Holding}
use Rattle.lock_shared.specs.Ranked.{beside}
use Rattle.lock_local.specs.Locks.{SessionLocks, AreLocks, Agrees, OthersStay}
use Rattle.pgs_step.specs.declared.ids.KindId.{KindId}
use Rattle.pgs_step.specs.declared.ids.TheConstants.KindId.{FIRST_EXTENSION}
use Rattle.forest.specs.Forest.{AllNodes}
use Rattle.owner_kinds.specs.Kind.{Kind}
use Rattle.owner_kinds.specs.KindTable.{IsSound}
use Rattle.owner_kinds.specs.KindShelf.{table_of, times_held}
use Rattle.owner_items.specs.ItemList.{is_of}
use Rattle.owner_core.specs.Owners.{OwnerTree, held}
use Rattle.session_rules.specs.Standing.{HasItems}
use Rattle.session_rules.specs.State.{buffer_pin}
use Rattle.session_rules.specs.Counts.{all_items}
use Rattle.session_rules.specs.World.{Around, for_buffers}
use Rattle.session_owners.specs.ResourceState.{ResourceState, locks_of, owners_of}

-- the extension kinds with the keys that they hold, who holds which lock, and how many sessions pin each buffer, that of buffer 0 first
pub record CommonState : Type 0 where
  pub kinds : List Kind
  pub locks : List Holding
  pub pins : List ℕ

-- whether owners hold a pin of a buffer, and how many sessions that makes
abbrev pub pins_buffer : ℕ → OwnerTree → Bool
pins_buffer buffer owners = list_any (is_of buffer_pin buffer) (all_items owners)

abbrev pub pinned_once : ℕ → OwnerTree → ℕ
pinned_once buffer owners = if pins_buffer buffer owners then 1 else 0

-- how many sessions pin each buffer beside the one that has these owners
abbrev pub pinned_beside : OwnerTree → List ℕ → List ℕ
pinned_beside owners pins = for_buffers (λ buffer. slice_index pins buffer - pinned_once buffer owners)

-- what surrounds a session that has these owners, as far as the commons show it
abbrev pub seen_by : ResourceState → CommonState → Around → Around
seen_by state commons around = record around {
  kinds = commons.kinds;
  locked = beside state.session commons.locks;
  pinned = pinned_beside (owners_of state) commons.pins;
}

-- What one session did to its locks, from a to b, and to what all sessions hold, from c to d: what is held for it is just what it
-- holds where that was so before, its locks are in order where they were, and what the others hold is as it was.
pub record LocksBalance (a b : SessionLocks) (c d : List Holding) : Type 0 where
  pub session : b.session ≡ a.session
  pub agrees : Agrees a c → Agrees b d
  pub in_order : AreLocks a.locks → AreLocks b.locks
  pub others : OthersStay a.session c d

-- A buffer that the owners pin is counted for their session, and not too many others pin any.
pub record PinsServe (owners : OwnerTree) (pins : List ℕ) : Type 0 where
  pub own : (buffer : ℕ) → pinned_once buffer owners ≤ slice_index pins buffer
  pub few : (buffer : ℕ) → slice_index pins buffer ≤ 2 ^ 31 + pinned_once buffer owners

-- The kinds are sound, each item of the owners is of one of them or built in, the kinds hold at least what the owners hold, just
-- the session's locks are held for it, which are in order, and each buffer that it pins is counted for it.
pub record Serves (state : ResourceState) (commons : CommonState) : Type 0 where
  pub sound : IsSound (table_of commons.kinds)
  pub items : AllNodes (HasItems (table_of commons.kinds)) (owners_of state)
  pub held : (kind : KindId) (key : ℕ) → FIRST_EXTENSION ≤ kind.0 → held kind key (owners_of state) ≤ times_held commons.kinds kind key
  pub agrees : Agrees (locks_of state) commons.locks
  pub locks : AreLocks state.locks
  pub pins : PinsServe (owners_of state) commons.pins

-- What one session did to its owners, from a to b, and to the commons, from c to d, leaves the balance as it was: beyond what this
-- session's owners hold each kind holds each key as often as before, the others hold the locks that they held, and as many others pin
-- each buffer. What never changes of the kinds is as it was.
pub record Balances (a b : ResourceState) (c d : CommonState) : Type 0 where
  pub table : table_of d.kinds ≡ table_of c.kinds
  pub limits : map (λ k. k.limit) d.kinds ≡ map (λ k. k.limit) c.kinds
  pub items : AllNodes (HasItems (table_of c.kinds)) (owners_of a) → AllNodes (HasItems (table_of d.kinds)) (owners_of b)
  pub held : (kind : KindId) (key : ℕ) → FIRST_EXTENSION ≤ kind.0 → times_held d.kinds kind key + held kind key (owners_of a) ≡ times_held c.kinds kind key + held kind key (owners_of b)
  pub locks : LocksBalance (locks_of a) (locks_of b) c.locks d.locks
  pub pins : (buffer : ℕ) → slice_index d.pins buffer + pinned_once buffer (owners_of a) ≡ slice_index c.pins buffer + pinned_once buffer (owners_of b)
