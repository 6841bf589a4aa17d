-- The ends of levels in parts.
use Rattle.std.specs.Prelude.{◌≡◌, if◌then◌else◌, ℕ, Bool, true, [], ◌∷◌, drop, All, Option, Some}
use Rattle.addr_space.specs.Space.{Space}
use Rattle.forest.specs.Forest.{has}
use Rattle.pgs_step.specs.declared.ids.CtxId.{CtxId}
use Rattle.reset_callbacks.specs.ShelfState.{ShelfState}
use Rattle.context_rules.specs.Contexts.{Contexts}
use Rattle.session_owners.specs.ResourceState.{AllAt, HoldsNothing, owners_of}
use Rattle.session_owners.specs.Placing.{contexts_of}
use Rattle.session_rules.specs.State.{is_aborted, level_owner}
use Rattle.session_rules.specs.World.{Scene}
use Rattle.session_rules.specs.Acts.{Ended, in_order}
use Rattle.session_rules.specs.Ends.{empty_context_gone, level_context_gone, level_owner_gone, level_popped, switched_up}
use Rattle.session_rules.specs.Standing.{AreContexts, AreHooks, AreLevels, AreOuter}
use Rattle.session_owners.specs.Commons.{CommonState}
use Rattle.session_store.specs.State.{StoreState, contexts_in, levels_of, only_empty, portals_of, session_of}
use Rattle.session_ends.specs.Portals.{IsEnding, above_left}

-- The deepest level may be left, whose owner holds nothing: the contexts, the hooks and the levels are in order, and the contexts of plans are
-- there.
pub record MayLeave (store : StoreState) (s : Space) (x : ShelfState) : Type 0 where
  pub contexts : AreContexts (contexts_in store s) store.tree.next
  pub hooks : AreHooks (contexts_in store s) x
  pub levels : AreLevels (levels_of store.levels) (contexts_in store s) (owners_of store.owners)
  pub outer : AreOuter (drop 1 (levels_of store.levels))
  pub plans : All (λ (id : CtxId). has id.number store.tree.kept ≡ true) (contexts_of store.owners.plans.standing)
  pub idle : (n : ℕ) → level_owner (session_of store s) ≡ Some n → AllAt HoldsNothing n (owners_of store.owners)

-- The deepest level is aborted and may be cleaned up: its portals are still to be dealt with, and its owner holds nothing.
pub record IsFreed (store : StoreState) (s : Space) (x : ShelfState) : Type 0 where
  pub commons : CommonState
  pub ending : IsEnding above_left store s x commons (portals_of store.portals)
  pub aborted : is_aborted (levels_of store.levels) ≡ true
  pub idle : (n : ℕ) → level_owner (session_of store s) ≡ Some n → AllAt HoldsNothing n (owners_of store.owners)

-- the context of a level that is left, which stays where the level is merged into the one above it and the context was used
abbrev pub context_left : Bool → Scene → Ended
context_left merged scene = if merged then empty_context_gone scene else level_context_gone scene

abbrev pub going : Bool → Option CtxId → Contexts → Option CtxId
going merged context contexts = if merged then only_empty context contexts else context

-- the deepest level is left behind the release of its owner
abbrev pub level_left : Bool → Scene → Ended
level_left merged scene = in_order (level_owner_gone ∷ switched_up ∷ context_left merged ∷ level_popped ∷ []) scene
