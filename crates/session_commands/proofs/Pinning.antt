-- Room for an item, the owner that takes it, and the check of a buffer.
use Rattle.session_commands.proofs.Base.{◌≡◌, ℕ, ◌<◌, ◌≤◌, true, false, List, [], ◌∷◌, Option, Some, None, refl, ◌∙◌, ap, arith, nat_tests, nat_lt}
use Rattle.session_commands.proofs.Words.{Error, NoSuchBuffer, What, OwnerId, Space, has, has_begun, owners_of, LevelState, SessionState, buffer_pin, level_owner, Moment, Scene, nothing, OfLevel, OwnerRole, fallible, failure, does, owner_in, StoreState, levels_of, session_of, Keeps, IsWorking, IsOwnerOf, Now, IsBetweenSteps, Performed, most_calls, scene_in}
use Rattle.session_rules.specs.Elements as element
use Rattle.session_rules.proofs.LevelsKept.{is_there}
use Rattle.session_rules.proofs.Standings.{not_begun}
use Rattle.session_rules.proofs.StepsStand.{settled_as}
use Rattle.session_commands.proofs.Commands.{fails, passes}
use Rattle.session_commands.proofs.Standing.{empty_around}
use Rattle.session_commands.proofs.Stepping.{Call}

pub does_enlarge : (role : OwnerRole) (w : Option ℕ) (m : Moment) → does w (element.Enlarge role) m ≡ fallible w m None nothing
unfolding does
does_enlarge role w m = refl

-- an owner gets room for an item
abbrev pub enlarge : OwnerRole → Call
enlarge role = record {
  step = element.Enlarge role;
  own = λ _. None;
  act = nothing;
  is = does_enlarge role;
  rises = λ s. record { contexts = omega arith; owners = omega arith; serials = omega arith; descriptors = refl };
  quiet = λ s. refl;
}

-- a space without anything in it
pub empty_space : Space
empty_space = record { regions = []; taken = []; limit = 0 }

-- The deepest level, which is active, has an owner.
pub active_owner : (store : StoreState) → IsWorking (levels_of store.levels) → (s : Space) → (n : ℕ) × (level_owner (session_of store s) ≡ Some n)
unfolding session_of
active_owner store active s = grind (arith, nat_tests, store.levels, is_there)

pub owner_known : (store : StoreState) → IsWorking (levels_of store.levels) → ((s : Space) → None ≡ level_owner (session_of store s)) → ⊥
owner_known store active none = grind (arith, nat_tests, active_owner store active empty_space)

-- Its owner is there, and its release hasn't begun.
module _ (a : Now) (h : IsBetweenSteps a) (active : IsWorking (levels_of a.store.levels)) where
  pub owner_unbegun : (n : ℕ) → has_begun n (owners_of a.store.owners) ≡ false
  unfolding session_of
  owner_unbegun n = go (levels_of a.store.levels) refl active
    where
      go : (ls : List LevelState) → levels_of a.store.levels ≡ ls → IsWorking ls → has_begun n (owners_of a.store.owners) ≡ false
      go [] is w = absurd w
      go (level ∷ ls) is w =
          settled_as (λ (z : Scene). has_begun n z.session.owners ≡ false) (scene_in a empty_around) (level ∷ ls) (h.stands empty_around) is
          (λ k. not_begun level ls (scene_in a empty_around) n k w.unaborted)

  pub owner_there : (n : ℕ) → level_owner (session_of a.store a.space) ≡ Some n → has n (owners_of a.store.owners) ≡ true
  unfolding session_of
  owner_there n owner = go (levels_of a.store.levels) refl owner
    where
      go : (ls : List LevelState) → levels_of a.store.levels ≡ ls → level_owner (record (session_of a.store a.space) { levels = ls }) ≡ Some n → has n (owners_of a.store.owners) ≡ true
      go [] is e = absurd (cc e)
      go (level ∷ ls) is e =
          settled_as (λ (z : Scene). has n z.session.owners ≡ true) (scene_in a empty_around) (level ∷ ls) (h.stands empty_around) is (λ k. (k.levels.0.owner n e).there)

-- what the owner and its session are behind the room that was made
module _ (a b : StoreState) (s : Space) (same : session_of b s ≡ session_of a s) where
  pub owners_same : owners_of b.owners ≡ owners_of a.owners
  unfolding session_of
  owners_same = ap (λ (z : SessionState). z.owners) same

-- an owner of a role is that of it in the same session
pub still_owner : (role : OwnerRole) (owner : OwnerId) (a b : StoreState) → IsOwnerOf role a owner → ((s : Space) → session_of b s ≡ session_of a s) → IsOwnerOf role b owner
still_owner role owner a b is same s = ap (owner_in role) (same s) ∙ is s

-- the check of a buffer
pub buffer_passes : (buffer : ℕ) (scene : Scene) → buffer < 1024 → failure (element.IsBuffer buffer) scene ≡ None
buffer_passes buffer scene less = let e : nat_lt buffer 1024 ≡ true = grind (arith, nat_tests) in rw e refl

pub buffer_fails : (buffer : ℕ) (scene : Scene) → 1024 ≤ buffer → failure (element.IsBuffer buffer) scene ≡ Some NoSuchBuffer
buffer_fails buffer scene more = let e : nat_lt buffer 1024 ≡ false = grind (arith, nat_tests) in rw e refl

-- the buffer is there, and what comes behind the check
module _ (buffer : ℕ) (a : Now) (keeps : Keeps a.store a.space) where
  pub no_buffer : (P : List What → Type 0) → P [] → 1024 ≤ buffer
      → Performed most_calls (element.Checks (element.IsBuffer buffer) ∷ element.Enlarge OfLevel ∷ element.Take OfLevel buffer_pin buffer ∷ []) a a P (Some NoSuchBuffer)
  no_buffer P silent more =
      fails most_calls (element.IsBuffer buffer) _ a P NoSuchBuffer keeps silent refl (λ around. buffer_fails buffer (scene_in a around) more)

  pub pinned : buffer < 1024 → (b : Now) (P : List What → Type 0) (r : Option Error) → Performed 2 (element.Enlarge OfLevel ∷ element.Take OfLevel buffer_pin buffer ∷ []) a b P r
      → Performed most_calls (element.Checks (element.IsBuffer buffer) ∷ element.Enlarge OfLevel ∷ element.Take OfLevel buffer_pin buffer ∷ []) a b P r
  pinned less b P r x = passes most_calls (element.IsBuffer buffer) _ a b P r keeps (λ around. buffer_passes buffer (scene_in a around) less) x
