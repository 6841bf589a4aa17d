-- The steps by which the deepest level's owner takes a lock and gives one back.
use Rattle.session_commands.proofs.Base.{◌≡◌, ◌↔◌, ℕ, ◌+◌, ◌==◌, Bool, true, false, List, [], ◌∷◌, Option, Some, None, Result, Ok, Err, refl, sym, ◌∙◌, ap, subst, arith, option_map, option_map_or, IsErrOf, IsOkUnless, nat_lt, nat_tests}
use Rattle.session_commands.proofs.Words.{Error, LockHeld, NoMemory, What, OwnerId, Space, ResourceState, Around, Moment, Scene, Ended, where_there, OfLevel, OwnerRole, owner_in, fallible, unfailing, lock_count, unless, does, at_owner, lock_given_back, lock_refused, lock_taken, StoreState, session_of, Acted, Keeps, IsLevelOwner, IsOwnerOf, Now, Performed, most_calls, scene_in}
use Rattle.pgs_step.specs.declared.errors.Error.TheVariants as error
use Rattle.pgs_step.specs.declared.lock_modes.Mode.{Mode}
use Rattle.lock_shared.specs.Ranked.{beside, least_conflict}
use Rattle.lock_local.specs.declared.errors.LockError.{LockError}
use Rattle.lock_local.specs.declared.errors.LockError.TheVariants.{Conflict, Memory, NotHeld}
use Rattle.lock_local.specs.Locks.{Lock, count_of}
use Rattle.session_rules.specs.Elements as element
use Rattle.session_commands.proofs.Commands.{fails, passes, unchanged}
use Rattle.session_commands.proofs.Performing.{performed_end}
use Rattle.session_commands.proofs.Stepping.{Call, Rises, call_done, call_refused, call_wants, lent, moves_same, still_keeps, still_moves, still_refused}

abbrev takes_lock : OwnerRole → ℕ → Mode → Scene → Ended
takes_lock role object mode = at_owner role (lock_taken object mode)

pub does_take_lock : (role : OwnerRole) (object : ℕ) (mode : Mode) (w : Option ℕ) (m : Moment) → does w (element.TakeLock role object mode) m ≡ fallible w m (lock_refused object mode m.scene) (takes_lock role object mode)
unfolding does
does_take_lock role object mode w m = refl

pub lock_rises : (role : OwnerRole) (object : ℕ) (mode : Mode) (s : Scene) → Rises 1 s (takes_lock role object mode s).scene
lock_rises role object mode s = grind (arith, nat_tests, owner_in role s.session, s.session)

-- an owner takes a lock
abbrev pub take_lock : OwnerRole → ℕ → Mode → Call
take_lock role object mode = record {
  step = element.TakeLock role object mode;
  own = lock_refused object mode;
  act = takes_lock role object mode;
  is = does_take_lock role object mode;
  rises = lock_rises role object mode;
  quiet = λ s. refl;
}

-- the least conflict with what the session sees
abbrev pub conflict_in : Now → ℕ → Mode → Option (ℕ × Mode)
conflict_in a object mode = least_conflict object mode (beside a.store.owners.session a.commons.locks)

held_by : (a : Now) (object : ℕ) (mode : Mode) (found : Option (ℕ × Mode)) → conflict_in a object mode ≡ found → (around : Around) → lock_refused object mode (scene_in a around) ≡ option_map (λ c. LockHeld c.0 c.1) found
unfolding session_of
held_by a object mode found is around = ap (option_map (λ (c : ℕ × Mode). LockHeld c.0 c.1)) is

none_held : (found : Option (ℕ × Mode)) → ((s : ℕ) (m : Mode) → found ≡ Some (s, m) → ⊥) → found ≡ None
none_held None never = refl
none_held (Some c) never = absurd (never c.0 c.1 refl)

-- the owner takes a lock
module _ (role : OwnerRole) (object : ℕ) (mode : Mode) (a b : Now) (P : List What → Type 0) (counted : b.calls ≡ record a.calls { count = a.calls.count + 1 }) (space : b.space ≡ a.space) (keeps : Keeps a.store a.space) where
  module _ (shelf : lent b ≡ lent a) (silent : P []) (store : b.store ≡ a.store) where
    -- the error by which it was refused
    pub lock_not_taken : (a.calls.count + 1 == a.calls.fail) ≡ false → (r : Result (Unit {0}) LockError) (e : LockError) (t : Error) → r ≡ Err e
        → ((s : ℕ) (m : Mode) → IsErrOf r (Conflict s m) ↔ (conflict_in a object mode ≡ Some (s, m))) → (IsErrOf r NotHeld → ⊥)
        → ((s : ℕ) (m : Mode) → e ≡ Conflict s m → t ≡ LockHeld s m) → (e ≡ Memory → t ≡ NoMemory b.calls.count) → Performed 1 (element.TakeLock role object mode ∷ []) a b P (Some t)
    lock_not_taken goes r (Conflict s m) t is conflict held told memory = grind (arith, nat_tests, call_refused (take_lock role object mode) a b P counted space keeps shelf silent store (LockHeld s m) goes refl (held_by a object mode (Some (s, m)) ((conflict s m).0 is)), held_by a object mode (Some (s, m)) ((conflict s m).0 is))
    lock_not_taken goes r NotHeld t is conflict held told memory = absurd (held is)
    lock_not_taken goes r Memory t is conflict held told memory = grind (arith, nat_tests, call_wants (take_lock role object mode) a b P counted space keeps shelf silent store goes)

  pub take_lock_done : (a.calls.count + 1 == a.calls.fail) ≡ false → (r : Result (Unit {0}) LockError) (u : Unit {0}) → r ≡ Ok u
      → ((s : ℕ) (m : Mode) → IsErrOf r (Conflict s m) ↔ (conflict_in a object mode ≡ Some (s, m))) → (owner : OwnerId) → IsOwnerOf role a.store owner
      → b.store.tree ≡ a.store.tree → Keeps b.store b.space
      → Acted (lock_taken object mode owner.number) a.store b.store a.space b.space a.shelf b.shelf a.commons b.commons P → Performed 1 (element.TakeLock role object mode ∷ []) a b P None
  take_lock_done goes r u ok conflict owner is tree after taken =
      call_done (take_lock role object mode) a b P counted space keeps goes
      (held_by a object mode None (none_held (conflict_in a object mode) (λ s m found. let z : Ok u ≡ Err (Conflict s m) = sym ok ∙ (conflict s m).1 found in cc z))) tree after acted
    where
      acted : Acted (takes_lock role object mode) a.store b.store a.space b.space a.shelf b.shelf a.commons b.commons P
      acted = record {
        leads = λ around. ap (λ (o : Option ℕ). (where_there o (lock_taken object mode) (scene_in a around)).scene) (is a.space) ∙ taken.leads around;
        says = λ around. subst (λ (o : Option ℕ). P (where_there o (lock_taken object mode) (scene_in a around)).events) (sym (is a.space)) (taken.says around);
        balances = taken.balances;
      }

-- how often the owner holds the lock
count_is : (store : StoreState) (s : Space) (owner : OwnerId) (object : ℕ) (mode : Mode) → IsLevelOwner store owner → lock_count object mode (session_of store s) ≡ count_of store.owners.locks object mode owner.number
unfolding session_of
count_is store s owner object mode is = ap (λ (o : Option ℕ). option_map_or (λ n. count_of store.owners.locks object mode n) o 0) (is s)

some_count : (n : ℕ) → (n ≡ 0 → ⊥) → nat_lt 0 n ≡ true
some_count n never = grind (arith, nat_tests, never)

abbrev gives_lock : ℕ → Mode → Scene → Ended
gives_lock object mode = at_owner OfLevel (lock_given_back object mode)

does_unlock : (object : ℕ) (mode : Mode) (w : Option ℕ) (m : Moment) → does w (element.Unlock object mode) m ≡ unfailing m (gives_lock object mode)
unfolding does
does_unlock object mode w m = refl

module _ (object : ℕ) (mode : Mode) (a b : Now) (P : List What → Type 0) (owner : OwnerId) (is : IsLevelOwner a.store owner) (keeps : Keeps a.store a.space) (space : b.space ≡ a.space) (calls : b.calls ≡ a.calls) where
  -- the owner gives the lock back
  pub unlocked : (count_of a.store.owners.locks object mode owner.number ≡ 0 → ⊥) → b.store.tree ≡ a.store.tree → (ls : List Lock) → b.store.owners ≡ record a.store.owners { locks = ls } → Keeps b.store b.space
      → Acted (lock_given_back object mode owner.number) a.store b.store a.space b.space a.shelf b.shelf a.commons b.commons P → Performed most_calls (element.Checks (element.HoldsLock object mode) ∷ element.Unlock object mode ∷ []) a b P None
  unlocked held tree ls owners after given =
      passes most_calls (element.HoldsLock object mode) (element.Unlock object mode ∷ []) a b P None keeps
      (λ around. ap (λ (n : ℕ). unless (nat_lt 0 n) error.NotHeld) (count_is a.store a.space owner object mode is) ∙ ap (λ (t : Bool). unless t error.NotHeld) (some_count (count_of a.store.owners.locks object mode owner.number) held))
      (performed_end most_calls (element.Unlock object mode) (gives_lock object mode) a b P (does_unlock object mode) acted after (moves_same a.store.tree b.store.tree a.space b.space tree space keeps.agrees)
      (record {
        contexts = rw tree (omega arith);
        owners = omega (arith, ap (λ (r : ResourceState). r.next_owner) owners);
        serials = omega (arith, ap (λ (r : ResourceState). r.next_serial) owners);
        calls = rw calls (omega arith);
        descriptors = ap (λ (r : ResourceState). r.descriptors) owners;
      }) calls (λ around. ap (λ (s : Space). s.taken) space))
    where
      acted : Acted (gives_lock object mode) a.store b.store a.space b.space a.shelf b.shelf a.commons b.commons P
      acted = record {
        leads = λ around. ap (λ (o : Option ℕ). (where_there o (lock_given_back object mode) (scene_in a around)).scene) (is a.space) ∙ given.leads around;
        says = λ around. subst (λ (o : Option ℕ). P (where_there o (lock_given_back object mode) (scene_in a around)).events) (sym (is a.space)) (given.says around);
        balances = given.balances;
      }

  -- it doesn't hold it
  pub lock_not_held : count_of a.store.owners.locks object mode owner.number ≡ 0 → P [] → b.store ≡ a.store → lent b ≡ lent a
      → Performed most_calls (element.Checks (element.HoldsLock object mode) ∷ element.Unlock object mode ∷ []) a b P (Some error.NotHeld)
  lock_not_held none silent store shelf =
      unchanged most_calls (element.Checks (element.HoldsLock object mode) ∷ element.Unlock object mode ∷ []) a b P (Some error.NotHeld)
      (fails most_calls (element.HoldsLock object mode) (element.Unlock object mode ∷ []) a P error.NotHeld keeps silent refl
      (λ around. ap (λ (n : ℕ). unless (nat_lt 0 n) error.NotHeld) (count_is a.store a.space owner object mode is ∙ none)))
      (still_refused a b store space shelf) (still_keeps a b store space shelf keeps) (still_moves a b store space shelf keeps) calls (ap (λ (s : Space). s.taken) space)

-- what the answer tells of how often the lock was held
pub is_missing : (count : ℕ) (r : Result (Unit {0}) LockError) (e : LockError) → r ≡ Err e → IsErrOf r NotHeld ↔ (count ≡ 0) → IsOkUnless r NotHeld → count ≡ 0
is_missing count r e is missing only = grind (arith, nat_tests, missing.0)

pub was_held : (count : ℕ) (r : Result (Unit {0}) LockError) (u : Unit {0}) → r ≡ Ok u → IsErrOf r NotHeld ↔ (count ≡ 0) → count ≡ 0 → ⊥
was_held count r u is missing none = let z : Ok u ≡ Err NotHeld = sym is ∙ missing.1 none in cc z
