-- The sessions of a run, when one of them changes.
use Rattle.pgs_turns.proofs.Base.{nat_tests, ◌≡◌, ◌≢◌, true, false, ℕ, zero, suc, ◌+◌, ◌-◌, ◌<◌, ◌≤◌, ◌⊎◌, inl, inr, List, [], ◌∷◌, length, map, Some, refl, sym, ap, ◌∙◌, subst, arith, All, slice_get, slice_index, slice_set, replicate, All-nil, option_map, length-set, map-set, slice_get-map, slice_get_within}
use Rattle.pgs_turns.proofs.Words.{What, KindId, Holding, holds, Lock, AreLocks, Agrees, has_owner, is_held, Space, taken, AreDistinct, Moves, table_of, IsSound, Balances, locks_of, serves_nothing, SessionState, opening, Around, with_scene, StandsBetweenLines, HooksCounted, stands_between_elsewhere, StoreState, session_of, Keeps, StaysBeside, IsBetweenLines, scene_in, AreStanding, HaveDescriptors, HooksFit, IsHeld, IsOpening, KindsFit, LocksFit, PinsFit, Run, SameRun, held_by_all, one_of, options_in, sessions_in, world_in, AreOpened}
use Rattle.pgs_step.specs.declared.lock_modes.Mode.{Mode}
use Rattle.lock_local.specs.declared.local_lock.OwnerCount.{OwnerCount}
use Rattle.reset_callbacks.specs.ShelfState as shelf
use Rattle.session_rules.proofs.OpeningStands.{opening_stands}
use Rattle.session_core.proofs.Opened.{opened_lines}
pub use Rattle.session_core.proofs.Opened.{none_held}
use Rattle.pgs_turns.proofs.HookLemmas.{hooks_behind, hooks_of_one}
use Rattle.pgs_turns.proofs.ToldHooks.{none_wait}
use Rattle.pgs_turns.proofs.PinLemmas.{no_pins, pins_behind, pins_opened, pins_serve}
use Rattle.pgs_turns.proofs.KindLemmas.{gone_holds_none, keys_behind, kinds_behind, none_held_together, opening_owns, served_there}

pub same_run : (a : Run) → SameRun a a
same_run a = record { sessions = refl; limit = refl; fail = refl; accounts = refl; others = λ account past. refl; took = λ account past. refl; table = refl; limits = refl; keys = λ kind key from. refl }

pub same_on : (a b c : Run) → SameRun a b → SameRun b c → SameRun a c
same_on a b c s t = grind (arith, nat_tests, t.sessions, s.sessions, t.limit, s.limit, t.fail, s.fail, t.accounts, s.accounts, t.others, s.others, t.took, s.took, t.table, s.table, t.limits, s.limits, s.keys, t.keys)

-- places of lists
replicated : {A : Type 0} (n place : ℕ) (x y : A) → slice_get (replicate n x) place ≡ Some y → y ≡ x
replicated zero place x y h = cc
replicated (suc n) zero x y h = cc
replicated (suc n) (suc place) x y h = replicated n place x y h

-- what stands in a list one of whose places was set
pub place_set : {A : Type 0} (xs : List A) (i : ℕ) (y : A) (j : ℕ) (x : A) → slice_get (slice_set xs i y) j ≡ Some x → ((j ≡ i) × (x ≡ y)) ⊎ ((j ≢ i) × (slice_get xs j ≡ Some x))
place_set [] i y j x h = absurd (cc h)
place_set (z ∷ zs) zero y zero x h = inl (refl, cc)
place_set (z ∷ zs) zero y (suc j) x h = inr (λ e. omega (arith, e), h)
place_set (z ∷ zs) (suc i) y zero x h = inr (λ e. omega (arith, e), h)
place_set (z ∷ zs) (suc i) y (suc j) x h = grind (arith, nat_tests, place_set zs i y j x h)

maps_agree : {A B : Type 0} (f g : A → B) (xs : List A) → ((j : ℕ) (x : A) → slice_get xs j ≡ Some x → f x ≡ g x) → map f xs ≡ map g xs
maps_agree f g [] h = refl
maps_agree f g (x ∷ xs) h = ap (λ y. y ∷ map f xs) (h zero x refl) ∙ ap (λ ys. g x ∷ ys) (maps_agree f g xs (λ j y e. h (suc j) y e))

-- two readings of a list that agree but at the place that is set
maps_set : {A B : Type 0} (f g : A → B) (xs : List A) (i : ℕ) (y : B) → ((j : ℕ) (x : A) → j ≢ i → slice_get xs j ≡ Some x → f x ≡ g x) → slice_set (map f xs) i y ≡ slice_set (map g xs) i y
maps_set f g [] i y h = refl
maps_set f g (x ∷ xs) zero y h = ap (λ ys. y ∷ ys) (maps_agree f g xs (λ j z e. h (suc j) z (λ s. omega (arith, s)) e))
maps_set f g (x ∷ xs) (suc i) y h =
    ap (λ z. z ∷ slice_set (map f xs) i y) (h zero x (λ s. omega (arith, s)) refl)
    ∙ ap (λ zs. g x ∷ zs) (maps_set f g xs i y (λ j z other e. h (suc j) z (λ s. other (omega (arith, s))) e))

-- a session of a run, as the rules see it
pub session_there : (run : Run) (place : ℕ) (store : StoreState) → slice_get run.stores place ≡ Some store → slice_get (sessions_in run.stores run.space) place ≡ Some (session_of store run.space)
session_there run place store there =
    slice_get-map (λ (s : StoreState). session_of s run.space) run.stores place ∙ ap (option_map (λ (s : StoreState). session_of s run.space)) there

pub opening_at : (run : Run) → IsOpening run → (place : ℕ) (store : StoreState) → slice_get run.stores place ≡ Some store → session_of store run.space ≡ opening
opening_at run opens place store there = grind (arith, nat_tests, replicated, run.stores, run.space, opens.sessions, session_there run place store there)

-- One session of a run changed.
pub record Changed (a b : Run) (place : ℕ) (store left : StoreState) : Type 0 where
  pub there : slice_get a.stores place ≡ Some store
  pub stores : b.stores ≡ slice_set a.stores place left
  pub moves : Moves store.tree left.tree a.space b.space
  pub descriptors_are : left.owners.descriptors ≡ store.owners.descriptors
  pub fail : b.calls.fail ≡ a.calls.fail
  pub took : (account : ℕ) → account ≢ store.tree.account → taken b.space account ≡ taken a.space account
  pub balances : Balances store.owners left.owners a.commons b.commons

module _ (a b : Run) (place : ℕ) (store left : StoreState) (c : Changed a b place store left) (each : (j : ℕ) (st : StoreState) → slice_get a.stores j ≡ Some st → IsHeld a j st) where
  pub same_behind : SameRun a b
  same_behind =
      let within : place < length a.stores = slice_get_within a.stores place store c.there in
      record {
        sessions = ap (λ (stores : List StoreState). length stores) c.stores ∙ length-set a.stores place left;
        limit = c.moves.limit;
        fail = c.fail;
        accounts = c.moves.accounts;
        others = λ account past. c.moves.others account (λ e. omega (arith, past, within, e, (each place store c.there).account));
        took = λ account past. c.took account (λ e. omega (arith, past, within, e, (each place store c.there).account));
        table = c.balances.table;
        limits = c.balances.limits;
        keys = grind (arith, nat_tests, keys_behind);
      }

  -- the keys of all sessions fit the kinds
  pub keys_fit_behind : KindsFit a.stores a.commons.kinds → KindsFit b.stores b.commons.kinds
  keys_fit_behind h = grind (arith, nat_tests, kinds_behind)

  -- another session has another number
  other_number : (j : ℕ) (st : StoreState) → j ≢ place → slice_get a.stores j ≡ Some st → st.owners.session ≢ store.owners.session
  other_number j st other there same = other (omega (arith, same, (each j st there).number, (each place store c.there).number))

  -- what the sessions have locked fits what is held for all
  pub locks_fit_behind : LocksFit a.stores a.commons.locks → LocksFit b.stores b.commons.locks
  locks_fit_behind h = record {
    agree = λ j st there. elim (place_set a.stores place left j st (ap (λ (stores : List StoreState). slice_get stores j) (sym c.stores) ∙ there)) [
      | inl own ↦ subst (λ (s : StoreState). Agrees (locks_of s.owners) b.commons.locks) (sym own.1) (c.balances.locks.agrees (h.agree place store c.there))
      | inr other ↦ λ o m. c.balances.locks.others o m st.owners.session (other_number j st other.0 other.1) ∙ h.agree j st other.1 o m
    ];
    in_order = λ j st there. elim (place_set a.stores place left j st (ap (λ (stores : List StoreState). slice_get stores j) (sym c.stores) ∙ there)) [
      | inl own ↦ subst (λ (s : StoreState). AreLocks s.owners.locks) (sym own.1) (c.balances.locks.in_order (h.in_order place store c.there))
      | inr other ↦ h.in_order j st other.1
    ];
    none = λ o m n past.
        let within : place < length a.stores = slice_get_within a.stores place store c.there in
        let number = (each place store c.there).number in
        let many : length b.stores ≡ length a.stores = ap (λ (stores : List StoreState). length stores) c.stores ∙ length-set a.stores place left in
        c.balances.locks.others o m n (not_own n many number within past) ∙ h.none o m n (as_before n many past);
  }
    where
      not_own : (n : ℕ) → length b.stores ≡ length a.stores → store.owners.session ≡ place + 1 → place < length a.stores → (n ≡ 0) ⊎ (length b.stores < n) → n ≢ store.owners.session
      not_own n many number within (inl zero_is) e = omega (arith, zero_is, e, number)
      not_own n many number within (inr more) e = omega (arith, many, number, within, more, e)

      as_before : (n : ℕ) → length b.stores ≡ length a.stores → (n ≡ 0) ⊎ (length b.stores < n) → (n ≡ 0) ⊎ (length a.stores < n)
      as_before n many (inl zero_is) = inl zero_is
      as_before n many (inr more) = inr (omega (arith, many, more))

  -- each buffer is counted for those that pin it
  pub pins_fit_behind : PinsFit a.stores a.commons.pins → PinsFit b.stores b.commons.pins
  pins_fit_behind h = grind (arith, nat_tests, pins_behind)

  pub few_behind : length a.stores ≤ 64 → length b.stores ≤ 64
  few_behind few = omega (arith, few, same_behind.sessions)

  -- each session has as many descriptors as before
  pub have_behind : (descriptors : ℕ) → HaveDescriptors descriptors a → HaveDescriptors descriptors b
  have_behind descriptors h j st there = grind (arith, nat_tests, place_set)

  -- another session stays
  other_stays : (j : ℕ) (st : StoreState) → j ≢ place → slice_get a.stores j ≡ Some st → Keeps st b.space × (session_of st b.space ≡ session_of st a.space)
  other_stays j st other there =
      let own = each place store c.there in
      let its = each j st there in
      its.beside store.tree left.tree a.space b.space c.moves own.keeps.agrees its.keeps (λ e. other (sym its.account ∙ sym e ∙ own.account))

  pub sessions_behind : sessions_in b.stores b.space ≡ slice_set (sessions_in a.stores a.space) place (session_of left b.space)
  sessions_behind =
      ap (λ (stores : List StoreState). sessions_in stores b.space) c.stores
      ∙ map-set (λ (s : StoreState). session_of s b.space) a.stores place left
      ∙ maps_set (λ (s : StoreState). session_of s b.space) (λ (s : StoreState). session_of s a.space) a.stores place (session_of left b.space) (λ j st other there. (other_stays j st other there).1)

  options_behind : (descriptors : ℕ) → options_in descriptors a ≡ options_in descriptors b
  options_behind descriptors = let same = same_behind in rw (same.sessions, same.limit, same.fail) refl

  -- the run of the rules behind the change
  pub world_behind : (descriptors n : ℕ) (scene_around : Around) → n ≡ place + 1
      → record (with_scene n (scene_in (one_of b left) scene_around) (world_in descriptors a)) { calls = b.calls.count } ≡ world_in descriptors b
  world_behind descriptors n scene_around is = grind (arith, nat_tests, sessions_behind, options_behind descriptors)

  module _ (keeps : Keeps left b.space) (beside : StaysBeside left) where
    pub each_behind : (j : ℕ) (st : StoreState) → slice_get b.stores j ≡ Some st → IsHeld b j st
    each_behind j st there = elim (place_set a.stores place left j st (ap (λ (stores : List StoreState). slice_get stores j) (sym c.stores) ∙ there)) [
      | inl own ↦
          let was = each place store c.there in
          let now : IsHeld b place left = record { keeps = keeps; account = c.moves.account ∙ was.account; number = c.balances.locks.session ∙ was.number; beside = beside } in
          subst (λ (s : StoreState). IsHeld b j s) (sym own.1) (subst (λ (k : ℕ). IsHeld b k left) (sym own.0) now)
      | inr other ↦
          let its = each j st other.1 in
          record { keeps = (other_stays j st other.0 other.1).0; account = its.account; number = its.number; beside = its.beside }
    ]

  module _ (hooks : HooksFit (sessions_in a.stores a.space) a.shelf) (events : List What) (counts : HooksCounted (session_of store a.space).contexts a.shelf (session_of left b.space).contexts b.shelf events) where
    pub fit_behind : HooksFit (sessions_in b.stores b.space) b.shelf
    fit_behind = grind (arith, nat_tests, sessions_behind, hooks_behind (sessions_in a.stores a.space) a.shelf b.shelf place (session_of store a.space) (session_of left b.space) events (session_there a place store c.there) counts hooks, session_there a place store c.there)

    -- another session stays between two lines
    pub lines_stay : KindsFit a.stores a.commons.kinds → PinsFit a.stores a.commons.pins → length a.stores ≤ 64 → (j : ℕ) (st : StoreState) → j ≢ place → slice_get a.stores j ≡ Some st → slice_get b.stores j ≡ Some st → IsBetweenLines (one_of a st) → IsBetweenLines (one_of b st)
    lines_stay kinds pins few j st other there now h =
        let stays = other_stays j st other there in
        let fit = hooks_of_one (sessions_in b.stores b.space) b.shelf j (session_of st b.space) (session_there b j st now) fit_behind in
        record {
          keeps = stays.0;
          serves = grind (arith, nat_tests, served_there b.stores j st a.commons b.commons store.owners.session now (keys_fit_behind kinds) c.balances.table (other_number j st other there) c.balances.locks.others (pins_serve b.stores b.commons.pins (pins_fit_behind pins) (omega (arith, few_behind few)) j st now) h.serves, keys_fit_behind kinds, other_number j st other there, pins_serve b.stores b.commons.pins (pins_fit_behind pins) (omega (arith, few_behind few)) j st now, pins_fit_behind pins, few_behind few, h.serves);
          stands = λ scene_around.
              let was : StandsBetweenLines (scene_in (one_of a st) scene_around) = h.stands scene_around in
              subst (λ (session : SessionState). StandsBetweenLines (record { session = session; around = (scene_in (one_of b st) scene_around).around })) (sym stays.1)
              (stands_between_elsewhere (session_of st a.space) (scene_in (one_of a st) scene_around).around (scene_in (one_of b st) scene_around).around
              (rw (← stays.1) fit) c.balances.table was);
        }

-- Sessions as they were started stand, where the hooks of the shelf differ.
opened_sessions : (stores : List StoreState) (s : Space) → ((place : ℕ) (store : StoreState) → slice_get stores place ≡ Some store → session_of store s ≡ opening) → sessions_in stores s ≡ replicate (length stores) opening
opened_sessions [] s h = refl
opened_sessions (store ∷ stores) s h =
    ap (λ (session : SessionState). session ∷ sessions_in stores s) (h zero store refl) ∙ ap (λ (sessions : List SessionState). opening ∷ sessions) (opened_sessions stores s (λ place st there. h (suc place) st there))

pub opened_run : (descriptors : ℕ) (before : Space) (run : Run) → AreOpened descriptors before run.stores run.space → run.calls.count ≡ 0 → IsOpening run
opened_run descriptors before run opened calls = record { sessions = opened_sessions run.stores run.space (λ place store there. (opened.each place store there).session); calls = calls }

pub opened_have : (descriptors : ℕ) (before : Space) (run : Run) → AreOpened descriptors before run.stores run.space → HaveDescriptors descriptors run
opened_have descriptors before run opened place store there = (opened.each place store there).descriptors_are

-- sessions as they were started hold nothing
pub opened_hold_none : (descriptors : ℕ) (before : Space) (run : Run) → AreOpened descriptors before run.stores run.space → (kind : KindId) (key : ℕ) → held_by_all kind key run.stores ≡ 0
opened_hold_none descriptors before run opened kind key =
    none_held_together kind key run.stores (λ place store there. gone_holds_none kind key store (opening_owns store run.space (opened.each place store there).session))

pub opening_hold_none : (run : Run) → IsOpening run → (kind : KindId) (key : ℕ) → held_by_all kind key run.stores ≡ 0
opening_hold_none run opens kind key =
    none_held_together kind key run.stores (λ place store there. gone_holds_none kind key store (opening_owns store run.space (opening_at run opens place store there)))

-- They have locked nothing.
opening_locks : (store : StoreState) (s : Space) → session_of store s ≡ opening → store.owners.locks ≡ []
unfolding session_of opening
opening_locks store s e = ap (λ (session : SessionState). session.locks) e

no_locks : AreLocks []
no_locks = record { in_order = tt; owned = All-nil (λ (l : Lock). has_owner l ≡ true); counted = All-nil (λ (l : Lock). All (λ (c : OwnerCount). 1 ≤ c.count) l.owners) }

none_locked : (shared : List Holding) → shared ≡ [] → (o : ℕ) (m : Mode) (n : ℕ) → holds shared o m n ≡ false
none_locked shared e o m n = ap (λ (hs : List Holding). holds hs o m n) e

pub opened_standing : (descriptors : ℕ) (before : Space) (run : Run) → AreOpened descriptors before run.stores run.space → AreDistinct (shelf.held run.shelf) → IsSound (table_of run.commons.kinds) → run.commons.locks ≡ [] → run.commons.pins ≡ replicate 1024 0 → length run.stores ≤ 64 → AreStanding 0 run
opened_standing descriptors before run opened differ sound unlocked unpinned few =
    let sessions = opened_sessions run.stores run.space (λ place store there. (opened.each place store there).session) in
    record {
      each = λ place store there. let o = opened.each place store there in record { keeps = o.keeps; account = o.account; number = o.number; beside = o.beside };
      lines = λ place store from there.
          let o = opened.each place store there in
          opened_lines (one_of run store) o.session o.keeps (serves_nothing store.owners run.commons (opening_owns store run.space o.session) sound (opening_locks store run.space o.session) (λ o m. none_locked run.commons.locks unlocked o m store.owners.session)
          (λ buffer. omega (arith, ap (λ (xs : List ℕ). slice_index xs buffer) unpinned, no_pins buffer)))
          (λ scene_around.
          let stands = opening_stands (scene_in (one_of run store) scene_around).around differ sound in
          (subst (λ (session : SessionState). StandsBetweenLines (record { session = session; around = (scene_in (one_of run store) scene_around).around })) (sym o.session) stands).stands);
      hooks = grind (arith, nat_tests, none_wait (length run.stores), run.stores);
      kinds = record {
        sound = sound;
        held = λ kind key from. omega (arith, opened_hold_none descriptors before run opened kind key);
      };
      locks = record {
        agree = λ place store there.
            let free : store.owners.locks ≡ [] = opening_locks store run.space (opened.each place store there).session in
            λ o m. none_locked run.commons.locks unlocked o m store.owners.session ∙ sym (ap (λ (ls : List Lock). is_held ls o m) free);
        in_order = λ place store there. subst AreLocks (sym (opening_locks store run.space (opened.each place store there).session)) no_locks;
        none = λ o m n past. none_locked run.commons.locks unlocked o m n;
      };
      pins = pins_opened run.stores run.commons.pins (λ place store there. opening_owns store run.space (opened.each place store there).session) unpinned;
      few = few;
      alike = (descriptors, opened_have descriptors before run opened);
    }
