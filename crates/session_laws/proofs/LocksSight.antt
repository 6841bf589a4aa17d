-- Laws that see locks alone, files alone, the stack of snapshots alone or items alone, and what passes them by.
use Rattle.session_laws.proofs.Words.{◌≡◌, ℕ, Bool, true, false, List, [], refl, sym, subst, Option, and_from, nat_tests, arith}
use Rattle.session_laws.proofs.Scenes.{What, KindId, Phase, Scene, Moment, item_released, owner_gone, owner_moved, phase_released, item_taken, lock_taken, snapshot_pushed, descriptor_given, Mode, LevelState, lock_given_back, at_owner, exited, Command, Element, OfLevel, OwnerRole, new_context_made, new_owner_made, owner_made, plan_made, does, line_elements, turn}
use Rattle.session_laws.proofs.Rules.{Reader, Keeps, Law, is_word, Acts, EndLeaves, Follows, IsRun, Leaves, MoveLeaves, Owes, OwesMakes, runs_anyhow, LockLeaves, OwnerLeaves, FileLeaves, ContextLeaves, Part, Sight, hook_waits_so, leaves_of, makes_context, moves_context, places, plans_one, says, unseen_contexts, KeyLeaves, phase_so, releases, taken_so, unseen_keys, AreSaid, said_more, said_none, by_owner, context_is_made, fallible_so, levels_owed, moves_owed, owner_is_made, unfailing_so, ends_owed, exit_follows, StackLeaves, unseen_locks, unseen_stack, unseen_files, unlocks, locks_one, pushes, unseen_owners, item_comes, owner_makes, item_goes, owner_goes, owner_moves}
use Rattle.session_laws.proofs.Usual.{turn_follows}
use Rattle.session_laws.proofs.Lives.{IsRead}
use Rattle.pgs_step.specs.declared.events.What.TheVariants as what
use Rattle.session_rules.specs.Elements as e
use Rattle.session_rules.proofs.Sight as part

-- what an event is about, and what a law sees: locks, files, the stack of snapshots, or items
pub data Subject : Type 0 where
  of_none : Subject
  of_locks : Subject
  of_files : Subject
  of_stack : Subject
  of_items : Subject

abbrev pub subject : What → Subject
subject (what.AcquireLock object mode owner) = of_locks
subject (what.ReleaseLock object mode count owner) = of_locks
subject (what.DescriptorOpened file) = of_files
subject (what.DescriptorClosed file) = of_files
subject (what.Push snapshot) = of_stack
subject (what.Pop snapshot) = of_stack
subject (what.Acquire item owner) = of_items
subject (what.Release item owner) = of_items
subject other = of_none

-- whether what is about the first passes by a law that sees the second
abbrev pub hides : Subject → Subject → Bool
hides of_locks of_locks = false
hides of_files of_files = false
hides of_files of_items = false
hides of_stack of_stack = false
hides of_items of_items = false
hides other k = true

-- the parts of a scene that a law sees, and the events that pass it by
abbrev pub seen_by : Part → Subject → Bool
seen_by part.of_locks of_locks = true
seen_by part.of_recent of_files = true
seen_by part.of_descriptors of_files = true
seen_by part.of_snapshots of_stack = true
seen_by part.of_recent of_items = true
seen_by part.of_owners of_items = true
seen_by part.of_next_owner of_items = true
seen_by other k = false

abbrev pub sees_of : Subject → Part → Bool
sees_of k part = seen_by part k

abbrev pub passing : Subject → What → Bool
passing k event = hides (subject event) k

abbrev pub ArePlain : Subject → List What → Type 0
ArePlain k = AreSaid (passing k)

-- What a law owes for what passes it by.
abbrev pub Sees : Subject → Law → Type 0
Sees k R = Sight (sees_of k) (passing k) R

word_plain : (k : Subject) (event : What) → is_word event ≡ true → passing k event ≡ true
word_plain k event h = grind (arith, nat_tests)

-- what a law owes for owners and their items
pub record SeesItems (R : Law) : Type 0 where
  pub taken : (owner : ℕ) (kind : KindId) (key : ℕ) → Keeps R (item_taken owner kind key)
  pub released : (owner : ℕ) (kind : KindId) (key : ℕ) → Keeps R (item_released owner kind key)
  pub phase : (commit top : Bool) (n : ℕ) (phase : Phase) → Keeps R (phase_released commit top n phase)
  pub gone : (n : ℕ) → Keeps R (owner_gone n)
  pub moved : (n parent : ℕ) → Keeps R (owner_moved n parent)

-- a reader that passes over what is not about its subject
pub record PassesOver (k : Subject) {Seen : Type 0} (reader : Reader Seen) : Type 0 where
  pub next : (event : What) → hides (subject event) k ≡ true → (seen : Seen) → reader.next event seen ≡ seen
  pub allows : (event : What) → hides (subject event) k ≡ true → (seen : Seen) → reader.allows event seen ≡ true

module _ (k : Subject) {Seen : Type 0} (reader : Reader Seen) (Fits : Seen → Scene → Type 0) (over : PassesOver k reader) where
  pub read_plain : (seen : Seen) (t : Scene) {events : List What} → ArePlain k events → Fits seen t → IsRead reader Fits seen t events
  read_plain seen t said_none h = record { allowed = refl; fits = h }
  read_plain seen t (said_more {event = event} {events = events} p ps) h =
      let same : reader.next event seen ≡ seen = over.next event p seen in
      let rest : IsRead reader Fits (reader.next event seen) t events = read_plain (reader.next event seen) t ps (subst (λ (now : Seen). Fits now t) (sym same) h) in
      grind (arith, nat_tests, and_from)

-- What passes by a law that sees something else: locks, files, or the stack of snapshots.

-- what is not seen then
hidden_locks : (k : Subject) → hides of_locks k ≡ true → sees_of k part.of_locks ≡ false
hidden_locks of_locks h = absurd (cc h)
hidden_locks other h = refl

hidden_recent : (k : Subject) → hides of_files k ≡ true → sees_of k part.of_recent ≡ false
hidden_recent of_files h = absurd (cc h)
hidden_recent other h = cc

hidden_stack : (k : Subject) → hides of_stack k ≡ true → sees_of k part.of_snapshots ≡ false
hidden_stack of_stack h = absurd (cc h)
hidden_stack other h = refl

hidden_owners : (k : Subject) → hides of_items k ≡ true → (sees_of k part.of_owners ≡ false) × (sees_of k part.of_next_owner ≡ false)
hidden_owners of_items h = absurd (cc h)
hidden_owners other h = (refl, refl)

module _ (k : Subject) (R : Law) (sees : Sees k R) where
  pub locks_hidden : hides of_locks k ≡ true → LockLeaves R
  locks_hidden h = unseen_locks (sees_of k) (passing k) R sees (hidden_locks k h) (λ object mode count owner. h) (λ object mode count from to. refl)

  pub locked_hidden : hides of_locks k ≡ true → (object : ℕ) (mode : Mode) (n : ℕ) → Keeps R (lock_taken object mode n)
  locked_hidden h = locks_one (sees_of k) (passing k) R sees (hidden_locks k h) (λ object mode count owner. h) (λ object mode owner. h)

  pub unlocked_hidden : hides of_locks k ≡ true → (object : ℕ) (mode : Mode) (n : ℕ) → Keeps R (lock_given_back object mode n)
  unlocked_hidden h = unlocks (sees_of k) (passing k) R sees (hidden_locks k h) (λ object mode count owner. h)

  pub files_hidden : hides of_files k ≡ true → FileLeaves R
  files_hidden h = unseen_files (sees_of k) (passing k) R sees (hidden_recent k h) (λ file. h) (λ file. h)

  pub pushed_hidden : hides of_stack k ≡ true → (snapshot : ℕ) → Keeps R (snapshot_pushed snapshot)
  pushed_hidden h = pushes (sees_of k) (passing k) R sees (hidden_stack k h) (λ snapshot. h)

  pub stack_hidden : hides of_stack k ≡ true → StackLeaves R
  stack_hidden h = unseen_stack (sees_of k) (passing k) R sees (hidden_stack k h) (λ snapshot. h)

-- What follows where a law sees locks, files, snapshots or items alone: it has all leaves, so turns and the end of a session keep it.

-- what a law owes for owners and their items, and besides for levels and the stack of snapshots
pub record Least (k : Subject) (R : Law) : Type 0 where
  pub sees : Sees k R
  pub items : SeesItems R

pub record Turns (k : Subject) (R : Law) : Type 0 where
  pub least : Least k R
  pub levels : (levels : List LevelState) (s : Scene) → R s (record s { session = record s.session { levels = levels } }) []
  pub stack : StackLeaves R

module _ (k : Subject) (R : Law) (l : Least k R) where
  contexts : ContextLeaves R
  contexts = unseen_contexts (sees_of k) (passing k) R l.sees refl refl refl (λ word n. refl) (λ n. refl) (λ n. refl)

  pub least_leaves : Leaves R
  least_leaves = leaves_of (sees_of k) (passing k) R l.sees refl refl contexts (record { word = word_plain k; line = λ depth n name stats. refl; total = λ total. refl }) l.items.released

  abbrev pub least_acts : Acts R
  least_acts = least_leaves.acts

  move_leaves : MoveLeaves R
  move_leaves = record { hooked = hook_waits_so (sees_of k) (passing k) R l.sees refl refl refl (λ word n. refl); shifted = moves_context (sees_of k) (passing k) R l.sees refl refl refl (λ n parent. refl) }

  pub unlock_owed : (w : Option ℕ) (object : ℕ) (mode : Mode) (m : Moment) → ((n : ℕ) → Keeps R (lock_given_back object mode n)) → Follows R m.scene (does w (e.Unlock object mode) m)
  unfolding does
  unlock_owed w object mode m h = unfailing_so R least_acts m (at_owner OfLevel (lock_given_back object mode)) (by_owner R least_acts OfLevel (lock_given_back object mode) h)

  pub lock_owed : (w : Option ℕ) (role : OwnerRole) (object : ℕ) (mode : Mode) (m : Moment) → ((n : ℕ) → Keeps R (lock_taken object mode n)) → Follows R m.scene (does w (e.TakeLock role object mode) m)
  unfolding does
  lock_owed w role object mode m h = fallible_so R least_acts w m _ (at_owner role (lock_taken object mode)) (by_owner R least_acts role (lock_taken object mode) h)

  pub touch_owed : (w : Option ℕ) (file : ℕ) (m : Moment) → Keeps R (descriptor_given file) → Follows R m.scene (does w (e.Touch file) m)
  unfolding does
  touch_owed w file m h = fallible_so R least_acts w m _ (descriptor_given file) h

-- where all ends keep the law, in any scene, what is owed holds but for an owner that is made, a lock that is taken or given back, a file that is used and a snapshot that is pushed
abbrev pub OwesUnlocks : Law → Option ℕ → Element → Moment → Type 0
OwesUnlocks R w (e.InTurn name x) m = OwesUnlocks R w x m
OwesUnlocks R w (e.MakeOwner role) m = Follows R m.scene (does w (e.MakeOwner role) m)
OwesUnlocks R w (e.TakeLock role object mode) m = Follows R m.scene (does w (e.TakeLock role object mode) m)
OwesUnlocks R w (e.Unlock object mode) m = Follows R m.scene (does w (e.Unlock object mode) m)
OwesUnlocks R w (e.Touch file) m = Follows R m.scene (does w (e.Touch file) m)
OwesUnlocks R w (e.PushSnapshot snapshot) m = Follows R m.scene (does w (e.PushSnapshot snapshot) m)
OwesUnlocks R w other m = Unit {0}

module _ (k : Subject) (R : Law) (law : Turns k R) where
  abbrev l : Least k R
  l = law.least

  -- all leaves of a law that is kept in any scene by all ends and by the snapshots that are popped
  pub turn_ends : EndLeaves R
  turn_ends = grind (arith, nat_tests, least_leaves, says)

  abbrev a : Acts R
  a = turn_ends.levels.leaves.acts

  pub owner_owed : (w : Option ℕ) (role : OwnerRole) (m : Moment) → ((parent : Option ℕ) → Keeps R (owner_made parent)) → Follows R m.scene (does w (e.MakeOwner role) m)
  unfolding does
  owner_owed w role m made = fallible_so R a w m _ (new_owner_made role) (owner_is_made R turn_ends.levels made role)

  others_owed : (w : Option ℕ) (x : Element) (m : Moment) → OwesUnlocks R w x m → OwesMakes R w x m
  unfolding does
  others_owed w (e.InTurn name x) m owed = others_owed w x m owed
  others_owed w (e.MakeContext new) m owed = fallible_so R a w m _ (new_context_made new) (context_is_made R turn_ends.levels (makes_context (sees_of k) (passing k) R l.sees refl refl refl (λ n parent name. refl)) (places (sees_of k) (passing k) R l.sees refl refl) new)
  others_owed w (e.MakePlan plan) m owed = fallible_so R a w m _ (plan_made plan) (plans_one (sees_of k) (passing k) R l.sees refl refl (makes_context (sees_of k) (passing k) R l.sees refl refl refl (λ n parent name. refl)) plan)
  others_owed w (e.Register name) m owed = moves_owed R a (move_leaves k R l) w (e.Register name) m
  others_owed w (e.Reparent name parent) m owed = moves_owed R a (move_leaves k R l) w (e.Reparent name parent) m
  others_owed w other m owed = owed

  pub turns_owed : (w : Option ℕ) (x : Element) (m : Moment) → OwesUnlocks R w x m → Owes R w x m
  turns_owed w x m owed = levels_owed R turn_ends.levels w x m (ends_owed R turn_ends w x m (others_owed w x m owed))

  -- A turn keeps it where each owner that is made, each lock that is taken or given back, each file that is used and each snapshot that is pushed does.
  pub ending_turn : (P : Element → Scene → Type 0) (w : Option ℕ) (line : Option Command) (m : Moment) → IsRun P w (line_elements line m.scene.session) m
      → ((x : Element) (n : Moment) → P x n.scene → OwesUnlocks R w x n) → R m.scene (turn w line m).moment.scene (turn w line m).events
  ending_turn P w line m run owed =
      turn_follows R turn_ends (λ error. says (sees_of k) (passing k) R l.sees (what.Error error) refl) P w line m run (λ x n p. turns_owed w x n (owed x n p))

  -- So does the end of a session.
  pub session_exits : (s : Scene) → R s (exited s).scene (exited s).events
  session_exits s = exit_follows R turn_ends (says (sees_of k) (passing k) R l.sees what.Exit refl) s

  module _ (made : (parent : Option ℕ) → Keeps R (owner_made parent)) (locked : (object : ℕ) (mode : Mode) (n : ℕ) → Keeps R (lock_taken object mode n)) (unlocked : (object : ℕ) (mode : Mode) (n : ℕ) → Keeps R (lock_given_back object mode n)) (pushed : (snapshot : ℕ) → Keeps R (snapshot_pushed snapshot)) (used : (file : ℕ) → Keeps R (descriptor_given file)) where
    unlocks_owed : (w : Option ℕ) (x : Element) (m : Moment) → OwesUnlocks R w x m
    unfolding does
    unlocks_owed w (e.InTurn name x) m = unlocks_owed w x m
    unlocks_owed w (e.MakeOwner role) m = owner_owed w role m made
    unlocks_owed w (e.TakeLock role object mode) m = lock_owed k R l w role object mode m (locked object mode)
    unlocks_owed w (e.Unlock object mode) m = unlock_owed k R l w object mode m (unlocked object mode)
    unlocks_owed w (e.Touch file) m = touch_owed k R l w file m (used file)
    unlocks_owed w (e.PushSnapshot snapshot) m = fallible_so R a w m _ (snapshot_pushed snapshot) (pushed snapshot)
    unlocks_owed w other m = tt

    -- A turn keeps it where these do in any scene.
    pub any_turn : (w : Option ℕ) (line : Option Command) (m : Moment) → R m.scene (turn w line m).moment.scene (turn w line m).events
    any_turn w line m = ending_turn (λ x s. Unit {0}) w line m (runs_anyhow w (line_elements line m.scene.session) m) (λ x n p. unlocks_owed w x n)

-- A law that sees no items keeps what becomes of owners and their items.

-- what a law owes that sees no items
pub record Base (k : Subject) (R : Law) : Type 0 where
  pub sees : Sees k R
  pub locks : LockLeaves R
  pub files : FileLeaves R

module _ (k : Subject) (R : Law) (b : Base k R) (h : hides of_items k ≡ true) where
  item_contexts : ContextLeaves R
  item_contexts = unseen_contexts (sees_of k) (passing k) R b.sees refl refl refl (λ word n. refl) (λ n. refl) (λ n. refl)

  keys : KeyLeaves R
  keys = unseen_keys (sees_of k) (passing k) R b.sees refl

  owners : OwnerLeaves R
  owners = unseen_owners (sees_of k) (passing k) R b.sees (hidden_owners k h).0 (λ item n. h) (λ item n. refl) (item_comes (sees_of k) (passing k) R b.sees (hidden_owners k h).0 refl (λ item n. h))

  pub by_owner_made : (parent : Option ℕ) → Keeps R (owner_made parent)
  by_owner_made = owner_makes (sees_of k) (passing k) R b.sees (hidden_owners k h).0 (hidden_owners k h).1 (λ n. refl) (λ n parent. refl)

  pub least_of : Least k R
  least_of = record {
    sees = b.sees;
    items = record {
      taken = taken_so (sees_of k) (passing k) R b.sees refl refl owners b.files keys;
      released = releases (sees_of k) (passing k) R b.sees refl refl item_contexts.gone item_contexts.children b.files.closed keys.closed (item_goes (sees_of k) (passing k) R b.sees (hidden_owners k h).0 (λ item n. h));
      phase = phase_so (sees_of k) (passing k) R b.sees refl refl item_contexts.gone item_contexts.children b.files.closed keys.closed owners b.locks;
      gone = owner_goes (sees_of k) (passing k) R b.sees (hidden_owners k h).0 (λ n. refl);
      moved = owner_moves (sees_of k) (passing k) R b.sees (hidden_owners k h).0 (λ n parent. refl);
    };
  }
