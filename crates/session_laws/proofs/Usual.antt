-- Laws that see neither contexts, portals and plans nor descriptors and snapshots, and take no notice of what is said of these: the leaves that they have.
use Rattle.session_laws.proofs.Words.{◌≡◌, ℕ, Bool, true, false, Option, Some, None, refl, arith, nat_tests}
use Rattle.session_laws.proofs.Scenes.{What, Error, Item, CtxKind, context_made, plan_made, portal_becomes, snapshot_pushed, Command, Mode, Text, Element, Moment, Scene, Done, say, lock_given_back, lock_taken, owner_made, does_all, line_elements, turn, turn_of, KindId, Phase, item_taken, item_released, phase_released, owner_gone, owner_moved}
use Rattle.session_laws.proofs.Rules.{EndLeaves, Follows, IsRun, Keeps, Law, MakeLeaves, MoveLeaves, Owes, is_level_word, is_word, runs_anyhow, ContextLeaves, FileLeaves, KeyLeaves, LockLeaves, OwnerLeaves, Part, Sight, StackLeaves, Words, of_contexts, of_levels, of_locks, of_next_context, of_owners, of_plans, of_portals, of_recent, of_shelf, of_snapshots, hook_waits_so, item_goes, locks_one, makes_context, moves_context, owner_goes, owner_moves, places, plans_one, pushes, unlocks, unseen_contexts, unseen_files, unseen_locks, unseen_stack, all_owed, moves_owed, recovers, run_follows, line_spoken, phase_so, releases, taken_so, level_leaves_of, LevelLeaves, ItemGoes}
use Rattle.pgs_step.specs.declared.events.What.TheVariants as what

-- an event that says nothing of an item or of an owner, nor that a context is made or that a level begins or ends
abbrev pub is_usual : What → Bool
is_usual (what.Acquire item owner) = false
is_usual (what.Release item owner) = false
is_usual (what.NotClosed item owner) = false
is_usual (what.Create context name parent) = false
is_usual (what.Owner owner) = false
is_usual (what.OwnerIn owner parent) = false
is_usual (what.OwnerGone owner) = false
is_usual (what.MoveOwner owner parent) = false
is_usual (what.BeginLevel level) = false
is_usual (what.CommitLevel level) = false
is_usual (what.AbortLevel level) = false
is_usual (what.CleanupLevel level) = false
is_usual other = true

word_usual : (event : What) → is_word event ≡ true → is_usual event ≡ true
word_usual event h = grind (arith, nat_tests)

-- what is so of each word on a level
pub level_words : (P : What → Bool) → ((level : ℕ) → (P (what.BeginLevel level) ≡ true) × (P (what.CommitLevel level) ≡ true) × (P (what.AbortLevel level) ≡ true) × (P (what.CleanupLevel level) ≡ true)) → (event : What) → is_level_word event ≡ true → P event ≡ true
level_words P so event h = grind (arith, nat_tests)

-- the test that all pass
abbrev pub any : What → Bool
any event = true

pub usual_any : (event : What) → is_usual event ≡ true → any event ≡ true
usual_any event h = refl

-- such a law
pub record Usual (sees : Part → Bool) (P : What → Bool) : Type 0 where
  pub said : (event : What) → is_usual event ≡ true → P event ≡ true
  pub contexts : sees of_contexts ≡ false
  pub next_context : sees of_next_context ≡ false
  pub shelf : sees of_shelf ≡ false
  pub portals : sees of_portals ≡ false
  pub plans : sees of_plans ≡ false
  pub recent : sees of_recent ≡ false
  pub snapshots : sees of_snapshots ≡ false

module _ {sees : Part → Bool} {P : What → Bool} {R : Law} (o : Sight sees P R) (u : Usual sees P) where
  pub usual_contexts : ContextLeaves R
  usual_contexts = unseen_contexts sees P R o u.contexts u.next_context u.shelf (λ word n. u.said (what.Callback word n) refl) (λ n. u.said (what.Delete n) refl) (λ n. u.said (what.Reset n) refl)

  pub usual_files : FileLeaves R
  usual_files = unseen_files sees P R o u.recent (λ file. u.said (what.DescriptorOpened file) refl) (λ file. u.said (what.DescriptorClosed file) refl)

  pub usual_stack : StackLeaves R
  usual_stack = unseen_stack sees P R o u.snapshots (λ snapshot. u.said (what.Pop snapshot) refl)

  pub usual_pushed : (snapshot : ℕ) → Keeps R (snapshot_pushed snapshot)
  usual_pushed = pushes sees P R o u.snapshots (λ snapshot. u.said (what.Push snapshot) refl)

  pub usual_words : Words P
  usual_words = record { word = λ event h. u.said event (word_usual event h); line = λ depth n name stats. u.said _ refl; total = λ total. u.said _ refl }

  pub usual_moves : MoveLeaves R
  usual_moves = grind (arith, nat_tests, hook_waits_so, moves_context)

  -- where it sees no lock
  module _ (off : sees of_locks ≡ false) where
    pub usual_locks : LockLeaves R
    usual_locks = unseen_locks sees P R o off (λ object mode count owner. u.said (what.ReleaseLock object mode count owner) refl) (λ object mode count from to. u.said (what.PassLock object mode count from to) refl)

    pub usual_locked : (object : ℕ) (mode : Mode) (n : ℕ) → Keeps R (lock_taken object mode n)
    usual_locked = locks_one sees P R o off (λ object mode count owner. u.said (what.ReleaseLock object mode count owner) refl) (λ object mode owner. u.said (what.AcquireLock object mode owner) refl)

    pub usual_unlocked : (object : ℕ) (mode : Mode) (n : ℕ) → Keeps R (lock_given_back object mode n)
    usual_unlocked = unlocks sees P R o off (λ object mode count owner. u.said (what.ReleaseLock object mode count owner) refl)

  -- where it takes no notice of contexts that are made
  module _ (created : (n parent : ℕ) (name : Text) → P (what.Create n name parent) ≡ true) where
    pub usual_made : (parent : ℕ) (name : Text) (protected : Bool) (kind : CtxKind) → Keeps R (context_made parent name protected kind)
    usual_made = makes_context sees P R o u.contexts u.next_context u.shelf created

    pub usual_planned : (plan : ℕ) → Keeps R (plan_made plan)
    usual_planned = plans_one sees P R o u.portals u.plans usual_made

    pub usual_placed : (name : Text) (n : ℕ) → Keeps R (portal_becomes name (λ p. record p { context = Some n }))
    usual_placed = places sees P R o u.portals u.plans

    pub usual_makes : sees of_locks ≡ false → ((parent : Option ℕ) → Keeps R (owner_made parent)) → MakeLeaves R
    usual_makes off owner = grind (arith, nat_tests, usual_made, usual_placed, usual_planned, usual_locked, usual_unlocked, usual_files, usual_pushed)

  -- what it has of owners and their items, and of extension kinds, in all else that they are part of
  module _ (keys : KeyLeaves R) where
    pub usual_taken : OwnerLeaves R → (owner : ℕ) (kind : KindId) (key : ℕ) → Keeps R (item_taken owner kind key)
    usual_taken leaves = taken_so sees P R o u.portals u.plans leaves usual_files keys

    pub usual_released : ItemGoes R → (owner : ℕ) (kind : KindId) (key : ℕ) → Keeps R (item_released owner kind key)
    usual_released = releases sees P R o u.portals u.plans usual_contexts.gone usual_contexts.children usual_files.closed keys.closed

    pub usual_phase : OwnerLeaves R → LockLeaves R → (commit top : Bool) (n : ℕ) (phase : Phase) → Keeps R (phase_released commit top n phase)
    usual_phase = phase_so sees P R o u.portals u.plans usual_contexts.gone usual_contexts.children usual_files.closed keys.closed

    pub usual_levels : sees of_levels ≡ false → ((event : What) → is_level_word event ≡ true → P event ≡ true) → ItemGoes R → LevelLeaves R
    usual_levels off level goes = level_leaves_of sees P R o u.portals u.plans usual_contexts usual_words level (usual_released goes) off usual_stack

    pub usual_ends : sees of_levels ≡ false → ((event : What) → is_level_word event ≡ true → P event ≡ true) → OwnerLeaves R → LockLeaves R → ItemGoes R → ((n : ℕ) → Keeps R (owner_gone n)) → ((n parent : ℕ) → Keeps R (owner_moved n parent)) → EndLeaves R
    usual_ends off level leaves locks goes gone moved = record { levels = usual_levels off level goes; taken = usual_taken leaves; phase = usual_phase leaves locks; discarded = gone; moved = moved }

    -- where it sees neither locks, owners nor levels
    pub plain_ends : sees of_locks ≡ false → sees of_owners ≡ false → sees of_levels ≡ false → ((level : ℕ) → (P (what.BeginLevel level) ≡ true) × (P (what.CommitLevel level) ≡ true) × (P (what.AbortLevel level) ≡ true) × (P (what.CleanupLevel level) ≡ true))
        → ((item : Item) (n : ℕ) → P (what.Release item n) ≡ true) → ((n : ℕ) → P (what.OwnerGone n) ≡ true) → ((n parent : ℕ) → P (what.MoveOwner n parent) ≡ true) → OwnerLeaves R → EndLeaves R
    plain_ends locks owners levels words released gone moved leaves =
        usual_ends levels (level_words P words) leaves (usual_locks locks) (item_goes sees P R o owners released) (owner_goes sees P R o owners gone) (owner_moves sees P R o owners moved)

-- A line keeps a law that is kept by the ends of levels, by an error and by the line's elements.
module _ (R : Law) (ends : EndLeaves R) (error : (error : Error) → Keeps R (say (what.Error error))) where
  ended : (s : Scene) (done : Done) (refusal : Option Error) → Follows R s done → R s (turn_of done refusal).moment.scene (turn_of done refusal).events
  ended s done None h = h.so
  ended s done (Some e) h = ends.levels.leaves.acts.both h.so ((recovers R ends e (error e)).so done.moment.scene)

  pub turn_follows : (P : Element → Scene → Type 0) (w : Option ℕ) (line : Option Command) (m : Moment) → IsRun P w (line_elements line m.scene.session) m
      → ((x : Element) (n : Moment) → P x n.scene → Owes R w x n) → R m.scene (turn w line m).moment.scene (turn w line m).events
  unfolding turn
  turn_follows P w line m run owed =
      let done : Done = does_all w (line_elements line m.scene.session) m in
      ended m.scene done done.refusal (run_follows R ends.levels.leaves false P w (line_elements line m.scene.session) m (line_spoken false line m.scene.session (λ usual. absurd (cc usual))) run owed)

  pub any_turn_follows : MakeLeaves R → MoveLeaves R → (w : Option ℕ) (line : Option Command) (m : Moment) → R m.scene (turn w line m).moment.scene (turn w line m).events
  any_turn_follows makes moves w line m =
      turn_follows (λ x s. Unit {0}) w line m (runs_anyhow w (line_elements line m.scene.session) m) (λ x n known. all_owed R ends makes w x n (moves_owed R ends.levels.leaves.acts moves w x n))
