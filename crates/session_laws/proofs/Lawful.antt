-- Each transcript keeps the laws of lifetimes.
use Rattle.session_laws.proofs.Words.{◌≡◌, ℕ, ◌≤◌, true, false, Option, None, List, [], refl, ap, ◌==◌, IsTrue, is_none, and_from, eq-eqb, ReleasesOnce, acquires, closes, deletes, discards, ending, exits_last, first_parents, goes_childless, happens, has_context, locks, makes_owner, none_left, nothing, numbers_items, opens, pops_newest, releases, stacking, unlocks}
use Rattle.session_laws.proofs.Scenes.{Item, What, table_of, IsSound, AreDistinct, Options, Scene, exited, Reading, transcript_by, Kind, Event}
use Rattle.session_laws.proofs.Rules.{Reader, allows_all, events_of, seen_after, BalancesFrom, Covers, count, covers, left, CallsBack, StaysInside, MakesOnce, ReleasesInOrder, warning, warns_of_releases, ShelfState, held}
use Rattle.lifetime_laws.specs.Laws.{IsLawful}
use Rattle.session_laws.proofs.Lives.{IsLife, IsRead}
use Rattle.session_laws.proofs.Lifts.{HaveLived, last_of_all, lives_in_run, exits_life}
use Rattle.session_laws.proofs.Calls.{transcript_calls_back}
use Rattle.session_laws.proofs.FilesLife.{FilesFit, MayOpen, closing_turns, files_elsewhere, files_error, files_exit, files_open, files_turn}
use Rattle.session_laws.proofs.MadeOnce.{paired, FitsParents, NoneLeft, shedding_life, made_once_of}
use Rattle.session_laws.proofs.FilesHeld.{item_reader, ItemFits}
use Rattle.session_laws.proofs.FilesBalance.{FitsBoth, files_balance, files_life, items_cover, nothing_seen}
use Rattle.session_laws.proofs.LocksLife.{lock_life}
use Rattle.session_laws.proofs.StackLife.{stack_life}
use Rattle.session_laws.proofs.ParentsLife.{contexts_life, owners_life}
use Rattle.session_laws.proofs.MadeGone.{placing, placing_life, contexts_gone_of, owners_gone_of}
use Rattle.session_laws.proofs.OrderLife.{order}
use Rattle.session_laws.proofs.InsideLife.{inside_life}
use Rattle.session_laws.proofs.Warnings.{warnings}
use Rattle.session_laws.proofs.Items.{items_balance, items_life, numbers_life}

-- what balances in the end
balances : (brings takes : What → ℕ) (start : ℕ) (whats : List What) → allows_all (count brings takes) start whats ≡ true → seen_after (count brings takes) start whats ≡ 0 → BalancesFrom start brings takes whats
balances brings takes start whats allowed none = and_from (covers brings takes start whats) (left brings takes start whats == 0) allowed (eq-eqb (left brings takes start whats) 0 none)

module _ (reads : Reading) (w : Option ℕ) (options : Options) (kinds : List Kind) (shelf : ShelfState) (lines : List (List ℕ)) (differ : AreDistinct (held shelf)) (sound : IsSound (table_of kinds)) where
  -- the events of the run, and those of a session
  abbrev pub whole : List Event
  whole = transcript_by reads w options kinds shelf lines

  abbrev pub own : ℕ → List What
  own n = events_of n whole

  lived : {Seen : Type 0} {reader : Reader Seen} {Fits : Seen → Scene → Type 0} {start : Seen} {Last : Seen → Type 0} → IsLife (table_of kinds) reader Fits start Last
      → HaveLived (table_of kinds) reader Fits start Last options.sessions whole
  lived {reader = reader} {Fits = Fits} {start = start} {Last = Last} life = lives_in_run reader Fits start Last reads w options kinds shelf lines sound differ life

  -- items are numbered as they are acquired, and each is released once, by its owner
  pub numbers_kept : (n : ℕ) → IsTrue (numbers_items (own n))
  numbers_kept n = (lived (numbers_life (table_of kinds))).allowed n

  pub items_kept : (n : ℕ) → 1 ≤ n → n ≤ options.sessions → (item : Item) (owner : ℕ) → BalancesFrom 0 (acquires item owner) (releases item owner) (own n)
  items_kept n l u item owner =
      let life = lived (items_life (table_of kinds) item owner) in
      items_balance item owner (own n) (life.allowed n) (life.lasts n l u)

  -- no lock is released that isn't held, and none is left
  pub locks_kept : (n : ℕ) → 1 ≤ n → n ≤ options.sessions → (object mode : ℕ) → BalancesFrom 0 (locks object mode) (unlocks object mode) (own n)
  locks_kept n l u object mode = let life = lived (lock_life object mode (table_of kinds)) in balances (locks object mode) (unlocks object mode) 0 (own n) (life.allowed n) (life.lasts n l u)

  -- a file's descriptor is opened only where it has none
  turns_life : (file : ℕ) → IsLife (table_of kinds) (count (closes file) (opens file)) (FilesFit file MayOpen) 1 (λ n. Unit {0})
  turns_life file = record {
    opens = λ around table. files_open file MayOpen 1 around refl;
    elsewhere = λ n session a b table descriptors h. files_elsewhere file MayOpen n session a b descriptors h;
    error = files_error file (count (closes file) (opens file)) MayOpen (closing_turns file);
    turns = λ call line m h. files_turn file (count (closes file) (opens file)) MayOpen (closing_turns file) call line m;
    exits = λ s h n fit.
        let read : IsRead (count (closes file) (opens file)) (FilesFit file MayOpen) n (exited s).scene (exited s).events = (files_exit file (count (closes file) (opens file)) MayOpen (closing_turns file) s).so n fit in
        (read.allowed, tt);
  }

  pub turns_kept : (n : ℕ) (file : ℕ) → Covers (closes file) (opens file) 1 (own n)
  turns_kept n file =
      let life = lives_in_run (count (closes file) (opens file)) (FilesFit file MayOpen) 1 (λ n. Unit {0}) reads w options kinds shelf lines sound differ (turns_life file) in
      life.allowed n

  -- each pop is of the newest active snapshot, and none is left
  pub snapshots_kept : (n : ℕ) → 1 ≤ n → n ≤ options.sessions → IsTrue (pops_newest (own n))
  snapshots_kept n l u =
      let life = lived (stack_life (table_of kinds)) in
      and_from (allows_all stacking [] (own n)) (none_left (seen_after stacking [] (own n))) (life.allowed n) (life.lasts n l u)

  -- contexts and owners have no child when they go
  pub childless_kept : (n : ℕ) → IsTrue (goes_childless (own n))
  childless_kept n = (lived (shedding_life (table_of kinds))).allowed n

  -- each session says its end once, last
  pub exits_kept : (n : ℕ) → 1 ≤ n → n ≤ options.sessions → IsTrue (exits_last (own n))
  exits_kept n l u =
      let life = lived (exits_life (table_of kinds)) in
      and_from (allows_all ending false (own n)) (seen_after ending false (own n)) (life.allowed n) (life.lasts n l u)

  -- each warning stands directly before the release of its item
  pub warnings_kept : (n : ℕ) → IsTrue (warns_of_releases (own n))
  warnings_kept n =
      let life = lived (warnings (table_of kinds)) in
      and_from (allows_all warning None (own n)) (is_none (seen_after warning None (own n))) (life.allowed n) (ap is_none (last_of_all life (λ last around settled. settled) n))

  -- Each callback runs once, before its memory goes.
  pub called_back : CallsBack whole
  called_back = transcript_calls_back reads w options kinds shelf lines sound differ

  -- Nothing is made twice, and nothing goes that was not made.
  pub transcript_makes_once : MakesOnce options.sessions whole
  transcript_makes_once n l u =
      made_once_of (own n) ((lived (contexts_life (table_of kinds))).allowed n) ((lived (owners_life (table_of kinds))).allowed n)

  -- each context and each owner goes once
  replayed : HaveLived (table_of kinds) placing FitsParents first_parents NoneLeft options.sessions whole
  replayed = lived (placing_life (table_of kinds))

  pub contexts_kept : (n : ℕ) → 1 ≤ n → n ≤ options.sessions → (context : ℕ) → IsTrue (has_context context (own n)) → BalancesFrom 1 nothing (deletes context) (own n)
  contexts_kept n l u = contexts_gone_of (own n) ((lived (contexts_life (table_of kinds))).allowed n) (replayed.allowed n) (replayed.lasts n l u)

  pub owners_kept : (n : ℕ) → 1 ≤ n → n ≤ options.sessions → (owner : ℕ) → IsTrue (happens (makes_owner owner) (own n)) → BalancesFrom 1 nothing (discards owner) (own n)
  owners_kept n l u = owners_gone_of (own n) ((lived (owners_life (table_of kinds))).allowed n) (replayed.allowed n) (replayed.lasts n l u)

  -- a file's descriptor is closed as often as it is opened
  descriptors_kept : (n : ℕ) → 1 ≤ n → n ≤ options.sessions → (file : ℕ) → BalancesFrom 0 (opens file) (closes file) (own n)
  descriptors_kept n l u file =
      let items = item_reader file in
      let life = lives_in_run (paired (count (opens file) (closes file)) items) (FitsBoth file items (ItemFits file) (items_cover file)) (nothing_seen file items (ItemFits file) (items_cover file))
      (λ seen. seen.first ≤ seen.second) reads w options kinds shelf lines sound differ (files_life file items (ItemFits file) (items_cover file) (table_of kinds)) in
      files_balance file (own n) (items_kept n l u) (life.allowed n) (life.lasts n l u)

  -- Each resource that is acquired is released exactly once.
  pub released_once : ReleasesOnce options.sessions whole
  released_once n l u = record {
    numbers = numbers_kept n;
    items = items_kept n l u;
    locks = locks_kept n l u;
    descriptors = descriptors_kept n l u;
    turns = turns_kept n;
    snapshots = snapshots_kept n l u;
    contexts = contexts_kept n l u;
    owners = owners_kept n l u;
    childless = childless_kept n;
    exit = exits_kept n l u;
  }

  -- The ends of levels release descendants first, by phase and priority.
  pub released_in_order : ReleasesInOrder (table_of kinds) whole
  released_in_order n = record { order = (lived (order (table_of kinds))).allowed n; warnings = warnings_kept n }

  -- The end of a level that aborts touches nothing outside it.
  pub stays_inside : StaysInside whole
  stays_inside n = (lived (inside_life (table_of kinds))).allowed n

  -- So each transcript is lawful.
  pub transcript_is_lawful : IsLawful (table_of kinds) options.sessions whole
  transcript_is_lawful = record { released_once = released_once; released_in_order = released_in_order; stays_inside = stays_inside; called_back = called_back }
