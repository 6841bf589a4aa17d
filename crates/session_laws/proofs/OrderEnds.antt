-- A reader of releases, where none is open, as one opens, and as it closes.
use Rattle.session_laws.proofs.Words.{◌≡◌, ℕ, Bool, true, false, not, List, [], ◌∷◌, ◌++◌, map, Option, Some, None, refl, sym, subst, codes, ◌∙◌, ◌+◌, ◌<◌, All, ap, arith, ◌≤◌, length, ◌==◌, and_from, All-filter, All-weaker, Empty, Node, AllNodes, children, order, nat_tests}
use Rattle.session_laws.proofs.Scenes.{What, KindTable, portals_context, opening, LevelState, OpenPortal, deepest_changed, depth, first_of, level_owner, owner_of, top_context, Moment, Scene, Around, Element, Text, new_context_made, owner_made, owner_gone, descriptor_left, owner_moved, owner_released, does, Item, Phase, BeforeLocks, Locks, AfterLocks, table_of, is_of, without_newest, is_of_phase, Owner, OwnerTree, remembered, own_released, IsInOrder, Lock, has_owner, Ended, changes, context_gone, for_each, in_order, portal_gone, switched, where_so, where_there, portal_aborted, portal_closed, portal_passed, aborted, cleaned_up, committed, empty_context_gone, level_context_gone, level_owner_gone, level_popped, level_released, stack_lowered, stack_popped, subcommitted, switched_up, Stands, active_depth, is_among, gone_levels}
use Rattle.session_laws.proofs.Rules.{allows_all, seen_after, allows_all-append, seen_after-append, AreSaid, said_more, said_none, said_both, said_one, said_pops, Acts, Follows, Keeps, last, next, EndLeaves, Law, MakeLeaves, Leaves, OwnerLeaves, KeyLeaves, Part, Sight, acts_of, children_go, goes, item_comes, item_goes, leaves_of, of_levels, owner_goes, owner_makes, places, releases, unseen_keys, unseen_owners, of_kinds, of_locks, of_next_serial, of_owners, owner_moves, by_order, moves_owed, by_each, by_so, by_there, all_swept, begins, off_begins, owner_when_active, resettled, settled, switched_off, aborted_leads, empty_context_goes, level_context_goes, portal_aborts, portal_cleans, portal_closes, portal_passes, Member, Releasing, ordering, owners_behind, IsInOrder-acquired, down, keeps-down, keeps-passed, keeps-without, IsInOrder-filter, IsInOrder-map, table-closed, table-opened, all_changed, all_moved, all_put, all_removed, passed_leads}
use Rattle.session_laws.proofs.Usual.{Usual, any, usual_any, is_usual, usual_contexts, usual_files, usual_locked, usual_locks, usual_made, usual_moves, usual_placed, usual_planned, usual_pushed, usual_stack, usual_unlocked, usual_words, usual_ends, usual_released, usual_taken, usual_phase}
use Rattle.session_laws.proofs.Parents.{Growth, growing_owners, FitsOwners}
use Rattle.session_laws.proofs.Warnings.{is_aside, is_line}
use Rattle.session_laws.proofs.OrderSteps.{Adds, adds_aside, in_batch, falling_filter, Falls, HasBatch, owner_release}
use Rattle.session_laws.proofs.OwnWork.{IsOwnWork, WorkLeaves, own_follows}
use Rattle.owner_items.proofs.Order.{All-without, falling-without}
use Rattle.lock_local.specs.Changes.{passed_lock, without}
use Rattle.session_laws.proofs.Lives.{owes_by, OwesTurns, IsRead}
use Rattle.session_laws.proofs.ParentsLife.{HasOwners, KeepsOwners, owner_level_leaves, owners_moved}
use Rattle.session_laws.proofs.OwnerEnds.{released_levels, aborted_reads, each_reads, passed_reads}
use Rattle.pgs_step.specs.declared.events.What.TheVariants as what
use Rattle.lifetime_laws.specs.Parents as replayed
use Rattle.any_ctx.specs.declared.any.CtxKind.TheVariants as kind
use Rattle.session_rules.specs.Elements as e

-- the owners that are replayed behind these events
abbrev pub nodes_after : List replayed.Node → List What → List replayed.Node
nodes_after nodes [] = nodes
nodes_after nodes (event ∷ events) = nodes_after (owners_behind event nodes) events

pub ordered_nodes : (kinds : KindTable) (events : List What) (seen : Releasing) → (seen_after (ordering kinds) seen events).owners ≡ nodes_after seen.owners events
ordered_nodes kinds [] seen = refl
ordered_nodes kinds (event ∷ events) seen = ordered_nodes kinds events ((ordering kinds).next event seen)

pub grown_nodes : (events : List What) (growth : Growth) → (seen_after growing_owners growth events).nodes ≡ nodes_after growth.nodes events
grown_nodes [] growth = refl
grown_nodes (event ∷ events) growth = grown_nodes events (growing_owners.next event growth)

abbrev pub is_unlined : What → Bool
is_unlined event = not (is_line event)

-- what passes over a release that has released nothing so far: at commit also what portals give back
abbrev pub is_passing : Bool → What → Bool
is_passing aborts (what.Callback word context) = true
is_passing aborts (what.Delete context) = true
is_passing aborts (what.DescriptorClosed file) = true
is_passing aborts (what.Pop snapshot) = true
is_passing aborts (what.MoveOwner owner parent) = true
is_passing aborts (what.Release item owner) = not aborts
is_passing aborts other = false

module _ (kinds : KindTable) where
  -- The events are in order, and what is seen behind them is so.
  pub record Goes (seen : Releasing) (events : List What) (P : Releasing → Type 0) : Type 0 where
    pub allowed : allows_all (ordering kinds) seen events ≡ true
    pub behind : P (seen_after (ordering kinds) seen events)

  pub goes_none : (seen : Releasing) (P : Releasing → Type 0) → P seen → Goes seen [] P
  goes_none seen P h = record { allowed = refl; behind = h }

  pub goes_both : {seen : Releasing} {xs ys : List What} {P Q : Releasing → Type 0} → Goes seen xs P → ((mid : Releasing) → P mid → Goes mid ys Q) → Goes seen (xs ++ ys) Q
  goes_both {seen = seen} {xs = xs} {ys = ys} {Q = Q} a more = grind (arith, nat_tests, allows_all-append, seen_after-append)

  pub goes_weaker : {seen : Releasing} {events : List What} {P Q : Releasing → Type 0} → ((b : Releasing) → P b → Q b) → Goes seen events P → Goes seen events Q
  goes_weaker f g = record { allowed = g.allowed; behind = f _ g.behind }

  -- where no release is open, none opens but by a level's line
  abbrev pub IsClosed : Releasing → Type 0
  IsClosed seen = seen.batch ≡ None

  pub closed_goes : {events : List What} → AreSaid is_unlined events → (seen : Releasing) → IsClosed seen → Goes seen events IsClosed
  closed_goes said_none seen is = goes_none seen IsClosed is
  closed_goes (said_more {event = event} {events = events} h hs) seen is = grind (arith, nat_tests, closed_goes hs, and_from)

  -- a level's line opens one, whatever was open before
  pub commit_opens : (level : ℕ) (seen : Releasing) → Goes seen (what.CommitLevel level ∷ []) (λ behind. behind ≡ in_batch seen.owners false [])
  commit_opens level seen = grind (arith, nat_tests, and_from)

  pub abort_opens : (level : ℕ) (seen : Releasing) → Goes seen (what.AbortLevel level ∷ []) (λ behind. behind ≡ in_batch seen.owners true [])
  abort_opens level seen = grind (arith, nat_tests, and_from)

  -- an event that closes one
  pub data Closes : What → Type 0 where
    by_cleanup : (level : ℕ) → Closes (what.CleanupLevel level)
    by_gone : (owner : ℕ) → Closes (what.OwnerGone owner)
    by_error : {error : _} → Closes (what.Error error)
    by_ok : Closes what.Ok

  pub closes : {event : What} → Closes event → (seen : Releasing) → Goes seen (event ∷ []) IsClosed
  closes {event = event} h seen = grind (arith, nat_tests, and_from)

  -- what passes over a release that has released nothing so far
  pub passing_goes : (aborts : Bool) (nodes : List replayed.Node) {events : List What} → AreSaid (is_passing aborts) events → Goes (in_batch nodes aborts []) events (λ behind. behind ≡ in_batch (nodes_after nodes events) aborts [])
  passing_goes aborts nodes said_none = goes_none (in_batch nodes aborts []) (λ behind. behind ≡ in_batch nodes aborts []) refl
  passing_goes aborts nodes (said_more {event = event} {events = events} h hs) = grind (arith, nat_tests, passing_goes aborts (owners_behind event nodes) hs, last, goes_both, in_batch)

  -- what a release says in order, and what is said beside it
  pub adds_goes : (nodes : List replayed.Node) (aborts : Bool) (old new : List Member) {events : List What} → Adds kinds nodes aborts old new events → Goes (in_batch nodes aborts old) events (λ behind. behind ≡ in_batch nodes aborts new)
  adds_goes nodes aborts old new h = record { allowed = h.allowed; behind = h.behind }

  pub aside_goes : (nodes : List replayed.Node) (aborts : Bool) (members : List Member) {events : List What} → AreSaid is_aside events → Goes (in_batch nodes aborts members) events (λ behind. behind ≡ in_batch nodes aborts members)
  aside_goes nodes aborts members h = adds_goes nodes aborts members members (adds_aside kinds nodes aborts members h)

  -- owners that go close it
  gone_closed : (ns : List ℕ) (seen : Releasing) → IsClosed seen → Goes seen (map (λ n. what.OwnerGone n) ns) IsClosed
  gone_closed [] seen is = goes_none seen IsClosed is
  gone_closed (n ∷ ns) seen is = goes_both {xs = what.OwnerGone n ∷ []} {ys = map (λ n. what.OwnerGone n) ns} (closes (by_gone n) seen) (λ mid closed. gone_closed ns mid closed)

  pub gone_goes : (ns : List ℕ) (n : ℕ) (seen : Releasing) → Goes seen (map (λ m. what.OwnerGone m) (ns ++ n ∷ [])) IsClosed
  gone_goes [] n seen = closes (by_gone n) seen
  gone_goes (m ∷ ns) n seen = goes_both {xs = what.OwnerGone m ∷ []} {ys = map (λ m. what.OwnerGone m) (ns ++ n ∷ [])} (closes (by_gone m) seen) (λ mid closed. gone_closed (ns ++ n ∷ []) mid closed)

-- What steps of a session say, by a test of events, while they leave the levels as they are.

-- all events pass a test, and the levels stay
pub record Mild (P : What → Bool) (s t : Scene) (events : List What) : Type 0 where
  pub said : AreSaid P events
  pub levels : t.session.levels ≡ s.session.levels

abbrev pub sees_levels : Part → Bool
sees_levels of_levels = true
sees_levels other = false

abbrev pub mild_sight : (P : What → Bool) → Sight sees_levels P (Mild P)
mild_sight P = record {
  both = λ h k. record { said = said_both h.said k.said; levels = k.levels ∙ h.levels };
  aside = λ s t same said. record { said = said; levels = same.so of_levels refl };
}

-- the ends of portals, where contexts that go pass
pub mild_acts : (P : What → Bool) → ((word n : ℕ) → P (what.Callback word n) ≡ true) → ((n : ℕ) → P (what.Delete n) ≡ true) → Acts (Mild P)
mild_acts P called deleted =
    acts_of sees_levels P (Mild P) (mild_sight P) refl refl (goes sees_levels P (Mild P) (mild_sight P) refl refl refl called deleted) (children_go sees_levels P (Mild P) (mild_sight P) refl refl refl called deleted)

-- an element that neither makes nor ends a level
abbrev Unlined : Scene → Scene → List What → Type 0
Unlined = Mild is_unlined

abbrev unlined_sight : Sight sees_levels is_unlined Unlined
unlined_sight = mild_sight is_unlined

usual_unlined : (event : What) → is_usual event ≡ true → is_unlined event ≡ true
usual_unlined event h = grind (arith, nat_tests)

unlined_usual : Usual sees_levels is_unlined
unlined_usual = assumption usual_unlined

owners : OwnerLeaves Unlined
owners = unseen_owners sees_levels is_unlined Unlined unlined_sight refl (λ item n. refl) (λ item n. refl) (item_comes sees_levels is_unlined Unlined unlined_sight refl refl (λ item n. refl))

keys : KeyLeaves Unlined
keys = unseen_keys sees_levels is_unlined Unlined unlined_sight refl

pub gone_mild : (n : ℕ) → Keeps Unlined (owner_gone n)
gone_mild = owner_goes sees_levels is_unlined Unlined unlined_sight refl (λ n. refl)

work_leaves : WorkLeaves Unlined
work_leaves = record {
  leaves = leaves_of sees_levels is_unlined Unlined unlined_sight refl refl (usual_contexts unlined_sight unlined_usual) (usual_words unlined_sight unlined_usual)
      (usual_released unlined_sight unlined_usual keys (item_goes sees_levels is_unlined Unlined unlined_sight refl (λ item n. refl)));
  moves = usual_moves unlined_sight unlined_usual;
  made = usual_made unlined_sight unlined_usual (λ n parent name. refl);
  planned = usual_planned unlined_sight unlined_usual (λ n parent name. refl);
  owner = owner_makes sees_levels is_unlined Unlined unlined_sight refl refl (λ n. refl) (λ n parent. refl);
  taken = usual_taken unlined_sight unlined_usual keys owners;
  locked = usual_locked unlined_sight unlined_usual refl;
  unlocked = usual_unlocked unlined_sight unlined_usual refl;
  used = (usual_files unlined_sight unlined_usual).used;
  pushed = usual_pushed unlined_sight unlined_usual;
  popped = (usual_stack unlined_sight unlined_usual).popped;
  phase = usual_phase unlined_sight unlined_usual keys owners (usual_locks unlined_sight unlined_usual refl);
  discarded = gone_mild;
}

-- a portal gets its context
places_mild : (name : Text) (s : Scene) → Unlined s (new_context_made (e.PortalContext name) s).scene (new_context_made (e.PortalContext name) s).events
places_mild name s = (by_order Unlined work_leaves.leaves.acts (next (work_leaves.made portals_context (codes "PortalContext") true kind.Small) (next (usual_placed unlined_sight unlined_usual (λ n parent name. refl) name s.session.next_context) last))).so s

pub own_mild : (w : Option ℕ) (x : Element) (m : Moment) → IsOwnWork x → Follows Unlined m.scene (does w x m)
own_mild w x m own = own_follows Unlined work_leaves w x m own (λ name. places_mild name m.scene)

-- What stands at all times besides: the locks of a session stand in order, and the items of each owner newest first.

-- an owner's items stand newest first, and none has the number of the next one
pub record Recalls (next : ℕ) (owner : Owner) : Type 0 where
  pub falls : Falls owner
  pub older : All (λ item. item.serial < next) owner.items

pub record Based (kinds : KindTable) (s : Scene) : Type 0 where
  pub places : table_of s.around.kinds ≡ kinds
  pub locks : IsInOrder s.session.locks
  pub items : AllNodes (Recalls s.session.next_serial) s.session.owners

pub record KeepsBase (kinds : KindTable) (s t : Scene) (events : List What) : Type 0 where
  pub so : Based kinds s → Based kinds t

abbrev sees_base : Part → Bool
sees_base of_owners = true
sees_base of_next_serial = true
sees_base of_locks = true
sees_base of_kinds = true
sees_base other = false

module _ (kinds : KindTable) where
  abbrev R : Law
  R = KeepsBase kinds

  -- what leaves all of it as it is
  same : (s t : Scene) (events : List What) → t.session.locks ≡ s.session.locks → t.session.owners ≡ s.session.owners → t.session.next_serial ≡ s.session.next_serial → table_of t.around.kinds ≡ table_of s.around.kinds → R s t events
  same s t events l o n k = grind (arith, nat_tests, places, next)

  abbrev base_sight : Sight sees_base any (KeepsBase kinds)
  base_sight = record {
    both = λ a b. record { so = λ h. b.so (a.so h) };
    aside = λ s t alike said. same s t _ (alike.so of_locks refl) (alike.so of_owners refl) (alike.so of_next_serial refl) (ap table_of (alike.so of_kinds refl));
  }

  owner_so : (parent : Option ℕ) (s : Scene) → R s (owner_made parent s).scene (owner_made parent s).events
  owner_so parent s = grind (arith, nat_tests, places, all_put)

  forget : (bound : ℕ) (test : Item → Bool) (owner : Owner) → Recalls bound owner → Recalls bound (record owner { items = without_newest test owner.items })
  forget bound test owner h = record { falls = falling-without test owner.items h.falls; older = All-without (λ (item : Item). item.serial < bound) test owner.items h.older }

  -- an owner remembers the next item
  later : (bound : ℕ) (owner : Owner) → Recalls bound owner → Recalls (bound + 1) owner
  later bound owner h = record { falls = h.falls; older = All-weaker (λ (item : Item). item.serial < bound) (λ (item : Item). item.serial < bound + 1) (λ item l. omega (arith, l)) owner.items h.older }

  recalled : (n : ℕ) (item : Item) (t : OwnerTree) → AllNodes (Recalls item.serial) t → AllNodes (Recalls (item.serial + 1)) (remembered n item t)
  recalled n item Empty h = tt
  recalled n item (Node k owner below beside) h = grind (arith, nat_tests, recalled n item below, recalled n item beside)

  released_recalls : (places : KindTable) (phase : Phase) (bound : ℕ) (owner : Owner) → Recalls bound owner → Recalls bound (own_released places phase owner)
  released_recalls places Locks bound owner h = record { falls = h.falls; older = h.older }
  released_recalls places BeforeLocks bound owner h = record {
    falls = falling_filter (λ item. not (is_of_phase places BeforeLocks item)) owner.items h.falls;
    older = All-filter (λ item. not (is_of_phase places BeforeLocks item)) (λ (item : Item). item.serial < bound) owner.items h.older;
  }
  released_recalls places AfterLocks bound owner h = record {
    falls = falling_filter (λ item. not (is_of_phase places AfterLocks item)) owner.items h.falls;
    older = All-filter (λ item. not (is_of_phase places AfterLocks item)) (λ (item : Item). item.serial < bound) owner.items h.older;
  }

  owners_change : (s : Scene) (owners : OwnerTree) {events : List What} → (AllNodes (Recalls s.session.next_serial) s.session.owners → AllNodes (Recalls s.session.next_serial) owners) → R s (record s { session = record s.session { owners = owners } }) events
  owners_change s owners keeps = record { so = λ h. record { places = h.places; locks = h.locks; items = keeps h.items } }

  locks_change : (s : Scene) (all : List Lock) {events : List What} → (IsInOrder s.session.locks → IsInOrder all) → R s (record s { session = record s.session { locks = all } }) events
  locks_change s all keeps = record { so = λ h. record { places = h.places; locks = keeps h.locks; items = h.items } }

  usual : Usual sees_base any
  usual = assumption usual_any

  pub base_leaves : EndLeaves R
  base_leaves =
      usual_ends base_sight usual (record {
        opened = λ place key. record { so = λ s. same s _ _ refl refl refl (table-opened s.around.kinds place key) };
        closed = λ place key. record { so = λ s. same s _ _ refl refl refl (table-closed s.around.kinds place key) };
      }) refl (λ event h. refl) (record {
        releasing = λ item n. record { so = λ s. record { so = λ h. h } };
        warned = λ item n s. record { so = λ h. h };
        remembered = grind (arith, nat_tests, places, recalled, owners);
        swept = λ places phase n s. owners_change s _ (all_swept (own_released places phase) (Recalls s.session.next_serial) n s.session.owners (released_recalls places phase s.session.next_serial));
      }) (record {
        let_go = λ owner. record { so = λ s. locks_change s _ (λ h. IsInOrder-filter has_owner (map (without owner) s.session.locks) (IsInOrder-map (without owner) (keeps-without owner) s.session.locks h)) };
        passed = λ from to. record { so = λ s. locks_change s _ (IsInOrder-map (passed_lock from to) (keeps-passed from to) s.session.locks) };
        all_gone = λ top. record { so = λ s. locks_change s [] (λ h. tt) };
      })
      (λ n kind key item s is. owners_change s _
      (all_changed (Recalls s.session.next_serial) n (λ owner. record owner { items = without_newest (is_of kind key) owner.items }) s.session.owners (forget s.session.next_serial (is_of kind key))))
      (λ n. record { so = λ s. owners_change s _ (all_removed (Recalls s.session.next_serial) n s.session.owners) }) (λ n parent. record { so = λ s. owners_change s _ (all_moved (Recalls s.session.next_serial) n parent s.session.owners) })

  base_makes : MakeLeaves R
  base_makes = record {
    made = usual_made base_sight usual (λ n parent name. refl);
    placed = usual_placed base_sight usual (λ n parent name. refl);
    planned = usual_planned base_sight usual (λ n parent name. refl);
    owner = λ parent. record { so = owner_so parent };
    locked = λ object mode n. record { so = λ s. locks_change s _ (IsInOrder-acquired n object mode s.session.locks) };
    unlocked = λ object mode n. record { so = λ s. locks_change s _ (λ h. IsInOrder-filter has_owner (map (down n object mode) s.session.locks) (IsInOrder-map (down n object mode) (keeps-down n object mode) s.session.locks h)) };
    used = (usual_files base_sight usual).used;
    pushed = usual_pushed base_sight usual;
  }

  pub base_owed : OwesTurns (KeepsBase kinds)
  base_owed = owes_by R base_leaves base_makes (λ error s. record { so = λ h. h }) (λ w x m meets. moves_owed R base_leaves.levels.leaves.acts (usual_moves base_sight usual) w x m)

  pub opening_based : (around : Around) → table_of around.kinds ≡ kinds → Based kinds (record { session = opening; around = around })
  unfolding opening
  opening_based around is = record { places = is; locks = tt; items = tt }

-- The ends of levels are said in order: what portals give back, the release of the level's owner, and what comes behind it.

abbrev own : Acts KeepsOwners
own = owner_level_leaves.leaves.acts

-- the deepest level is aborted
abbrev aborted_levels : List LevelState → List LevelState
aborted_levels levels = deepest_changed (λ old. record old { aborted = true }) levels

-- what is said of portals
abbrev Pass : Bool → Law
Pass aborts = Mild (is_passing aborts)

abbrev pass_sight : (aborts : Bool) → Sight sees_levels (is_passing aborts) (Pass aborts)
pass_sight aborts = mild_sight (is_passing aborts)

pass_acts : (aborts : Bool) → Acts (Pass aborts)
pass_acts aborts = mild_acts (is_passing aborts) (λ word n. refl) (λ n. refl)

closed_so : (file : ℕ) → Keeps (Pass false) (descriptor_left file)
closed_so file = record { so = λ s. (by_so (Pass false) (pass_acts false) (is_among file s.session.recent) _ (record { so = λ s. record { said = said_one (what.DescriptorClosed file) refl; levels = refl } })).so s }

closes_mild : (p : OpenPortal) → Keeps (Pass false) (portal_closed p)
closes_mild p =
    portal_closes (Pass false) (pass_acts false)
    (releases sees_levels (is_passing false) (Pass false) (pass_sight false) refl refl (pass_acts false).gone (pass_acts false).children closed_so (unseen_keys sees_levels (is_passing false) (Pass false) (pass_sight false) refl).closed
    (item_goes sees_levels (is_passing false) (Pass false) (pass_sight false) refl (λ item n. refl))) p

moves_mild : (aborts : Bool) (n parent : ℕ) → Keeps (Pass aborts) (owner_moved n parent)
moves_mild aborts = owner_moves sees_levels (is_passing aborts) (Pass aborts) (pass_sight aborts) refl (λ n parent. refl)

-- what comes behind an owner that goes
abbrev Quiet : Law
Quiet = Mild is_unlined

quiet_acts : Acts Quiet
quiet_acts = mild_acts is_unlined (λ word n. refl) (λ n. refl)

context_quiet : (s : Scene) → AreSaid is_unlined (level_context_gone s).events
context_quiet s = let k : Quiet s (level_context_gone s).scene (level_context_gone s).events = (level_context_goes Quiet quiet_acts).so s in k.said

empty_quiet : (s : Scene) → AreSaid is_unlined (empty_context_gone s).events
empty_quiet s = let k : Quiet s (empty_context_gone s).scene (empty_context_gone s).events = (empty_context_goes Quiet quiet_acts).so s in k.said

gone_quiet : (s : Scene) → AreSaid is_unlined (level_owner_gone s).events
gone_quiet s = let k : Quiet s (level_owner_gone s).scene (level_owner_gone s).events = (by_there Quiet quiet_acts (level_owner s.session) owner_gone gone_mild).so s in k.said

all_nodes_fall : (bound : ℕ) (t : OwnerTree) → AllNodes (Recalls bound) t → AllNodes Falls t
all_nodes_fall bound Empty h = tt
all_nodes_fall bound (Node n owner below beside) h = (h.0.falls, all_nodes_fall bound below h.1, all_nodes_fall bound beside h.2)

-- A replay of owners fits a scene whose locks and items stand in order.
pub record Fit (kinds : KindTable) (nodes : List replayed.Node) (s : Scene) : Type 0 where
  pub owners : FitsOwners nodes s
  pub based : Based kinds s

module _ (kinds : KindTable) where
  pub keeps_fit : {s t : Scene} {events : List What} → KeepsOwners s t events → KeepsBase kinds s t events → (nodes : List replayed.Node) → Fit kinds nodes s → Fit kinds (nodes_after nodes events) t
  keeps_fit {s = s} {t = t} {events = events} k b nodes h =
      let g : Growth = record { nodes = nodes; next = s.session.next_owner } in
      let r : IsRead growing_owners HasOwners g t events = k.so g (record { fits = h.owners; next = refl }) in
      record { owners = subst (λ (ns : List replayed.Node). FitsOwners ns t) (grown_nodes events g) r.fits.fits; based = b.so h.based }

  -- the release of a level's owner, where it has one
  release_goes : (commit top : Bool) (o : Option ℕ) (nodes : List replayed.Node) (z : Scene) → Fit kinds nodes z
      → Goes kinds (in_batch nodes (not commit) []) (where_there o (owner_released commit top) z).events (λ b. (members : List Member) × (b ≡ in_batch nodes (not commit) members))
  release_goes commit top None nodes z h = goes_none kinds (in_batch nodes (not commit) []) (λ b. (members : List Member) × (b ≡ in_batch nodes (not commit) members)) ([], refl)
  release_goes commit top (Some lo) nodes z h =
      let b : HasBatch kinds nodes (not commit) (owner_released commit top lo z).events =
      owner_release kinds nodes commit top lo z h.based.places h.owners.tree (all_nodes_fall z.session.next_serial z.session.owners h.based.items) h.based.locks in
      record { allowed = b.adds.allowed; behind = (b.members, b.adds.behind) }

  -- an owner that goes, and what comes behind it
  gone_closes : (lo : ℕ) (acts : List (Scene → Ended)) → ((s : Scene) → AreSaid is_unlined (in_order acts s).events) → (y : Scene) → level_owner y.session ≡ Some lo → (seen : Releasing)
      → Goes kinds seen (in_order (level_owner_gone ∷ acts) y).events (IsClosed kinds)
  gone_closes lo acts said y is seen =
      goes_both kinds
      (subst (λ (o : Option ℕ). Goes kinds seen (where_there o owner_gone y).events (IsClosed kinds)) (sym is) (gone_goes kinds (order (children lo y.session.owners)) lo seen))
      (λ mid closed. closed_goes kinds (said (level_owner_gone y).scene) mid closed)

  -- the release of the deepest level's owner, with what comes behind it
  end_goes : (commit top : Bool) (stack : Scene → Ended) (acts : List (Scene → Ended)) → ((s : Scene) → AreSaid is_aside (stack s).events) → ((s : Scene) → (stack s).scene.session.levels ≡ s.session.levels)
      → ((s : Scene) → AreSaid is_unlined (in_order acts s).events) → (lo : ℕ) (nodes : List replayed.Node) (z : Scene) → level_owner z.session ≡ Some lo → Fit kinds nodes z
      → Goes kinds (in_batch nodes (not commit) []) (in_order (level_released commit top ∷ stack ∷ level_owner_gone ∷ acts) z).events (IsClosed kinds)
  end_goes commit top stack acts quiet stays rest lo nodes z is h =
      let a : Scene = (level_released commit top z).scene in
      let b : Scene = (stack a).scene in
      let still : level_owner b.session ≡ Some lo = ap (λ (levels : List LevelState). owner_of (first_of levels)) (stays a ∙ released_levels commit top (level_owner z.session) z) ∙ is in
      goes_both kinds (release_goes commit top (level_owner z.session) nodes z h)
      (λ mid m.
      subst (λ (seen : Releasing). Goes kinds seen (in_order (stack ∷ level_owner_gone ∷ acts) a).events (IsClosed kinds)) (sym m.1)
      (goes_both kinds (aside_goes kinds nodes (not commit) m.0 (quiet a)) (λ seen going. gone_closes lo acts rest b still seen)))

  -- from a commit's line on: what portals do, and the release
  commit_line : (level : ℕ) (loop rest : Scene → Ended) (st : Scene) → AreSaid (is_passing false) (loop st).events
      → ((nodes : List replayed.Node) → Fit kinds nodes st → Fit kinds (nodes_after nodes (loop st).events) (loop st).scene)
      → ((nodes : List replayed.Node) → Fit kinds nodes (loop st).scene → Goes kinds (in_batch nodes false []) (rest (loop st).scene).events (IsClosed kinds))
      → (seen : Releasing) → Fit kinds seen.owners st → Goes kinds seen (what.CommitLevel level ∷ ((loop st).events ++ (rest (loop st).scene).events)) (IsClosed kinds)
  commit_line level loop rest st said fits goes seen h =
      goes_both kinds {xs = what.CommitLevel level ∷ []} {ys = (loop st).events ++ (rest (loop st).scene).events} (commit_opens kinds level seen)
      (λ mid is.
      subst (λ (z : Releasing). Goes kinds z ((loop st).events ++ (rest (loop st).scene).events) (IsClosed kinds)) (sym is)
      (goes_both kinds (passing_goes kinds false seen.owners said)
      (λ going now. subst (λ (z : Releasing). Goes kinds z (rest (loop st).scene).events (IsClosed kinds)) (sym now) (goes (nodes_after seen.owners (loop st).events) (fits seen.owners h)))))

  -- level 1 commits
  close_fits : (ps : List OpenPortal) (s : Scene) (nodes : List replayed.Node) → Fit kinds nodes s → Fit kinds (nodes_after nodes (for_each portal_closed ps s).events) (for_each portal_closed ps s).scene
  close_fits ps s nodes h =
      let l : Leaves (KeepsBase kinds) = (base_leaves kinds).levels.leaves in
      let o : KeepsOwners s (for_each portal_closed ps s).scene (for_each portal_closed ps s).events = grind (arith, nat_tests, by_each KeepsOwners own portal_closed (portal_closes KeepsOwners own owner_level_leaves.leaves.released) ps, portal_closes KeepsOwners own owner_level_leaves.leaves.released, owner_level_leaves) in
      let b : KeepsBase kinds s (for_each portal_closed ps s).scene (for_each portal_closed ps s).events = grind (arith, nat_tests, by_each (KeepsBase kinds) l.acts portal_closed (portal_closes (KeepsBase kinds) l.acts l.released) ps, portal_closes (KeepsBase kinds) l.acts l.released) in
      keeps_fit o b nodes h

  commit_rest : (s : Scene) → AreSaid is_unlined (in_order (switched top_context ∷ level_context_gone ∷ level_popped ∷ []) s).events
  commit_rest s = said_both (context_quiet (switched top_context s).scene) (said_both said_none said_none)

  pub commit_goes : (level : LevelState) (lo : ℕ) (st : Scene) → st.session.levels ≡ level ∷ [] → level.owner ≡ Some lo → (seen : Releasing) → Fit kinds seen.owners st → Goes kinds seen (committed st).events (IsClosed kinds)
  commit_goes level lo st are is seen h =
      let loop : Scene → Ended = for_each portal_closed st.session.portals in
      let m : Pass false st (loop st).scene (loop st).events = (by_each (Pass false) (pass_acts false) portal_closed closes_mild st.session.portals).so st in
      let owned : level_owner (loop st).scene.session ≡ Some lo = ap (λ (levels : List LevelState). owner_of (first_of levels)) (m.levels ∙ are) ∙ is in
      commit_line 1 loop (in_order (level_released true true ∷ stack_popped 1 ∷ level_owner_gone ∷ switched top_context ∷ level_context_gone ∷ level_popped ∷ [])) st m.said
      (close_fits st.session.portals st)
      (λ nodes fit. end_goes true true (stack_popped 1) (switched top_context ∷ level_context_gone ∷ level_popped ∷ []) (λ s. said_pops (λ snapshot. refl) 1 s.session.snapshots) (λ s. refl) commit_rest lo nodes (loop st).scene owned fit)
      seen h

  -- a level is merged into the one above it
  merge_rest : (s : Scene) → AreSaid is_unlined (in_order (switched_up ∷ empty_context_gone ∷ level_popped ∷ []) s).events
  merge_rest s = said_both (empty_quiet (switched_up s).scene) (said_both said_none said_none)

  pub merge_goes : (level : LevelState) (levels : List LevelState) (lo : ℕ) (s : Scene) → 1 ≤ length levels → Stands (settled (level ∷ levels) s) → level.owner ≡ Some lo
      → (seen : Releasing) → Fit kinds seen.owners (settled (level ∷ levels) s) → Goes kinds seen (subcommitted (settled (level ∷ levels) s)).events (IsClosed kinds)
  merge_goes level levels lo s some k is seen h =
      let st : Scene = settled (level ∷ levels) s in
      let n : ℕ = length (level ∷ levels) in
      let above : Option ℕ = owner_of (first_of levels) in
      let act : OpenPortal → Scene → Ended = portal_passed n above in
      let loop : Scene → Ended = for_each act s.session.portals in
      let base : EndLeaves (KeepsBase kinds) = base_leaves kinds in
      let m : Pass false st (loop st).scene (loop st).events = (by_each (Pass false) (pass_acts false) act (portal_passes (Pass false) (pass_acts false) (moves_mild false) n above) s.session.portals).so st in
      let o : KeepsOwners st (loop st).scene (loop st).events =
      each_reads KeepsOwners own owners_moved level levels levels act (passed_leads level levels some) (passed_reads KeepsOwners own owners_moved level levels some) s.session.portals [] st (resettled level levels levels [] s.session.portals s (begins level levels levels s k)) in
      let b : KeepsBase kinds st (loop st).scene (loop st).events =
      (by_each (KeepsBase kinds) base.levels.leaves.acts act (portal_passes (KeepsBase kinds) base.levels.leaves.acts base.moved n above) s.session.portals).so st in
      let owned : level_owner (loop st).scene.session ≡ Some lo = ap (λ (levels : List LevelState). owner_of (first_of levels)) m.levels ∙ is in
      commit_line n loop (in_order (level_released true false ∷ stack_lowered n ∷ level_owner_gone ∷ switched_up ∷ empty_context_gone ∷ level_popped ∷ [])) st m.said
      (keeps_fit o b)
      (λ nodes fit. end_goes true false (stack_lowered n) (switched_up ∷ empty_context_gone ∷ level_popped ∷ []) (λ s. said_none) (λ s. refl) merge_rest lo nodes (loop st).scene owned fit)
      seen h

  -- the deepest level aborts
  abort_rest : (commit top : Bool) (n : ℕ) (nodes : List replayed.Node) (z : Scene) → Fit kinds nodes z
      → Goes kinds (in_batch nodes (not commit) []) (in_order (level_released commit top ∷ stack_popped n ∷ changes (λ session. record session { levels = aborted_levels session.levels }) ∷ []) z).events (λ b. Unit {0})
  abort_rest commit top n nodes z h =
      goes_both kinds (release_goes commit top (level_owner z.session) nodes z h)
      (λ mid m.
      subst (λ (seen : Releasing). Goes kinds seen (in_order (stack_popped n ∷ changes (λ session. record session { levels = aborted_levels session.levels }) ∷ []) (level_released commit top z).scene).events (λ b. Unit {0})) (sym m.1)
      (goes_both kinds (aside_goes kinds nodes (not commit) m.0 (said_pops (λ snapshot. refl) n (level_released commit top z).scene.session.snapshots)) (λ seen going. goes_none kinds seen (λ b. Unit {0}) tt)))

  pub abort_goes : (level : LevelState) (levels : List LevelState) (s : Scene) → Stands (settled (level ∷ levels) s) → (seen : Releasing) → Fit kinds seen.owners (settled (level ∷ levels) s)
      → Goes kinds seen (aborted (settled (level ∷ levels) s)).events (λ b. Unit {0})
  abort_goes level levels s k seen h =
      let n : ℕ = length (level ∷ levels) in
      let off : Scene = settled (level ∷ levels) (switched_off s) in
      let act : OpenPortal → Scene → Ended = portal_aborted n level.owner in
      let loop : Scene → Ended = for_each act s.session.portals in
      let rest : Scene → Ended = in_order (level_released false (n == 1) ∷ stack_popped n ∷ changes (λ session. record session { levels = aborted_levels session.levels }) ∷ []) in
      let base : EndLeaves (KeepsBase kinds) = base_leaves kinds in
      let made : active_depth (level ∷ levels) ≡ n → (lo : ℕ) × (level.owner ≡ Some lo) = λ e. owner_when_active level levels k.fit.0.made (omega (arith, e)) in
      let m : Pass true off (loop off).scene (loop off).events = (by_each (Pass true) (pass_acts true) act (portal_aborts (Pass true) (pass_acts true) (moves_mild true) n level.owner) s.session.portals).so off in
      let o : KeepsOwners off (loop off).scene (loop off).events =
      each_reads KeepsOwners own owners_moved level levels (gone_levels level levels) act (aborted_leads level levels made) (aborted_reads KeepsOwners own owners_moved level levels) s.session.portals [] off
      (resettled level levels (gone_levels level levels) [] s.session.portals (switched_off s) (off_begins level levels (gone_levels level levels) s k)) in
      let b : KeepsBase kinds off (loop off).scene (loop off).events =
      (by_each (KeepsBase kinds) base.levels.leaves.acts act (portal_aborts (KeepsBase kinds) base.levels.leaves.acts base.moved n level.owner) s.session.portals).so off in
      let fit : Fit kinds seen.owners off = record { owners = record { tree = h.owners.tree; below = h.owners.below }; based = record { places = h.based.places; locks = h.based.locks; items = h.based.items } } in
      goes_both kinds {xs = what.AbortLevel n ∷ []} {ys = (loop off).events ++ (rest (loop off).scene).events} (abort_opens kinds n seen)
      (λ mid is.
      subst (λ (z : Releasing). Goes kinds z ((loop off).events ++ (rest (loop off).scene).events) (λ b. Unit {0})) (sym is)
      (goes_both kinds (passing_goes kinds true seen.owners m.said)
      (λ going now. subst (λ (z : Releasing). Goes kinds z (rest (loop off).scene).events (λ b. Unit {0})) (sym now)
      (abort_rest false (n == 1) n (nodes_after seen.owners (loop off).events) (loop off).scene (keeps_fit o b seen.owners fit)))))

  -- an aborted level is cleaned up
  clean_portals : (n : ℕ) (ps : List OpenPortal) (s : Scene) → AreSaid is_unlined (for_each (λ (p : OpenPortal). where_so (p.created == n) (in_order (where_there p.context context_gone ∷ portal_gone p.name ∷ []))) ps s).events
  clean_portals n ps s =
      let k : Quiet s _ _ = (by_each Quiet quiet_acts _ (portal_cleans Quiet quiet_acts n) ps).so s in
      k.said

  pub clean_goes : (s : Scene) (seen : Releasing) → Goes kinds seen (cleaned_up s).events (IsClosed kinds)
  clean_goes s seen =
      let n : ℕ = depth s.session in
      let act : OpenPortal → Scene → Ended = λ p. where_so (p.created == n) (in_order (where_there p.context context_gone ∷ portal_gone p.name ∷ [])) in
      let z : Scene = (for_each act s.session.portals s).scene in
      let y : Scene = (switched_up (level_owner_gone z).scene).scene in
      let rest : AreSaid is_unlined (in_order (for_each act s.session.portals ∷ level_owner_gone ∷ switched_up ∷ level_context_gone ∷ level_popped ∷ []) s).events = search (arith, said_both, clean_portals, gone_quiet, context_quiet, said_none) in
      goes_both kinds {xs = what.CleanupLevel n ∷ []} (closes kinds (by_cleanup n) seen) (λ mid closed. closed_goes kinds rest mid closed)
