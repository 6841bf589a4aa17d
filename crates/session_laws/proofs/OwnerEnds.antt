-- What follows the release of an item, and the steps of a phase, leave of a session; and that they acquire and release no item besides.
use Rattle.session_laws.proofs.Words.{◌≡◌, Bool, true, false, List, [], ◌∷◌, refl, ap, ◌∙◌, ℕ, ◌≤◌, length, Option, Some, None, sym, subst, inr, not, arith, ◌==◌, has, AllNodes, Moves, map, nat_tests}
use Rattle.session_laws.proofs.Scenes.{What, Item, table_of, OwnerTree, AllAt, HoldsNothing, Step, Said, GivesBack, ReleasesLocks, PassesLocks, ReleasesAllLocks, release_steps, Scene, Moment, for_each, Ended, where_so, where_there, changes, context_gone, in_order, portal_gone, switched, given_back, step_done, owner_moved, owner_gone, owner_released, phase_released, LevelState, OpenPortal, first_of, owner_of, abort_context, deepest_changed, depth, level_owner, top_context, portal_aborted, portal_failed, portal_passed, portal_withdrawn, executor_ended, is_ready, portal_closed, portal_ended, portal_owner_ended, IsAttached, IsOwner, IsPortal, HasItems, IsLive, IsWorking, Stands, active_depth, Error, KindId, Phase, BeforeLocks, Locks, AfterLocks, KindTable, IsSound as IsSoundTable, released, Element, OfLevel, OwnerRole, Text, kind_named, portal_named, aborted, cleaned_up, committed, empty_context_gone, level_context_gone, level_owner_gone, level_popped, level_released, level_rolled_back, stack_lowered, stack_popped, subcommitted, switched_up, at_kind, at_owner, item_taken, does, IsInOrder, has_owner, descriptor_left, is_among, left_nothing, no_value, Ending, gone_levels}
use Rattle.session_laws.proofs.Rules.{Acts, Keeps, Law, AllKeep, Leaves, LevelLeaves, MakeLeaves, OwesEnds as OwesEndings, OwesMoves, last, next, AreSaid, said_both, said_none, Part, Sight, acts_of, children_go, gives_back, goes, of_kinds, of_levels, of_next_owner, of_next_serial, of_owners, by_either, by_each, by_order, fallible_at, levels_owed, makes_owed, portal_fails, portal_lowers, portal_returns, context_goes, empty_context_goes, executor_ends, level_context_goes, level_marks, level_pops, level_releases, owner_releases, portal_cleans, portal_closes, switches_up, begins, is_settled, off_begins, owner_when_active, resettled, settled, switched_off, aborted_leads, all_aborted, has_swept, Meets, said_one, of_locks, by_so, keeps-passed, keeps-without, IsInOrder-filter, IsInOrder-map, table-closed, Leads, with_parts, above_owner, above_there, all_passed, passed_leads, first_of_rest, all_closed}
use Rattle.session_laws.proofs.Warnings.{is_aside}
use Rattle.session_rules.proofs.ItemsStand.{owner_there}
use Rattle.session_rules.proofs.PortalEnds.{executor_beside, owner_in as portal_owner_there}
use Rattle.session_rules.proofs.PortalWorks.{Beside}
use Rattle.session_rules.proofs.Releasing.{HasSwept, released_swept}
use Rattle.session_laws.proofs.Lives.{OwesEnds, OwesTurns}
use Rattle.pgs_step.specs.declared.events.What.TheVariants as what
use Rattle.session_rules.specs.Elements as e
use Rattle.lock_local.specs.Changes as locks

-- The owners are these then, levels, numbers and what never changes of kinds are as they were, and locks stand in order where they did.
pub record StaysBut (now : OwnerTree) (s t : Scene) : Type 0 where
  pub owners : t.session.owners ≡ now
  pub next_owner : t.session.next_owner ≡ s.session.next_owner
  pub next_serial : t.session.next_serial ≡ s.session.next_serial
  pub levels : t.session.levels ≡ s.session.levels
  pub kinds : table_of t.around.kinds ≡ table_of s.around.kinds
  pub locks : IsInOrder s.session.locks → IsInOrder t.session.locks

-- the owners are as they were, too
abbrev pub Stays : Scene → Scene → Type 0
Stays s t = StaysBut s.session.owners s t

pub stays : (s : Scene) → Stays s s
stays s = record { owners = refl; next_owner = refl; next_serial = refl; levels = refl; kinds = refl; locks = λ h. h }

pub stays_both : {s t u : Scene} → Stays s t → Stays t u → Stays s u
stays_both a b = grind (arith, nat_tests)

-- besides, nothing is said but what stands beside a release
pub record Quiet (s t : Scene) (events : List What) : Type 0 where
  pub stays : Stays s t
  pub said : AreSaid is_aside events

abbrev sees_rest : Part → Bool
sees_rest of_owners = true
sees_rest of_next_owner = true
sees_rest of_next_serial = true
sees_rest of_levels = true
sees_rest of_kinds = true
sees_rest of_locks = true
sees_rest other = false

sight : Sight sees_rest is_aside Quiet
sight = record {
  both = λ h k. record { stays = stays_both h.stays k.stays; said = said_both h.said k.said };
  aside = λ s t same said. record {
    stays = record {
      owners = same.so of_owners refl;
      next_owner = same.so of_next_owner refl;
      next_serial = same.so of_next_serial refl;
      levels = same.so of_levels refl;
      kinds = ap table_of (same.so of_kinds refl);
      locks = λ h. subst IsInOrder (sym (same.so of_locks refl)) h;
    };
    said = said;
  };
}

-- acts that change contexts, portals and plans alone
pub quiet_acts : Acts Quiet
quiet_acts = acts_of sees_rest is_aside Quiet sight refl refl (goes sees_rest is_aside Quiet sight refl refl refl (λ word n. refl) (λ n. refl)) (children_go sees_rest is_aside Quiet sight refl refl refl (λ word n. refl) (λ n. refl))

closed_quiet : (file : ℕ) (s : Scene) → Quiet s (descriptor_left file s).scene (descriptor_left file s).events
closed_quiet file s = (by_so Quiet quiet_acts (is_among file s.session.recent) _ (record { so = λ z. record { stays = record { owners = refl; next_owner = refl; next_serial = refl; levels = refl; kinds = refl; locks = λ h. h }; said = said_one (what.DescriptorClosed file) refl } })).so s

pub given_quiet : (item : Item) → Keeps Quiet (given_back item)
given_quiet item = grind (arith, nat_tests, gives_back, is_aside, sight, quiet_acts, closed_quiet, stays, table-closed, said_none)

-- steps of a release leave owners to the phase
pub step_stays : (step : Step) (s : Scene) → Stays s (step_done step s).scene
step_stays (Said event) s = stays s
step_stays (GivesBack item) s = ((given_quiet item).so s).stays
step_stays (ReleasesLocks owner) s = record {
  owners = refl;
  next_owner = refl;
  next_serial = refl;
  levels = refl;
  kinds = refl;
  locks = λ h. IsInOrder-filter has_owner (map (locks.without owner) s.session.locks) (IsInOrder-map (locks.without owner) (keeps-without owner) s.session.locks h);
}
step_stays (PassesLocks from to) s = record { owners = refl; next_owner = refl; next_serial = refl; levels = refl; kinds = refl; locks = IsInOrder-map (locks.passed_lock from to) (keeps-passed from to) s.session.locks }
step_stays (ReleasesAllLocks top) s = record { owners = refl; next_owner = refl; next_serial = refl; levels = refl; kinds = refl; locks = λ h. tt }

pub steps_stay : (steps : List Step) (s : Scene) → Stays s (for_each step_done steps s).scene
steps_stay [] s = stays s
steps_stay (step ∷ steps) s = stays_both (step_stays step s) (steps_stay steps (step_done step s).scene)

-- What the ends of levels make of portals, where a law asks of an owner that moves that it may.

module _ (R : Law) (a : Acts R) (moved : (n p : ℕ) (s : Scene) → Moves n p s.session.owners → R s (owner_moved n p s).scene (owner_moved n p s).events) where
  -- an owner moves, where there are two and where it may
  passes : (b : Bool) (own above : Option ℕ) (s : Scene) → ((o q : ℕ) → own ≡ Some o → above ≡ Some q → Moves o q s.session.owners)
      → R s (where_so b (where_there own (λ owner. where_there above (owner_moved owner))) s).scene (where_so b (where_there own (λ owner. where_there above (owner_moved owner))) s).events
  passes b own above s may = grind (arith, nat_tests)

  -- acts for each portal
  pub each_reads : (level : LevelState) (levels done : List LevelState) (act : OpenPortal → Scene → Ended)
      → ((p : OpenPortal) (front back : List OpenPortal) (s : Scene) → Ending level levels done front (p ∷ back) s → Leads level levels done back s (act p s).scene)
      → ((p : OpenPortal) (front back : List OpenPortal) (s : Scene) → Ending level levels done front (p ∷ back) s → R s (act p s).scene (act p s).events)
      → (ps front : List OpenPortal) (s : Scene) → Ending level levels done front ps s → R s (for_each act ps s).scene (for_each act ps s).events
  each_reads level levels done act leads reads [] front s k = a.none s
  each_reads level levels done act leads reads (p ∷ ps) front s k =
      let first : Leads level levels done ps s (act p s).scene = leads p front ps s k in
      let z : Scene = with_parts first.goes.parts s in
      a.both (reads p front ps s k)
      (subst (λ (y : Scene). R y (for_each act ps y).scene (for_each act ps y).events) (sym first.goes.is) (each_reads level levels done act leads reads ps first.front z first.goes.ending))

  -- a portal passes to the level above
  pub passed_reads : (level : LevelState) (levels : List LevelState) → 1 ≤ length levels → (p : OpenPortal) (front back : List OpenPortal) (s : Scene) → Ending level levels levels front (p ∷ back) s
      → R s (portal_passed (length (level ∷ levels)) (owner_of (first_of levels)) p s).scene (portal_passed (length (level ∷ levels)) (owner_of (first_of levels)) p s).events
  passed_reads level levels some p front back s k =
      let i : IsPortal p (level ∷ levels) s.session.contexts s.session.owners s.session.current = first_of_rest level levels levels p front back s k in
      a.both
      (passes (p.created == length (level ∷ levels)) p.owner (owner_of (first_of levels)) s
      (λ o q owned up.
      let at : IsAttached o p.created (level ∷ levels) s.session.owners = i.owner o owned in
      record {
        node = at.there;
        parent = above_there level levels some s.session.contexts s.session.owners q k.all.1 up;
        other = λ z. at.other (inr (subst (λ (j : ℕ). IsOwner j levels) z (above_owner level levels some q up)));
        apart = ap (has q) at.lone;
      }))
      (a.both ((portal_lowers R a (length (level ∷ levels)) p).so _) (a.none _))

  -- a portal fails or is withdrawn
  withdrawn_reads : (level : LevelState) (levels : List LevelState) (p : OpenPortal) (front back : List OpenPortal) (s : Scene) → Ending level levels (gone_levels level levels) front (p ∷ back) s
      → R s (portal_withdrawn (length (level ∷ levels)) level.owner p s).scene (portal_withdrawn (length (level ∷ levels)) level.owner p s).events
  withdrawn_reads level levels p front back s k =
      let i : IsPortal p (level ∷ levels) s.session.contexts s.session.owners s.session.current = first_of_rest level levels (gone_levels level levels) p front back s k in
      grind (arith, nat_tests, passes, portal_returns R a (length (level ∷ levels)) p)

  pub aborted_reads : (level : LevelState) (levels : List LevelState) (p : OpenPortal) (front back : List OpenPortal) (s : Scene) → Ending level levels (gone_levels level levels) front (p ∷ back) s
      → R s (portal_aborted (length (level ∷ levels)) level.owner p s).scene (portal_aborted (length (level ∷ levels)) level.owner p s).events
  aborted_reads level levels p front back s k =
      let n : ℕ = length (level ∷ levels) in
      by_either R a (p.created == n) (portal_failed p s) (where_so (p.active == n) (portal_withdrawn n level.owner p) s) ((portal_fails R a p).so s) (active (p.active == n))
    where
      active : (b : Bool) → R s (where_so b (portal_withdrawn (length (level ∷ levels)) level.owner p) s).scene (where_so b (portal_withdrawn (length (level ∷ levels)) level.owner p) s).events
      active false = a.none s
      active true = withdrawn_reads level levels p front back s k

-- A law that asks of an owner that goes that it is there and holds nothing, and of one that moves where it goes: lines and exits keep it.

-- Kinds are sound, and each item is of a known one.
pub record Known (s : Scene) : Type 0 where
  pub kinds : IsSoundTable (table_of s.around.kinds)
  pub items : AllNodes (HasItems (table_of s.around.kinds)) s.session.owners

pub known_stands : (s : Scene) → Stands s → Known s
known_stands s h = record { kinds = h.kinds; items = h.owners.items }

known_ending : (level : LevelState) (levels done : List LevelState) (front back : List OpenPortal) (s : Scene) → Ending level levels done front back s → Known s
known_ending level levels done front back s h = record { kinds = h.kinds; items = h.owners.items }

-- what a phase of a release leaves
phase_stays : (commit top : Bool) (n : ℕ) (phase : Phase) (s : Scene) → StaysBut (released (table_of s.around.kinds) phase n s.session.owners) s (phase_released commit top n phase s).scene
phase_stays commit top n phase s =
    let table : KindTable = table_of s.around.kinds in
    let steps : List Step = release_steps table phase commit top n s.session.owners in
    let stay : Stays s (for_each step_done steps s).scene = steps_stay steps s in
    record { owners = ap (released table phase n) stay.owners; next_owner = stay.next_owner; next_serial = stay.next_serial; levels = stay.levels; kinds = stay.kinds; locks = stay.locks }

-- what a release leaves: the owner and all below it went through the three phases
record HasReleased (p : ℕ) (s t : Scene) : Type 0 where
  swept : HasSwept (table_of s.around.kinds) p s.session.owners t.session.owners
  levels : t.session.levels ≡ s.session.levels

release_leaves : (commit top : Bool) (p : ℕ) (s : Scene) → HasReleased p s (owner_released commit top p s).scene
release_leaves commit top p s =
    let kinds : KindTable = table_of s.around.kinds in
    let x : OwnerTree = s.session.owners in
    let a : Scene = (phase_released commit top p BeforeLocks s).scene in
    let b : Scene = (phase_released commit top p Locks a).scene in
    let c : Scene = (phase_released commit top p AfterLocks b).scene in
    let one : StaysBut (released kinds BeforeLocks p x) s a = phase_stays commit top p BeforeLocks s in
    let two : StaysBut (released (table_of a.around.kinds) Locks p a.session.owners) a b = phase_stays commit top p Locks a in
    let three : StaysBut (released (table_of b.around.kinds) AfterLocks p b.session.owners) b c = phase_stays commit top p AfterLocks b in
    let second : b.session.owners ≡ released kinds Locks p (released kinds BeforeLocks p x) = grind (arith, nat_tests) in
    grind (arith, nat_tests, released_swept)

-- An owner that is there, and of which all nodes hold nothing, may go.
pub record MayLeave (n : ℕ) (s : Scene) : Type 0 where
  pub there : has n s.session.owners ≡ true
  pub idle : AllAt HoldsNothing n s.session.owners

-- it holds nothing then
release_idle : (commit top : Bool) (p : ℕ) (s : Scene) → Known s → AllAt HoldsNothing p (owner_released commit top p s).scene.session.owners
release_idle commit top p s k =
    let r : HasReleased p s (owner_released commit top p s).scene = release_leaves commit top p s in
    left_nothing (table_of s.around.kinds) p s.session.owners (owner_released commit top p s).scene.session.owners k.kinds r.swept k.items

release_leaving : (commit top : Bool) (p : ℕ) (s : Scene) → Known s → has p s.session.owners ≡ true → MayLeave p (owner_released commit top p s).scene
release_leaving commit top p s k there =
    let r : HasReleased p s (owner_released commit top p s).scene = release_leaves commit top p s in
    record { there = ap (has p) r.swept.is ∙ has_swept _ p p s.session.owners ∙ there; idle = release_idle commit top p s k }

pub released_levels : (commit top : Bool) (o : Option ℕ) (s : Scene) → (where_there o (owner_released commit top) s).scene.session.levels ≡ s.session.levels
released_levels commit top None s = refl
released_levels commit top (Some p) s = (release_leaves commit top p s).levels

-- the deepest level's owner, where it has one, is there, or may go
abbrev HasLevelOwner : Scene → Type 0
HasLevelOwner s = (n : ℕ) → level_owner s.session ≡ Some n → has n s.session.owners ≡ true

abbrev MayEndLevel : Scene → Type 0
MayEndLevel s = (n : ℕ) → level_owner s.session ≡ Some n → MayLeave n s

level_leaves : (commit top : Bool) (s : Scene) → Known s → HasLevelOwner s → MayEndLevel (level_released commit top s).scene
level_leaves commit top s k there = go (level_owner s.session) refl
  where
    go : (o : Option ℕ) → level_owner s.session ≡ o → MayEndLevel (where_there o (owner_released commit top) s).scene
    go None e n f = absurd (no_value (level_owner s.session) n e f)
    go (Some p) e n f =
        let t : Scene = (owner_released commit top p s).scene in
        let r : HasReleased p s t = release_leaves commit top p s in
        let same : Some p ≡ Some n = sym e ∙ ap (λ (ls : List LevelState). owner_of (first_of ls)) (sym r.levels) ∙ f in
        let one : p ≡ n = cc same in
        subst (λ (m : ℕ). MayLeave m t) one (release_leaving commit top p s k (there p e))

same_leaves : (s t : Scene) → t.session.owners ≡ s.session.owners → level_owner t.session ≡ level_owner s.session → MayEndLevel s → MayEndLevel t
same_leaves s t owners same h n e = grind (arith, nat_tests)

-- What such a law owes.
pub record OwnerEnds (R : Law) : Type 0 where
  pub levels : LevelLeaves R
  pub makes : MakeLeaves R
  pub taken : (n : ℕ) (kind : KindId) (key : ℕ) (s : Scene) → has n s.session.owners ≡ true → R s (item_taken n kind key s).scene (item_taken n kind key s).events
  pub phase : (commit top : Bool) (n : ℕ) (phase : Phase) → Keeps R (phase_released commit top n phase)
  pub gone : (n : ℕ) (s : Scene) → MayLeave n s → R s (owner_gone n s).scene (owner_gone n s).events
  pub moved : (n p : ℕ) (s : Scene) → Moves n p s.session.owners → R s (owner_moved n p s).scene (owner_moved n p s).events

module _ (R : Law) (h : OwnerEnds R) where
  abbrev v : LevelLeaves R
  v = h.levels

  abbrev l : Leaves R
  l = v.leaves

  abbrev a : Acts R
  a = l.acts

  -- an act on what may be there
  if_there : {A : Type 0} (o : Option A) (act : A → Scene → Ended) (s : Scene) → ((x : A) → o ≡ Some x → R s (act x s).scene (act x s).events) → R s (where_there o act s).scene (where_there o act s).events
  if_there o act s reads = grind (arith, nat_tests)

  -- a portal ends
  owner_ends : (o : Option ℕ) (s : Scene) → Known s → ((n : ℕ) → o ≡ Some n → has n s.session.owners ≡ true)
      → R s (where_there o (λ owner. in_order (owner_released true false owner ∷ owner_gone owner ∷ [])) s).scene (where_there o (λ owner. in_order (owner_released true false owner ∷ owner_gone owner ∷ [])) s).events
  owner_ends o s k there =
      if_there o _ s (λ n is. a.both ((owner_releases R a h.phase true false n).so s) (a.both (h.gone n (owner_released true false n s).scene (release_leaving true false n s k (there n is))) (a.none _)))

  portal_ends : (name : Text) (p : OpenPortal) (s : Scene) → Stands s → IsWorking s.session.levels → portal_named name s.session.portals ≡ Some p → R s (portal_ended p s).scene (portal_ended p s).events
  portal_ends name p s k working named = a.both (go (is_ready p.state)) ((by_order R a (next (context_goes R a p.context) (next (a.portal_goes p.name) last))).so _)
    where
      go : (b : Bool) → R s (where_so b (in_order (executor_ended p ∷ portal_owner_ended p ∷ [])) s).scene (where_so b (in_order (executor_ended p ∷ portal_owner_ended p ∷ [])) s).events
      go false = a.none s
      go true =
          let z : Scene = (executor_ended p s).scene in
          let b : Beside s z = executor_beside name p s k working named in
          a.both ((executor_ends R a l.released p).so s)
          (a.both (owner_ends p.owner z (known_stands z b.works.stands) (λ n is. portal_owner_there name p z b.works.stands (subst IsWorking (sym b.works.levels) working) (ap (portal_named name) b.portals ∙ named) n is)) (a.none _))

  end_portal : (s : Scene) → Stands s → IsWorking s.session.levels → (name : Text) → R s (where_there (portal_named name s.session.portals) portal_ended s).scene (where_there (portal_named name s.session.portals) portal_ended s).events
  end_portal s k working name = grind (arith, nat_tests, portal_ends)

  -- an item is taken
  role_takes : (role : OwnerRole) (kind : KindId) (key : ℕ) (s : Scene) → Stands s → IsWorking s.session.levels → R s (at_owner role (λ o. item_taken o kind key) s).scene (at_owner role (λ o. item_taken o kind key) s).events
  role_takes role kind key s k working = grind (arith, nat_tests, owner_there, no_value, portal_owner_there)

  kind_takes : (o : Option KindId) (key : ℕ) (s : Scene) → Stands s → IsWorking s.session.levels
      → R s (where_there o (λ kind. at_owner OfLevel (λ n. item_taken n kind key)) s).scene (where_there o (λ kind. at_owner OfLevel (λ n. item_taken n kind key)) s).events
  kind_takes o key s k working = if_there o (λ kind. at_owner OfLevel (λ n. item_taken n kind key)) s (λ kind is. role_takes OfLevel kind key s k working)

  -- the deepest level's owner goes
  owner_goes : (s : Scene) → MayEndLevel s → R s (level_owner_gone s).scene (level_owner_gone s).events
  owner_goes s may = grind (arith, nat_tests)

  -- the release of the deepest level and what comes behind it
  released_reads : (commit top : Bool) (stack : Scene → Ended) (acts : List (Scene → Ended)) → Keeps R stack → ((s : Scene) → (stack s).scene.session.owners ≡ s.session.owners) → ((s : Scene) → (stack s).scene.session.levels ≡ s.session.levels)
      → AllKeep R acts → (s : Scene) → Known s → HasLevelOwner s
      → R s (in_order (level_released commit top ∷ stack ∷ level_owner_gone ∷ acts) s).scene (in_order (level_released commit top ∷ stack ∷ level_owner_gone ∷ acts) s).events
  released_reads commit top stack acts keeps owners levels rest s k there =
      let z : Scene = (level_released commit top s).scene in
      let may : MayEndLevel (stack z).scene = same_leaves z (stack z).scene (owners z) (ap (λ (ls : List LevelState). owner_of (first_of ls)) (levels z)) (level_leaves commit top s k there) in
      a.both ((level_releases R a h.phase commit top).so s) (a.both (keeps.so z) (a.both (owner_goes (stack z).scene may) ((by_order R a rest).so _)))

  -- level 1 commits
  commit_reads : (level : LevelState) (s : Scene) → Stands (settled (level ∷ []) s) → R (settled (level ∷ []) s) (committed (settled (level ∷ []) s)).scene (committed (settled (level ∷ []) s)).events
  commit_reads level s k =
      let st : Scene = settled (level ∷ []) s in
      let made : (p : OpenPortal) → IsLive p (level ∷ []) → (lo : ℕ) × (level.owner ≡ Some lo) = λ p i. owner_when_active level [] k.fit.0.made (omega (arith, i.some, i.within, i.active)) in
      let loop : Leads level [] [] [] st (for_each portal_closed s.session.portals st).scene = all_closed level made s.session.portals st (resettled level [] [] [] s.session.portals s (begins level [] [] s k)) in
      let z : Scene = with_parts loop.goes.parts st in
      let rest : Scene → Ended = in_order (level_released true true ∷ stack_popped 1 ∷ level_owner_gone ∷ switched top_context ∷ level_context_gone ∷ level_popped ∷ []) in
      a.both ((v.level_word (what.CommitLevel 1) refl).so st)
      (a.both ((by_each R a portal_closed (portal_closes R a l.released) s.session.portals).so st)
      (subst (λ (y : Scene). R y (rest y).scene (rest y).events) (sym loop.goes.is)
      (released_reads true true (stack_popped 1) (switched top_context ∷ level_context_gone ∷ level_popped ∷ []) (v.stack_gone 1) (λ y. refl) (λ y. refl)
      (next (l.switch top_context) (next (level_context_goes R a) (next (level_pops R v) last))) z (known_ending level [] [] loop.front [] z loop.goes.ending) (λ n is. (loop.goes.ending.all.0.owner n is).there))))

  -- a level is merged into the one above it
  merge_reads : (level : LevelState) (levels : List LevelState) (s : Scene) → 1 ≤ length levels → Stands (settled (level ∷ levels) s)
      → R (settled (level ∷ levels) s) (subcommitted (settled (level ∷ levels) s)).scene (subcommitted (settled (level ∷ levels) s)).events
  merge_reads level levels s some k =
      let st : Scene = settled (level ∷ levels) s in
      let n : ℕ = length (level ∷ levels) in
      let act : OpenPortal → Scene → Ended = portal_passed n (owner_of (first_of levels)) in
      let begin : Ending level levels levels [] s.session.portals st = resettled level levels levels [] s.session.portals s (begins level levels levels s k) in
      let loop : Leads level levels levels [] st (for_each act s.session.portals st).scene = all_passed level levels some s.session.portals st begin in
      let z : Scene = with_parts loop.goes.parts st in
      let rest : Scene → Ended = in_order (level_released true false ∷ stack_lowered n ∷ level_owner_gone ∷ switched_up ∷ empty_context_gone ∷ level_popped ∷ []) in
      a.both ((v.level_word (what.CommitLevel n) refl).so st)
      (a.both (each_reads R a h.moved level levels levels act (passed_leads level levels some) (passed_reads R a h.moved level levels some) s.session.portals [] st begin)
      (subst (λ (y : Scene). R y (rest y).scene (rest y).events) (sym loop.goes.is)
      (released_reads true false (stack_lowered n) (switched_up ∷ empty_context_gone ∷ level_popped ∷ []) (v.stack_passed n) (λ y. refl) (λ y. refl)
      (next (switches_up R v) (next (empty_context_goes R a) (next (level_pops R v) last))) z (known_ending level levels levels loop.front [] z loop.goes.ending) (λ m is. (loop.goes.ending.all.0.owner m is).there))))

  -- the deepest level aborts, and its owner may go then
  record HasAborted (s : Scene) : Type 0 where
    keeps : R s (aborted s).scene (aborted s).events
    owner : MayEndLevel (aborted s).scene

  abort_reads : (level : LevelState) (levels : List LevelState) (s : Scene) → Stands (settled (level ∷ levels) s) → HasAborted (settled (level ∷ levels) s)
  abort_reads level levels s k =
      let st : Scene = settled (level ∷ levels) s in
      let n : ℕ = length (level ∷ levels) in
      let done : List LevelState = gone_levels level levels in
      let off : Scene = settled (level ∷ levels) (switched_off s) in
      let act : OpenPortal → Scene → Ended = portal_aborted n level.owner in
      let made : active_depth (level ∷ levels) ≡ n → (lo : ℕ) × (level.owner ≡ Some lo) = λ e. owner_when_active level levels k.fit.0.made (omega (arith, e)) in
      let begin : Ending level levels done [] s.session.portals off = resettled level levels done [] s.session.portals (switched_off s) (off_begins level levels done s k) in
      let loop : Leads level levels done [] off (for_each act s.session.portals off).scene = all_aborted level levels made s.session.portals off begin in
      let z : Scene = with_parts loop.goes.parts off in
      let behind : Scene → Ended = in_order (level_released false (n == 1) ∷ stack_popped n ∷ changes (λ session. record session { levels = deepest_changed (λ old. record old { aborted = true }) session.levels }) ∷ []) in
      let may : MayEndLevel (level_released false (n == 1) z).scene = grind (arith, nat_tests, level_leaves, known_ending, goes) in
      record {
        keeps = a.both ((v.level_word (what.AbortLevel n) refl).so st)
            (a.both ((l.switch abort_context).so st)
            (a.both (each_reads R a h.moved level levels done act (aborted_leads level levels made) (aborted_reads R a h.moved level levels) s.session.portals [] off begin)
            ((by_order R a (next (level_releases R a h.phase false (n == 1)) (next (v.stack_gone n) (next (level_marks R v) last)))).so _)));
        owner = subst (λ (y : Scene). MayEndLevel (behind y).scene) (sym loop.goes.is) (same_leaves (level_released false (n == 1) z).scene (behind z).scene refl (still_owner (level_released false (n == 1) z).scene.session.levels) may);
      }
    where
      still_owner : (levels : List LevelState) → owner_of (first_of (deepest_changed (λ old. record old { aborted = true }) levels)) ≡ owner_of (first_of levels)
      still_owner levels = grind (arith, nat_tests)

  -- an aborted level is cleaned up
  clean_reads : (s : Scene) → MayEndLevel s → R s (cleaned_up s).scene (cleaned_up s).events
  clean_reads s may =
      let n : ℕ = depth s.session in
      let act : OpenPortal → Scene → Ended = λ p. where_so (p.created == n) (in_order (where_there p.context context_gone ∷ portal_gone p.name ∷ [])) in
      let z : Scene = (for_each act s.session.portals s).scene in
      let same : Stays s z = ((by_each Quiet quiet_acts act (portal_cleans Quiet quiet_acts n) s.session.portals).so s).stays in
      a.both ((v.level_word (what.CleanupLevel n) refl).so s)
      (a.both ((by_each R a act (portal_cleans R a n) s.session.portals).so s)
      (a.both (owner_goes z (same_leaves s z same.owners (ap (λ (ls : List LevelState). owner_of (first_of ls)) same.levels) may)) ((by_order R a (next (switches_up R v) (next (level_context_goes R a) (next (level_pops R v) last)))).so _)))

  -- where a scene with these levels stands
  in_settled : (P : Scene → Type 0) (level : LevelState) (levels : List LevelState) (s : Scene) → s.session.levels ≡ level ∷ levels → Stands s → ((z : Scene) → Stands (settled (level ∷ levels) z) → P (settled (level ∷ levels) z)) → P s
  in_settled P level levels s is k all = grind (arith, nat_tests, settled, is_settled)

  all_ends : OwesEnds R
  all_ends = record {
    aborts = λ level levels s is_there are active. in_settled (λ (z : Scene). R z (aborted z).scene (aborted z).events) level levels s are is_there (λ z stands. (abort_reads level levels z stands).keeps);
    cleans = λ level levels s is_there are gone. in_settled (λ (z : Scene). R z (cleaned_up z).scene (cleaned_up z).events) level levels s are is_there
        (λ z stands. clean_reads (settled (level ∷ levels) z) (λ n is. record { there = (stands.levels.0.owner n is).there; idle = stands.fit.0.released n gone is }));
    rolls_back = λ level levels s is_there are active. in_settled (λ (z : Scene). R z (level_rolled_back level z).scene (level_rolled_back level z).events) level levels s are is_there
        (λ z stands. rolls (not level.aborted) (ap not active) (settled (level ∷ levels) z) (abort_reads level levels z stands));
  }
    where
      rolls : (b : Bool) → b ≡ true → (s : Scene) → HasAborted s → R s (in_order (where_so b aborted ∷ cleaned_up ∷ []) s).scene (in_order (where_so b aborted ∷ cleaned_up ∷ []) s).events
      rolls false e s k = absurd (cc e)
      rolls true e s k = a.both k.keeps (a.both (clean_reads (aborted s).scene k.owner) (a.none _))

  -- Each element is owed, where what registers a hook or moves a context is.
  ends_owed_where : (w : Option ℕ) (x : Element) (m : Moment) → Meets x m.scene → OwesMoves R w x m → OwesEndings R w x m
  unfolding does
  ends_owed_where w (e.InTurn name x) m meets owed = ends_owed_where w x m (record { stands = meets.stands; asks = meets.asks }) owed
  ends_owed_where w (e.Take role kind key) m meets owed = fallible_at R a w m _ (at_owner role (λ owner. item_taken owner kind key)) (role_takes role kind key m.scene meets.stands meets.asks)
  ends_owed_where w (e.TakeNamed name key) m meets owed =
      fallible_at R a w m _ (at_kind name (λ kind. at_owner OfLevel (λ owner. item_taken owner kind key))) (kind_takes (kind_named name m.scene.around.kinds) key m.scene meets.stands meets.asks)
  ends_owed_where w (e.EndPortal name) m meets owed = record { so = end_portal m.scene meets.stands meets.asks.0 name }
  ends_owed_where w e.CommitTop m meets owed = record {
    so = in_settled (λ (z : Scene). R z (committed z).scene (committed z).events) meets.asks.0 [] m.scene meets.asks.1 meets.stands (λ z stands. commit_reads meets.asks.0 z stands);
  }
  ends_owed_where w e.Subcommit m meets owed = record {
    so = in_settled (λ (z : Scene). R z (subcommitted z).scene (subcommitted z).events) meets.asks.0.0 meets.asks.0.1 m.scene meets.asks.1 meets.stands
        (λ z stands. merge_reads meets.asks.0.0 meets.asks.0.1 z meets.asks.2 stands);
  }
  ends_owed_where w e.Abort m meets owed = record { so = all_ends.aborts meets.asks.0.0 meets.asks.0.1 m.scene meets.stands meets.asks.1 meets.asks.2 }
  ends_owed_where w e.Cleanup m meets owed = record { so = all_ends.cleans meets.asks.0.0 meets.asks.0.1 m.scene meets.stands meets.asks.1 meets.asks.2 }
  ends_owed_where w x m meets owed = makes_owed R v h.makes w x m owed

  -- So it has all that it owes for lines and exits.
  pub owes_where : ((error : Error) (s : Scene) → R s s (what.Error error ∷ [])) → ((w : Option ℕ) (x : Element) (m : Moment) → Meets x m.scene → OwesMoves R w x m) → OwesTurns R
  owes_where error moves = grind (arith, nat_tests, levels_owed, ends_owed_where, all_ends)
