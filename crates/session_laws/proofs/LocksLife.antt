-- Where no lock is held, none is behind what doesn't take one; and behind the end of level 1 none is held.
use Rattle.session_laws.proofs.Words.{◌≡◌, ℕ, Bool, true, List, [], ◌∷◌, ◌++◌, Option, refl, ap, ◌∙◌, false, not, Some, None, sym, arith, subst, option_map_or, option_and_then, children, has, at_some, ◌&&◌, is_some, ◌⊎◌, All, both_ways, All-head, All-tail, All-nil, nat_tests}
use Rattle.session_laws.proofs.Scenes.{What, Mode, BeforeLocks, Locks, AfterLocks, table_of, KindTable, Owner, OwnerTree, own_released, ReleasesAllLocks, Step, own_steps, release_steps, steps_below, Scene, Moment, Around, for_each, where_so, where_there, Ended, switched, in_order, owner_released, phase_released, step_done, lock_given_back, LevelState, OpenPortal, deepest_changed, first_of, is_aborted, level_context, owner_of, opening, portal_aborted, portal_closed, aborted, committed, level_released, level_rolled_back, exited, given_up, recovered, IsLive, Stands, active_depth, FitLevels, IsDead, IsPortal, StandsBetweenLines, Contexts, Error, Element, NewContext, OfLevel, OfPortal, OwnerRole, Text, owner_in, portal_named, new_context_made, new_owner_made, snapshot_pushed, Done, fallible, does, failing_turn, does_all, then_done, Command, AreLocks, has_owner, line_elements, turn, turn_of, gone_levels}
use Rattle.session_laws.proofs.Rules.{Keeps, Follows, IsSpoken, AreSpoken, IsRun, has_swept, all_aborted, begins, off_begins, owner_when_active, resettled, settled, switched_off, aborted_stands, at_settled, is_left, rolled_stands, by_each, element_follows, fallible_so, behind_commit, cleans_up, portal_aborts, portal_closes, Meets, line_runs, allows_all, seen_after, line_spoken, said_one, WellCounted, Leads, with_parts, Named, named_in, all_closed, abort_stands, cleanup_stands, merge_stands, settled_as}
use Rattle.session_laws.proofs.OrderEnds.{own_mild}
use Rattle.session_laws.proofs.OwnWork.{IsOwnWork}
use Rattle.lock_local.specs.Changes.{given_back}
use Rattle.session_laws.proofs.OwnerEnds.{steps_stay}
use Rattle.session_rules.proofs.Sight as part
use Rattle.session_laws.proofs.LocksSight.{Sees, of_locks, files_hidden, Least, Turns, Base, least_of, least_acts, turn_ends, pushed_hidden, OwesUnlocks, least_leaves, owner_owed, touch_owed, turns_owed, unlock_owed, by_owner_made, stack_hidden}
use Rattle.session_rules.proofs.EndsStand.{Leaves}
use Rattle.session_laws.proofs.LocksChecked.{IsChecked, line_checked, locks_exit, locks_turn, LocksFit, lock_reader, there, locks_aside}
use Rattle.session_laws.proofs.Lives.{IsLife, IsRead, Reads, line_leads}
use Rattle.session_rules.specs.Elements as e

-- where no lock is held, none is behind
pub record KeepsNone (s t : Scene) (events : List What) : Type 0 where
  pub so : s.session.locks ≡ [] → t.session.locks ≡ []

pub none_seen : Sees of_locks KeepsNone
none_seen = record { both = λ a b. record { so = λ h. b.so (a.so h) }; aside = λ s t same plain. record { so = λ h. same.so part.of_locks refl ∙ h } }

pub none_base : Base of_locks KeepsNone
none_base = grind (arith, nat_tests, none_seen, files_hidden, of_locks)

pub none_law : Turns of_locks KeepsNone
none_law = grind (arith, nat_tests, least_of, of_locks, none_base, stack_hidden, none_seen)

pub none_unlocked : (object : ℕ) (mode : Mode) (n : ℕ) → Keeps KeepsNone (lock_given_back object mode n)
none_unlocked object mode n = record { so = λ s. record { so = λ h. ap (given_back n object mode) h } }

-- steps of which the last releases all locks
last_releases : (n : ℕ) (steps : List Step) (s : Scene) → (for_each step_done (steps ++ (ReleasesAllLocks n ∷ [])) s).scene.session.locks ≡ []
last_releases n [] s = refl
last_releases n (step ∷ steps) s = last_releases n steps (step_done step s).scene

-- an owner that is there is there behind a phase
phase_has : (commit top : Bool) (n : ℕ) (s : Scene) → has n s.session.owners ≡ true → has n (phase_released commit top n BeforeLocks s).scene.session.owners ≡ true
phase_has commit top n s there =
    let table : KindTable = table_of s.around.kinds in
    let steps : List Step = release_steps table BeforeLocks commit top n s.session.owners in
    has_swept (own_released table BeforeLocks) n n (for_each step_done steps s).scene.session.owners ∙ ap (has n) (steps_stay steps s).owners ∙ there

-- the phase of locks releases all where it does so for its owner
locks_phase : (commit : Bool) (n : ℕ) (s : Scene) → has n s.session.owners ≡ true → (phase_released commit true n Locks s).scene.session.locks ≡ []
locks_phase commit n s there =
    let a = at_some n s.session.owners there in
    let steps : release_steps (table_of s.around.kinds) Locks commit true n s.session.owners
    ≡ steps_below (table_of s.around.kinds) Locks commit true n (children n s.session.owners) ++ (ReleasesAllLocks n ∷ []) =
    ap (λ (o : Option Owner). option_map_or (λ (owner : Owner). steps_below (table_of s.around.kinds) Locks commit true n (children n s.session.owners) ++ own_steps (table_of s.around.kinds) Locks commit n owner (ReleasesAllLocks n ∷ [])) o []) a.1 in
    ap (λ (all : List Step). (for_each step_done all s).scene.session.locks) steps ∙ last_releases n (steps_below (table_of s.around.kinds) Locks commit true n (children n s.session.owners)) s

-- The release of the owner of level 1 leaves none.
pub released_none : (commit : Bool) (n : ℕ) (s : Scene) → has n s.session.owners ≡ true → (owner_released commit true n s).scene.session.locks ≡ []
released_none commit n s there =
    let l : Least of_locks KeepsNone = none_law.least in
    let first : Scene = (phase_released commit true n BeforeLocks s).scene in
    let second : Scene = (phase_released commit true n Locks first).scene in
    ((l.items.phase commit true n AfterLocks).so second).so (locks_phase commit n first (phase_has commit true n s there))

-- Behind the end of level 1 no lock is held.

-- whether locks may be held: by an active level that has its owner, or by more levels than one
abbrev pub may_hold : List LevelState → Bool
may_hold [] = false
may_hold (level ∷ []) = not level.aborted && is_some level.owner
may_hold (level ∷ (next ∷ levels)) = true

-- where none may be held, none is
pub record Bare (s : Scene) : Type 0 where
  pub so : may_hold s.session.levels ≡ false → s.session.locks ≡ []

-- a release of the owner of level 1, where it has one
level_none : (commit : Bool) (o : Option ℕ) (s : Scene) → (o ≡ None → s.session.locks ≡ []) → ((n : ℕ) → o ≡ Some n → has n s.session.owners ≡ true) → (where_there o (owner_released commit true) s).scene.session.locks ≡ []
level_none commit None s bare there = bare refl
level_none commit (Some n) s bare there = released_none commit n s (there n refl)

and_false : (b : Bool) → (b && false) ≡ false
and_false b = grind (arith, nat_tests)

bare_owner : (level : LevelState) (s : Scene) → Bare (settled (level ∷ []) s) → level.owner ≡ None → s.session.locks ≡ []
bare_owner level s bare none = bare.so (ap (λ (o : Option ℕ). not level.aborted && is_some o) none ∙ and_false (not level.aborted))

-- Level 1 commits.
pub committed_none : (level : LevelState) (s : Scene) → Stands (settled (level ∷ []) s) → Bare (settled (level ∷ []) s) → (committed (settled (level ∷ []) s)).scene.session.locks ≡ []
committed_none level s stands bare =
    let st : Scene = settled (level ∷ []) s in
    let made : (p : OpenPortal) → IsLive p (level ∷ []) → (lo : ℕ) × (level.owner ≡ Some lo) = λ p l. owner_when_active level [] stands.fit.0.made (omega (arith, l.some, l.within, l.active)) in
    let loop : Leads level [] [] [] st (for_each portal_closed s.session.portals st).scene = all_closed level made s.session.portals st (resettled level [] [] [] s.session.portals s (begins level [] [] s stands)) in
    let kept : KeepsNone st (for_each portal_closed s.session.portals st).scene _ = (by_each KeepsNone (least_acts of_locks KeepsNone none_law.least) portal_closed (portal_closes KeepsNone (least_acts of_locks KeepsNone none_law.least) none_law.least.items.released) s.session.portals).so st in
    let z : Scene = with_parts loop.goes.parts st in
    let none : (level_released true true z).scene.session.locks ≡ [] = grind (arith, nat_tests, level_none, bare_owner, there) in
    let behind : KeepsNone (level_released true true (for_each portal_closed s.session.portals st).scene).scene _ _ =
    (behind_commit KeepsNone (turn_ends of_locks KeepsNone none_law)).so (level_released true true (for_each portal_closed s.session.portals st).scene).scene in
    behind.so (ap (λ (y : Scene). (level_released true true y).scene.session.locks) loop.goes.is ∙ none)

-- Level 1 aborts.
pub aborted_none : (level : LevelState) (s : Scene) → Stands (settled (level ∷ []) s) → Bare (settled (level ∷ []) s) → (aborted (settled (level ∷ []) s)).scene.session.locks ≡ []
aborted_none level s stands bare =
    let st : Scene = settled (level ∷ []) (switched_off s) in
    let done : List LevelState = gone_levels level [] in
    let made : active_depth (level ∷ []) ≡ 1 → (lo : ℕ) × (level.owner ≡ Some lo) = λ e. owner_when_active level [] stands.fit.0.made (omega (arith, e)) in
    let loop : Leads level [] done [] st (for_each (portal_aborted 1 level.owner) s.session.portals st).scene = grind (arith, nat_tests, all_aborted, resettled, switched_off, off_begins) in
    let kept : KeepsNone st (for_each (portal_aborted 1 level.owner) s.session.portals st).scene _ =
    (by_each KeepsNone (least_acts of_locks KeepsNone none_law.least) (portal_aborted 1 level.owner) (portal_aborts KeepsNone (least_acts of_locks KeepsNone none_law.least) none_law.least.items.moved 1 level.owner) s.session.portals).so st in
    let z : Scene = with_parts loop.goes.parts st in
    ap (λ (y : Scene). (level_released false true y).scene.session.locks) loop.goes.is
    ∙ level_none false level.owner z (λ e. sym (ap (λ (y : Scene). y.session.locks) loop.goes.is) ∙ kept.so (bare_owner level s bare e)) (λ n e. (loop.goes.ending.all.0.owner n e).there)

-- a level that is rolled back, where it is level 1
pub rolled_none : (level : LevelState) (s : Scene) → Stands (settled (level ∷ []) s) → Bare (settled (level ∷ []) s) → (level_rolled_back level (settled (level ∷ []) s)).scene.session.locks ≡ []
rolled_none level s stands bare = grind (arith, nat_tests, settled, cleans_up KeepsNone (turn_ends of_locks KeepsNone none_law), turn_ends of_locks KeepsNone none_law, of_locks, none_law, aborted_none)

-- Where no lock may be held none is, behind each element, each line and the end of a session.

-- an element that takes no lock
abbrev TakesNone : Element → Type 0
TakesNone (e.InTurn name x) = TakesNone x
TakesNone (e.TakeLock role object mode) = ⊥
TakesNone other = Unit {0}

none_owed : (w : Option ℕ) (x : Element) (m : Moment) → TakesNone x → OwesUnlocks KeepsNone w x m
unfolding does
none_owed w (e.InTurn name x) m h = none_owed w x m h
none_owed w (e.TakeLock role object mode) m h = absurd h
none_owed w (e.MakeOwner role) m h = owner_owed of_locks KeepsNone none_law w role m (by_owner_made of_locks KeepsNone none_base refl)
none_owed w (e.Unlock object mode) m h = unlock_owed of_locks KeepsNone none_law.least w object mode m (none_unlocked object mode)
none_owed w (e.Touch file) m h = touch_owed of_locks KeepsNone none_law.least w file m ((files_hidden of_locks KeepsNone none_seen refl).used file)
none_owed w (e.PushSnapshot snapshot) m h = fallible_so KeepsNone (least_acts of_locks KeepsNone none_law.least) w m _ (snapshot_pushed snapshot) (pushed_hidden of_locks KeepsNone none_seen refl snapshot)
none_owed w other m h = tt

none_behind : (w : Option ℕ) (x : Element) (m : Moment) → IsSpoken false x → TakesNone x → m.scene.session.locks ≡ [] → (does w x m).moment.scene.session.locks ≡ []
none_behind w x m spoken h none =
    let all : Follows KeepsNone m.scene (does w x m) = element_follows KeepsNone (least_leaves of_locks KeepsNone none_law.least) false w x m spoken (turns_owed of_locks KeepsNone none_law w x m (none_owed w x m h)) in
    all.so.so none

pub bare_held : (s : Scene) → may_hold s.session.levels ≡ true → Bare s
bare_held s h = record { so = λ none. absurd (both_ways (may_hold s.session.levels) none h) }

pub bare_none : (s : Scene) → s.session.locks ≡ [] → Bare s
bare_none s h = record { so = λ none. h }

pub bare_settled : (levels : List LevelState) (s : Scene) → s.session.levels ≡ levels → Bare s → Bare (settled levels s)
bare_settled levels s is b = record { so = λ none. b.so (ap may_hold is ∙ none) }

-- what changes levels
fallible_holds : (w : Option ℕ) (m : Moment) (own : Option Error) (act : Scene → Ended) → (may_hold (act m.scene).scene.session.levels ≡ false → may_hold m.scene.session.levels ≡ false)
    → may_hold (fallible w m own act).moment.scene.session.levels ≡ false → may_hold m.scene.session.levels ≡ false
fallible_holds w m own act h = grind (arith, nat_tests)

context_holds : (new : NewContext) (s : Scene) → may_hold (new_context_made new s).scene.session.levels ≡ false → may_hold s.session.levels ≡ false
context_holds new s h = grind (arith, nat_tests)

owner_holds : (role : OwnerRole) (s : Scene) → may_hold (new_owner_made role s).scene.session.levels ≡ false → may_hold s.session.levels ≡ false
owner_holds role s h = grind (arith, nat_tests)

stands_holds : (o : Option ℕ) (s : Scene) → may_hold (deepest_changed (λ level. record level { starting = false }) (where_there o switched s).scene.session.levels) ≡ false → may_hold s.session.levels ≡ false
stands_holds o s h = grind (arith, nat_tests)

-- a lock is taken where one may be held
level_holds : (levels : List LevelState) (n : ℕ) → is_aborted levels ≡ false → owner_of (first_of levels) ≡ Some n → may_hold levels ≡ true
level_holds levels n active is = grind (arith, nat_tests)

portal_holds : (levels : List LevelState) (t : Contexts) (x : OwnerTree) (current : ℕ) → FitLevels levels t x current → is_aborted levels ≡ false → (p : OpenPortal) → IsLive p levels ⊎ IsDead p levels → may_hold levels ≡ true
portal_holds levels t x current fit active p stage = grind (arith, nat_tests, owner_when_active, level_holds, both_ways)

one_of : (P : OpenPortal → Type 0) (p : OpenPortal) (front back : List OpenPortal) → All P (front ++ (p ∷ back)) → P p
one_of P p [] back h = All-head P p back h
one_of P p (q ∷ front) back h = one_of P p front back (All-tail P q (front ++ (p ∷ back)) h)

role_holds : (role : OwnerRole) (s : Scene) (n : ℕ) → Stands s → is_aborted s.session.levels ≡ false → owner_in role s.session ≡ Some n → may_hold s.session.levels ≡ true
role_holds OfLevel s n stands active is = level_holds s.session.levels n active is
role_holds (OfPortal name) s n stands active is = go (portal_named name s.session.portals) refl is
  where
    go : (o : Option OpenPortal) → portal_named name s.session.portals ≡ o → option_and_then (λ (p : OpenPortal). p.owner) o ≡ Some n → may_hold s.session.levels ≡ true
    go None e f = absurd (cc f)
    go (Some p) e f =
        let named : Named name p s.session.portals = named_in name p s.session.portals e in
        let P : OpenPortal → Type 0 = λ q. IsPortal q s.session.levels s.session.contexts s.session.owners s.session.current in
        let i : IsPortal p s.session.levels s.session.contexts s.session.owners s.session.current = one_of P p named.front named.back (subst (All P) named.is stands.portals.each) in
        portal_holds s.session.levels s.session.contexts s.session.owners s.session.current stands.fit active p i.stage

taken_bare : (w : Option ℕ) (role : OwnerRole) (object : ℕ) (mode : Mode) (m : Moment) → Stands m.scene → is_aborted m.scene.session.levels ≡ false → Bare m.scene → Bare (does w (e.TakeLock role object mode) m).moment.scene
unfolding does
taken_bare w role object mode m stands active b = grind (arith, nat_tests, role_holds)

-- the ends
commit_bare : (w : Option ℕ) (m : Moment) → Stands m.scene → (level : LevelState) → m.scene.session.levels ≡ level ∷ [] → Bare m.scene → Bare (does w e.CommitTop m).moment.scene
unfolding does
commit_bare w m stands level is b =
    bare_none _ (settled_as (λ (z : Scene). (committed z).scene.session.locks ≡ []) m.scene (level ∷ []) stands is (λ k. committed_none level m.scene k (bare_settled (level ∷ []) m.scene is b)))

abort_none : (w : Option ℕ) (m : Moment) → Stands m.scene → (level : LevelState) → m.scene.session.levels ≡ level ∷ [] → Bare m.scene → (does w e.Abort m).moment.scene.session.locks ≡ []
unfolding does
abort_none w m stands level is b =
    settled_as (λ (z : Scene). (aborted z).scene.session.locks ≡ []) m.scene (level ∷ []) stands is (λ k. aborted_none level m.scene k (bare_settled (level ∷ []) m.scene is b))

merge_bare : (w : Option ℕ) (m : Moment) → Meets e.Subcommit m.scene → Bare (does w e.Subcommit m).moment.scene
merge_bare w m meets = grind (arith, nat_tests, merge_stands)

abort_bare : (w : Option ℕ) (m : Moment) → Stands m.scene → (level : LevelState) (levels : List LevelState) → m.scene.session.levels ≡ level ∷ levels
    → Leaves (record level { aborted = true } ∷ levels) (does w e.Abort m).moment.scene → Bare m.scene → Bare (does w e.Abort m).moment.scene
abort_bare w m stands level levels is left b = grind (arith, nat_tests, bare_none, abort_none)

cleanup_bare : (w : Option ℕ) (m : Moment) → Stands m.scene → (level : LevelState) (levels : List LevelState) → m.scene.session.levels ≡ level ∷ levels → level.aborted ≡ true
    → Leaves levels (does w e.Cleanup m).moment.scene → Bare m.scene → Bare (does w e.Cleanup m).moment.scene
cleanup_bare w m stands level levels is gone left b = grind (arith, nat_tests, bare_none, none_behind)

-- where an element leads to levels of which none may hold a lock, none of those before may
shrinks_bare : (w : Option ℕ) (x : Element) (m : Moment) → IsSpoken false x → TakesNone x → (may_hold (does w x m).moment.scene.session.levels ≡ false → may_hold m.scene.session.levels ≡ false) → Bare m.scene → Bare (does w x m).moment.scene
shrinks_bare w x m spoken takes shrinks b = record { so = λ none. none_behind w x m spoken takes (b.so (shrinks none)) }

own_bare : (w : Option ℕ) (x : Element) (m : Moment) → IsSpoken false x → IsOwnWork x → TakesNone x → Bare m.scene → Bare (does w x m).moment.scene
own_bare w x m spoken own takes b = shrinks_bare w x m spoken takes (λ none. sym (ap may_hold (own_mild w x m own).so.levels) ∙ none) b

failing_bare : (name : Text) (done : Done) (refusal : Option Error) → Bare done.moment.scene → Bare (failing_turn name done refusal).moment.scene
failing_bare name done refusal b = grind (arith, nat_tests)

-- Each element that a line meets keeps it.
pub bare_behind : (w : Option ℕ) (x : Element) (m : Moment) → IsSpoken false x → Meets x m.scene → IsChecked x m.scene → Bare m.scene → Bare (does w x m).moment.scene
unfolding does
bare_behind w (e.InTurn name x) m spoken meets checked b =
    failing_bare name (does w x m) (does w x m).refusal (bare_behind w x m spoken (record { stands = meets.stands; asks = meets.asks }) checked b)
bare_behind w (e.MakeLevel name implicit) m spoken meets checked b = grind (arith, nat_tests, shrinks_bare, fallible_holds)
bare_behind w (e.MakeContext new) m spoken meets checked b = shrinks_bare w (e.MakeContext new) m tt tt (fallible_holds w m _ (new_context_made new) (context_holds new m.scene)) b
bare_behind w (e.MakeOwner role) m spoken meets checked b = shrinks_bare w (e.MakeOwner role) m tt tt (fallible_holds w m _ (new_owner_made role) (owner_holds role m.scene)) b
bare_behind w e.LevelStands m spoken meets checked b = shrinks_bare w e.LevelStands m tt tt (stands_holds (level_context m.scene.session) m.scene) b
bare_behind w (e.TakeLock role object mode) m spoken meets checked b = taken_bare w role object mode m meets.stands checked b
bare_behind w e.CommitTop m spoken meets checked b = commit_bare w m meets.stands meets.asks.0 meets.asks.1 b
bare_behind w e.Subcommit m spoken meets checked b = merge_bare w m meets
bare_behind w e.Abort m spoken meets checked b = search (arith, abort_bare, abort_stands)
bare_behind w e.Cleanup m spoken meets checked b = search (arith, cleanup_bare, cleanup_stands)
bare_behind w (e.Says event) m spoken meets checked b = shrinks_bare w (e.Says event) m spoken tt (λ none. none) b
bare_behind w other m spoken meets checked b = own_bare w other m spoken tt tt b

-- Locks are released as often as they are acquired, in the life of each session.

-- elements in order
then_bare : (done : Done) (refusal : Option Error) (rest : Moment → Done) → Bare done.moment.scene → (refusal ≡ None → Bare (rest done.moment).moment.scene) → Bare (then_done done refusal rest).moment.scene
then_bare done refusal rest b more = grind (arith, nat_tests)

run_bare : (w : Option ℕ) (xs : List Element) (m : Moment) → AreSpoken false xs → IsRun Meets w xs m → IsRun IsChecked w xs m → Bare m.scene → Bare (does_all w xs m).moment.scene
unfolding does_all
run_bare w [] m spoken meets checked b = b
run_bare w (x ∷ xs) m spoken meets checked b =
    let first : Bare (does w x m).moment.scene = bare_behind w x m spoken.0 meets.0 checked.0 b in
    then_bare (does w x m) (does w x m).refusal (does_all w xs) first (λ none. run_bare w xs (does w x m).moment spoken.1 (meets.1 none) (checked.1 none) first)

-- a level that aborts, and one that is rolled back
rolled_bare : (level : LevelState) (levels : List LevelState) (s : Scene) → Stands (settled (level ∷ levels) s) → Bare (settled (level ∷ levels) s) → Bare (level_rolled_back level (settled (level ∷ levels) s)).scene
rolled_bare level levels s stands b = grind (arith, nat_tests, bare_none, rolled_none, settled, rolled_stands, bare_held)

-- a recovery
given_up_bare : (level : LevelState) (levels : List LevelState) (s : Scene) (b i : Bool) → level.starting ≡ b → level.implicit ≡ i → level.aborted ≡ false → Stands (settled (level ∷ levels) s) → Bare (settled (level ∷ levels) s)
    → Bare (elim b as (λ _. Ended) [
      | true ↦ in_order (level_rolled_back level ∷ where_there (first_of levels) (λ above. aborted) ∷ []) (settled (level ∷ levels) s)
      | false ↦ elim i as (λ _. Ended) [ true ↦ level_rolled_back level (settled (level ∷ levels) s) | false ↦ aborted (settled (level ∷ levels) s) ]
    ]).scene
given_up_bare level levels s b i e q active h b_9 = grind (arith, nat_tests, settled, rolled_stands, rolled_bare, bare_none, aborted_none, aborted_stands)

recovered_settled : (error : Error) (levels : List LevelState) (s : Scene) → Stands (settled levels s) → Bare (settled levels s) → Bare (recovered error (settled levels s)).scene
unfolding recovered
recovered_settled error [] s h b = record { so = b.so }
recovered_settled error (level ∷ levels) s h b = let k : Bare (where_so (not level.aborted) (given_up (level ∷ levels)) (settled (level ∷ levels) s)).scene = go level.aborted refl in record { so = k.so }
  where
    go : (a : Bool) → level.aborted ≡ a → Bare (where_so (not a) (given_up (level ∷ levels)) (settled (level ∷ levels) s)).scene
    go true e = b
    go false e = given_up_bare level levels s level.starting level.implicit refl refl e h b

recovered_bare : (error : Error) (s : Scene) → Stands s → Bare s → Bare (recovered error s).scene
recovered_bare error s h b = at_settled (λ (z : Scene). Bare z → Bare (recovered error z).scene) (recovered_settled error) s h b

-- a line
line_stands : (w : Option ℕ) (line : Option Command) (m : Moment) → StandsBetweenLines m.scene → Stands (does_all w (line_elements line m.scene.session) m).moment.scene
line_stands w line m h = (line_leads w line m h).stands

turn_of_bare : (done : Done) (refusal : Option Error) → Stands done.moment.scene → Bare done.moment.scene → Bare (turn_of done refusal).moment.scene
turn_of_bare done refusal h b = grind (arith, nat_tests, recovered_bare)

turn_bare : (w : Option ℕ) (line : Option Command) (m : Moment) → StandsBetweenLines m.scene → Bare m.scene → Bare (turn w line m).moment.scene
unfolding turn
turn_bare w line m h b =
    let xs : List Element = line_elements line m.scene.session in
    let done : Done = does_all w xs m in
    turn_of_bare done done.refusal (line_stands w line m h)
    (run_bare w xs m (line_spoken false line m.scene.session (λ usual. absurd (cc usual))) (line_runs w line m h) (line_checked w line m) b)

-- the end of a session
all_rolled_none : (levels : List LevelState) (s : Scene) → Stands (settled levels s) → Bare (settled levels s) → (for_each level_rolled_back levels (settled levels s)).scene.session.locks ≡ []
all_rolled_none [] s h b = b.so refl
all_rolled_none (level ∷ levels) s h b =
    let next : Scene = (level_rolled_back level (settled (level ∷ levels) s)).scene in
    let l : Leaves levels next = rolled_stands level levels s h in
    let is : next ≡ settled levels next = is_left levels next l in
    ap (λ (z : Scene). (for_each level_rolled_back levels z).scene.session.locks) is ∙ all_rolled_none levels next (subst Stands is l.between.stands) (subst Bare is (rolled_bare level levels s h b))

exited_settled : (levels : List LevelState) (s : Scene) → Stands (settled levels s) → Bare (settled levels s) → (exited (settled levels s)).scene.session.locks ≡ []
unfolding exited
exited_settled levels s h b = all_rolled_none levels s h b

exited_none : (s : Scene) → Stands s → Bare s → (exited s).scene.session.locks ≡ []
exited_none s h b = at_settled (λ (z : Scene). Bare z → (exited z).scene.session.locks ≡ []) exited_settled s h b

module _ (object mode : ℕ) where
  -- What the reader has seen fits the session, which holds no lock where it may hold none.
  pub record LockFits (n : ℕ) (s : Scene) : Type 0 where
    pub fit : LocksFit object mode n s
    pub bare : Bare s

  none_sound : AreLocks []
  none_sound = record { in_order = tt; owned = All-nil (λ l. has_owner l ≡ true); counted = All-nil WellCounted }

  opens_so : (around : Around) → LockFits 0 (record { session = opening; around = around })
  unfolding opening
  opens_so around = record { fit = record { counted = refl; sound = none_sound }; bare = record { so = λ none. refl } }

  turns_so : (w : Option ℕ) (line : Option Command) (m : Moment) → StandsBetweenLines m.scene → Reads (lock_reader object mode) LockFits m.scene (turn w line m).moment.scene (turn w line m).events
  turns_so w line m h = grind (arith, nat_tests, lock_reader object mode, locks_turn object mode w line m, turn_bare)

  exits_so : (s : Scene) → StandsBetweenLines s → (n : ℕ) → LockFits n s → (allows_all (lock_reader object mode) n (exited s).events ≡ true) × (seen_after (lock_reader object mode) n (exited s).events ≡ 0)
  exits_so s h n f =
      let read : IsRead (lock_reader object mode) (LocksFit object mode) n (exited s).scene (exited s).events = (locks_exit object mode s).so n f.fit in
      (read.allowed, read.fits.counted ∙ ap (there object mode) (exited_none s h.stands f.bare))

  -- A lock in the life of a session.
  pub lock_life : (kinds : KindTable) → IsLife kinds (lock_reader object mode) LockFits 0 (λ n. n ≡ 0)
  lock_life kinds = record {
    opens = λ around same. opens_so around;
    elsewhere = λ n session a b same descriptors f. record { fit = record { counted = f.fit.counted; sound = f.fit.sound }; bare = record { so = f.bare.so } };
    error = grind (arith, nat_tests, lock_reader, locks_aside, said_one);
    turns = turns_so;
    exits = exits_so;
  }
