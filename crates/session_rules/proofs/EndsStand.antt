-- The ends of levels and of sessions lead from a session that stands to one that stands.
use Rattle.session_rules.proofs.Base.{◌≡◌, ◌≢◌, ℕ, ◌<◌, ◌≤◌, ◌-◌, Bool, true, false, Option, Some, None, List, [], ◌∷◌, refl, sym, ap, ◌∙◌, subst, inl, inr, arith, ◌==◌, ◌+◌, ◌⊎◌, not, unwrap_or, length, map, All, All-nil, All-append, All-head, All-weaker, cases_Bool, eq-eqb, eqb-false, both_ways, nat_tests}
use Rattle.session_rules.proofs.Below.{Forest, Empty, Node, has, Once, children, removed, AllNodes, above_by_parent, Error, ShelfState, Contexts, is_empty, is_protected, gone, handed_in, KindTable, IsSoundTable, table_of, OwnerTree, AllAt, HoldsNothing, IsSound, once_of, Active, kept_below, lowered}
use Rattle.session_rules.proofs.Rules.{LevelState, OpenPortal, abort_context, context_of, first_of, deepest_changed, owner_of, plan_reference, portals_context, top_context, Scene, Ended, changes, context_gone, for_each, in_order, switched, where_so, where_there, portal_aborted, portal_closed, portal_passed, owner_released, AreEnding, Ending, IsAway, IsDone, gone_levels, aborted, cleaned_up, committed, empty_context_gone, exited, given_up, level_context_gone, level_owner_gone, level_popped, level_released, level_rolled_back, recovered, stack_lowered, stack_popped, subcommitted, switched_up, IsActive, IsDeepest, AreContexts, AreHooks, AreLevels, AreOpen, AreDifferent, AreOwners, AreOuter, ArePlans, ArePortals, AreStacked, FitLevels, HasExited, HasItems, IsAtRest, IsAttached, IsDead, IsLevel, IsLive, IsOfPortal, IsOwner, IsPlace, IsPortal, IsMade, IsOpen, Stands, StandsBetweenLines, active_depth, owner_at, referred}
use Rattle.session_rules.proofs.Kept.{has_left, parent_left, IsSame, contexts_level_gone, nothing_left, off_outside, protected_has, same_removed, stay_same, top_protected, hooks_ended, parts_gone, removed_swept, held_removed, Tables, still_sound, swept_by, tabled, with_owners, Besides, Fits, Spares, besides_of, release_settles, spares_same, with_besides, depth_small, depth_still, none_stacked, stacked_above, stacked_below, stacked_lowered, stacked_within, HasLeft, IsStill, is_there, left_nothing, left_still, levels_stay, one_value, outer_contexts, outer_owners, owners_aborted, owners_end, owners_without, without_owner, lone_left, lone_swept, IsRowOf, attached_by, off_levels, off_rows, place_level, place_own, place_same, place_spared, row_left, row_of, all_rest_aborted, all_rest_outside, rests_becomes, rests_but, above_apart, cached_left, levels_apart, own_other, plan_outside, plans_counted, plans_current, plans_moved}
use Rattle.session_rules.proofs.Ending.{Leads, Parts, with_parts}
use Rattle.session_rules.proofs.Replacing.{all_closed, all_swept_away, swept_away}
use Rattle.session_rules.proofs.Passing.{all_passed}
use Rattle.session_rules.proofs.Failing.{all_aborted}

-- A scene with these levels. Each scene is of this form.
abbrev pub settled : List LevelState → Scene → Scene
settled levels scene = record scene { session = record scene.session { levels = levels } }

pub is_settled : (scene : Scene) → Stands scene → scene ≡ settled scene.session.levels scene
is_settled scene h = refl

-- where each scene of that form has something, each scene that stands does
pub at_settled : (P : Scene → Type 0) → ((levels : List LevelState) (s : Scene) → Stands (settled levels s) → P (settled levels s)) → (scene : Scene) → Stands scene → P scene
at_settled P all scene h = grind (arith, nat_tests, is_settled scene h)

-- a session that stands between two lines, with these levels
pub record Leaves (levels : List LevelState) (scene : Scene) : Type 0 where
  pub between : StandsBetweenLines scene
  pub are : scene.session.levels ≡ levels

-- it is of that form
pub is_left : (levels : List LevelState) (scene : Scene) → Leaves levels scene → scene ≡ settled levels scene
is_left levels scene h = is_settled scene h.between.stands ∙ ap (λ (ls : List LevelState). settled ls scene) h.are

-- tables don't matter, as far as what never changes of kinds is the same
pub stands_tabled : (x : Tables) (s : Scene) → table_of x.kinds ≡ table_of s.around.kinds → Stands s → Stands (tabled x s)
stands_tabled x s same h = grind (arith, nat_tests)

-- without the context of a level, and the shelf then
abbrev pub without_context : Option ℕ → Contexts → Contexts
without_context None t = t
without_context (Some n) t = removed n t

abbrev pub handed_back : Option ℕ → Contexts → ShelfState → ShelfState
handed_back None t x = x
handed_back (Some n) t x = handed_in (gone n t).hooks x

-- the deepest level is gone with its context and its owner, and these active snapshots are left
abbrev pub popped : Option ℕ → Option ℕ → List LevelState → List Active → Scene → Scene
popped c o levels stack s = settled levels (record {
  session = record s.session {
    contexts = without_context c s.session.contexts;
    owners = without_owner o s.session.owners;
    current = unwrap_or (context_of (first_of levels)) top_context;
    snapshots = stack;
  };
  around = record s.around { shelf = handed_back c s.session.contexts s.around.shelf };
})

abbrev pub level_of : Option (List ℕ) → Option ℕ → Option ℕ → Bool → Bool → Bool → LevelState
level_of name c o implicit aborted starting =
    record { name = name; context = c; owner = o; implicit = implicit; aborted = aborted; starting = starting }

-- what is left of contexts, hooks and owners stands
pub contexts_without : (c : Option ℕ) (t : Contexts) (next : ℕ) (x : ShelfState) → AreContexts t next → AreHooks t x → ((n : ℕ) → c ≡ Some n → abort_context < n)
    → AreContexts (without_context c t) next × AreHooks (without_context c t) (handed_back c t x)
contexts_without None t next x h k own = (h, k)
contexts_without (Some n) t next x h k own = (contexts_level_gone t next h n (own n refl), hooks_ended t (gone n t) x (parts_gone n t h.once) k)

pub same_without : (c : Option ℕ) (t : Contexts) (next : ℕ) → AreContexts t next → (m : ℕ) → ((n : ℕ) → c ≡ Some n → (m ≢ n) × (has m (children n t) ≡ false)) → is_protected m t ≡ true
    → IsSame m t (without_context c t)
same_without c t next h m out prot = grind (arith, nat_tests, stay_same t m prot, same_removed t next h m)

pub still_without : (o : Option ℕ) (x : OwnerTree) → Once x → (m : ℕ) → ((p : ℕ) → o ≡ Some p → (m ≢ p) × (has m (children p x) ≡ false)) → has m x ≡ true → IsStill m x (without_owner o x)
still_without None x once m out there = record { there = there; parent = refl }
still_without (Some p) x once m out there = grind (arith, nat_tests, has_left m p x once, parent_left m p x once)

-- a level in which steps can be taken is deepest
pub deepest_active : (level : LevelState) (t : Contexts) (x : OwnerTree) (current : ℕ) → IsActive level → IsDeepest level t x current
deepest_active level t x current h = grind (arith, nat_tests, both_ways level.starting h.started, both_ways level.aborted h.unaborted)

-- the levels that are left
pub fits_outer : (levels : List LevelState) (t : Contexts) (x : OwnerTree) → AreOuter levels → FitLevels levels t x (unwrap_or (context_of (first_of levels)) top_context)
fits_outer levels t x h = grind (arith, nat_tests, deepest_active)

-- the context of the level above, or the topmost one, is there
pub current_above : (levels : List LevelState) (t : Contexts) (x : OwnerTree) (next : ℕ) → AreContexts t next → AreLevels levels t x → AreOuter levels
    → has (unwrap_or (context_of (first_of levels)) top_context) t ≡ true
current_above levels t x next h l o = grind (arith, nat_tests, protected_has top_context t (top_protected t next h), protected_has, top_protected t next h, is_there)

-- A scene whose deepest level may go: its portals are those of the levels `done`, and each number of a plan is referred to so often.
pub record MayEnd (times : ℕ → ℕ) (level : LevelState) (levels done : List LevelState) (s : Scene) : Type 0 where
  pub contexts : AreContexts s.session.contexts s.session.next_context
  pub hooks : AreHooks s.session.contexts s.around.shelf
  pub all : AreLevels (level ∷ levels) s.session.contexts s.session.owners
  pub outer : AreOuter levels
  pub kinds : IsSoundTable (table_of s.around.kinds)
  pub owners : AreEnding (table_of s.around.kinds) s.session.owners s.session.next_owner s.session.next_serial level levels s.session.portals
  pub plans : ArePlans s.session.plans s.session.contexts s.session.current times
  pub portals : All (IsDone level done s.session.contexts s.session.owners s.session.current) s.session.portals
  pub different : AreDifferent s.session.portals

-- how often plans are referred to without the deepest level's owner
abbrev pub left_to_refer : LevelState → Scene → ℕ → ℕ
left_to_refer level s = referred (without_owner level.owner s.session.owners)

pub same_count : (o : Option ℕ) (x : OwnerTree) → Once x → ((n : ℕ) → o ≡ Some n → AllAt HoldsNothing n x) → (m : ℕ) → referred x m ≡ referred (without_owner o x) m
same_count o x once idle m = grind (arith, nat_tests, held_removed plan_reference m)

-- the way through the portals begins, and has ended
pub begins : (level : LevelState) (levels done : List LevelState) (s : Scene) → Stands (settled (level ∷ levels) s) → Ending level levels done [] s.session.portals s
begins level levels done s h = grind (arith, nat_tests, owners_end (table_of s.around.kinds) s.session.owners s.session.next_owner s.session.next_serial level levels s.session.portals h.owners)

-- the levels of the scene don't matter
pub resettled : (level : LevelState) (levels done : List LevelState) (front back : List OpenPortal) (s : Scene) → Ending level levels done front back s → Ending level levels done front back (settled (level ∷ levels) s)
resettled level levels done front back s h = search

pub unsettled : (level : LevelState) (levels done : List LevelState) (front back : List OpenPortal) (ls : List LevelState) (s : Scene) → Ending level levels done front back (settled ls s) → Ending level levels done front back s
unsettled level levels done front back ls s h = search

pub may_end : (level : LevelState) (levels done : List LevelState) (ps : List OpenPortal) (s : Scene) → Ending level levels done ps [] s → MayEnd (referred s.session.owners) level levels done s
may_end level levels done ps s h =
    let IsNow : OpenPortal → Type 0 = IsDone level done s.session.contexts s.session.owners s.session.current in
    search (
      subst (λ (qs : List OpenPortal). AreEnding (table_of s.around.kinds) s.session.owners s.session.next_owner s.session.next_serial level levels qs) (sym h.are) h.owners,
      subst (All IsNow) (sym h.are) (All-append IsNow ps [] h.ended (All-nil IsNow)),
      subst AreDifferent (sym h.are) h.different,
    )

pub idle_ends : (level : LevelState) (levels done : List LevelState) (s : Scene) → ((n : ℕ) → level.owner ≡ Some n → AllAt HoldsNothing n s.session.owners) → MayEnd (referred s.session.owners) level levels done s → MayEnd (left_to_refer level s) level levels done s
idle_ends level levels done s idle h = grind (arith, nat_tests, plans_counted s.session.plans s.session.contexts s.session.current (referred s.session.owners), same_count level.owner s.session.owners (once_of s.session.owners s.session.next_owner s.session.next_serial h.owners.sound) idle, once_of s.session.owners s.session.next_owner s.session.next_serial h.owners.sound)

pub plans_popped : (level : LevelState) (levels done : List LevelState) (s : Scene) (times : ℕ → ℕ) (c : Option ℕ) → ((n : ℕ) → c ≡ Some n → level.context ≡ Some n) → MayEnd times level levels done s
    → ArePlans s.session.plans (without_context c s.session.contexts) s.session.current times
plans_popped level levels done s times c is h = grind (arith, nat_tests, plans_moved s.session.plans s.session.contexts, cached_left s.session.contexts s.session.next_context, plan_outside level levels s.session.contexts s.session.owners s.session.next_context)

-- a portal's context where the level's goes
pub place_popped : (level : LevelState) (levels : List LevelState) (t : Contexts) (x : OwnerTree) (next current : ℕ) (c : Option ℕ) → ((n : ℕ) → c ≡ Some n → level.context ≡ Some n) → AreContexts t next → AreLevels (level ∷ levels) t x
    → (m : ℕ) (expr : Option ℕ) → IsPlace m expr t current → IsPlace m expr (without_context c t) current
place_popped level levels t x next current None is h l m expr k = k
place_popped level levels t x next current (Some n) is h l m expr k =
    let own : abort_context < n = (l.0.context n (is n refl)).own in
    let ne : m ≢ n = λ z. off_levels (level ∷ levels) t x l n (inl (is n refl)) m portals_context (omega arith) (omega arith) k.parent (sym z) in
    let out : has m (children n t) ≡ false = off_outside t next h m portals_context n (omega arith) (omega arith) own k.parent in
    place_same m expr t (removed n t) current (same_removed t next h m n (ne, out) k.protected)
    (row_left t h.once m expr current k n ne out
    (λ e q z.
    let r : IsRowOf e m t = row_of e m t current h.once (subst (λ (o : Option ℕ). IsPlace m o t current) q k) in
    off_rows (level ∷ levels) t x l n (inl (is n refl)) e m k.own k.parent r.parent (sym z))) k

-- the context of the level above, or the topmost one, becomes the current one
pub place_above : (levels : List LevelState) (t : Contexts) (x : OwnerTree) (next : ℕ) → AreContexts t next → AreLevels levels t x → AreOuter levels → (m : ℕ) (expr : Option ℕ) (a : ℕ) → IsPlace m expr t a
    → IsPlace m expr t (unwrap_or (context_of (first_of levels)) top_context)
place_above [] t x next h l o m expr a k = place_own t next h top_context (omega arith) (omega arith) m expr a k
place_above (level ∷ levels) t x next h l o m expr a k =
    let c = is_there level.context o.0.made.context in
    subst (λ (z : Option ℕ). IsPlace m expr t (unwrap_or z top_context)) (sym c.1) (place_level (level ∷ levels) t x h.once l c.0 (inl c.1) m expr a k)

-- the owner of an outer level
pub owner_made : (levels : List LevelState) → AreOuter levels → (k : ℕ) → 1 ≤ k → k ≤ length levels → (q : ℕ) × (owner_at k levels ≡ Some q) × IsOwner q levels
owner_made [] outer k low high = absurd (omega (arith, low, high))
owner_made (level ∷ levels) outer k low high = grind (arith, nat_tests, cases_Bool (length levels + 1 == k), is_there level.owner outer.0.made.owner, eqb-false (length levels + 1) k, owner_made levels outer.2 k low)

pub outer_live : (p : OpenPortal) (levels : List LevelState) → AreOuter levels → IsLive p levels ⊎ IsDead p levels → IsLive p levels
outer_live p levels outer s = grind (arith, nat_tests)

-- a portal's owner where the level's goes
pub attached_popped : (level : LevelState) (levels : List LevelState) (t : Contexts) (x : OwnerTree) → Once x → AreLevels (level ∷ levels) t x → AreOuter levels → (p : OpenPortal) → IsLive p levels → IsAway level p → (o : Option ℕ) → level.owner ≡ o
    → (n : ℕ) → p.owner ≡ Some n → IsAttached n p.created levels x → IsAttached n p.created levels (without_owner o x)
attached_popped level levels t x once l outer p live away None e n owned a = a
attached_popped level levels t x once l outer p live away (Some lo) e n owned a =
    let q = owner_made levels outer p.created live.some (omega (arith, live.within, live.active, depth_small levels)) in
    let out = outer_owners levels t x lo once l.1 outer (l.0.owner lo e).newer q.0 q.2 in
    let ne : n ≢ lo = λ z. away n owned (e ∙ ap Some (sym z)) in
    let below : has n (children lo x) ≡ false = above_by_parent n q.0 lo x once (a.parent ∙ q.1) (λ z. omega (arith, z, out.0)) ∙ out.1 in
    attached_by n p.created levels levels x (removed lo x) (λ w. has_left n lo x once ne below ∙ w) (parent_left n lo x once ne below) (lone_left n lo x once ne below) refl (λ j. j) a

-- The deepest level goes, with its context or without, and with active snapshots that fit the levels above: what is left stands.
pub popped_stands : (level : LevelState) (levels : List LevelState) (s : Scene) (c : Option ℕ) (stack : List Active) → ((n : ℕ) → c ≡ Some n → level.context ≡ Some n) → AreStacked 1 (active_depth levels) stack
    → MayEnd (left_to_refer level s) level levels levels s → Stands (popped c level.owner levels stack s)
popped_stands level levels s c stack is stacked h =
    let t : Contexts = s.session.contexts in
    let x : OwnerTree = s.session.owners in
    let next : ℕ = s.session.next_context in
    let cur : ℕ = s.session.current in
    let own : IsLevel level levels t x = h.all.0 in
    let once : Once x = once_of x s.session.next_owner s.session.next_serial h.owners.sound in
    let both = contexts_without c t next s.around.shelf h.contexts h.hooks (λ n e. (own.context n (is n e)).own) in
    let u : Contexts = without_context c t in
    let y : OwnerTree = without_owner level.owner x in
    let left : AreLevels levels u y =
    levels_stay levels t u x y
    (λ m i prot. same_without c t next h.contexts m
    (λ n e.
    let out = outer_contexts levels t x next n h.contexts h.all.1 h.outer (own.context n (is n e)).own (own.context n (is n e)).newer m i in
    (λ z. omega (arith, z, out.0), out.1))
    prot)
    (λ m i there. still_without level.owner x once m
    (λ p e.
    let out = outer_owners levels t x p once h.all.1 h.outer (own.owner p e).newer m i in
    (λ z. omega (arith, z, out.0), out.1))
    there)
    h.all.1 in
    search (
      both,
      current_above levels u y next both.0 left h.outer,
      fits_outer levels u y h.outer,
      owners_without (table_of s.around.kinds) level levels s.session.portals x s.session.next_owner s.session.next_serial level.owner refl (λ p e. (own.owner p e).there) h.owners,
      All-weaker (IsDone level levels t x cur) (λ p. IsPortal p levels u y (unwrap_or (context_of (first_of levels)) top_context))
          (λ p d. search (
            λ (n : ℕ) (e : _). place_above levels u y next both.0 left h.outer n p.expr cur (place_popped level levels t x next cur c is h.contexts h.all n p.expr (d.portal.place n e)),
            λ (n : ℕ) (e : _). attached_popped level levels t x once h.all h.outer p (outer_live p levels h.outer d.portal.stage) d.away level.owner refl n e (d.portal.owner n e),
          )) s.session.portals h.portals,
      plans_current s.session.plans u cur (unwrap_or (context_of (first_of levels)) top_context) (left_to_refer level s)
          (above_apart levels u y left h.outer)
          (plans_popped level levels levels s (left_to_refer level s) c is h),
    )

-- the levels above another one are open
pub outer_open : (levels : List LevelState) → AreOuter levels → AreOpen levels
outer_open [] h = tt
outer_open (level ∷ levels) h = (h.1, outer_open levels h.2)

-- what a cleanup does behind the portals
abbrev pub behind_sweep : Scene → Scene
behind_sweep z = (in_order (level_owner_gone ∷ switched_up ∷ level_context_gone ∷ level_popped ∷ []) z).scene

pub sweep_is : (name : Option (List ℕ)) (c o : Option ℕ) (i a b : Bool) (levels : List LevelState) (z : Scene) → behind_sweep (settled (level_of name c o i a b ∷ levels) z) ≡ popped c o levels z.session.snapshots z
sweep_is name c o i a b levels z = grind (arith, nat_tests)

-- a cleanup leaves owners alone until then
pub sweep_owners : (level : LevelState) (levels : List LevelState) (gone : level.aborted ≡ true) (ps : List OpenPortal) (s : Scene) → (for_each (swept_away level levels gone) ps s).scene.session.owners ≡ s.session.owners
sweep_owners level levels gone [] s = refl
sweep_owners level levels gone (p ∷ ps) s = grind (arith, nat_tests, sweep_owners level levels gone ps, in_order)

-- and leaves portals at rest
pub sweep_rests : (level : LevelState) (levels : List LevelState) (gone : level.aborted ≡ true) (ps : List OpenPortal) (s : Scene) → All IsAtRest s.session.portals → All IsAtRest (for_each (swept_away level levels gone) ps s).scene.session.portals
sweep_rests level levels gone [] s h = h
sweep_rests level levels gone (p ∷ ps) s h = grind (arith, nat_tests, sweep_rests level levels gone ps, rests_but p.name s.session.portals h)

pub clean_from : (level : LevelState) (levels : List LevelState) (s : Scene) → level.aborted ≡ true → Ending level levels levels [] s.session.portals s → ((n : ℕ) → level.owner ≡ Some n → AllAt HoldsNothing n s.session.owners)
    → AreStacked 1 (active_depth levels) s.session.snapshots → Leaves levels (cleaned_up (settled (level ∷ levels) s)).scene
clean_from level levels s gone h idle stacked =
    let st : Scene = settled (level ∷ levels) s in
    let loop2 : Leads level levels levels [] st (for_each (swept_away level levels gone) s.session.portals st).scene = all_swept_away level levels gone s.session.portals st (resettled level levels levels [] s.session.portals s h) in
    let z : Scene = with_parts loop2.goes.parts s in
    let owners : loop2.goes.parts.owners ≡ s.session.owners = sym (ap (λ (y : Scene). y.session.owners) loop2.goes.is) ∙ sweep_owners level levels gone s.session.portals st in
    let at_rest : All IsAtRest loop2.goes.parts.portals = subst (All IsAtRest) (ap (λ (y : Scene). y.session.portals) loop2.goes.is)
    (sweep_rests level levels gone s.session.portals st (all_rest_aborted s.session.portals level levels s.session.contexts s.session.owners s.session.current gone h.rest)) in
    let still : (n : ℕ) → level.owner ≡ Some n → AllAt HoldsNothing n loop2.goes.parts.owners = λ n e. subst (λ (x : OwnerTree). AllAt HoldsNothing n x) (sym owners) (idle n e) in
    let may : MayEnd (referred loop2.goes.parts.owners) level levels levels z = may_end level levels levels loop2.front z (unsettled level levels levels loop2.front [] (level ∷ levels) z loop2.goes.ending) in
    subst (Leaves levels) (sym (ap behind_sweep loop2.goes.is ∙ sweep_is level.name level.context level.owner level.implicit level.aborted level.starting levels z))
    (record {
      between = grind (arith, nat_tests, popped_stands level levels z level.context s.session.snapshots, idle_ends level levels levels z still may, outer_open levels h.outer);
      are = refl;
    })

-- A level that is aborted is cleaned up.
pub cleaned_up_stands : (level : LevelState) (levels : List LevelState) (s : Scene) → level.aborted ≡ true → Stands (settled (level ∷ levels) s) → Leaves levels (cleaned_up (settled (level ∷ levels) s)).scene
cleaned_up_stands level levels s aborted h = grind (arith, nat_tests, clean_from level levels s aborted (begins level levels levels s h), begins level levels levels s h, stacked_above levels (active_depth (level ∷ levels)) s.session.snapshots h.fit.1, depth_still level levels aborted)

-- what a release of an owner, where there is one, leaves
pub record HasGiven (o : Option ℕ) (s t : Scene) : Type 0 where
  besides : Besides
  same : table_of besides.kinds ≡ table_of s.around.kinds
  owners : OwnerTree
  left : HasLeft (table_of s.around.kinds) o s.session.owners owners
  is : t ≡ with_owners owners (with_besides besides s)
  fits : Fits s.session.next_context s.session.current (referred owners) besides
  spares : Spares (besides_of s) besides

pub gives : (commit top : Bool) (o : Option ℕ) (s : Scene) → IsSound s.session.owners s.session.next_owner s.session.next_serial → Fits s.session.next_context s.session.current (referred s.session.owners) (besides_of s)
    → HasGiven o s (where_there o (owner_released commit top) s).scene
gives commit top None s sound fits = grind (arith, nat_tests, spares_same (besides_of s) (besides_of s) refl refl)
gives commit top (Some p) s sound fits = grind (arith, nat_tests, release_settles commit top p s s.session.next_serial sound fits)

pub without_left : (kinds : KindTable) (o : Option ℕ) (owners now : OwnerTree) → HasLeft kinds o owners now → without_owner o now ≡ without_owner o owners
without_left kinds o owners now left = grind (arith, nat_tests, removed_swept (swept_by kinds))

-- what is left holds no reference
pub left_idle : (kinds : KindTable) (o : Option ℕ) (owners now : OwnerTree) → IsSoundTable kinds → HasLeft kinds o owners now → AllNodes (HasItems kinds) owners → (n : ℕ) → o ≡ Some n → AllAt HoldsNothing n now
left_idle kinds o owners now sound left items n e = grind (arith, nat_tests, one_value, left_nothing kinds)

pub left_once : (kinds : KindTable) (o : Option ℕ) (owners now : OwnerTree) (a b : ℕ) → HasLeft kinds o owners now → IsSound owners a b → Once now
left_once kinds None owners now a b left h = subst Once (sym left) (once_of owners a b h)
left_once kinds (Some p) owners now a b left h = once_of now a b (still_sound kinds p owners now a b left h)

-- what counts then is what owners hold without the one that is released
pub left_count : (kinds : KindTable) (o : Option ℕ) (owners now : OwnerTree) (a b : ℕ) → IsSoundTable kinds → HasLeft kinds o owners now → AllNodes (HasItems kinds) owners → IsSound owners a b → (m : ℕ) → referred now m ≡ referred (without_owner o owners) m
left_count kinds o owners now a b table left items sound m = grind (arith, nat_tests, same_count o now (left_once kinds o owners now a b left sound) (left_idle kinds o owners now table left items) m, left_once kinds o owners now a b left sound, left_idle kinds o owners now table left items, without_left kinds o owners now left)

-- Behind the release of its owner the deepest level may go.
pub released_ends : (level : LevelState) (levels done : List LevelState) (s : Scene) (x : Besides) (now : OwnerTree) → MayEnd (referred s.session.owners) level levels done s → table_of x.kinds ≡ table_of s.around.kinds
    → HasLeft (table_of s.around.kinds) level.owner s.session.owners now → Fits s.session.next_context s.session.current (referred now) x → Spares (besides_of s) x → MayEnd (left_to_refer level s) level levels done (with_besides x s)
released_ends level levels done s x now h same left fits spares =
    let t : Contexts = s.session.contexts in
    let owners : OwnerTree = s.session.owners in
    let cur : ℕ = s.session.current in
    search (
      levels_stay (level ∷ levels) t x.contexts owners owners
          (λ m i prot. spares.same m (levels_apart (level ∷ levels) t owners s.session.plans cur h.all h.plans.each m i) prot)
          (λ m i there. record { there = there; parent = refl }) h.all,
      subst (λ (kinds : KindTable). IsSoundTable kinds) (sym same) h.kinds,
      subst (λ (kinds : KindTable). AreEnding kinds owners s.session.next_owner s.session.next_serial level levels s.session.portals) (sym same) h.owners,
      plans_counted x.plans x.contexts cur (referred now) (left_to_refer level s)
          (left_count (table_of s.around.kinds) level.owner owners now s.session.next_owner s.session.next_serial h.kinds left h.owners.items h.owners.sound) fits.plans,
      All-weaker (IsDone level done t owners cur) (IsDone level done x.contexts owners cur)
          (λ p d. search (λ (n : ℕ) (e : _). place_spared (besides_of s) x cur spares h.plans.each n p.expr cur (d.portal.place n e))) s.session.portals h.portals,
    )

pub gives_now : (commit top : Bool) (level : LevelState) (levels done : List LevelState) (s : Scene) → MayEnd (referred s.session.owners) level levels done s → HasGiven level.owner (settled (level ∷ levels) s) (where_there level.owner (owner_released commit top) (settled (level ∷ levels) s)).scene
gives_now commit top level levels done s h = gives commit top level.owner (settled (level ∷ levels) s) h.owners.sound (record { contexts = h.contexts; hooks = h.hooks; plans = h.plans })

-- the deepest level has its owner where something is active there
pub owner_when_active : (level : LevelState) (levels : List LevelState) → (level.starting ≡ false → IsMade level) → length levels + 1 ≤ active_depth (level ∷ levels) → (lo : ℕ) × (level.owner ≡ Some lo)
owner_when_active level levels made low = grind (arith, nat_tests, is_there level.owner)

-- what a commit does behind the release
abbrev pub behind_commit : Scene → Scene
behind_commit z = (in_order (stack_popped 1 ∷ level_owner_gone ∷ switched top_context ∷ level_context_gone ∷ level_popped ∷ []) z).scene

pub behind_is : (name : Option (List ℕ)) (c o : Option ℕ) (i a b : Bool) (z : Scene) → behind_commit (settled (level_of name c o i a b ∷ []) z) ≡ popped c o [] (kept_below 1 z.session.snapshots) z
behind_is name c o i a b z = grind (arith, nat_tests)

pub commit_from : (level : LevelState) (s : Scene) → MayEnd (referred s.session.owners) level [] [] s → AreStacked 1 0 (kept_below 1 s.session.snapshots)
    → Leaves [] (behind_commit (where_there level.owner (owner_released true true) (settled (level ∷ []) s)).scene)
commit_from level s h stacked = grind (arith, nat_tests, gives_now true true level [] [] s h, behind_is level.name level.context level.owner level.implicit level.aborted level.starting (with_owners (gives_now true true level [] [] s h).owners (with_besides (gives_now true true level [] [] s h).besides s)), without_left (table_of s.around.kinds) level.owner s.session.owners (gives_now true true level [] [] s h).owners (gives_now true true level [] [] s h).left, popped_stands level [] (with_besides (gives_now true true level [] [] s h).besides s) level.context (kept_below 1 s.session.snapshots), released_ends level [] [] s (gives_now true true level [] [] s h).besides (gives_now true true level [] [] s h).owners h (gives_now true true level [] [] s h).same (gives_now true true level [] [] s h).left (gives_now true true level [] [] s h).fits (gives_now true true level [] [] s h).spares, all_rest_outside s.session.portals)

-- Level 1 commits.
pub committed_stands : (level : LevelState) (s : Scene) → Stands (settled (level ∷ []) s) → Leaves [] (committed (settled (level ∷ []) s)).scene
committed_stands level s h =
    let st : Scene = settled (level ∷ []) s in
    let made : (p : OpenPortal) → IsLive p (level ∷ []) → (lo : ℕ) × (level.owner ≡ Some lo) = λ p l. owner_when_active level [] h.fit.0.made (omega (arith, l.some, l.within, l.active)) in
    let loop : Leads level [] [] [] st (for_each portal_closed s.session.portals st).scene = all_closed level made s.session.portals st (resettled level [] [] [] s.session.portals s (begins level [] [] s h)) in
    let z : Scene = with_parts loop.goes.parts s in
    let may : MayEnd (referred z.session.owners) level [] [] z = may_end level [] [] loop.front z (unsettled level [] [] loop.front [] (level ∷ []) z loop.goes.ending) in
    subst (Leaves []) (sym (ap (λ (y : Scene). behind_commit (level_released true true y).scene) loop.goes.is))
    (commit_from level z may (stacked_below 1 1 (active_depth (level ∷ [])) s.session.snapshots h.snapshots))

-- a level is merged into the one above it
abbrev pub gone_if : Bool → ℕ → Option ℕ
gone_if true n = Some n
gone_if false n = None

abbrev pub context_to_go : Option ℕ → Contexts → Option ℕ
context_to_go None t = None
context_to_go (Some n) t = gone_if (is_empty n t) n

abbrev pub behind_merge : ℕ → Scene → Scene
behind_merge level z =
    (in_order (
    stack_lowered level
    ∷ level_owner_gone
    ∷ switched_up
    ∷ empty_context_gone
    ∷ level_popped
    ∷ []) z).scene

pub merge_context : (b : Bool) (name : Option (List ℕ)) (n : ℕ) (o : Option ℕ) (i a st : Bool) (levels : List LevelState) (z : Scene)
    → (level_popped (where_so b (context_gone n) (switched_up (level_owner_gone (settled (level_of name (Some n) o i a st ∷ levels) z)).scene).scene).scene).scene ≡ popped (gone_if b n) o levels z.session.snapshots z
merge_context b name n o i a st levels z = grind (arith, nat_tests)

pub merge_is : (level : ℕ) (name : Option (List ℕ)) (c o : Option ℕ) (i a st : Bool) (levels : List LevelState) (z : Scene)
    → behind_merge level (settled (level_of name c o i a st ∷ levels) z) ≡ popped (context_to_go c z.session.contexts) o levels (map (lowered level) z.session.snapshots) z
merge_is level name c o i a st levels z = grind (arith, nat_tests, merge_context)

pub context_to_go_is : (c : Option ℕ) (t : Contexts) (n : ℕ) → context_to_go c t ≡ Some n → c ≡ Some n
context_to_go_is c t n e = grind (arith, nat_tests)

-- what a merge leads to: the session stands with the levels above, and where portals were at rest they still are
pub record Merges (levels : List LevelState) (s z : Scene) : Type 0 where
  pub stands : Stands z
  pub are : z.session.levels ≡ levels
  pub at_rest : All IsAtRest s.session.portals → All IsAtRest z.session.portals

pub merge_from : (level : LevelState) (levels : List LevelState) (s : Scene) → MayEnd (referred s.session.owners) level levels levels s → AreStacked 1 (active_depth levels) (map (lowered (length (level ∷ levels))) s.session.snapshots)
    → Merges levels s (behind_merge (length (level ∷ levels)) (where_there level.owner (owner_released true false) (settled (level ∷ levels) s)).scene)
merge_from level levels s h stacked =
    let n : ℕ = length (level ∷ levels) in
    let o : Option ℕ = level.owner in
    let stack : List Active = map (lowered n) s.session.snapshots in
    let g : HasGiven o (settled (level ∷ levels) s) (where_there o (owner_released true false) (settled (level ∷ levels) s)).scene = gives_now true false level levels levels s h in
    let z : Scene = with_besides g.besides s in
    let c : Option ℕ = context_to_go level.context g.besides.contexts in
    let is : behind_merge n (where_there o (owner_released true false) (settled (level ∷ levels) s)).scene ≡ popped c o levels stack z = grind (arith, nat_tests, merge_is n level.name level.context o level.implicit level.aborted level.starting levels (with_owners g.owners z), without_left (table_of s.around.kinds) o s.session.owners g.owners g.left) in
    subst (Merges levels s) (sym is) (record {
      stands = popped_stands level levels z c stack (λ k e. context_to_go_is level.context g.besides.contexts k e) stacked (released_ends level levels levels s g.besides g.owners h g.same g.left g.fits g.spares);
      are = refl;
      at_rest = λ r. r;
    })

-- portals that pass stay at rest
pub passes_rest : (n : ℕ) (above : Option ℕ) (ps : List OpenPortal) (s : Scene) → All IsAtRest s.session.portals → All IsAtRest (for_each (portal_passed n above) ps s).scene.session.portals
passes_rest n above [] s h = h
passes_rest n above (p ∷ ps) s h = grind (arith, nat_tests, passes_rest n above ps, in_order, rests_becomes p.name)

-- A level that isn't level 1 is merged into the one above it.
pub subcommitted_stands : (level : LevelState) (levels : List LevelState) (s : Scene) → 1 ≤ length levels → Stands (settled (level ∷ levels) s) → Merges levels s (subcommitted (settled (level ∷ levels) s)).scene
subcommitted_stands level levels s some h =
    let st : Scene = settled (level ∷ levels) s in
    let n : ℕ = length (level ∷ levels) in
    let stack : List Active = map (lowered n) s.session.snapshots in
    let all : AreStacked 1 n s.session.snapshots = stacked_within 1 n 1 (active_depth (level ∷ levels)) s.session.snapshots (omega arith) (depth_small (level ∷ levels)) h.snapshots in
    let stacked : AreStacked 1 (active_depth levels) stack = stacked_above levels (n - 1) stack h.fit.1 (omega arith) (stacked_lowered n s.session.snapshots (omega (arith, some)) all) in
    let loop : Leads level levels levels [] st (for_each (portal_passed n (owner_of (first_of levels))) s.session.portals st).scene =
    all_passed level levels some s.session.portals st (resettled level levels levels [] s.session.portals s (begins level levels levels s h)) in
    let z : Scene = with_parts loop.goes.parts s in
    let may : MayEnd (referred z.session.owners) level levels levels z = may_end level levels levels loop.front z (unsettled level levels levels loop.front [] (level ∷ levels) z loop.goes.ending) in
    let m : Merges levels z (behind_merge n (where_there level.owner (owner_released true false) (settled (level ∷ levels) z)).scene) = merge_from level levels z may stacked in
    subst (Merges levels s) (sym (ap (λ (y : Scene). behind_merge n (level_released true false y).scene) loop.goes.is))
    (record {
      stands = m.stands;
      are = m.are;
      at_rest = λ r. m.at_rest (subst (All IsAtRest) (ap (λ (y : Scene). y.session.portals) loop.goes.is) (passes_rest n (owner_of (first_of levels)) s.session.portals st r));
    })

-- and between two lines it stands between two lines
pub subcommitted_leaves : (level : LevelState) (levels : List LevelState) (s : Scene) → 1 ≤ length levels → All IsAtRest s.session.portals → Stands (settled (level ∷ levels) s) → Leaves levels (subcommitted (settled (level ∷ levels) s)).scene
subcommitted_leaves level levels s some at_rest h = grind (arith, nat_tests, subcommitted_stands level levels s some h, outer_open levels h.fit.1)

-- the deepest level is aborted, with these owners left
abbrev pub shut : LevelState → List LevelState → OwnerTree → Scene → Scene
shut level levels owners s =
    settled (record level { aborted = true } ∷ levels)
    (record s { session = record s.session { owners = owners; current = abort_context; snapshots = kept_below (length (level ∷ levels)) s.session.snapshots } })

pub shut_stacked : (level : LevelState) (levels : List LevelState) (most : ℕ) (stack : List Active) → AreStacked 1 most stack → AreStacked 1 (active_depth (record level { aborted = true } ∷ levels)) (kept_below (length (level ∷ levels)) stack)
shut_stacked level levels most stack h = grind (arith, nat_tests, stacked_within 1, depth_still, stacked_below (length (level ∷ levels)) 1 most stack h)

abbrev pub behind_abort : ℕ → Scene → Scene
behind_abort n z = (in_order (stack_popped n ∷ changes (λ session. record session { levels = deepest_changed (λ old. record old { aborted = true }) session.levels }) ∷ []) z).scene

-- the scene with the context for that as the current one
abbrev pub switched_off : Scene → Scene
switched_off s = record s { session = record s.session { current = abort_context } }

pub off_begins : (level : LevelState) (levels done : List LevelState) (s : Scene) → Stands (settled (level ∷ levels) s) → Ending level levels done [] s.session.portals (switched_off s)
off_begins level levels done s h =
    let e : Ending level levels done [] s.session.portals s = begins level levels done s h in
    let t : Contexts = s.session.contexts in
    search (
      plans_current s.session.plans t s.session.current abort_context (referred s.session.owners) (own_other abort_context (omega arith) t) e.plans,
      All-nil (IsDone level done t s.session.owners abort_context),
      All-weaker (λ p. IsPortal p (level ∷ levels) t s.session.owners s.session.current) (λ p. IsPortal p (level ∷ levels) t s.session.owners abort_context)
          (λ p i. search (λ (n : ℕ) (f : _). place_own t s.session.next_context e.contexts abort_context (omega arith) (omega arith) n p.expr s.session.current (i.place n f)))
          s.session.portals e.rest,
    )

pub left_lone : (kinds : KindTable) (o : Option ℕ) (owners now : OwnerTree) → HasLeft kinds o owners now → (n : ℕ) → children n owners ≡ Empty → children n now ≡ Empty
left_lone kinds None owners now left n e = ap (children n) left ∙ e
left_lone kinds (Some p) owners now left n e = ap (children n) left.is ∙ lone_swept n p (swept_by kinds) owners e

-- what an abort leaves, in parts
pub record Shut (level : LevelState) (levels : List LevelState) (s : Scene) : Type 0 where
  contexts : AreContexts s.session.contexts s.session.next_context
  hooks : AreHooks s.session.contexts s.around.shelf
  all : AreLevels (level ∷ levels) s.session.contexts s.session.owners
  outer : AreOuter levels
  kinds : IsSoundTable (table_of s.around.kinds)
  owners : AreOwners (table_of s.around.kinds) s.session.owners s.session.next_owner s.session.next_serial (gone_levels level levels) s.session.portals
  plans : ArePlans s.session.plans s.session.contexts abort_context (referred s.session.owners)
  portals : ArePortals s.session.portals (gone_levels level levels) s.session.contexts s.session.owners abort_context
  idle : (n : ℕ) → level.owner ≡ Some n → AllAt HoldsNothing n s.session.owners

-- the deepest level aborts: its scene is that with these owners and this besides
pub record HasShut (level : LevelState) (levels : List LevelState) (s t : Scene) : Type 0 where
  parts : Parts
  is : t ≡ shut level levels parts.owners (with_parts parts s)
  shut_is : Shut level levels (with_parts parts s)

pub shut_from : (level : LevelState) (levels : List LevelState) (s : Scene) (x : Besides) (now : OwnerTree) → MayEnd (referred s.session.owners) level levels (gone_levels level levels) (switched_off s) → table_of x.kinds ≡ table_of s.around.kinds
    → HasLeft (table_of s.around.kinds) level.owner s.session.owners now → Fits s.session.next_context abort_context (referred now) x → Spares (besides_of s) x → Shut level levels (with_owners now (with_besides x s))
shut_from level levels s x now h same left fits spares =
    let t : Contexts = s.session.contexts in
    let u : Contexts = x.contexts in
    let old : OwnerTree = s.session.owners in
    let kinds : KindTable = table_of s.around.kinds in
    search (
      levels_stay (level ∷ levels) t u old now
          (λ m i prot. spares.same m (levels_apart (level ∷ levels) t old s.session.plans abort_context h.all h.plans.each m i) prot)
          (λ m i there. left_still kinds level.owner old now left m there) h.all,
      subst (λ (k : KindTable). IsSoundTable k) (sym same) h.kinds,
      subst (λ (k : KindTable). AreOwners k now s.session.next_owner s.session.next_serial (gone_levels level levels) s.session.portals) (sym same)
          (owners_aborted kinds level levels s.session.portals old now s.session.next_owner s.session.next_serial level.owner h.kinds refl left h.owners),
      All-weaker (IsDone level (gone_levels level levels) t old abort_context) (λ p. IsPortal p (gone_levels level levels) u now abort_context)
          (λ p d. search (
            λ (n : ℕ) (e : _). place_spared (besides_of s) x abort_context spares h.plans.each n p.expr abort_context (d.portal.place n e),
            λ (n : ℕ) (e : _).
                let a = d.portal.owner n e in
                let st = left_still kinds level.owner old now left n a.there in
                attached_by n p.created (gone_levels level levels) (gone_levels level levels) old now (λ _. st.there) st.parent (left_lone kinds level.owner old now left n) refl (λ j. j) a,
          )) s.session.portals h.portals,
      left_idle kinds level.owner old now h.kinds left h.owners.items,
    )

pub aborted_is : (level : LevelState) (levels : List LevelState) (s : Scene) → Stands (settled (level ∷ levels) s) → HasShut level levels s (aborted (settled (level ∷ levels) s)).scene
aborted_is level levels s h =
    let n : ℕ = length (level ∷ levels) in
    let st : Scene = settled (level ∷ levels) (switched_off s) in
    let done : List LevelState = gone_levels level levels in
    let made : active_depth (level ∷ levels) ≡ n → (lo : ℕ) × (level.owner ≡ Some lo) = λ e. owner_when_active level levels h.fit.0.made (omega (arith, e)) in
    let loop : Leads level levels done [] st (for_each (portal_aborted n level.owner) s.session.portals st).scene =
    all_aborted level levels made s.session.portals st (resettled level levels done [] s.session.portals (switched_off s) (off_begins level levels done s h)) in
    let z : Scene = with_parts loop.goes.parts s in
    let may : MayEnd (referred z.session.owners) level levels done (switched_off z) = may_end level levels done loop.front (switched_off z) (unsettled level levels done loop.front [] (level ∷ levels) (switched_off z) loop.goes.ending) in
    let g : HasGiven level.owner (settled (level ∷ levels) (switched_off z)) (where_there level.owner (owner_released false (n == 1)) (settled (level ∷ levels) (switched_off z))).scene = gives_now false (n == 1) level levels done (switched_off z) may in
    record {
      parts = record { locks = g.besides.locks; recent = g.besides.recent; kinds = g.besides.kinds; plans = g.besides.plans; contexts = g.besides.contexts; shelf = g.besides.shelf; owners = g.owners; portals = z.session.portals };
      is = ap (λ (y : Scene). behind_abort n (level_released false (n == 1) y).scene) loop.goes.is ∙ ap (behind_abort n) g.is;
      shut_is = shut_from level levels z g.besides g.owners may g.same g.left g.fits g.spares;
    }

pub shut_stands : (level : LevelState) (levels : List LevelState) (s z : Scene) → IsOpen level → (a : HasShut level levels s z) → Stands (settled (level ∷ levels) s)
    → Stands (shut level levels a.parts.owners (with_parts a.parts s))
shut_stands level levels s z open_level a h = grind (arith, nat_tests, both_ways level.starting open_level.started, protected_has abort_context a.parts.contexts, shut_stacked level levels (active_depth (level ∷ levels)) s.session.snapshots h.snapshots)

-- The deepest level aborts.
pub aborted_stands : (level : LevelState) (levels : List LevelState) (s : Scene) → level.aborted ≡ false → IsOpen level → Stands (settled (level ∷ levels) s)
    → Leaves (record level { aborted = true } ∷ levels) (aborted (settled (level ∷ levels) s)).scene
aborted_stands level levels s active open_level h =
    let z : Scene = (aborted (settled (level ∷ levels) s)).scene in
    let a : HasShut level levels s z = aborted_is level levels s h in
    let stands : Stands (shut level levels a.parts.owners (with_parts a.parts s)) = shut_stands level levels s z open_level a h in
    subst (Leaves (record level { aborted = true } ∷ levels)) (sym a.is) (record {
      between = grind (arith, nat_tests, outer_open levels h.fit.1, all_rest_aborted a.parts.portals);
      are = refl;
    })

-- what an abort leaves of the stack fits the levels above
pub away_stacked : (level : LevelState) (levels : List LevelState) (most : ℕ) (stack : List Active) → AreOuter levels → AreStacked 1 most stack → AreStacked 1 (active_depth levels) (kept_below (length (level ∷ levels)) stack)
away_stacked level levels most stack outer h = grind (arith, nat_tests, stacked_above levels ((length (level ∷ levels)) - 1) (kept_below (length (level ∷ levels)) stack) outer, stacked_below (length (level ∷ levels)) 1 most stack h)

-- What is left behind an abort and a cleanup stands, however the level was.
pub away_stands : (level : LevelState) (levels : List LevelState) (s : Scene) → Stands (settled (level ∷ levels) s) → Leaves levels (in_order (aborted ∷ cleaned_up ∷ []) (settled (level ∷ levels) s)).scene
away_stands level levels s h =
    let a : HasShut level levels s (aborted (settled (level ∷ levels) s)).scene = aborted_is level levels s h in
    let c : Shut level levels (with_parts a.parts s) = a.shut_is in
    let old : LevelState = record level { aborted = true } in
    let z : Scene = record (with_parts a.parts s) { session = record (with_parts a.parts s).session { current = abort_context; snapshots = kept_below (length (level ∷ levels)) s.session.snapshots } } in
    let mine : IsLevel old levels a.parts.contexts a.parts.owners = search (c.all.0) in
    let e : Ending old levels levels [] a.parts.portals z = grind (arith, nat_tests, owners_end (table_of a.parts.kinds) a.parts.owners s.session.next_owner s.session.next_serial old levels a.parts.portals c.owners) in
    subst (Leaves levels) (sym (ap (λ (y : Scene). (cleaned_up y).scene) a.is))
    (clean_from old levels z refl e c.idle (away_stacked level levels (active_depth (level ∷ levels)) s.session.snapshots h.fit.1 h.snapshots))

-- a level is rolled back
pub rolled_stands : (level : LevelState) (levels : List LevelState) (s : Scene) → Stands (settled (level ∷ levels) s) → Leaves levels (level_rolled_back level (settled (level ∷ levels) s)).scene
rolled_stands level levels s h = grind (arith, nat_tests, cleaned_up_stands level levels s, away_stands level levels s h)

-- a level that was being started goes, and the one above it is aborted
pub above_aborted : (levels : List LevelState) (s : Scene) → Leaves levels s → AreOuter levels → StandsBetweenLines (where_there (first_of levels) (λ above. aborted) s).scene
above_aborted levels s h o = grind (arith, nat_tests, is_left, aborted_stands)

pub given_up_stands : (level : LevelState) (levels : List LevelState) (s : Scene) (b i : Bool) → level.starting ≡ b → level.implicit ≡ i → level.aborted ≡ false → Stands (settled (level ∷ levels) s)
    → StandsBetweenLines (elim b as (λ _. Ended) [
      | true ↦ in_order (level_rolled_back level ∷ where_there (first_of levels) (λ above. aborted) ∷ []) (settled (level ∷ levels) s)
      | false ↦ elim i as (λ _. Ended) [ true ↦ level_rolled_back level (settled (level ∷ levels) s) | false ↦ aborted (settled (level ∷ levels) s) ]
    ]).scene
given_up_stands level levels s b i e q active h = grind (arith, nat_tests, above_aborted levels, rolled_stands level levels s h, aborted_stands level levels s active)

pub recovered_settled : (error : Error) (levels : List LevelState) (s : Scene) → Stands (settled levels s) → StandsBetweenLines (recovered error (settled levels s)).scene
unfolding recovered
recovered_settled error [] s h = record { stands = h; open_levels = tt; at_rest = all_rest_outside s.session.portals s.session.contexts s.session.owners s.session.current h.portals.each }
recovered_settled error (level ∷ levels) s h = go level.aborted refl
  where
    go : (b : Bool) → level.aborted ≡ b → StandsBetweenLines (where_so (not b) (given_up (level ∷ levels)) (settled (level ∷ levels) s)).scene
    go true e = record {
      stands = h;
      open_levels = (h.fit.0.open_level e, outer_open levels h.fit.1);
      at_rest = all_rest_aborted s.session.portals level levels s.session.contexts s.session.owners s.session.current e h.portals.each;
    }
    go false e = given_up_stands level levels s level.starting level.implicit refl refl e h

-- A recovery leads from each state between two steps to one between two lines.
pub recovered_stands : (error : Error) (scene : Scene) → Stands scene → StandsBetweenLines (recovered error scene).scene
recovered_stands error scene h = at_settled (λ (z : Scene). StandsBetweenLines (recovered error z).scene) (recovered_settled error) scene h

-- All levels are rolled back.
pub record HasRolled (levels : List LevelState) (s : Scene) : Type 0 where
  left : Scene
  stands : Stands (settled [] left)
  is : (for_each level_rolled_back levels (settled levels s)).scene ≡ settled [] left

pub all_rolled : (levels : List LevelState) (s : Scene) → Stands (settled levels s) → HasRolled levels s
all_rolled [] s h = record { left = s; stands = h; is = refl }
all_rolled (level ∷ levels) s h =
    let next : Scene = (level_rolled_back level (settled (level ∷ levels) s)).scene in
    let l : Leaves levels next = rolled_stands level levels s h in
    let is : next ≡ settled levels next = is_left levels next l in
    let rest : HasRolled levels next = all_rolled levels next (subst Stands is l.between.stands) in
    record {
      left = rest.left;
      stands = rest.stands;
      is = ap (λ (z : Scene). (for_each level_rolled_back levels z).scene) is ∙ rest.is;
    }

pub no_nodes : {A : Type 0} (t : Forest A) → ((n : ℕ) → has n t ≡ true → ⊥) → t ≡ Empty
no_nodes Empty h = refl
no_nodes (Node k a below beside) h = absurd (h k (rw (eq-eqb k k refl) refl))

-- Without a level there is no owner.
pub no_owners : (s : Scene) → Stands (settled [] s) → s.session.owners ≡ Empty
no_owners s h = no_nodes s.session.owners (λ n u. elim (h.owners.each n u) [ inl i ↦ i | inr k ↦ elim k [ inl p ↦ none s.session.portals h.portals.each n p | inr r ↦ r ] ])
  where
    unmade : (p : OpenPortal) → IsPortal p [] s.session.contexts s.session.owners s.session.current → ⊥
    unmade p i = elim i.stage [ inl l ↦ omega (arith, l.some, l.within, l.active) | inr d ↦ let z : false ≡ true = d.aborted in cc z ]

    none : (ps : List OpenPortal) → All (λ p. IsPortal p [] s.session.contexts s.session.owners s.session.current) ps → (n : ℕ) → IsOfPortal n ps → ⊥
    none [] all n i = i
    none (p ∷ ps) all n i = unmade p (All-head (λ p. IsPortal p [] s.session.contexts s.session.owners s.session.current) p ps all)

abbrev pub behind_rollback : Scene → Scene
behind_rollback z = (in_order (switched top_context ∷ context_gone top_context ∷ []) z).scene

pub exited_left : (left : Scene) → Stands (settled [] left) → HasExited (behind_rollback (settled [] left))
exited_left left h = grind (arith, nat_tests, nothing_left left.session.contexts left.session.next_context h.contexts, no_owners left h, none_stacked left.session.snapshots h.snapshots, hooks_ended left.session.contexts (gone top_context left.session.contexts) left.around.shelf (parts_gone top_context left.session.contexts h.contexts.once) h.hooks, parts_gone top_context left.session.contexts h.contexts.once)

pub exited_settled : (levels : List LevelState) (s : Scene) → Stands (settled levels s) → HasExited (exited (settled levels s)).scene
unfolding exited
exited_settled levels s h = grind (arith, nat_tests, all_rolled levels s h, exited_left (all_rolled levels s h).left (all_rolled levels s h).stands)

-- An exit leads from each of them to a session without levels, owners and contexts.
pub exited_stands : (scene : Scene) → Stands scene → HasExited (exited scene).scene
exited_stands scene h = at_settled (λ (z : Scene). HasExited (exited z).scene) exited_settled scene h
