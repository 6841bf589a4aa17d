-- What the release of the deepest level's owner leaves of a session: the level may go.
use Rattle.session_ends.proofs.Base.{nat_tests, ◌≡◌, ◌≢◌, ◌↔◌, ℕ, ◌+◌, ◌<◌, length, Bool, true, false, Option, Some, None, List, [], ◌∷◌, ◌++◌, All, IfSome, refl, sym, ap, ◌∙◌, subst, inl, arith, ◌==◌, drop, unwrap_or, ne_eqb, All-nil, All-weaker}
use Rattle.session_ends.proofs.Words.{Space, children, has, parent_of, above_none, OwnerId, What, ShelfState, Contexts, is_within, TreeState, stands_for, table_of, KindTable, IsSound, AllAt, HoldsNothing, ResourceState, owners_of, CommonState, Level, LevelState, context_of, first_of, is_aborted, level_owner, owner_of, top_context, Scene, where_there, level_parent, owner_released, AreContexts, AreHooks, AreLevels, AreOuter, IsPlan, IsPortal, Stands, referred, Ending, IsDone, gone_levels, own, MayEnd, begins, left_idle, left_lone, may_end, settled, top_parent, HasLeft, is_there, left_still, levels_stay, outer_contexts, owners_aborted, owners_end, attached_by, place_spared, levels_apart, with_owners, Besides, Fits, Spares, besides_of, release_settles, spares_same, with_besides, StoreState, level_state, levels_of, portals_of, scene_of, session_of, StandsIn, if_some, ends, levels_are, levels_long, nowhere, plans_there, stands_deep, HaveGone, hosting, IsFreed, MayLeave, IsEnding, PlansMayGo, above_left, number_in}
use Rattle.owner_kinds.specs.KindTable.{IsSound as IsSoundTable}
use Rattle.session_owners.specs.ResourceState.{OwnerTree}
use Rattle.session_owners.specs.Fitting as fitting
use Rattle.session_ends.proofs.Going.{may_go as plans_may_go}

-- what a release of an owner, where there is one, leaves
pub record HasGiven (o : Option ℕ) (s t : Scene) : Type 0 where
  pub besides : Besides
  pub same : table_of besides.kinds ≡ table_of s.around.kinds
  pub owners : OwnerTree
  pub left : HasLeft (table_of s.around.kinds) o s.session.owners owners
  pub is : t ≡ with_owners owners (with_besides besides s)
  pub fits : Fits s.session.next_context s.session.current (referred owners) besides
  pub spares : Spares (besides_of s) besides

pub gives : (commit top : Bool) (o : Option ℕ) (s : Scene) → IsSound s.session.owners s.session.next_owner s.session.next_serial → Fits s.session.next_context s.session.current (referred s.session.owners) (besides_of s)
    → HasGiven o s (where_there o (owner_released commit top) s).scene
gives commit top None s sound fits = grind (arith, nat_tests, s.session.owners, spares_same (besides_of s) (besides_of s) refl refl)
gives commit top (Some p) s sound fits = grind (arith, nat_tests, release_settles commit top p s s.session.next_serial sound fits, s.session.next_serial)

-- the deepest level may go in a scene
record MayGo (level : LevelState) (above : List LevelState) (s : Scene) : Type 0 where
  contexts : AreContexts s.session.contexts s.session.next_context
  hooks : AreHooks s.session.contexts s.around.shelf
  levels : AreLevels (level ∷ above) s.session.contexts s.session.owners
  outer : AreOuter above
  plans : All (λ plan. IsPlan plan s.session.contexts s.session.current) s.session.plans

may_go : (commit top : Bool) (level : LevelState) (levels done : List LevelState) (s : Scene) → MayEnd (referred s.session.owners) level levels done s → MayGo level levels (where_there level.owner (owner_released commit top) (settled (level ∷ levels) s)).scene
may_go commit top level levels done s h =
    let st : Scene = settled (level ∷ levels) s in
    let t : Contexts = s.session.contexts in
    let x : OwnerTree = s.session.owners in
    let g : HasGiven level.owner st (where_there level.owner (owner_released commit top) st).scene = gives commit top level.owner st h.owners.sound (record { contexts = h.contexts; hooks = h.hooks; plans = h.plans }) in
    subst (MayGo level levels) (sym g.is)
    (record {
      contexts = g.fits.contexts;
      hooks = g.fits.hooks;
      levels =
          levels_stay (level ∷ levels) t g.besides.contexts x g.owners
          (λ m i prot. g.spares.same m (levels_apart (level ∷ levels) t x s.session.plans s.session.current h.all h.plans.each m i) prot)
          (λ m i there. left_still (table_of s.around.kinds) level.owner x g.owners g.left m there) h.all;
      outer = h.outer;
      plans = g.fits.plans.each;
    })

-- what holds of an owner holds of its number
by_number : (P : ℕ → Type 0) (owner : Option OwnerId) (n : ℕ) → IfSome owner (λ o. P o.number) → number_in owner ≡ Some n → P n
by_number P x1 n h e = grind (arith, nat_tests)

-- all portals are done
pub all_end : (done : LevelState → List LevelState → List LevelState) (a : StoreState) (s : Space) (x : ShelfState) (c : CommonState) (e : IsEnding done a s x c []) → MayEnd (referred (owners_of a.owners)) e.level e.above (done e.level e.above) (scene_of a s x c nowhere)
unfolding session_of
all_end done a s x c e = may_end e.level e.above (done e.level e.above) e.front (scene_of a s x c nowhere) e.ending

-- contexts of plans may go
pub may_ended : (done : LevelState → List LevelState → List LevelState) (a : StoreState) (s : Space) (x : ShelfState) (c : CommonState) → IsEnding done a s x c [] → PlansMayGo a s x
unfolding session_of
may_ended done a s x c e = plans_may_go a s x (record { out = e.ending.hooks.out; words = e.ending.hooks.words }) e.ending.contexts.once e.ending.plans.each e.ending.plans.apart

module _ (done : LevelState → List LevelState → List LevelState) (a : StoreState) (s : Space) (x : ShelfState) (commons : CommonState) (e : IsEnding done a s x commons []) (outer : List Level) (level : Level) (f : a.levels ≡ outer ++ level ∷ []) where
  is_levels : levels_of a.levels ≡ level_state level ∷ levels_of outer
  is_levels = ap levels_of f ∙ levels_are outer level

  deepest_is : e.level ≡ level_state level
  deepest_is = let z : e.level ∷ e.above ≡ level_state level ∷ levels_of outer = sym e.are ∙ is_levels in cc z

  pub owner_is : number_in level.owner ≡ e.level.owner
  owner_is = ap (λ (l : LevelState). l.owner) (sym deepest_is)

  -- the level's owner is there, and is a topmost one exactly where that is level 1
  pub level_owner_has : IfSome level.owner (λ id. has id.number (owners_of a.owners) ≡ true)
  unfolding session_of
  level_owner_has = if_some level.owner (λ id o. (e.ending.all.0.owner id.number (sym owner_is ∙ ap number_in o)).there)

  pub level_owner_top : (b : Bool) → b ≡ (length a.levels == 1) → IfSome level.owner (λ o. (b ≡ true) ↔ (parent_of o.number (owners_of a.owners) ≡ None))
  unfolding session_of
  level_owner_top b is = grind (arith, nat_tests, if_some, owner_is, levels_long a.levels, is_there)

  -- behind a release
  pub leaves : (commit top : Bool) (b : TreeState) (q : ResourceState) (t : Space) (y : ShelfState) (behind : CommonState) (Said : List What → Type 0)
      → fitting.ActedOn (λ scene. where_there (number_in level.owner) (owner_released commit top) scene) a.owners q (hosting a.tree s x) (hosting b t y) commons behind Said → HaveGone a.tree b s t
      → IfSome level.owner (λ o. AllAt HoldsNothing o.number (owners_of q)) → MayLeave (record { tree = b; owners = q; levels = a.levels; portals = a.portals }) t y
  unfolding session_of
  leaves commit top b q t y behind Said acted gone nothing =
      let z : Scene = scene_of a s x commons nowhere in
      let st : Scene = settled (e.level ∷ e.above) z in
      let fit : fitting.OwnersFit a.owners commons st = record { owners = refl; next_owner = refl; next_serial = refl; recent = refl; descriptors = refl; kinds = refl; locked = refl; pinned = refl; locks = refl; snapshots = refl; plans = refl } in
      let is : (where_there e.level.owner (owner_released commit top) st).scene ≡ fitting.with_hosting (hosting b t y) (fitting.with_owners q behind st) =
      ap (λ (o : Option ℕ). (where_there o (owner_released commit top) st).scene) (sym owner_is) ∙ acted.leads st fit (record { contexts = refl; shelf = refl }) in
      let g : MayGo e.level e.above (fitting.with_hosting (hosting b t y) (fitting.with_owners q behind st)) = subst (MayGo e.level e.above) is (may_go commit top e.level e.above (done e.level e.above) z (all_end done a s x commons e)) in
      record {
        contexts = subst (AreContexts (stands_for b t)) (sym gone.next) g.contexts;
        hooks = g.hooks;
        levels = subst (λ (ls : List LevelState). AreLevels ls (stands_for b t) (owners_of q)) (sym e.are) g.levels;
        outer = subst (λ (ls : List LevelState). AreOuter (drop 1 ls)) (sym e.are) g.outer;
        plans = plans_there b t a.tree.current.number q.plans.standing g.plans;
        idle = λ n o. by_number (λ m. AllAt HoldsNothing m (owners_of q)) level.owner n nothing (owner_is ∙ ap (λ (ls : List LevelState). owner_of (first_of ls)) (sym e.are) ∙ o);
      }

-- the way through the portals begins where the session stands
pub begins_in : (done : LevelState → List LevelState → List LevelState) (a : StoreState) (s : Space) (x : ShelfState) (commons : CommonState) → StandsIn a s x commons → 0 < length a.levels → IsEnding done a s x commons (portals_of a.portals)
unfolding session_of
begins_in done a s x commons stands some =
    let last = ends a.levels some in
    let level : LevelState = level_state last.1.0 in
    let above : List LevelState = levels_of last.0 in
    let d : Stands (settled (level ∷ above) (scene_of a s x commons nowhere)) = stands_deep a s x commons last.0 last.1.0 last.1.1 stands in
    record {
      level = level;
      above = above;
      are = ap levels_of last.1.1 ∙ levels_are last.0 last.1.0;
      made = d.fit.0.made;
      front = [];
      ending = begins level above (done level above) (scene_of a s x commons nowhere) d;
    }

-- an aborted level may be cleaned up
pub freed_aborted : (a : StoreState) (s : Space) (x : ShelfState) (commons : CommonState) → StandsIn a s x commons → 0 < length a.levels → is_aborted (levels_of a.levels) ≡ true → IsFreed a s x
unfolding session_of
freed_aborted a s x commons stands some aborted =
    let last = ends a.levels some in
    let is : levels_of a.levels ≡ level_state last.1.0 ∷ levels_of last.0 = ap levels_of last.1.1 ∙ levels_are last.0 last.1.0 in
    let d : Stands (settled (level_state last.1.0 ∷ levels_of last.0) (scene_of a s x commons nowhere)) = stands_deep a s x commons last.0 last.1.0 last.1.1 stands in
    record {
      commons = commons;
      ending = begins_in above_left a s x commons stands some;
      aborted = aborted;
      idle = λ n o. d.fit.0.released n (sym (ap is_aborted is) ∙ aborted) (ap (λ (ls : List LevelState). owner_of (first_of ls)) (sym is) ∙ o);
    }

-- and may be left once its portals are dealt with
pub leaves_swept : (done : LevelState → List LevelState → List LevelState) (b : StoreState) (t : Space) (y : ShelfState) (commons : CommonState) (e : IsEnding done b t y commons []) → ((n : ℕ) → level_owner (session_of b t) ≡ Some n → AllAt HoldsNothing n (owners_of b.owners)) → MayLeave b t y
unfolding session_of
leaves_swept done b t y commons e idle = record {
  contexts = e.ending.contexts;
  hooks = e.ending.hooks;
  levels = subst (λ (ls : List LevelState). AreLevels ls (stands_for b.tree t) (owners_of b.owners)) (sym e.are) e.ending.all;
  outer = subst (λ (ls : List LevelState). AreOuter (drop 1 ls)) (sym e.are) e.ending.outer;
  plans = plans_there b.tree t b.tree.current.number b.owners.plans.standing e.ending.plans.each;
  idle = idle;
}

-- What an abort leaves behind the release may be cleaned up.
pub record IsShut (level : LevelState) (levels : List LevelState) (t : Scene) : Type 0 where
  pub ending : Ending (record level { aborted = true }) levels levels [] t.session.portals t
  pub idle : (n : ℕ) → level.owner ≡ Some n → AllAt HoldsNothing n t.session.owners

pub shuts_in : (level : LevelState) (levels : List LevelState) (top : Bool) (s : Scene) → MayEnd (referred s.session.owners) level levels (gone_levels level levels) s → IsShut level levels (where_there level.owner (owner_released false top) (settled (level ∷ levels) s)).scene
shuts_in level levels top s h =
    let st : Scene = settled (level ∷ levels) s in
    let t : Contexts = s.session.contexts in
    let old : OwnerTree = s.session.owners in
    let cur : ℕ = s.session.current in
    let kinds : KindTable = table_of s.around.kinds in
    let shut : LevelState = record level { aborted = true } in
    let g : HasGiven level.owner st (where_there level.owner (owner_released false top) st).scene = gives false top level.owner st h.owners.sound (record { contexts = h.contexts; hooks = h.hooks; plans = h.plans }) in
    let u : Contexts = g.besides.contexts in
    let now : OwnerTree = g.owners in
    let all : AreLevels (level ∷ levels) u now =
    levels_stay (level ∷ levels) t u old now
    (λ m i prot. g.spares.same m (levels_apart (level ∷ levels) t old s.session.plans cur h.all h.plans.each m i) prot)
    (λ m i there. left_still kinds level.owner old now g.left m there) h.all in
    subst (IsShut level levels) (sym g.is) (record {
      ending = record {
        contexts = g.fits.contexts;
        hooks = g.fits.hooks;
        all = (record { context = all.0.context; owner = all.0.owner; implicit = all.0.implicit }, all.1);
        outer = h.outer;
        kinds = subst (λ (k : KindTable). IsSoundTable k) (sym g.same) h.kinds;
        owners = grind (arith, nat_tests, s.session.next_owner, s.session.next_serial, s.session.portals, g.same, owners_end kinds now s.session.next_owner s.session.next_serial shut levels s.session.portals (owners_aborted kinds level levels s.session.portals old now s.session.next_owner s.session.next_serial level.owner h.kinds refl g.left h.owners), owners_aborted kinds level levels s.session.portals old now s.session.next_owner s.session.next_serial level.owner h.kinds refl g.left h.owners, level.owner, h.kinds, g.left, h.owners);
        plans = g.fits.plans;
        ended = All-nil (IsDone shut levels u now cur);
        rest = All-weaker (IsDone level (gone_levels level levels) t old cur) (λ p. IsPortal p (gone_levels level levels) u now cur)
            (λ p d. record {
              place = λ n f. place_spared (besides_of s) g.besides cur g.spares h.plans.each n p.expr cur (d.portal.place n f);
              made = d.portal.made;
              owner = λ n f.
                  let a = d.portal.owner n f in
                  let still = left_still kinds level.owner old now g.left n a.there in
                  attached_by n p.created (gone_levels level levels) (gone_levels level levels) old now (λ _. still.there) still.parent (left_lone kinds level.owner old now g.left n) refl (λ j. j) a;
              stage = d.portal.stage;
            }) s.session.portals h.portals;
        different = h.different;
        are = refl;
      };
      idle = left_idle kinds level.owner old now h.kinds g.left h.owners.items;
    })

-- The context that is the current one once the deepest level is gone is neither its context nor below that.
pub outside : (level : LevelState) (levels : List LevelState) (t : Contexts) (x : OwnerTree) (next n : ℕ) → AreContexts t next → AreLevels (level ∷ levels) t x → AreOuter levels → level.context ≡ Some n → is_within n (unwrap_or (context_of (first_of levels)) top_context) t ≡ false
outside level levels t x next n h l o e = go levels l.1 o (l.0.context n e).newer
  where
    apart : (m : ℕ) → m ≢ n → has m (children n t) ≡ false → is_within n m t ≡ false
    apart m ne out = rw (ne_eqb m n ne, out) refl

    go : (ls : List LevelState) → AreLevels ls t x → AreOuter ls → level_parent (first_of ls) < n → is_within n (unwrap_or (context_of (first_of ls)) top_context) t ≡ false
    go [] k p newer =
        apart top_context (λ z. omega (arith, z, newer))
        (above_none top_context n t h.once (top_parent own top_context t h.once h.rooted))
    go (above ∷ ls) k p newer =
        let c = is_there above.context p.0.made.context in
        let out = outer_contexts (above ∷ ls) t x next n h k p (l.0.context n e).own newer c.0 (inl c.1) in
        ap (λ (z : Option ℕ). is_within n (unwrap_or z top_context) t) c.1 ∙ apart c.0 (λ z. omega (arith, z, out.0)) out.1
