-- The deepest level is marked as aborted, another context is the current one, and active snapshots are popped: what that leaves as it was.
use Rattle.session_ends.proofs.Base.{◌≡◌, ℕ, ◌<◌, true, false, List, [], ◌∷◌, ◌++◌, length, All, refl, sym, ap, ◌∙◌, subst, arith, All-push, All-weaker}
use Rattle.session_ends.proofs.Words.{Space, CtxId, ShelfState, Contexts, TreeState, stands_for, AllAt, HoldsNothing, ResourceState, owners_of, CommonState, balances_none, Portal, Level, with_deepest, LevelState, OpenPortal, abort_context, deepest_changed, first_of, is_aborted, owner_of, Scene, changes, IsMade, IsPortal, Stands, referred, Ending, protected_has, settled, own_other, plans_current, place_own, StoreState, level_state, levels_of, portals_of, scene_of, session_of, IsPlaced, LevelLies, Acted, IsSilent, StandsIn, all_deepest, deepest_new, levels_are, levels_long, nowhere, leveled, IsFreed, MayLeave}
use Rattle.session_ends.proofs.Freed.{IsShut}

-- the context for aborts is the current one, where there is a level
off_stands : (levels : List LevelState) (s : Scene) → 0 < length levels → Stands (settled levels s) → Stands (settled levels (record s { session = record s.session { current = abort_context } }))
off_stands [] s some h = absurd (omega (arith, some))
off_stands (level ∷ levels) s some h =
    let t : Contexts = s.session.contexts in
    let cur : ℕ = s.session.current in
    record {
      contexts = h.contexts;
      current = protected_has abort_context t (h.contexts.own abort_context (omega arith) (omega arith)).protected;
      hooks = h.hooks;
      levels = h.levels;
      fit = (
        record {
          made = h.fit.0.made;
          empty = h.fit.0.empty;
          alone = h.fit.0.alone;
          idle = h.fit.0.idle;
          released = h.fit.0.released;
          at_abort = λ _. refl;
          open_level = h.fit.0.open_level;
        },
        h.fit.1,
      );
      kinds = h.kinds;
      owners = h.owners;
      portals = record {
        each = All-weaker (λ p. IsPortal p (level ∷ levels) t s.session.owners cur) (λ p. IsPortal p (level ∷ levels) t s.session.owners abort_context)
            (λ p i. record {
              place = λ n f. place_own t s.session.next_context h.contexts abort_context (omega arith) (omega arith) n p.expr cur (i.place n f);
              made = i.made;
              owner = i.owner;
              stage = i.stage;
            }) s.session.portals h.portals.each;
        different = h.portals.different;
      };
      plans = plans_current s.session.plans t cur abort_context (referred s.session.owners) (own_other abort_context (omega arith) t) h.plans;
      snapshots = h.snapshots;
    }

pub stands_off : (a b : StoreState) (s : Space) (x : ShelfState) (commons : CommonState) (id : CtxId) → b ≡ record a { tree = record a.tree { current = id } } → id.number ≡ abort_context → 0 < length a.levels → StandsIn a s x commons → StandsIn b s x commons
unfolding session_of stands_for
stands_off a b s x commons id is number some stands =
    subst (λ (v : StoreState). StandsIn v s x commons) (sym is)
    (λ around.
    let z : Scene = scene_of a s x commons around in
    subst (λ (n : ℕ). Stands (record z { session = record z.session { current = n } })) (sym number) (off_stands (levels_of a.levels) z (omega (arith, some, levels_long a.levels)) (stands around)))

-- only active snapshots are others
pub stacked_leaves : (b : StoreState) (q : ResourceState) (s : Space) (x : ShelfState) → q ≡ record b.owners { stack = q.stack } → MayLeave b s x → MayLeave (record b { owners = q }) s x
unfolding session_of
stacked_leaves b q s x is f =
    subst (λ (r : ResourceState). MayLeave (record b { owners = r }) s x) (sym {b = record b.owners { stack = q.stack }} is)
    (record { contexts = f.contexts; hooks = f.hooks; levels = f.levels; outer = f.outer; plans = f.plans; idle = f.idle })

-- neither they nor the levels matter to portals
stacked_ends : (b : StoreState) (q : ResourceState) (new : List Level) (s : Space) (x : ShelfState) (c : CommonState) (level : LevelState) (levels done : List LevelState) (front back : List OpenPortal) → q ≡ record b.owners { stack = q.stack } → Ending level levels done front back (scene_of b s x c nowhere)
    → Ending level levels done front back (scene_of (record { tree = b.tree; owners = q; levels = new; portals = b.portals }) s x c nowhere)
unfolding session_of
stacked_ends b q new s x c level levels done front back is h =
    subst (λ (r : ResourceState). Ending level levels done front back (scene_of (record { tree = b.tree; owners = r; levels = new; portals = b.portals }) s x c nowhere)) (sym {b = record b.owners { stack = q.stack }} is)
    (record {
      contexts = h.contexts;
      hooks = h.hooks;
      all = h.all;
      outer = h.outer;
      kinds = h.kinds;
      owners = h.owners;
      plans = h.plans;
      ended = h.ended;
      rest = h.rest;
      different = h.different;
      are = h.are;
    })

-- the deepest level is marked
abbrev pub marked : Level → Level
marked level = record level { aborted = true }

module _ (a : StoreState) (outer : List Level) (level : Level) (new : List Level) (e : a.levels ≡ outer ++ level ∷ []) (is : new ≡ with_deepest marked a.levels) where
  new_levels : new ≡ outer ++ marked level ∷ []
  new_levels = deepest_new marked a.levels outer level new is e

  levels_now : levels_of new ≡ record (level_state level) { aborted = true } ∷ levels_of outer
  levels_now = ap levels_of new_levels ∙ levels_are outer (marked level)

  levels_then : levels_of a.levels ≡ level_state level ∷ levels_of outer
  levels_then = ap levels_of e ∙ levels_are outer level

  pub marked_acted : (s : Space) (x : ShelfState) (commons : CommonState)
      → Acted (changes (λ session. record session { levels = deepest_changed (λ old. record old { aborted = true }) session.levels })) a (record a { levels = new }) s s x x commons commons IsSilent
  unfolding session_of
  marked_acted s x commons = record {
    leads = λ around. ap (λ (ls : List LevelState). leveled a ls s x commons around) (ap (deepest_changed (λ old. record old { aborted = true })) levels_then ∙ sym levels_now);
    says = λ around. refl;
    balances = balances_none a.owners commons;
  }

  pub marked_placed : (tree : TreeState) (table : ResourceState) (portals : List Portal) → IsPlaced tree table a.levels portals → IsPlaced tree table new portals
  marked_placed tree table portals placed =
      let both = all_deepest (LevelLies tree table) a.levels outer level e placed.levels in
      record {
        current = placed.current;
        levels = subst (All (LevelLies tree table)) (sym new_levels) (All-push (LevelLies tree table) outer (marked level) both.0 (record { context = both.1.context; owner = both.1.owner }));
        plans = placed.plans;
        portals = placed.portals;
      }

  -- what an abort leaves may be cleaned up
  pub marked_freed : (q : ResourceState) (s : Space) (x : ShelfState) (c : CommonState) (l : LevelState) (above : List LevelState) → levels_of a.levels ≡ l ∷ above → (l.starting ≡ false → IsMade l) → q ≡ record a.owners { stack = q.stack } → IsShut l above (scene_of a s x c nowhere)
      → IsFreed (record { tree = a.tree; owners = q; levels = new; portals = a.portals }) s x
  unfolding session_of
  marked_freed q s x c l above are made stacked shut =
      let both : level_state level ∷ levels_of outer ≡ l ∷ above = sym levels_then ∙ are in
      let same : level_state level ≡ l = cc both in
      let rest : levels_of outer ≡ above = cc both in
      let now : levels_of new ≡ record l { aborted = true } ∷ above = levels_now ∙ ap (λ (k : LevelState). record k { aborted = true } ∷ levels_of outer) same ∙ ap (λ (ls : List LevelState). record l { aborted = true } ∷ ls) rest in
      record {
        commons = c;
        ending = record {
          level = record l { aborted = true };
          above = above;
          are = now;
          made = λ s. let m = made s in record { context = m.context; owner = m.owner };
          front = [];
          ending = stacked_ends a q new s x c (record l { aborted = true }) above above [] (portals_of a.portals) stacked shut.ending;
        };
        aborted = ap is_aborted now;
        idle = λ n o.
            subst (λ (r : ResourceState). AllAt HoldsNothing n (owners_of r)) (sym {b = record a.owners { stack = q.stack }} stacked)
            (shut.idle n (let z : owner_of (first_of (levels_of new)) ≡ l.owner = ap (λ (ls : List LevelState). owner_of (first_of ls)) now in sym z ∙ o));
      }
