-- The steps by which a level begins.
use Rattle.session_core.proofs.Base.{◌≡◌, ◌↔◌, ℕ, ◌≤◌, Bool, false, List, [], ◌∷◌, length, Option, Some, None, Result, Ok, Err, refl, ◌∙◌, ap, arith, codes}
use Rattle.session_core.proofs.Words.{LimitReached, What, CtxKind, Space, CtxId, TreeState, Agrees, Moves, stands_for, LevelError, deepest_changed, depth, Around, Moment, Scene, Ended, changes, in_order, switched, where_there, LevelContext, Text, Element, fallible, unfailing, does, level_made, limit, level_stands, session_of, Acted, Keeps, levels_long, Calls, Now, Performed, scene_in, IsNew, performed_end, Call, Rises, grown, limit_free, limit_reached}

pub does_make_level : (name : Option Text) (implicit : Bool) (w : Option ℕ) (m : Moment) → does w (Element.MakeLevel name implicit) m ≡ fallible w m (limit 1000 (depth m.scene.session)) (level_made name implicit)
unfolding does
does_make_level name implicit w m = refl

does_level_stands : (w : Option ℕ) (m : Moment) → does w Element.LevelStands m ≡ unfailing m level_stands
unfolding does
does_level_stands w m = refl

-- a level is pushed
abbrev pub make_level : Option Text → Bool → Call
make_level name implicit = record {
  step = Element.MakeLevel name implicit;
  own = λ scene. limit 1000 (depth scene.session);
  act = level_made name implicit;
  is = does_make_level name implicit;
  rises = λ s. record { contexts = omega arith; owners = omega arith; serials = omega arith; descriptors = refl };
  quiet = λ s. refl;
}

-- how deep a session is decides whether it goes deeper
depth_is : (a : Now) (around : Around) → depth (scene_in a around).session ≡ length a.store.levels
unfolding session_of
depth_is a around = levels_long a.store.levels

module _ (a : Now) (r : Result (Unit {0}) LevelError) (much : (r ≡ Err LevelError.TooMany) ↔ (length a.store.levels ≡ 1000)) where
  pub few_levels : (u : Unit {0}) → r ≡ Ok u → length a.store.levels ≤ 1000 → (around : Around) → limit 1000 (depth (scene_in a around).session) ≡ None
  few_levels u ok most around = grind (arith, depth_is a around, limit_free 1000 (length a.store.levels))

  pub many_levels : r ≡ Err LevelError.TooMany → (around : Around) → limit 1000 (depth (scene_in a around).session) ≡ Some LimitReached
  many_levels full around = ap (limit 1000) (depth_is a around) ∙ limit_reached 1000 (length a.store.levels) (omega (arith, much.0 full))

-- the context of a level
pub level_is_new : (a : Now) → IsNew LevelContext (codes "CurTransactionContext") CtxKind.Default a
level_is_new a = grind arith

-- The level that was being started stands.
abbrev stood : Option ℕ → Scene → Ended
stood o scene =
    in_order (
    where_there o switched
    ∷ changes (λ session. record session { levels = deepest_changed (λ level. record level { starting = false }) session.levels })
    ∷ []) scene

stands_rises : (s : Scene) → Rises 0 s (level_stands s).scene
stands_rises s = grind arith

moves_current : (a : TreeState) (id : CtxId) (s : Space) → Agrees (record a { current = id }) s → Moves a (record a { current = id }) s s
unfolding stands_for
moves_current a id s h = record { agrees = h; account = refl; outside = λ n r. (λ z. z, λ z. z); accounts = refl; limit = refl; own = refl; others = λ n ne. refl }

moves_to : (a b : TreeState) (s t : Space) → b ≡ record a { current = b.current } → t ≡ s → Agrees b t → Moves a b s t
moves_to a b s t is same h = grind (arith, moves_current a b.current s)

pub stood_performed : (a b : Now) (P : List What → Type 0) → b.calls ≡ a.calls → b.space ≡ a.space → Keeps b.store b.space → b.store.tree ≡ record a.store.tree { current = b.store.tree.current }
    → Acted level_stands a.store b.store a.space b.space a.shelf b.shelf a.commons b.commons P → Performed 0 (Element.LevelStands ∷ []) a b P None
stood_performed a b P calls space keeps tree acted =
    performed_end 0 Element.LevelStands level_stands a b P does_level_stands acted keeps (moves_to a.store.tree b.store.tree a.space b.space tree space keeps.agrees)
    (grown 0 level_stands a b P stands_rises acted (omega (arith, ap (λ (c : Calls). c.count) calls))) calls (λ around. ap (λ (s : Space). s.taken) space)
