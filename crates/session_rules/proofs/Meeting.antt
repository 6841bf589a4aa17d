-- What a law owes for a hook that waits and a context that moves, where it is kept in a scene that stands.
use Rattle.session_rules.proofs.Base.{◌≡◌, ℕ, true, false, Option, Some, None, arith, nat_tests}
use Rattle.session_rules.proofs.Below.{has, Hook, is_protected, is_within, Protected, Cycle}
use Rattle.session_rules.proofs.Rules.{first_of, Moment, Scene, Element, Text, context_named, Ended, where_there, failure, context_moved, Stands, hook_waits, does, Check}
use Rattle.session_rules.proofs.Leaves.{Acts, Law, OwesMoves}
use Rattle.session_rules.proofs.NamesStand.{both_none, checked, named_there}
use Rattle.session_rules.proofs.TurnStands.{Meets}
use Rattle.session_rules.proofs.Walk.{fallible_at}

-- a context that may move, and where it may move to
pub record MayGo (n p : ℕ) (s : Scene) : Type 0 where
  pub node : has n s.session.contexts ≡ true
  pub parent : has p s.session.contexts ≡ true
  pub free : is_protected n s.session.contexts ≡ false
  pub out : is_within n p s.session.contexts ≡ false

pub record StandingMoves (R : Law) : Type 0 where
  pub hooked : (name : Text) (n : ℕ) (hook : Hook) (s : Scene) → Stands s → context_named name s.session ≡ Some n → first_of s.around.shelf.fresh ≡ Some hook → R s (hook_waits n hook s).scene (hook_waits n hook s).events
  pub shifted : (n p : ℕ) (s : Scene) → Stands s → MayGo n p s → R s (context_moved n p s).scene (context_moved n p s).events

module _ (R : Law) (a : Acts R) (v : StandingMoves R) where
  at_some : {A : Type 0} (o : Option A) (act : A → Scene → Ended) (s : Scene) → ((x : A) → o ≡ Some x → R s (act x s).scene (act x s).events) → R s (where_there o act s).scene (where_there o act s).events
  at_some o act s h = grind (arith, nat_tests)

  may_go : (s : Scene) (n p : ℕ) → Stands s → (name parent : Text) → failure (Check.MayMove name parent) s ≡ None → context_named name s.session ≡ Some n → context_named parent s.session ≡ Some p → MayGo n p s
  may_go s n p h name parent ok is q = grind (arith, nat_tests, checked name s.session, both_none (is_protected n s.session.contexts) (is_within n p s.session.contexts) Protected Cycle, named_there name s n h is, named_there parent s p h q)

  pub standing_moves : (w : Option ℕ) (x : Element) (m : Moment) → Meets x m.scene → OwesMoves R w x m
  unfolding does
  standing_moves w (Element.InTurn name x) m meets = standing_moves w x m (record { stands = meets.stands; asks = meets.asks })
  standing_moves w (Element.Register name) m meets = grind (arith, nat_tests, fallible_at R, at_some (context_named name m.scene.session), at_some (first_of m.scene.around.shelf.fresh))
  standing_moves w (Element.Reparent name parent) m meets = grind (arith, nat_tests, at_some (context_named name m.scene.session), at_some (context_named parent m.scene.session), may_go m.scene)
  standing_moves w other m meets = tt
