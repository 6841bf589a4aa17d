-- The steps by which a portal is made.
use Rattle.portal_commands.proofs.Base.{nat_tests, ◌≡◌, ◌↔◌, ℕ, ◌≤◌, List, [], ◌∷◌, length, Option, Some, None, Result, Ok, Err, refl, ◌∙◌, ap, arith, codes, option_and_then}
use Rattle.portal_commands.proofs.Words.{CtxKind, LimitReached, Portal, PortalError, Around, Moment, in_order, PortalContext, RowContext, Text, Element, fallible, does, portal_named, limit, portal_made, portals_of, session_of, Now, scene_in, IsNew, Call, limit_free, limit_reached}

pub does_make_portal : (name : Text) (object rows : ℕ) (bad : Option ℕ) (w : Option ℕ) (m : Moment)
    → does w (Element.MakePortal name object rows bad) m ≡ fallible w m (limit 1024 (length m.scene.session.portals)) (portal_made name object rows bad)
unfolding does
does_make_portal name object rows bad w m = refl

-- a portal is made
abbrev pub make_portal : Text → ℕ → ℕ → Option ℕ → Call
make_portal name object rows bad = record {
  step = Element.MakePortal name object rows bad;
  own = λ scene. limit 1024 (length scene.session.portals);
  act = portal_made name object rows bad;
  is = does_make_portal name object rows bad;
  rises = λ s. record { contexts = omega arith; owners = omega arith; serials = omega arith; descriptors = refl };
  quiet = λ s. refl;
}

-- how many portals a session has decides whether it gets one more
as_many : (ps : List Portal) → length (portals_of ps) ≡ length ps
as_many [] = refl
as_many (p ∷ ps) = omega (arith, as_many ps)

portals_are : (a : Now) (around : Around) → length (scene_in a around).session.portals ≡ length a.store.portals
unfolding session_of
portals_are a around = as_many a.store.portals

module _ (a : Now) (r : Result (Unit {0}) PortalError) (much : (r ≡ Err PortalError.TooMany) ↔ (length a.store.portals ≡ 1024)) where
  pub few_portals : (u : Unit {0}) → r ≡ Ok u → length a.store.portals ≤ 1024 → (around : Around) → limit 1024 (length (scene_in a around).session.portals) ≡ None
  few_portals u ok most around = grind (arith, nat_tests, portals_are a around, limit_free)

  pub many_portals : r ≡ Err PortalError.TooMany → (around : Around) → limit 1024 (length (scene_in a around).session.portals) ≡ Some LimitReached
  many_portals full around = ap (limit 1024) (portals_are a around) ∙ limit_reached 1024 (length a.store.portals) (omega (arith, much.0 full))

-- the context of a portal, and that of one row
pub portal_is_new : (name : Text) (a : Now) → IsNew (PortalContext name) (codes "PortalContext") CtxKind.Small a
portal_is_new name a = grind (arith, nat_tests)

pub row_is_new : (name : Text) (a : Now) (c : ℕ) → option_and_then (λ p. p.context) (portal_named name (session_of a.store a.space).portals) ≡ Some c → IsNew (RowContext name) (codes "ExprContext") CtxKind.Small a
row_is_new name a c is = grind (arith, nat_tests, in_order)
