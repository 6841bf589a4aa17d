-- The portal of a name, as the store has it and as the rules see it.
use Rattle.portal_commands.proofs.Base.{arith, nat_tests, ◌≡◌, Some, None, List, [], ◌∷◌, IsSome, refl, sym, ap, ◌∙◌, option_map}
use Rattle.portal_commands.proofs.Words.{Portal, has_name, OpenPortal, Text, portal_named, Space, held, no_total, Keeps, PortalsAlone, StoreState, portal_state, portals_of, session_of}
use Rattle.portal_store.specs.Portals as list

pub named_as : (name : Text) (ps : List Portal) → option_map portal_state (list.portal_named name ps) ≡ portal_named name (portals_of ps)
named_as name [] = refl
named_as name (p ∷ ps) = grind (arith, nat_tests, has_name name p, named_as name ps)

-- there is one
pub there_named : (name : Text) (ps : List Portal) (p : OpenPortal) → portal_named name (portals_of ps) ≡ Some p → IsSome (list.portal_named name ps)
there_named name ps p e = grind (arith, nat_tests, named_as name ps)

pub none_named : (name : Text) (ps : List Portal) → list.portal_named name ps ≡ None → portal_named name (portals_of ps) ≡ None
none_named name ps e = sym (named_as name ps) ∙ ap (option_map portal_state) e

-- where the portals change alone, the space has what the contexts have
pub keeps_alone : (a b : StoreState) (s : Space) → PortalsAlone a b → Keeps a s → Keeps b s
unfolding session_of
keeps_alone a b s alone keeps = grind (arith, nat_tests, alone.tree, keeps.agrees, no_total, keeps.held)
