-- The place of a portal: it stays where no portal comes, goes or gets another name.
use Rattle.portal_commands.proofs.Base.{nat_tests, ◌≡◌, ℕ, Bool, List, [], ◌∷◌, Option, Some, None, length, map, refl, sym, ap, ◌∙◌, arith, cond, nat_lt, position, position_or_len, length-map, slice_get-get_or}
use Rattle.portal_commands.proofs.Words.{is_text, Portal, has_name, place_named, named_by_place, place_within, portal_becomes, Text, portal_changed, OpenPortal, Scene, Acted, IsSilent, StoreState, portal_state, portals_of, session_of, Now, scene_in, empty_around, IsAt}
use Rattle.portal_store.specs.Portals as list

-- where a test that sees no change passes first
module _ {X Y : Type 0} (p : X → Bool) (q : Y → Bool) (f : X → Y) (same : (x : X) → q (f x) ≡ p x) where
  first_same : (xs : List X) → position_or_len q (map f xs) ≡ position_or_len p xs
  first_same [] = refl
  first_same (x ∷ xs) = grind (arith, nat_tests, first_same xs)

  position_same : (xs : List X) → position q (map f xs) ≡ position p xs
  position_same xs =
      ap (λ (n : ℕ). cond (nat_lt n (length (map f xs))) (Some n) None) (first_same xs)
      ∙ ap (λ (n : ℕ). cond (nat_lt (position_or_len p xs) n) (Some (position_or_len p xs)) None) (length-map xs f)

-- the place as the rules see the portals
abbrev place_in : Text → List OpenPortal → Option ℕ
place_in name portals = position (λ (p : OpenPortal). is_text p.name name) portals

place_as : (name : Text) (ps : List Portal) → place_in name (portals_of ps) ≡ place_named name ps
place_as name ps = position_same (has_name name) (λ (p : OpenPortal). is_text p.name name) portal_state (λ p. refl) ps

place_changed : (name : Text) (f : OpenPortal → OpenPortal) (ps : List OpenPortal) → ((p : OpenPortal) → (f p).name ≡ p.name) → place_in name (portal_changed name f ps) ≡ place_in name ps
place_changed name f ps keeps = grind (arith, nat_tests, position_same)

-- it stays where the rules see the same portals
pub at_same : (name : Text) (place : ℕ) (a b : StoreState) → portals_of b.portals ≡ portals_of a.portals → IsAt name place a → IsAt name place b
at_same name place a b same at = sym (place_as name b.portals) ∙ ap (place_in name) same ∙ place_as name a.portals ∙ at

-- or the portal of the name changed, which kept it
pub at_becomes : (name : Text) (place : ℕ) (f : Scene → OpenPortal → OpenPortal) (a : Now) (st : StoreState) → ((s : Scene) (p : OpenPortal) → (f s p).name ≡ p.name)
    → Acted (λ scene. portal_becomes name (f scene) scene) a.store st a.space a.space a.shelf a.shelf a.commons a.commons IsSilent → IsAt name place a.store → IsAt name place st
unfolding session_of
at_becomes name place f a st keeps acted at = grind (arith, nat_tests, a.store.portals, st.portals, acted.leads empty_around, place_as name st.portals, place_in name, place_changed name (f (scene_in a empty_around)) (portals_of a.store.portals) (keeps (scene_in a empty_around)), place_as name a.store.portals)

-- there is a portal at a name's place
pub at_there : (name : Text) (place : ℕ) (ps : List Portal) → place_named name ps ≡ Some place → list.portal_named name ps ≡ None → ⊥
at_there name place [] at none = omega (arith, place_within name [] place at)
at_there name place (p ∷ ps) at none = grind (arith, nat_tests, slice_get-get_or (p ∷ ps) place p (place_within name (p ∷ ps) place at), place_within name (p ∷ ps) place at, named_by_place name (p ∷ ps) place at)
