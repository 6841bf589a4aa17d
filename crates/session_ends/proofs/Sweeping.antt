-- The portals of an aborted level go, and its owner holds nothing still.
use Rattle.session_ends.proofs.Base.{nat_tests, ◌≡◌, ◌<◌, ℕ, Bool, true, false, arith, length, Option, Some, None, List, [], ◌∷◌, refl, sym, ap, ◌∙◌, subst, ◌==◌, drop}
use Rattle.session_ends.proofs.Words.{Space, What, ShelfState, AllAt, HoldsNothing, owners_of, CommonState, LevelState, OpenPortal, first_of, is_aborted, level_owner, owner_of, Scene, context_gone, for_each, in_order, portal_gone, where_so, where_there, StoreState, scene_of, session_of, Acted, nowhere, EndsSo, IsEnding, left_by, number_in, portal_after, Merges, Aborts, Goes, level_released, owner_released, settled, OwnerId}
use Rattle.session_ends.proofs.Freed.{IsShut, all_end, shuts_in}

pub goes_so : (ls : List LevelState) (level : LevelState) (above : List LevelState) → ls ≡ level ∷ above → is_aborted ls ≡ true → EndsSo Goes ls
goes_so ls level above e aborted = subst (EndsSo Goes) (sym e) (sym (ap is_aborted e) ∙ aborted)

-- owners are as they were
swept_owners : (n : ℕ) (ps : List OpenPortal) (z : Scene) → (for_each (portal_after Goes n) ps z).scene.session.owners ≡ z.session.owners
swept_owners n [] z = refl
swept_owners n (p ∷ ps) z = swept_owners n ps (portal_after Goes n p z).scene ∙ one (p.created == n) p.context
  where
    one : (b : Bool) (c : Option ℕ) → (where_so b (in_order (where_there c context_gone ∷ portal_gone p.name ∷ [])) z).scene.session.owners ≡ z.session.owners
    one true None = refl
    one true (Some k) = refl
    one false c = refl

pub still_idle : (a b : StoreState) (s t : Space) (x y : ShelfState) (c : CommonState) (Said : List What → Type 0) (n : ℕ) (ps : List OpenPortal) → Acted (λ scene. for_each (portal_after Goes n) ps scene) a b s t x y c c Said → b.levels ≡ a.levels
    → ((m : ℕ) → level_owner (session_of a s) ≡ Some m → AllAt HoldsNothing m (owners_of a.owners)) → (m : ℕ) → level_owner (session_of b t) ≡ Some m → AllAt HoldsNothing m (owners_of b.owners)
unfolding session_of
still_idle a b s t x y c Said n ps acted same idle m o = grind (arith, nat_tests, b.owners, a.owners, acted.leads nowhere, nowhere, swept_owners n ps (scene_of a s x c nowhere))

pub aborts_so : (to : Option OwnerId) (ls : List LevelState) (level : LevelState) (above : List LevelState) → ls ≡ level ∷ above → number_in to ≡ owner_of (first_of ls) → EndsSo (Aborts to) ls
aborts_so to ls level above e is = subst (EndsSo (Aborts to)) (sym e) (is ∙ ap (λ (ks : List LevelState). owner_of (first_of ks)) e)

pub merges_so : (to : Option OwnerId) (ls : List LevelState) (level : LevelState) (above : List LevelState) → ls ≡ level ∷ above → 1 < length ls → number_in to ≡ owner_of (first_of (drop 1 ls)) → EndsSo (Merges to) ls
merges_so to ls level above e more is = grind (arith, nat_tests)

-- what an abort leaves behind the release of the level's owner
pub shut_in : (own : Option OwnerId) (b d : StoreState) (t u : Space) (y w : ShelfState) (c g : CommonState) (Said : List What → Type 0) (top : Bool) (e : IsEnding (left_by (Aborts own)) b t y c []) → Acted (level_released false top) b d t u y w c g Said
    → IsShut e.level e.above (scene_of d u w g nowhere)
unfolding session_of
shut_in own b d t u y w c g Said top e acted =
    let z : Scene = scene_of b t y c nowhere in
    let is : (where_there e.level.owner (owner_released false top) (settled (e.level ∷ e.above) z)).scene ≡ scene_of d u w g nowhere =
    ap (λ (ls : List LevelState). (level_released false top (settled ls z)).scene) (sym e.are) ∙ acted.leads nowhere in
    subst (IsShut e.level e.above) is (shuts_in e.level e.above top z (all_end (left_by (Aborts own)) b t y c e))
