-- A store's portals change, and the session's are what the rules say.
use Rattle.session_ends.proofs.Base.{◌≡◌, Option, Some, List, ◌∷◌, length, refl, sym, ap, ◌∙◌, subst, ℕ, IsSome, arith, nat_tests}
use Rattle.session_ends.proofs.Words.{Space, ShelfState, new_scan, TreeState, Portal, HasDistinctNames, changed, new_portal, place_named, portal_named, Level, ResourceState, CommonState, seen_by, balances_none, OpenPortal, depth, Around, Scene, portal_changed, portal_becomes, portal_made, StoreState, portal_state, portals_of, session_of, IsPlaced, PortalLies, Acted, IsSilent, PortalsAlone, levels_long, acted_as}
use Rattle.session_ends.proofs.Naming.{changed_all, changed_is}

-- the scene with other portals
abbrev pub portaled : StoreState → List OpenPortal → Space → ShelfState → CommonState → Around → Scene
portaled a ps s x commons around = record {
  session = record (session_of a s) { portals = ps };
  around = record (seen_by a.owners commons around) { shelf = x; space = s.limit; descriptors = a.owners.descriptors };
}

-- a portal becomes another one
pub becomes_acted : (a : StoreState) (qs : List Portal) (name : List ℕ) (g : OpenPortal → OpenPortal) (s : Space) (x : ShelfState) (commons : CommonState) → portals_of qs ≡ portal_changed name g (portals_of a.portals)
    → Acted (portal_becomes name g) a (record a { portals = qs }) s s x x commons commons IsSilent
unfolding session_of
becomes_acted a qs name g s x commons e = record {
  leads = λ around. ap (λ (ps : List OpenPortal). portaled a ps s x commons around) (sym e);
  says = λ around. refl;
  balances = balances_none a.owners commons;
}

-- a portal is made
pub made_acted : (a : StoreState) (name : List ℕ) (object rows : ℕ) (bad : Option ℕ) (level : ℕ) (s : Space) (x : ShelfState) (commons : CommonState) → level ≡ length a.levels
    → Acted (portal_made name object rows bad) a (record a { portals = new_portal name (new_scan object rows bad) level ∷ a.portals }) s s x x commons commons IsSilent
unfolding session_of
made_acted a name object rows bad level s x commons e = record {
  leads = λ around. grind (arith, nat_tests, levels_long a.levels);
  says = λ around. refl;
  balances = balances_none a.owners commons;
}

-- what the portals name lies where it lay
pub placed_changed : (tree : TreeState) (table : ResourceState) (levels : List Level) (ps qs : List Portal) (name : List ℕ) (f : Portal → Portal) → IsPlaced tree table levels ps
    → ((p : Portal) → portal_named name ps ≡ Some p → PortalLies tree table p → PortalLies tree table (f p)) → qs ≡ changed name f ps → IsPlaced tree table levels qs
placed_changed tree table levels ps qs name f placed on e = grind (arith, nat_tests, placed.current, placed.levels, placed.plans, changed_all (PortalLies tree table) name f ps on placed.portals)

module _ (tree : TreeState) (owners : ResourceState) (levels : List Level) (portals : List Portal) (v : StoreState) (is : record { tree = tree; owners = owners; levels = levels; portals = portals } ≡ v) where
  pub becomes_after : (qs : List Portal) (name : List ℕ) (f : Portal → Portal) (g : OpenPortal → OpenPortal) (s : Space) (x : ShelfState) (commons : CommonState) → HasDistinctNames portals → ((p : Portal) → portal_state (f p) ≡ g (portal_state p)) → qs ≡ changed name f portals
      → Acted (portal_becomes name g) v (record { tree = tree; owners = owners; levels = levels; portals = qs }) s s x x commons commons IsSilent
  becomes_after qs name f g s x commons distinct same e = grind (arith, nat_tests, becomes_acted (record { tree = tree; owners = owners; levels = levels; portals = portals }) qs name g s x commons (ap portals_of e ∙ changed_is name f g portals distinct same))

  pub active_after : (qs : List Portal) (name : List ℕ) (level : ℕ) (s : Space) (x : ShelfState) (commons : CommonState) → HasDistinctNames portals → level ≡ length levels → qs ≡ changed name (λ p. record p { active = level }) portals
      → Acted (λ scene. portal_becomes name (λ p. record p { active = depth scene.session }) scene) v (record { tree = tree; owners = owners; levels = levels; portals = qs }) s s x x commons commons IsSilent
  unfolding session_of
  active_after qs name level s x commons distinct deepest e =
      let a : StoreState = record { tree = tree; owners = owners; levels = levels; portals = portals } in
      let g : ℕ → OpenPortal → OpenPortal = λ n p. record p { active = n } in
      subst (λ (z : StoreState). Acted (λ scene. portal_becomes name (λ p. record p { active = depth scene.session }) scene) z (record { tree = tree; owners = owners; levels = levels; portals = qs }) s s x x commons commons IsSilent) is
      (acted_as (portal_becomes name (g level)) (λ scene. portal_becomes name (λ p. record p { active = depth scene.session }) scene) a (record a { portals = qs }) s s x x commons commons IsSilent
      (λ around. ap (λ (n : ℕ). portal_becomes name (g n) (portaled a (portals_of portals) s x commons around)) (deepest ∙ sym (levels_long levels)))
      (becomes_acted a qs name (g level) s x commons (ap portals_of e ∙ changed_is name (λ p. record p { active = level }) (g level) portals distinct (λ p. refl))))

  pub made_after : (qs : List Portal) (name : List ℕ) (object rows : ℕ) (bad : Option ℕ) (level : ℕ) (s : Space) (x : ShelfState) (commons : CommonState) → level ≡ length levels → qs ≡ new_portal name (new_scan object rows bad) level ∷ portals
      → Acted (portal_made name object rows bad) v (record { tree = tree; owners = owners; levels = levels; portals = qs }) s s x x commons commons IsSilent
  made_after qs name object rows bad level s x commons deepest e = grind (arith, nat_tests, made_acted (record { tree = tree; owners = owners; levels = levels; portals = portals }) name object rows bad level s x commons deepest)

  pub portals_alone_after : (qs : List Portal) → PortalsAlone v (record { tree = tree; owners = owners; levels = levels; portals = qs })
  portals_alone_after qs = grind (arith, nat_tests)

  pub place_in : (name : List ℕ) (place : ℕ) → place_named name v.portals ≡ Some place → place_named name portals ≡ Some place
  place_in name place at = subst (λ (a : StoreState). place_named name a.portals ≡ Some place) (sym is) at

  pub there_in : (name : List ℕ) → IsSome (portal_named name v.portals) → IsSome (portal_named name portals)
  there_in name there = subst (λ (a : StoreState). IsSome (portal_named name a.portals)) (sym is) there
