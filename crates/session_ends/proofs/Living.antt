-- What a portal of a store has is there where the session stands, and lies where its id says.
use Rattle.session_ends.proofs.Base.{arith, nat_tests, ◌≡◌, Option, Some, None, List, All, IfSome, refl, sym, ap, ◌∙◌, subst, option_and_then, option_map, ℕ}
use Rattle.session_ends.proofs.Words.{Space, mapped-has, CtxId, ShelfState, IsScan, TreeState, IsLive, Portal, portal_named, Level, ResourceState, Roomy, CommonState, StoreState, portal_state, session_of, IsPlaced, PortalLies, StandsIn, some_both, AreThere, PortalThere, are_there, HasPortalOwner, have_portal_owners}
use Rattle.session_owners.specs.ResourceState as owners
use Rattle.session_rules.specs.Lookup as rules
use Rattle.session_ends.proofs.Naming.{named_all, named_is}

module _ (tree : TreeState) (table : ResourceState) (levels : List Level) (portals : List Portal) (placed : IsPlaced tree table levels portals) (v : StoreState) (is : record { tree = tree; owners = table; levels = levels; portals = portals } ≡ v) where
  lies_named : (name : List ℕ) (p : Portal) → portal_named name portals ≡ Some p → PortalLies tree table p
  lies_named name p e = named_all (PortalLies tree table) name portals p placed.portals e

  -- its scan is as its calls leave it
  pub scan_named : (name : List ℕ) (p : Portal) → portal_named name portals ≡ Some p → IsScan p.scan
  scan_named name p e = let lies = lies_named name p e in lies.scan

  pub scan_in : (name : List ℕ) (o : Option Portal) → o ≡ portal_named name portals → IfSome o (λ p. IsScan p.scan)
  scan_in name x1 e = grind (arith, nat_tests, scan_named)

  module _ (s : Space) (x : ShelfState) (commons : CommonState) (stands : StandsIn v s x commons) where
    stands_here : StandsIn (record { tree = tree; owners = table; levels = levels; portals = portals }) s x commons
    stands_here = subst (λ (a : StoreState). StandsIn a s x commons) (sym is) stands

    there_named : (name : List ℕ) (p : Portal) → portal_named name portals ≡ Some p → PortalThere tree p
    there_named name p e =
        let all : AreThere tree table levels portals = are_there (record { tree = tree; owners = table; levels = levels; portals = portals }) s x commons stands_here in
        named_all (PortalThere tree) name portals p all.portals e

    -- its context, that of one row, and its owner
    pub context_named : (name : List ℕ) (p : Portal) → portal_named name portals ≡ Some p → IfSome p.context (IsLive tree)
    context_named name p e = grind (arith, nat_tests, lies_named name p e, there_named name p e, some_both, p.context)

    pub expr_named : (name : List ℕ) (p : Portal) → portal_named name portals ≡ Some p → IfSome p.expr (IsLive tree)
    expr_named name p e = grind (arith, nat_tests, lies_named name p e, there_named name p e, some_both, p.expr)

    pub owner_named : (name : List ℕ) (p : Portal) → portal_named name portals ≡ Some p → IfSome p.owner (owners.IsLive table)
    owner_named name p e =
        let lies = lies_named name p e in
        let have : All (HasPortalOwner table) portals = have_portal_owners (record { tree = tree; owners = table; levels = levels; portals = portals }) s x commons stands_here in
        some_both p.owner (λ id l here. l (sym (mapped-has (λ (r : Roomy). r.owner) id.number table.rooms) ∙ here)) lies.owner (named_all (HasPortalOwner table) name portals p have e)

    pub context_in : (name : List ℕ) (o : Option Portal) → o ≡ portal_named name portals → IfSome (option_and_then (λ p. p.context) o) (IsLive v.tree)
    context_in name x1 e = grind (arith, nat_tests, context_named)

    -- so is the context in which that of one row is made
    pub parent_live : (name : List ℕ) (id : CtxId) → option_and_then (λ p. p.context) (portal_named name portals) ≡ Some id → IsLive tree id
    parent_live name id is = on_it (portal_named name portals) refl is
      where
        on_it : (o : Option Portal) → o ≡ portal_named name portals → option_and_then (λ p. p.context) o ≡ Some id → IsLive tree id
        on_it None e is = absurd (cc is)
        on_it (Some p) e is = subst (λ (c : Option CtxId). IfSome c (IsLive tree)) is (context_named name p (sym e))

    pub expr_in : (name : List ℕ) (o : Option Portal) → o ≡ portal_named name portals → IfSome (option_and_then (λ p. p.expr) o) (IsLive v.tree)
    expr_in name x1 e = grind (arith, nat_tests, expr_named)

    pub owner_in : (name : List ℕ) (o : Option Portal) → o ≡ portal_named name portals → IfSome (option_and_then (λ p. p.owner) o) (owners.IsLive v.owners)
    owner_in name x1 e = grind (arith, nat_tests, owner_named)

-- it is the session's
pub session_named : (name : List ℕ) (o : Option Portal) (a : StoreState) (s : Space) → o ≡ portal_named name a.portals → option_map portal_state o ≡ rules.portal_named name (session_of a s).portals
unfolding session_of
session_named name o a s e = ap (option_map portal_state) e ∙ named_is name a.portals
