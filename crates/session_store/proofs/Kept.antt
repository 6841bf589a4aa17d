-- What is there lies where it lay, when a tree changes.
use Rattle.session_store.proofs.Words.{◌≡◌, ◌≢◌, ℕ, ◌-◌, true, false, Option, Some, None, List, [], ◌∷◌, map, All, IfSome, refl, sym, ap, ◌∙◌, subst, ◌==◌, if◌then◌else◌, reverse, option_map, eq-eqb, All-nil, All-cons, Space, Empty, Forest, Node, Once, at, children, has, mapped-has, has_children, CtxId, ShelfState, Did, DidNothing, TreeState, Agrees, IsLive, Moves, StaysPut, place_of, stands_for, Plan, ResourceState, OwnerTree, owners_of, plan_state, contexts_of, level_at, Level, Around, Context, Contexts, Portal, LevelState, AreLevels, IsPlan, IsPortal, IsRow, Stands, CommonState, StoreState, level_state, levels_of, portal_state, portals_of, scene_of, session_of, IsPlaced, IsThere, LevelLies, Lies, PortalLies, ContextsAlone, Keeps, StandsIn}
use Rattle.context_tree.specs.State.{context_of}
use Rattle.context_rules.specs.Ends.{Ended}
use Rattle.session_rules.proofs.ContextsKept.{protected_has}
use Rattle.std.proofs.lemmas.List.Elements.{All-map}
use Rattle.session_store.proofs.Answered.{if_some, some_both}
use Rattle.session_store.proofs.Depths.{all_level}
use Rattle.session_store.proofs.Lists.{all_both, all_mapped, all_reverse}
use Rattle.session_store.proofs.Sums.{keeps_on}
use Rattle.std.proofs.lemmas.Bool.Decides.{nat_tests}
use Rattle.std.proofs.Common.{arith}

-- a context is there in the tree where it is among those that the tree stands for
pub has_kept : (n : ℕ) (tree : TreeState) (s : Space) → has n (stands_for tree s) ≡ has n tree.kept
unfolding stands_for
has_kept n tree s = mapped-has (context_of s) n tree.kept

-- a context is there
abbrev pub HasContext : TreeState → CtxId → Type 0
HasContext tree id = has id.number tree.kept ≡ true

-- the contexts of a portal, once they are made, are there
pub record PortalThere (tree : TreeState) (portal : Portal) : Type 0 where
  pub context : IfSome portal.context (HasContext tree)
  pub expr : IfSome portal.expr (HasContext tree)

-- the contexts that a store names are there
pub record AreThere (tree : TreeState) (table : ResourceState) (list : List Level) (queries : List Portal) : Type 0 where
  pub current : has tree.current.number tree.kept ≡ true
  pub levels : All (IsThere tree) list
  pub plans : All (HasContext tree) (contexts_of table.plans.standing)
  pub portals : All (PortalThere tree) queries

level_there : (tree : TreeState) (s : Space) (o : Option CtxId) → ((n : ℕ) → option_map (λ (id : CtxId). id.number) o ≡ Some n → has n (stands_for tree s) ≡ true) → IfSome o (λ id. has id.number tree.kept ≡ true)
level_there tree s o there = if_some o (λ id e. sym (has_kept id.number tree s) ∙ there id.number (ap (option_map (λ (i : CtxId). i.number)) e))

pub levels_there : (tree : TreeState) (s : Space) (owners : OwnerTree) (levels : List Level) → AreLevels (map level_state levels) (stands_for tree s) owners → All (IsThere tree) levels
levels_there tree s owners [] h = All-nil (IsThere tree)
levels_there tree s owners (level ∷ levels) h =
    All-cons (IsThere tree) level levels
    (level_there tree s level.context (λ n e. protected_has n (stands_for tree s) (h.0.context n e).protected))
    (levels_there tree s owners levels h.1)

pub plans_there : (tree : TreeState) (s : Space) (current : ℕ) (standing : List (ℕ × Plan)) → All (λ plan. IsPlan plan (stands_for tree s) current) (map plan_state standing) → All (HasContext tree) (contexts_of standing)
plans_there tree s current standing h =
    All-map (HasContext tree) (λ (p : ℕ × Plan). p.1.context) standing
    (all_mapped plan_state (λ plan. IsPlan plan (stands_for tree s) current) (λ p. HasContext tree p.1.context)
    (λ p is. sym (has_kept p.1.context.number tree s) ∙ protected_has p.1.context.number (stands_for tree s) is.protected) standing h)

-- the context of one row is there, where that of its portal is
row_there : (n : ℕ) (o : Option ℕ) (t : Contexts) → Once t → IsRow o (children n t) → (e : ℕ) → o ≡ Some e → has e t ≡ true
row_there n None t once row e is = absurd (cc is)
row_there n (Some f) t once row e is =
    has_children e n t once (ap (has e) row.1 ∙ own row.0)
  where
    own : (c : Context) → has e (Node f c Empty Empty) ≡ true
    own c = let here : (f == e) ≡ true = eq-eqb f e (let same : f ≡ e = cc is in same) in rw here refl

portal_there : (tree : TreeState) (s : Space) (levels : List LevelState) (owners : OwnerTree) (current : ℕ) (portal : Portal) → Once (stands_for tree s) → IsPortal (portal_state portal) levels (stands_for tree s) owners current → PortalThere tree portal
portal_there tree s levels owners current portal once h = record {
  context = level_there tree s portal.context (λ n e. protected_has n (stands_for tree s) (h.place n e).protected);
  expr = level_there tree s portal.expr (λ e f. go (option_map (λ (id : CtxId). id.number) portal.context) refl e f);
}
  where
    go : (o : Option ℕ) → option_map (λ (id : CtxId). id.number) portal.context ≡ o → (e : ℕ) → option_map (λ (id : CtxId). id.number) portal.expr ≡ Some e → has e (stands_for tree s) ≡ true
    go None none e f = let z : None ≡ Some e = sym (h.made none) ∙ f in absurd (cc z)
    go (Some n) some e f = row_there n (option_map (λ (id : CtxId). id.number) portal.expr) (stands_for tree s) once (h.place n some).row e f

pub portals_there : (tree : TreeState) (s : Space) (levels : List LevelState) (owners : OwnerTree) (current : ℕ) (portals : List Portal) → Once (stands_for tree s) → All (λ p. IsPortal p levels (stands_for tree s) owners current) (portals_of portals)
    → All (PortalThere tree) portals
portals_there tree s levels owners current portals once h =
    all_mapped portal_state (λ p. IsPortal p levels (stands_for tree s) owners current) (PortalThere tree) (λ portal. portal_there tree s levels owners current portal once) portals h

-- no surroundings at all
abbrev pub nowhere : Around
nowhere = record { kinds = []; shelf = record { fresh = []; spent = []; out = 0 }; pinned = []; locked = []; space = 0; descriptors = 0 }

-- where the session stands, they are
pub are_there : (a : StoreState) (s : Space) (x : ShelfState) (commons : CommonState) → StandsIn a s x commons → AreThere a.tree a.owners a.levels a.portals
unfolding session_of
are_there a s x commons stands =
    let h : Stands (scene_of a s x commons nowhere) = stands nowhere in
    record {
      current = sym (has_kept a.tree.current.number a.tree s) ∙ h.current;
      levels = all_reverse (IsThere a.tree) a.levels (levels_there a.tree s (owners_of a.owners) (reverse a.levels) h.levels);
      plans = plans_there a.tree s a.tree.current.number a.owners.plans.standing h.plans.each;
      portals = portals_there a.tree s (levels_of a.levels) (owners_of a.owners) a.tree.current.number a.portals h.contexts.once h.portals.each;
    }

-- A tree and its space went on: the space has what it has, and what was there and is there lies where it lay.
pub record Goes (a b : TreeState) (s t : Space) : Type 0 where
  pub moves : Moves a b s t
  pub stays : (n : ℕ) → has n a.kept ≡ true → has n b.kept ≡ true → place_of b n ≡ place_of a n
  pub current : b.current ≡ a.current

-- nothing happens
moves_none : (a : TreeState) (s : Space) → Agrees a s → Moves a a s s
moves_none a s agrees = grind (arith, nat_tests)

pub goes_nowhere : (a b : TreeState) (s t : Space) → Agrees a s → b ≡ a → t ≡ s → Goes a b s t
goes_nowhere a b s t agrees same still = subst (λ (y : Space). Goes a b s y) (sym still) (subst (λ (x : TreeState). Goes a x s s) (sym same) (record { moves = moves_none a s agrees; stays = λ n was now. refl; current = refl }))

-- contexts went or were reset, or nothing did
pub goes_did : (ended : Ended) (a b : TreeState) (s t : Space) (x y : ShelfState) → Did ended a b s t x y → Goes a b s t
goes_did ended a b s t x y did = grind (arith, nat_tests, did.moves, did.stays, did.contexts, has_kept, did.current)

pub goes_nothing : (a b : TreeState) (s t : Space) (x y : ShelfState) → Agrees a s → DidNothing a b s t x y → Goes a b s t
goes_nothing a b s t x y agrees did = goes_nowhere a b s t agrees did.tree did.space

-- all stay where they are
pub goes_put : (a b : TreeState) (s t : Space) → Moves a b s t → StaysPut a b → Goes a b s t
goes_put a b s t moves put = grind (arith, nat_tests, at, put.places, put.current)

-- a context is made
pub goes_made : (a b : TreeState) (s t : Space) → Moves a b s t → ((n : ℕ) → n ≢ a.next → place_of b n ≡ place_of a n) → has a.next (stands_for a s) ≡ false → b.current ≡ a.current → Goes a b s t
goes_made a b s t moves stays fresh current = grind (arith, nat_tests, a.kept, has_kept a.next a s, a.next)

-- what the store names still lies where its id says
lies_on : (a b : TreeState) (id : CtxId) → ((n : ℕ) → has n a.kept ≡ true → has n b.kept ≡ true → place_of b n ≡ place_of a n) → Lies a id → has id.number a.kept ≡ true → Lies b id
lies_on a b id stays lies was now = stays id.number was now ∙ lies was

levels_on : (a b : TreeState) (table : ResourceState) (levels : List Level) → ((n : ℕ) → has n a.kept ≡ true → has n b.kept ≡ true → place_of b n ≡ place_of a n)
    → All (LevelLies a table) levels → All (IsThere a) levels → All (LevelLies b table) levels
levels_on a b table levels stays = grind (arith, nat_tests, all_both, some_both, lies_on)

pub plans_on : (a b : TreeState) (contexts : List CtxId) → ((n : ℕ) → has n a.kept ≡ true → has n b.kept ≡ true → place_of b n ≡ place_of a n) → All (Lies a) contexts → All (HasContext a) contexts → All (Lies b) contexts
plans_on a b contexts stays = all_both (Lies a) (HasContext a) (Lies b) (λ id. lies_on a b id stays) contexts

-- a portal's contexts lie on
pub portal_on : (a b : TreeState) (table : ResourceState) (portal : Portal) → ((n : ℕ) → has n a.kept ≡ true → has n b.kept ≡ true → place_of b n ≡ place_of a n) → PortalLies a table portal → PortalThere a portal → PortalLies b table portal
portal_on a b table portal stays lies there = grind (arith, nat_tests, some_both, portal.context, lies_on, lies.context, there.context, portal.expr, lies.expr, there.expr, lies.owner, lies.scan)

pub portals_on : (a b : TreeState) (table : ResourceState) (portals : List Portal) → ((n : ℕ) → has n a.kept ≡ true → has n b.kept ≡ true → place_of b n ≡ place_of a n) → All (PortalLies a table) portals → All (PortalThere a) portals → All (PortalLies b table) portals
portals_on a b table portals stays = all_both (PortalLies a table) (PortalThere a) (PortalLies b table) (λ portal. portal_on a b table portal stays) portals

pub placed_on : (a b : TreeState) (table : ResourceState) (levels : List Level) (portals : List Portal) → IsPlaced a table levels portals → AreThere a table levels portals → ((n : ℕ) → has n a.kept ≡ true → has n b.kept ≡ true → place_of b n ≡ place_of a n) → b.current ≡ a.current
    → IsPlaced b table levels portals
placed_on a b table levels portals placed there stays current = grind (arith, nat_tests, lies_on, a.current, placed.current, there.current, levels_on, placed.levels, there.levels, plans_on, table.plans.standing, placed.plans, there.plans, portals_on, placed.portals, there.portals)

pub placed_put : (a b : TreeState) (table : ResourceState) (levels : List Level) (portals : List Portal) → IsPlaced a table levels portals → AreThere a table levels portals → StaysPut a b → IsPlaced b table levels portals
placed_put a b table levels portals placed there put = placed_on a b table levels portals placed there (λ n was now. ap (λ (places : Forest ℕ). at n places) put.places) put.current

-- the context of the level of a number lies where its id says
pub level_live : (tree : TreeState) (table : ResourceState) (levels : List Level) (portals : List Portal) (n : ℕ) (level : Level) → IsPlaced tree table levels portals → AreThere tree table levels portals → level_at levels n ≡ Some level → IfSome level.context (IsLive tree)
level_live tree table levels portals n level placed there e = grind (arith, nat_tests, all_level (LevelLies tree table) levels n level placed.levels e, placed.levels, some_both, level.context, all_level (IsThere tree) levels n level there.levels e, there.levels)

-- the store that holds the tree
pub alone_on : (a : StoreState) (b : TreeState) (s t : Space) (commons : CommonState) → Keeps a s → Goes a.tree b s t → ContextsAlone a (record a { tree = b }) s t commons commons
unfolding session_of
alone_on a b s t commons k goes = record {
  keeps = keeps_on a b s t k goes.moves;
  moves = goes.moves;
  owners = refl;
  commons = refl;
  levels = refl;
  portals = refl;
  stays = λ id live was now. goes.stays id.number (sym (has_kept id.number a.tree s) ∙ was) (sym (has_kept id.number b t) ∙ now) ∙ live;
}

-- only the current context is another one
moves_switch : (a : TreeState) (id : CtxId) (s : Space) → Agrees a s → Moves a (record a { current = id }) s s
unfolding stands_for
moves_switch a id s agrees = record {
  agrees = record { account = agrees.account; each = agrees.each; owned = agrees.owned; apart = agrees.apart; known = agrees.known };
  account = refl;
  outside = λ number region. (λ out. out, λ out. out);
  accounts = refl;
  limit = refl;
  own = refl;
  others = λ account differ. refl;
}

pub switch_alone : (a : StoreState) (id : CtxId) (s : Space) (commons : CommonState) → Keeps a s → ContextsAlone a (record a { tree = record a.tree { current = id } }) s s commons commons
switch_alone a id s commons k = record {
  keeps = keeps_on a (record a.tree { current = id }) s s k (moves_switch a.tree id s k.agrees);
  moves = moves_switch a.tree id s k.agrees;
  owners = refl;
  commons = refl;
  levels = refl;
  portals = refl;
  stays = λ other live was now. live;
}
