-- What the ends of levels ask for, where the deepest level may go, and what still lies behind them.
use Rattle.session_ends.proofs.Base.{nat_tests, ◌≡◌, ◌↔◌, ℕ, ◌<◌, Bool, true, false, Option, List, [], ◌∷◌, ◌++◌, length, All, IfSome, IsSome, refl, sym, ap, ◌∙◌, subst, arith, drop, if◌then◌else◌, reverse, unwrap_or, option_map, option_to_list, length-append, All-weaker}
use Rattle.session_ends.proofs.Words.{Asks, Space, has, at, mapped-has, CtxId, OwnerId, ShelfState, Contexts, is_empty, is_within, TreeState, Agrees, HooksFit, IsLive, Moves, place_of, stands_for, tree_more, Plans, Portal, AllAt, HoldsNothing, ResourceState, owners_of, contexts_of, Level, LevelState, context_of, first_of, owner_of, Scene, context_gone, where_so, where_there, AreLevels, AreOuter, protected_has, top_protected, StoreState, level_state, levels_of, only_empty, session_of, HasLevels, IsPlaced, IsThere, LevelLies, Lies, OwnerLies, Keeps, if_some, all_deepest, levels_are, has_kept, levels_there, HasOwner, keeps_current, owners_there, all_reverse, keeps_on, MayLeave, going}
use Rattle.session_ends.proofs.Freed.{outside}
use Rattle.session_ends.proofs.Out.{keeps_with, some_on}

-- the levels without the deepest
before_last : List Level → List Level
before_last [] = []
before_last (x ∷ []) = []
before_last (x ∷ y ∷ xs) = x ∷ before_last (y ∷ xs)

before_is : (xs : List Level) (x : Level) → before_last (xs ++ x ∷ []) ≡ xs
unfolding before_last
before_is [] x = refl
before_is (y ∷ []) x = refl
before_is (y ∷ z ∷ xs) x = ap (λ (zs : List Level). y ∷ zs) (before_is (z ∷ xs) x)

pub popped_is : (levels outer new : List Level) (level : Level) (r : Option Level) → levels ≡ outer ++ level ∷ [] → levels ≡ new ++ option_to_list r → (IsSome r ↔ (0 < length levels)) → new ≡ outer
popped_is levels outer new level x4 e f some = grind (arith, nat_tests, some.1 (omega (arith, ap length e, length-append outer (level ∷ []))), before_is, before_is outer level)

-- what stands before the last of some levels
pub same_before : (outer new : List Level) (level last : Level) → outer ++ level ∷ [] ≡ new ++ last ∷ [] → new ≡ outer
same_before outer new level last e = sym (before_is new last) ∙ ap before_last (sym e) ∙ before_is outer level

-- one level alone
pub alone : (levels outer : List Level) (level : Level) → levels ≡ outer ++ level ∷ [] → length levels ≡ 1 → outer ≡ []
alone levels [] level e one = refl
alone levels (x ∷ xs) level e one = absurd (omega (arith, one, ap length e, length-append (x ∷ xs) (level ∷ [])))

-- where the deepest level may go
module _ (a : StoreState) (s : Space) (x : ShelfState) (freed : MayLeave a s x) where
  pub there_freed : All (IsThere a.tree) a.levels
  unfolding session_of
  there_freed = all_reverse (IsThere a.tree) a.levels (levels_there a.tree s (owners_of a.owners) (reverse a.levels) freed.levels)

  pub owners_freed : All (HasOwner a.owners) a.levels
  unfolding session_of
  owners_freed = all_reverse (HasOwner a.owners) a.levels (owners_there (stands_for a.tree s) a.owners (reverse a.levels) freed.levels)

  pub levels_freed : HasLevels a.tree a.levels
  unfolding session_of
  levels_freed = grind (arith, nat_tests, has_kept 1 a.tree s, protected_has 1 (stands_for a.tree s) (top_protected (stands_for a.tree s) a.tree.next freed.contexts), top_protected (stands_for a.tree s) a.tree.next freed.contexts, there_freed)

  pub hooks_freed : HooksFit (stands_for a.tree s) x
  unfolding session_of
  hooks_freed = record { out = freed.hooks.out; words = freed.hooks.words }

  module _ (outer : List Level) (level : Level) (e : a.levels ≡ outer ++ level ∷ []) where
    are_levels : levels_of a.levels ≡ level_state level ∷ levels_of outer
    are_levels = ap levels_of e ∙ levels_are outer level

    -- the deepest level's owner holds nothing
    pub idle_freed : IfSome level.owner (λ o. AllAt HoldsNothing o.number (owners_of a.owners))
    unfolding session_of
    idle_freed = if_some level.owner (λ id f. freed.idle id.number (ap (λ (ls : List LevelState). owner_of (first_of ls)) are_levels ∙ ap (option_map (λ (o : OwnerId). o.number)) f))

    -- the context that is the current one behind it isn't among those that go
    pub gone_apart : (up : ℕ) → up ≡ unwrap_or (context_of (first_of (levels_of outer))) 1 → IfSome level.context (λ id. is_within id.number up (stands_for a.tree s) ≡ false)
    unfolding session_of
    gone_apart up is =
        if_some level.context (λ id f.
        subst (λ (n : ℕ). is_within id.number n (stands_for a.tree s) ≡ false) (sym is)
        (outside (level_state level) (levels_of outer) (stands_for a.tree s) (owners_of a.owners) a.tree.next id.number freed.contexts
        (subst (λ (ls : List LevelState). AreLevels ls (stands_for a.tree s) (owners_of a.owners)) are_levels freed.levels)
        (subst (λ (ls : List LevelState). AreOuter (drop 1 ls)) are_levels freed.outer)
        (ap (option_map (λ (c : CtxId). c.number)) f)))

-- what holds of a context holds of it where it is empty
kept_some : (P : CtxId → Type 0) (context : Option CtxId) (contexts : Contexts) → IfSome context P → IfSome (only_empty context contexts) P
kept_some P x1 contexts holds = grind (arith, nat_tests)

-- a context goes where it is empty
only_gone : (context : Option CtxId) (z : Scene)
    → where_there (option_map (λ (id : CtxId). id.number) context) (λ n. where_so (is_empty n z.session.contexts) (context_gone n)) z
    ≡ where_there (option_map (λ (id : CtxId). id.number) (only_empty context z.session.contexts)) context_gone z
only_gone x0 z = grind (arith, nat_tests, z.session.contexts)

pub going_some : (P : CtxId → Type 0) (merged : Bool) (context : Option CtxId) (contexts : Contexts) → IfSome context P → IfSome (going merged context contexts) P
going_some P x1 context contexts holds = grind (arith, nat_tests, kept_some)

pub going_gone : (merged : Bool) (context : Option CtxId) (z : Scene)
    → (if merged then where_there (option_map (λ (id : CtxId). id.number) context) (λ n. where_so (is_empty n z.session.contexts) (context_gone n)) z else where_there (option_map (λ (id : CtxId). id.number) context) context_gone z)
    ≡ where_there (option_map (λ (id : CtxId). id.number) (going merged context z.session.contexts)) context_gone z
going_gone x0 context z = grind (arith, nat_tests, only_gone)

-- the levels above still lie, and so do the portals
module _ (tree b : TreeState) (table now : ResourceState) (had : (n : ℕ) → has n b.kept ≡ true → has n tree.kept ≡ true) (contexts : (n : ℕ) → has n b.kept ≡ true → place_of b n ≡ place_of tree n)
    (owner_had : (n : ℕ) → has n (owners_of now) ≡ true → has n (owners_of table) ≡ true) (others : (n : ℕ) → has n (owners_of now) ≡ true → at n now.places ≡ at n table.places) where
  lies_left : (id : CtxId) → Lies tree id → Lies b id
  lies_left id lies still = contexts id.number still ∙ lies (had id.number still)

  owner_left : (id : OwnerId) → OwnerLies table id → OwnerLies now id
  owner_left id lies still = grind (arith, nat_tests, id.number, mapped-has)

  pub left_placed : (levels outer new : List Level) (portals : List Portal) (level : Level) (up : CtxId) → levels ≡ outer ++ level ∷ [] → new ≡ outer → IsPlaced tree table levels portals → IsLive tree up → b.current ≡ up → now.plans ≡ table.plans → IsPlaced b now new portals
  left_placed levels outer new portals level up e f placed live current same =
      subst (λ (ls : List Level). IsPlaced b now ls portals) (sym f)
      (record {
        current = subst (λ (id : CtxId). Lies b id) (sym current) (λ still. contexts up.number still ∙ live);
        levels =
            let l = all_deepest (LevelLies tree table) levels outer level e placed.levels in
            All-weaker (LevelLies tree table) (LevelLies b now) (λ k lies. record { context = some_on k.context lies_left lies.context; owner = some_on k.owner owner_left lies.owner }) outer l.0;
        plans = subst (λ (p : Plans). All (Lies b) (contexts_of p.standing)) (sym same) (All-weaker (Lies tree) (Lies b) lies_left (contexts_of table.plans.standing) placed.plans);
        portals = grind (arith, nat_tests, All-weaker, some_on, lies_left, owner_left, placed.portals);
      })

-- the tree changed, whichever context was the current one before
pub moves_back : (tree b : TreeState) (id : CtxId) (s t : Space) → Moves (record tree { current = id }) b s t → Moves tree b s t
unfolding stands_for
moves_back tree b id s t m = record {
  agrees = m.agrees;
  account = m.account;
  outside = m.outside;
  accounts = m.accounts;
  limit = m.limit;
  own = m.own;
  others = m.others;
}

-- the store keeps up with the space behind the end of a level
pub keeps_left : (a : StoreState) (id : CtxId) (b : TreeState) (now : ResourceState) (new : List Level) (portals : List Portal) (s t : Space) → Keeps a s → Moves (record a.tree { current = id }) b s t → Keeps (record { tree = b; owners = now; levels = new; portals = portals }) t
keeps_left a id b now new portals s t keeps moves =
    keeps_with (record { tree = b; owners = a.owners; levels = a.levels; portals = a.portals }) now new portals t
    (keeps_on (record { tree = record a.tree { current = id }; owners = a.owners; levels = a.levels; portals = a.portals }) b s t (keeps_current a id a.owners a.levels s keeps) moves)

pub agrees_current : (a : StoreState) (id : CtxId) (s : Space) → Keeps a s → Agrees (record a.tree { current = id }) s
agrees_current a id s keeps = let k = keeps_current a id a.owners a.levels s keeps in k.agrees

pub hooks_current : (tree : TreeState) (id : CtxId) (s : Space) (x : ShelfState) → HooksFit (stands_for tree s) x → HooksFit (stands_for (record tree { current = id }) s) x
unfolding stands_for
hooks_current tree id s x fit = fit

pub apart_current : (tree : TreeState) (id : CtxId) (s : Space) (context : Option CtxId) → IfSome context (λ c. is_within c.number id.number (stands_for tree s) ≡ false)
    → IfSome context (λ c. is_within c.number (record tree { current = id }).current.number (stands_for (record tree { current = id }) s) ≡ false)
unfolding stands_for
apart_current tree id s context apart = apart

-- one thing behind another, from a store that is seen as another one
pub moves_then : (a b d e : TreeState) (s t u : Space) → Moves a b s t → d ≡ b → Moves d e t u → Moves a e s u
moves_then a b d e s t u first is second = tree_more a b e s t u first (subst (λ (z : TreeState). Moves z e t u) is second)

pub asked_then : (a b d : TreeState) (s t u : Space) → Asks a.account 0 s t → b.account ≡ a.account → d ≡ b → Asks d.account 0 t u → Asks a.account 0 s u
asked_then a b d s t u first same is second = subst (λ (n : ℕ). Asks n 0 t u) (ap (λ (z : TreeState). z.account) is ∙ same) second ∙ first
