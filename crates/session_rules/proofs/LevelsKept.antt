-- What levels and their owners keep where the deepest level goes, is released or is made.
use Rattle.session_rules.proofs.Base.{◌≡◌, ◌≢◌, ◌⊎◌, ℕ, ◌<◌, true, false, Option, Some, None, List, [], ◌∷◌, refl, sym, ap, ◌∙◌, inl, inr, arith, is_some, option_map_or, cases_eq, cases_Bool, nat_tests}
use Rattle.session_rules.proofs.Below.{has, Once, children, parent_of, is_above, removed, AllNodes, at_absent, has_of_removed, left_apart, above_by_parent, above_none, Contexts, is_protected, KindTable, IsSoundTable, Owner, OwnerTree, AllAt, HoldsNothing, has_begun, once_of, sound_removed}
use Rattle.session_rules.proofs.Rules.{LevelState, OpenPortal, abort_context, first_of, owner_of, top_context, level_parent, AreContexts, AreLevels, AreOuter, AreOwners, HasItems, IsContextOf, IsOwner, IsOwnerOf, AreEnding}
use Rattle.session_rules.proofs.Forests.{at_left}
use Rattle.session_rules.proofs.Guarded.{all_removed, top_parent}
use Rattle.session_rules.proofs.ContextsKept.{IsSame, own as own_context}
use Rattle.session_rules.proofs.Swept.{has_swept, parent_swept, below_swept, at_swept_other, all_swept, swept_all}
use Rattle.session_rules.proofs.Releasing.{HasSwept, swept_by, holds_nothing, still_items, still_sound}

-- what is there
pub is_there : (o : Option ℕ) → is_some o ≡ true → (n : ℕ) × (o ≡ Some n)
is_there o h = grind (arith, nat_tests)

pub one_value : (o : Option ℕ) (m n : ℕ) → o ≡ Some m → o ≡ Some n → m ≡ n
one_value o m n a b = let z : Some m ≡ Some n = sym a ∙ b in cc z

pub no_value : (o : Option ℕ) (n : ℕ) → o ≡ None → o ≡ Some n → ⊥
no_value o n a b = let z : None ≡ Some n = sym a ∙ b in cc z

-- the context of one of the levels
abbrev pub IsContext : ℕ → List LevelState → Type 0
IsContext n [] = ⊥
IsContext n (level ∷ levels) = (level.context ≡ Some n) ⊎ IsContext n levels

pub first_owner : (levels : List LevelState) (n : ℕ) → owner_of (first_of levels) ≡ Some n → IsOwner n levels
first_owner [] n e = absurd (no_value None n refl e)
first_owner (level ∷ levels) n e = inl e

-- an owner stands as it stood
pub record IsStill (m : ℕ) (t u : OwnerTree) : Type 0 where
  pub there : has m u ≡ true
  pub parent : parent_of m u ≡ parent_of m t

-- levels whose contexts and owners stand as they stood
pub levels_stay : (levels : List LevelState) (t u : Contexts) (x y : OwnerTree) → ((m : ℕ) → IsContext m levels → is_protected m t ≡ true → IsSame m t u)
    → ((m : ℕ) → IsOwner m levels → has m x ≡ true → IsStill m x y) → AreLevels levels t x → AreLevels levels u y
levels_stay [] t u x y a b h = tt
levels_stay (level ∷ levels) t u x y a b h = (
  record {
    context = λ n e.
        let c : IsContextOf n levels t = h.0.context n e in
        let s : IsSame n t u = a n (inl e) c.protected in
        record { protected = s.protected; parent = s.parent ∙ c.parent; newer = c.newer; own = c.own };
    owner = λ n e.
        let o : IsOwnerOf n levels x = h.0.owner n e in
        let s : IsStill n x y = b n (inl e) o.there in
        record { there = s.there; parent = s.parent ∙ o.parent; newer = o.newer };
    implicit = h.0.implicit;
  },
  levels_stay levels t u x y (λ m i. a m (inr i)) (λ m i. b m (inr i)) h.1,
)

-- the parent of a context of the levels is one of theirs or the topmost one
pub context_above : (levels : List LevelState) → AreOuter levels → (P : Type 0) → (level_parent (first_of levels) ≡ top_context → P) → (IsContext (level_parent (first_of levels)) levels → P) → P
context_above levels h P top one = grind (arith, nat_tests, is_there)

-- the contexts of the levels above aren't within a newer context
pub outer_contexts : (levels : List LevelState) (t : Contexts) (x : OwnerTree) (next p : ℕ) → AreContexts t next → AreLevels levels t x → AreOuter levels → abort_context < p → level_parent (first_of levels) < p
    → (m : ℕ) → IsContext m levels → (m < p) × (has m (children p t) ≡ false)
outer_contexts [] t x next p h l o g above m i = absurd i
outer_contexts (level ∷ levels) t x next p h l o g above m i =
    let c = is_there level.context o.0.made.context in
    let is : level_parent (first_of (level ∷ levels)) ≡ c.0 = ap (λ (o : Option ℕ). option_map_or (λ n. n) o top_context) c.1 in
    let own : IsContextOf c.0 levels t = l.0.context c.0 c.1 in
    let up : level_parent (first_of levels) < p = omega (arith, own.newer, above, is) in
    elim i [
      | inl e ↦
          let same : m ≡ c.0 = one_value level.context m c.0 e c.1 in
          let less : m < p = omega (arith, same, above, is) in
          let parent : parent_of m t ≡ Some (level_parent (first_of levels)) = ap (λ (n : ℕ). parent_of n t) same ∙ own.parent in
          let ne : level_parent (first_of levels) ≢ p = λ z. omega (arith, z, up) in
          let chain : is_above p m t ≡ is_above p (level_parent (first_of levels)) t = above_by_parent m (level_parent (first_of levels)) p t h.once parent ne in (
            less,
            context_above levels o.2 (has m (children p t) ≡ false)
                (λ top. chain ∙ ap (λ (n : ℕ). is_above p n t) top ∙ above_none top_context p t h.once (top_parent own_context top_context t h.once h.rooted))
                (λ one. chain ∙ (outer_contexts levels t x next p h l.1 o.2 g up (level_parent (first_of levels)) one).1),
          )
      | inr j ↦ outer_contexts levels t x next p h l.1 o.2 g up m j
    ]

-- the owners of the levels above aren't within a newer owner
pub outer_owners : (levels : List LevelState) (t : Contexts) (x : OwnerTree) (p : ℕ) → Once x → AreLevels levels t x → AreOuter levels → ((q : ℕ) → owner_of (first_of levels) ≡ Some q → q < p)
    → (m : ℕ) → IsOwner m levels → (m < p) × (has m (children p x) ≡ false)
outer_owners [] t x p once l o above m i = absurd i
outer_owners (level ∷ levels) t x p once l o above m i =
    let c = is_there level.owner o.0.made.owner in
    let less : c.0 < p = above c.0 c.1 in
    let own : IsOwnerOf c.0 levels x = l.0.owner c.0 c.1 in
    let up : (q : ℕ) → owner_of (first_of levels) ≡ Some q → q < p = λ q e. omega (arith, less, own.newer q e) in
    elim i [
      | inl e ↦
          let same : m ≡ c.0 = one_value level.owner m c.0 e c.1 in
          (omega (arith, same, less), ap (λ (n : ℕ). has n (children p x)) same ∙ go c.0 own (owner_of (first_of levels)) refl up (λ q j. (outer_owners levels t x p once l.1 o.2 up q j).1))
      | inr j ↦ outer_owners levels t x p once l.1 o.2 up m j
    ]
  where
    go : (n : ℕ) → IsOwnerOf n levels x → (parent : Option ℕ) → owner_of (first_of levels) ≡ parent → ((q : ℕ) → owner_of (first_of levels) ≡ Some q → q < p)
        → ((q : ℕ) → IsOwner q levels → has q (children p x) ≡ false) → has n (children p x) ≡ false
    go n own None e up rest = above_none n p x once (own.parent ∙ e)
    go n own (Some q) e up rest = above_by_parent n q p x once (own.parent ∙ e) (λ z. omega (arith, z, up q e)) ∙ rest q (first_owner levels q e)

pub begun_has : (n : ℕ) (owners : OwnerTree) → has_begun n owners ≡ true → has n owners ≡ true
begun_has n owners u = grind (arith, nat_tests, at_absent n owners)

-- without the deepest level's owner
abbrev pub without_owner : Option ℕ → OwnerTree → OwnerTree
without_owner None owners = owners
without_owner (Some p) owners = removed p owners

pub owners_end : (kinds : KindTable) (owners : OwnerTree) (a b : ℕ) (level : LevelState) (levels : List LevelState) (portals : List OpenPortal) → AreOwners kinds owners a b (level ∷ levels) portals → AreEnding kinds owners a b level levels portals
owners_end kinds owners a b level levels portals h = grind (arith, nat_tests)

pub owners_without : (kinds : KindTable) (level : LevelState) (levels : List LevelState) (portals : List OpenPortal) (owners : OwnerTree) (a b : ℕ) (o : Option ℕ) → level.owner ≡ o → ((p : ℕ) → level.owner ≡ Some p → has p owners ≡ true)
    → AreEnding kinds owners a b level levels portals → AreOwners kinds (without_owner o owners) a b levels portals
owners_without kinds level levels portals owners a b None e there h = grind (arith, nat_tests, no_value level.owner)
owners_without kinds level levels portals owners a b (Some p) e there h =
    grind (arith, nat_tests, once_of owners a b h.sound, left_apart, one_value level.owner, sound_removed p owners a b h.sound, has_of_removed, begun_has, at_left, all_removed (HasItems kinds) p owners h.items)

-- what a release leaves of the deepest level's owner
abbrev pub HasLeft : KindTable → Option ℕ → OwnerTree → OwnerTree → Type 0
HasLeft kinds None owners now = now ≡ owners
HasLeft kinds (Some p) owners now = HasSwept kinds p owners now

-- the deepest level is aborted
pub owners_aborted : (kinds : KindTable) (level : LevelState) (levels : List LevelState) (portals : List OpenPortal) (owners now : OwnerTree) (a b : ℕ) (o : Option ℕ) → IsSoundTable kinds → level.owner ≡ o → HasLeft kinds o owners now
    → AreEnding kinds owners a b level levels portals → AreOwners kinds now a b (record level { aborted = true } ∷ levels) portals
owners_aborted kinds level levels portals owners now a b None sound e left h = grind (arith, nat_tests, no_value level.owner)
owners_aborted kinds level levels portals owners now a b (Some p) sound e left h = grind (arith, nat_tests, once_of owners a b h.sound, below_swept, one_value level.owner, still_sound kinds p owners now a b left h.sound, has_swept, cases_eq, cases_Bool, at_swept_other, all_swept, still_items kinds)

-- its owner and all below that hold nothing
pub left_nothing : (kinds : KindTable) (p : ℕ) (owners now : OwnerTree) → IsSoundTable kinds → HasSwept kinds p owners now → AllNodes (HasItems kinds) owners → AllAt HoldsNothing p now
left_nothing kinds p owners now sound left items =
    let f : Owner → Owner = swept_by kinds in
    rw left.is (swept_all f (HasItems kinds) HoldsNothing (λ owner. holds_nothing kinds owner sound) p owners items)

-- a release leaves the owners where they are
pub left_still : (kinds : KindTable) (o : Option ℕ) (owners now : OwnerTree) → HasLeft kinds o owners now → (m : ℕ) → has m owners ≡ true → IsStill m owners now
left_still kinds o owners now left m there = grind (arith, nat_tests, has_swept (swept_by kinds) m, parent_swept (swept_by kinds) m)
