-- What callers take from a session that stands.
use Rattle.session_rules.proofs.Base.{◌≡◌, ℕ, ◌≤◌, true, false, List, [], ◌∷◌, All, arith, cases_eq, both_ways, false_from_ne_true, All-nil, nat_tests}
use Rattle.session_rules.proofs.Below.{Empty, Node, has, AllNodes, Item, table_of, OwnerTree, has_begun, IsKind, KindTable}
use Rattle.session_rules.proofs.Rules.{LevelState, SessionState, abort_context, top_context, Around, Scene, AreHooks, HasItems, IsItem, Stands, StandsBetweenLines}
use Rattle.session_rules.proofs.Kept.{protected_has, top_protected}
use Rattle.session_rules.proofs.EndsStand.{settled}

-- The session's own contexts are there.
pub own_there : (scene : Scene) → Stands scene → (n : ℕ) → 1 ≤ n → n ≤ abort_context → has n scene.session.contexts ≡ true
own_there scene h n l u = grind (arith, nat_tests, cases_eq n top_context, protected_has top_context scene.session.contexts (top_protected scene.session.contexts scene.session.next_context h.contexts), protected_has n scene.session.contexts, top_protected scene.session.contexts scene.session.next_context h.contexts)

-- The release of an active level's owner hasn't begun.
pub not_begun : (level : LevelState) (levels : List LevelState) (s : Scene) (n : ℕ) → Stands (settled (level ∷ levels) s) → level.aborted ≡ false → has_begun n s.session.owners ≡ false
not_begun level levels s n h active = false_from_ne_true (has_begun n s.session.owners) (λ u. both_ways level.aborted active (h.owners.begun n u).aborted)

-- All items are of kinds that the table knows.
kinds_known : (table : KindTable) (items : List Item) → All (IsItem table) items → All (λ item. IsKind table item.kind) items
kinds_known table [] h = All-nil (λ (item : Item). IsKind table item.kind)
kinds_known table (item ∷ items) h = grind (arith, nat_tests, kinds_known table items)

pub items_known : (table : KindTable) (owners : OwnerTree) → AllNodes (HasItems table) owners → AllNodes (λ owner. All (λ item. IsKind table item.kind) owner.items) owners
items_known table Empty h = tt
items_known table (Node n owner below beside) h = (kinds_known table owner.items h.0, items_known table below h.1, items_known table beside h.2)

-- A session that stands does so in other surroundings, where its hooks fit the shelf there, and what never changes of kinds is the same.
pub stands_elsewhere : (session : SessionState) (a b : Around) → AreHooks session.contexts b.shelf → table_of b.kinds ≡ table_of a.kinds → Stands (record { session = session; around = a }) → Stands (record { session = session; around = b })
stands_elsewhere session a b hooks same h = grind (arith, nat_tests)

pub stands_between_elsewhere : (session : SessionState) (a b : Around) → AreHooks session.contexts b.shelf → table_of b.kinds ≡ table_of a.kinds → StandsBetweenLines (record { session = session; around = a })
    → StandsBetweenLines (record { session = session; around = b })
stands_between_elsewhere session a b hooks same h = record { stands = stands_elsewhere session a b hooks same h.stands; open_levels = h.open_levels; at_rest = h.at_rest }
