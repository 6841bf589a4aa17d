-- A session that opens.
use Rattle.session_store.proofs.Words.{◌≡◌, ℕ, List, [], None, sym, arith, subst, Space, held, Empty, TreeState, Moves, no_contexts, stands_for, total_of, ResourceState, Level, Portal, AreDistinct, ShelfState, SessionState, opening, Around, Stands, CommonState, seen_by, StoreState, session_of, Keeps, StandsIn}
use Rattle.context_rules.specs.Opening as contexts
use Rattle.owner_kinds.specs.KindShelf.{table_of}
use Rattle.owner_kinds.specs.KindTable.{IsSound}
use Rattle.reset_callbacks.specs.ShelfState as shelf
use Rattle.session_rules.proofs.OpeningStands.{opening_stands}
use Rattle.session_store.proofs.Sums.{held_is}
use Rattle.std.proofs.lemmas.Bool.Decides.{nat_tests}

pub opens : (tree : TreeState) (owners : ResourceState) (levels : List Level) (portals : List Portal) (s : Space) (session descriptors : ℕ) → stands_for tree s ≡ contexts.opening → tree.current.number ≡ 1 → tree.next ≡ 6
    → owners ≡ record { rooms = Empty; places = Empty; next_owner = 1; next_serial = 1; recent = []; descriptors = descriptors; session = session; locks = []; stack = []; plans = record { standing = []; reserved = None } } → levels ≡ [] → portals ≡ [] → session_of (record { tree = tree; owners = owners; levels = levels; portals = portals }) s ≡ opening
unfolding session_of opening
opens tree owners levels portals s session descriptors p q r u v w = grind (arith, nat_tests, tree.current.number, tree.next)

-- what the account holds are the blocks of its contexts, where it held nothing before
pub keeps_opened : (a : StoreState) (account : ℕ) (s t : Space) → Moves (no_contexts account) a.tree s t → a.tree.account ≡ account → held s account ≡ 0 → Keeps a t
unfolding stands_for
keeps_opened a account s t moves is none = grind (arith, nat_tests, moves.agrees, total_of, a.tree, moves.own, held_is a t)

-- it stands, where the hooks of the shelf differ and the kinds of the commons are sound
pub stands_opened : (a : StoreState) (s : Space) (x : ShelfState) (commons : CommonState) → session_of a s ≡ opening → AreDistinct (shelf.held x) → IsSound (table_of commons.kinds) → StandsIn a s x commons
stands_opened a s x commons is differ sound around =
    let surroundings : Around = record (seen_by a.owners commons around) { shelf = x; space = s.limit; descriptors = a.owners.descriptors } in
    subst (λ (session : SessionState). Stands (record { session = session; around = surroundings })) (sym is) (opening_stands surroundings differ sound).stands
