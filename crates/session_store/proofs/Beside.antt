-- A store beside a tree of another account that changes in the same space.
use Rattle.session_store.proofs.Words.{◌≡◌, ◌≢◌, ap, subst, Space, Contexts, TreeState, stands_for, Agrees, Moves, StoreState, session_of, StaysBeside}
use Rattle.session_rules.specs.Making as rules
use Rattle.std.proofs.lemmas.Bool.Decides.{nat_tests}
use Rattle.std.proofs.Common.{arith}

same_session : (store : StoreState) (s t : Space) → stands_for store.tree t ≡ stands_for store.tree s → session_of store t ≡ session_of store s
unfolding session_of
same_session store s t same = ap (λ (contexts : Contexts). record (session_of store s) { contexts = contexts }) same

-- what the law of the store's tree says of the store
pub stays_beside : (store : StoreState)
    → ((a b : TreeState) (s t : Space) → Moves a b s t → Agrees a s → Agrees store.tree s → a.account ≢ store.tree.account → Agrees store.tree t)
    → ((a b : TreeState) (s t : Space) → Moves a b s t → Agrees a s → Agrees store.tree s → a.account ≢ store.tree.account → stands_for store.tree t ≡ stands_for store.tree s)
    → StaysBeside store
stays_beside store agrees contexts a b s t moves changing keeps differ = grind (arith, nat_tests, same_session, keeps.agrees, moves.others, store.tree.account, keeps.held)

-- the same of a store that is seen as another one
pub beside_of : (store v : StoreState) → store ≡ v → StaysBeside store → StaysBeside v
beside_of store v is h = subst StaysBeside is h
