-- A session that opens stands.
use Rattle.session_rules.proofs.Base.{◌≡◌, ℕ, ◌≤◌, ◌<◌, true, arith, nat_tests}
use Rattle.session_rules.proofs.Below.{Once, has, AreDistinct, table_of}
use Rattle.session_rules.proofs.Rules.{abort_context, opening, Around, AreContexts, IsOfSession, StandsBetweenLines}
use Rattle.reset_callbacks.specs.ShelfState as shelf
use Rattle.context_rules.specs.Opening as contexts
use Rattle.owner_kinds.specs.KindTable.{IsSound}

first_once : Once contexts.opening
first_once = record { once = λ n. grind (arith, nat_tests) }

first_below : (n : ℕ) → has n contexts.opening ≡ true → n < 6
first_below n h = grind (arith, nat_tests)

first_own : (n : ℕ) → 1 < n → n ≤ abort_context → IsOfSession n contexts.opening
first_own n l u = grind (arith, nat_tests)

first_contexts : AreContexts contexts.opening 6
first_contexts = grind (arith, nat_tests, first_once, first_below, first_own)

-- A session that opens stands, where the hooks of the shelf differ and the kinds are sound.
pub opening_stands : (around : Around) → AreDistinct (shelf.held around.shelf) → IsSound (table_of around.kinds) → StandsBetweenLines (record { session = opening; around = around })
unfolding opening
opening_stands around differ sound = grind (arith, nat_tests, first_contexts)
