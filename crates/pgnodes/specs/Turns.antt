-- What is left of an aggregate behind each call of its node.
use Rattle.std.specs.Prelude.{◌≡◌, ℕ, ◌+◌, List, ◌++◌, length, drop, Some}
use Rattle.addr_space.specs.Space.{Space, held, Asks, risen}
use Rattle.temp_store.specs.Temp.{Temp, file_at}
use Rattle.agg_rules.specs.Passes.{pass_results, spilled_rows}
use Rattle.held_groups.specs.Held.{footprint}
use Rattle.exec_agg.specs.Nodes.{Node}
use Rattle.pgnodes.specs.Plays.{Played, begun_over, passes_played}

-- groups, and then what comes later
abbrev pub ahead : List (ℕ × ℕ × ℕ) → Played → Played
ahead groups later = record later { groups = groups ++ later.groups }

-- what the passes behind the one at hand come to
abbrev pub later_of : ℕ → ℕ → Node → Played
later_of limit room n =
    passes_played (length (spilled_rows n.pass.budget n.pass.rows)) n.pass.budget limit room
    (begun_over limit room n.pass.groups.state.ledger (spilled_rows n.pass.budget n.pass.rows)) (spilled_rows n.pass.budget n.pass.rows)

-- what is left to give: the groups of the pass at hand that weren't given yet, and what comes later
abbrev pub left_of : ℕ → ℕ → Node → Played
left_of limit room n = ahead (drop n.place (pass_results n.pass.budget n.pass.rows)) (later_of limit room n)

-- of what one part comes to these groups were told, and another part is left; the space and the store gave what was taken
pub record Leaves (p : Played) (told : List (ℕ × ℕ × ℕ)) (q : Played) (s t : Space) (temp temps : Temp) : Type 0 where
  pub groups : p.groups ≡ told ++ q.groups
  pub refused : p.refused ≡ q.refused
  pub asked : (k : ℕ) × (p.asked ≡ k + q.asked) × Asks 0 k s t
  pub written : (k : ℕ) × (p.written ≡ k + q.written) × (temps.written ≡ risen temp.written k)

-- nothing but the node has bytes of account 0, or a file
pub record Alone (n : Node) (s : Space) (temp : Temp) : Type 0 where
  pub account : n.pass.groups.state.layout.account ≡ 0
  pub held : held s 0 ≡ (footprint n.pass.groups).total
  pub only : (number : ℕ) (bytes : List ℕ) → file_at temp number ≡ Some bytes → n.pass.file ≡ Some number
