-- What a contract sees of a hash aggregate node.
use Rattle.std.specs.Prelude.{◌≡◌, ℕ, ◌+◌, ◌-◌, ◌*◌, ◌≤◌, ◌<◌, List, ◌++◌, length, take, drop, Some, Result, Ok, IsSome}
use Rattle.addr_space.specs.Space.{Space}
use Rattle.addr_space.specs.Footprint.{Agrees}
use Rattle.temp_store.specs.Temp.{Temp, held as stored}
use Rattle.agg_rules.specs.declared.TheConstants.{ROW_BYTES}
use Rattle.agg_rules.specs.declared.Row.{Row}
use Rattle.agg_rules.specs.declared.NodeError.{NodeError}
use Rattle.agg_rules.specs.Rows.{results_of}
use Rattle.agg_rules.specs.Passes.{kept_groups, pass_results, spilled_rows}
use Rattle.agg_rules.specs.Steps.{Pass, meets_all, stand_behind}
use Rattle.held_groups.specs.declared.held.TheConstants.{MOST_ROWS}
use Rattle.held_groups.specs.Held.{footprint, HasTotals}
use Rattle.agg_pass.specs.PassState.{PassState, HasSpilled, Spends, way_of, anew}
use Rattle.exec_agg.specs.declared.stage.Stage.{Stage}
use Rattle.exec_agg.specs.declared.stage.Stage.TheVariants.{Putting, Giving}

-- the rows that were put, how many of their groups were given, what may be called next, the pass at hand, and how many
-- groups of that pass were given
pub record Node : Type 0 where
  pub rows : List Row
  pub given : ℕ
  pub stage : Stage
  pub pass : PassState
  pub place : ℕ

-- the space and the store have what the node has in them
pub record Holds (n : Node) (s : Space) (temp : Temp) : Type 0 where
  pub agrees : Agrees (footprint n.pass.groups) s
  pub totals : HasTotals n.pass.groups s
  pub spilled : HasSpilled n.pass temp

-- what the next pass comes to, which goes over what the pass at hand spilled
abbrev pub next_pass : Node → Space → Temp → Result Pass NodeError
next_pass n s temp = meets_all n.pass.budget (Ok (anew n.pass s temp)) (spilled_rows n.pass.budget n.pass.rows)

-- the groups of the pass at hand were all given, and there is a file: `next` begins a pass over it
pub record IsTurn (n : Node) : Type 0 where
  pub done : length (kept_groups n.pass.budget n.pass.rows) ≤ n.place
  pub file : IsSome n.pass.file

-- where the next pass is, of which a node, the space and the store are what became of an earlier node. The old file is
-- dropped only behind the rows, so its bytes aren't counted among those that are left of the store
abbrev pub way_over : Node → Node → Space → Temp → Pass
way_over before after t temps =
    record (way_of after.pass t temps) { room = temps.limit - (stored temps + ROW_BYTES * length (spilled_rows before.pass.budget before.pass.rows)) }

-- the next pass went over the first rows of those that were spilled, by the rules, and the account and the store gave
-- what it took so far
pub record Goes (before after : Node) (s t : Space) (temp temps : Temp) : Type 0 where
  pub met : after.pass.rows ≡ take (length after.pass.rows) (spilled_rows before.pass.budget before.pass.rows)
  pub went : meets_all before.pass.budget (Ok (anew before.pass s temp)) after.pass.rows ≡ Ok (way_over before after t temps)
  pub spends : Spends before.pass.groups.state.layout.account (anew before.pass s temp) (way_over before after t temps) s t temp temps

-- the next pass met rows by the rules until this refused one
abbrev pub Stops : Node → Node → Space → Space → Temp → Temp → NodeError → Type 0
Stops before after s t temp temps refused =
    stand_behind before.pass.budget (anew before.pass s temp) (spilled_rows before.pass.budget before.pass.rows) ≡ record { pass = way_over before after t temps; refused = Some refused }

-- no file is the node's own
abbrev pub NoFile : ℕ → Type 0
NoFile number = ⊥

-- Putting, the pass met all rows. Giving, what is left to give is what is left of the pass, and then what the rows that it
-- spilled give
pub record IsNode (n : Node) : Type 0 where
  pub few : length n.rows ≤ MOST_ROWS
  pub some : 0 < n.pass.budget
  pub putting : n.stage ≡ Putting → (n.pass.rows ≡ n.rows) × (n.given ≡ 0) × (n.place ≡ 0)
  pub giving : n.stage ≡ Giving → drop n.given (results_of n.rows) ≡ drop n.place (pass_results n.pass.budget n.pass.rows) ++ results_of (spilled_rows n.pass.budget n.pass.rows)
  pub within : n.stage ≡ Giving → (n.given ≤ length (results_of n.rows)) × (n.place ≤ length (kept_groups n.pass.budget n.pass.rows)) × (length n.pass.rows ≤ length n.rows)
