-- What a contract sees of a pass of an aggregate.
use Rattle.std.specs.Prelude.{◌≡◌, ℕ, ◌+◌, ◌-◌, ◌≤◌, nat_eq, List, [], length, filter, Option, Some, None}
use Rattle.std.specs.List.{list_any}
use Rattle.addr_space.specs.Space.{Space, held, Asks, risen}
use Rattle.bump_ctx.specs.Ledger.{reset}
use Rattle.temp_store.specs.Temp.{Temp, held as stored}
use Rattle.agg_rules.specs.declared.Row.{Row}
use Rattle.agg_rules.specs.Passes.{kept_groups, spilled_rows}
use Rattle.agg_rules.specs.Steps.{Pass}
use Rattle.row_files.specs.RowBytes.{HasRows}
use Rattle.held_groups.specs.declared.held.TheConstants.{MOST_ROWS}
use Rattle.held_groups.specs.Held.{Held}

-- how many groups it holds at most, the rows that it met, the file of those that it spilled, and the groups that it
-- holds
pub record PassState : Type 0 where
  pub budget : ℕ
  pub rows : List Row
  pub file : Option ℕ
  pub groups : Held

-- the rows whose groups a pass holds
abbrev pub held_rows : ℕ → List Row → List Row
held_rows budget rows = filter (λ (row : Row). list_any (nat_eq row.group) (kept_groups budget rows)) rows

-- the file of the pass, if it has one, has the rows that it spilled
abbrev pub HasSpilled : PassState → Temp → Type 0
HasSpilled p temp = (file : ℕ) → p.file ≡ Some file → HasRows temp file (spilled_rows p.budget p.rows)

-- what holds of its insides
pub record IsPass (p : PassState) : Type 0 where
  pub joined : p.groups.rows ≡ held_rows p.budget p.rows
  pub no_file : p.file ≡ None → spilled_rows p.budget p.rows ≡ []
  pub few : length p.rows ≤ MOST_ROWS

-- where it is on its way: its groups, the ledger, and the bytes that are left of its account and of the store
abbrev pub way_of : PassState → Space → Temp → Pass
way_of p s temp = record {
  kept = kept_groups p.budget p.rows;
  ledger = p.groups.state.ledger;
  left = s.limit - held s p.groups.state.layout.account;
  room = temp.limit - stored temp;
}

-- where it is once its context was reset
abbrev pub anew : PassState → Space → Temp → Pass
anew p s temp = record {
  kept = [];
  ledger = reset p.groups.state.ledger;
  left = s.limit - (held s p.groups.state.layout.account + (reset p.groups.state.ledger).total - p.groups.state.ledger.total);
  room = temp.limit - stored temp;
}

-- a pass went on its way from one place to another: its account took what it lost of the bytes that were left, and what
-- it lost of the store's room was written
pub record Spends (account : ℕ) (before after : Pass) (s t : Space) (temp temps : Temp) : Type 0 where
  pub less : after.left ≤ before.left
  pub fewer : after.room ≤ before.room
  pub asked : Asks account (before.left - after.left) s t
  pub written : temps.written ≡ risen temp.written (before.room - after.room)
