-- What a contract sees of the groups that a pass holds.
use Rattle.std.specs.Prelude.{◌≡◌, ℕ, ◌+◌, ◌^◌, ◌<◌, ◌≤◌, nat_eq, List, length, Some, All, Ok}
use Rattle.std.specs.Map.{lookup, keys_of}
use Rattle.addr_space.specs.declared.Addr.{Addr}
use Rattle.addr_space.specs.Space.{Space, HasBytes, held, Asks}
use Rattle.addr_space.specs.Footprint.{Footprint}
use Rattle.bump_ctx.specs.State.{BumpState, footprint as footprint_of}
use Rattle.bump_ctx.specs.Ledger.{BumpTaken, take}
use Rattle.agg_rules.specs.declared.Row.{Row}
use Rattle.agg_rules.specs.declared.TheConstants.{GROUP_BYTES}
use Rattle.agg_rules.specs.Rows.{groups_of, result_of}
use Rattle.held_groups.specs.declared.held.TheConstants.{MOST_ROWS}
use Rattle.held_groups.specs.Totals.{total_bytes}

-- the rows whose groups are held; the chunk of each group, in the order of their first rows; and the context that
-- the chunks lie in
pub record Held : Type 0 where
  pub rows : List Row
  pub places : List (ℕ × Addr)
  pub state : BumpState

-- what the context has in a space
abbrev pub footprint : Held → Footprint
footprint h = footprint_of h.state

-- the chunk of each group has its total over the rows
abbrev pub HasTotals : Held → Space → Type 0
HasTotals h s = (group : ℕ) (at : Addr) → lookup (nat_eq group) h.places ≡ Some at → HasBytes s at (total_bytes (result_of h.rows group))

-- the numbers of a row fit 32 bits
abbrev pub IsRow : Row → Type 0
IsRow row = (row.group < 2 ^ 32) × (row.value < 2 ^ 32)

-- each group of the rows has a live chunk of its own
pub record IsHeld (h : Held) : Type 0 where
  pub groups : keys_of h.places ≡ groups_of h.rows
  pub live : (group : ℕ) (at : Addr) → lookup (nat_eq group) h.places ≡ Some at → (footprint h).live at ≡ Some GROUP_BYTES
  pub apart : (group other : ℕ) (at : Addr) → lookup (nat_eq group) h.places ≡ Some at → lookup (nat_eq other) h.places ≡ Some at → group ≡ other
  pub numbers : All IsRow h.rows
  pub few : length h.rows ≤ MOST_ROWS

-- the context's ledger gave a chunk for a group where so much was left of the account, and the account took what the
-- ledger asked, and holds so much more
pub record Grows (a b : BumpState) (left : ℕ) (s t : Space) : Type 0 where
  pub answer : BumpTaken
  pub is : take a.ledger left GROUP_BYTES ≡ Ok answer
  pub ledger : b.ledger ≡ answer.ledger
  pub asked : Asks a.layout.account answer.asked s t
  pub within : answer.asked ≤ left
  pub rose : held t a.layout.account ≡ held s a.layout.account + answer.asked
