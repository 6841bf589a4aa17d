-- What holds of a session's owners at all times.
use Rattle.std.specs.Prelude.{◌≡◌, ℕ, ◌+◌, ◌<◌, ◌≤◌, ◌==◌, nat_lt, true, if◌then◌else◌, count_by}
use Rattle.forest.specs.Forest.{Forest, Empty, Node, has, times, size}
use Rattle.owner_core.specs.Owners.{Owner, OwnerTree, OwnerTable, owners_of}

-- 1 for what is below, and 0 for the rest
abbrev pub one_below : ℕ → ℕ → ℕ
one_below next n = (if nat_lt n next then 1 else 0)

-- a sum over all owners
abbrev pub total : (Owner → ℕ) → OwnerTree → ℕ
total g Empty = 0
total g (Node n owner below beside) = g owner + (total g below + total g beside)

-- how many items of these owners have this serial
abbrev pub serial_times : ℕ → OwnerTree → ℕ
serial_times serial owners = total (λ owner. count_by (λ item. item.serial == serial) owner.items) owners

-- each number and each serial stands at most once, and only below those that are given next; there are at
-- most as many owners as can live
pub record IsSound (owners : OwnerTree) (next_owner next_serial : ℕ) : Type 0 where
  pub numbers : (n : ℕ) → times n owners ≤ one_below next_owner n
  pub serials : (serial : ℕ) → serial_times serial owners ≤ one_below next_serial serial
  pub few : size owners ≤ 65536

abbrev pub IsSoundTable : OwnerTable → Type 0
IsSoundTable table = IsSound (owners_of table) table.next_owner table.next_serial

-- what lies somewhere has a number that was given
abbrev pub AreGiven : ℕ → Forest ℕ → Type 0
AreGiven next_owner places = (n : ℕ) → has n places ≡ true → n < next_owner
