-- What holds of the insides of a space.
use Rattle.std.specs.Prelude.{◌≡◌, ℕ, ◌<◌, ◌≤◌, List, length, Option, Some, None, slice_index_or, sum_by}
use Rattle.addr_space.specs.Space.{Region, share}
use Rattle.addr_space.specs.declared.Account.{Account}

abbrev pub no_account : Account
no_account = record { held = 0; taken = 0 }

-- the account with this number
abbrev pub account_at : List Account → ℕ → Account
account_at accounts n = slice_index_or accounts n no_account

-- there are at most 255 accounts, each region counts for one of them, and each knows what it holds
pub record IsSound (regions : List (Option Region)) (accounts : List Account) : Type 0 where
  pub few : length accounts ≤ 255
  pub counted : (number : ℕ) (region : Region) → slice_index_or regions number None ≡ Some region → region.account < length accounts
  pub held : (account : ℕ) → account < length accounts → (account_at accounts account).held ≡ sum_by (share account) regions
