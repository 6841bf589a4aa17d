-- What a name is.
use Rattle.std.specs.Prelude.{ℕ, ◌≤◌, Bool, ◌&&◌, ◌||◌, nat_le, ◌==◌, IsTrue, List, length, take}
use Rattle.std.specs.List.{list_all}
use Rattle.pgs_step.specs.Kept.{IsKept}

-- a letter, a digit or an underscore
abbrev pub is_name_byte : ℕ → Bool
is_name_byte b = (nat_le 97 b && nat_le b 122) || ((nat_le 65 b && nat_le b 90) || ((nat_le 48 b && nat_le b 57) || (b == 95)))

-- 1 to 32 letters, digits and underscores
pub record IsName (word : List ℕ) : Type 0 where
  pub not_empty : 1 ≤ length word
  pub short : length word ≤ 32
  pub letters : IsTrue (list_all is_name_byte word)

-- the name that an array of 32 bytes keeps in its first places
pub record IsKeptName (bytes : List ℕ) (len : ℕ) : Type 0 where
  pub kept : IsKept 32 bytes len
  pub name : IsName (take len bytes)
