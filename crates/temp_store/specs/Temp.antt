-- What a contract sees of a store of temporary files.
use Rattle.std.specs.Prelude.{◌≡◌, ◌≢◌, ℕ, ◌+◌, ◌-◌, ◌^◌, ◌≤◌, List, [], length, Option, Some, None, IsSome, slice_index_or, sum_by, min}

-- the bytes of the file at each number, or nothing; how many bytes were appended in all; and how many all files
-- together may have
pub record Temp : Type 0 where
  pub files : List (Option (List ℕ))
  pub written : ℕ
  pub limit : ℕ

-- the file of a number
abbrev pub file_at : Temp → ℕ → Option (List ℕ)
file_at s number = slice_index_or s.files number None

-- the number is that of a live file
abbrev pub IsFile : Temp → ℕ → Type 0
IsFile s number = IsSome (file_at s number)

-- no file is live
abbrev pub HasNoFile : Temp → Type 0
HasNoFile s = (number : ℕ) → file_at s number ≡ None

-- the bytes of a file, and none where there is no file
abbrev pub bytes_of : Option (List ℕ) → List ℕ
bytes_of None = []
bytes_of (Some bytes) = bytes

-- how many they are
unfoldable pub size_of : Option (List ℕ) → ℕ
size_of file = length (bytes_of file)

-- how many bytes the files have together
unfoldable pub held : Temp → ℕ
held s = sum_by size_of s.files

-- a count once so much was added: it stays at the last value of its type
abbrev pub risen : ℕ → ℕ → ℕ
risen count more = min (count + more) (2 ^ 64 - 1)

-- the new store has this file or nothing at a number, and every other file as the old one
pub record Changes (old new : Temp) (number : ℕ) (file : Option (List ℕ)) : Type 0 where
  pub changed : file_at new number ≡ file
  pub others : (other : ℕ) → other ≢ number → file_at new other ≡ file_at old other
  pub limit : new.limit ≡ old.limit

-- the store knows what the files hold, which is within the limit
pub record IsSound (files : List (Option (List ℕ))) (held limit : ℕ) : Type 0 where
  pub total : held ≡ sum_by size_of files
  pub within : held ≤ limit
