-- The open files, as they are kept.
use Rattle.std.specs.Prelude.{◌≡◌, ℕ, nat_eq, List}
use Rattle.std.specs.Set.{is_member}
use Rattle.file_table.specs.Descriptors.{is_among}
use Rattle.file_table.specs.Files.{IsDistinct}

-- the open files in the order in which they were opened, and how many more there is room for
pub record KeptFiles : Type 0 where
  pub files : List ℕ
  pub room : ℕ

-- the files differ, and a file is found exactly where it is one of them
pub record IsKept (found files : List ℕ) : Type 0 where
  pub different : IsDistinct files
  pub same : (file : ℕ) → is_member nat_eq found file ≡ is_among file files
