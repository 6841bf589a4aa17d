-- The open files, and what becomes of their descriptors.
use Rattle.std.specs.Prelude.{◌≡◌, ℕ, ◌+◌, ◌-◌, ◌<◌, ◌≤◌, ◌==◌, IsTrue, count_by, false, if◌then◌else◌, List, [], ◌∷◌, ◌++◌, length, take, slice_get, Option, Some, None}
use Rattle.pgs_step.specs.declared.events.What.{What}
use Rattle.pgs_step.specs.declared.events.What.TheVariants.{DescriptorOpened, DescriptorClosed}
use Rattle.file_table.specs.Descriptors.{is_among, without}

-- How many descriptors there are, the open files in the order in which they were opened, and those that have
-- a descriptor, the most recently used first.
pub record Files : Type 0 where
  pub descriptors : ℕ
  pub opened : List ℕ
  pub recent : List ℕ

-- the file that loses its descriptor where another one needs one: the last one, where all are used
abbrev pub loser : Files → Option ℕ
loser files = slice_get files.recent (files.descriptors - 1)

-- a file without a descriptor gets one, and is the most recently used
abbrev pub given_file : ℕ → Files → Files
given_file file files = record files { recent = file ∷ take (files.descriptors - 1) files.recent }

-- a descriptor is closed, if one is, and then one is opened
abbrev pub given_events : Option ℕ → ℕ → List What
given_events None file = DescriptorOpened file ∷ []
given_events (Some closed) file = DescriptorClosed closed ∷ DescriptorOpened file ∷ []

-- a file is opened: it gets a descriptor
abbrev pub opened_file : ℕ → Files → Files
opened_file file files = record (given_file file files) { opened = files.opened ++ file ∷ [] }

abbrev pub opening_events : ℕ → Files → List What
opening_events file files = given_events (loser files) file

-- a file is used: it gets a descriptor where it has none
abbrev pub touched_file : ℕ → Files → Files
touched_file file files = if is_among file files.recent then record files { recent = file ∷ without file files.recent } else given_file file files

abbrev pub touch_events : ℕ → Files → List What
touch_events file files = if is_among file files.recent then [] else given_events (loser files) file

-- a file is closed
abbrev pub closed_file : ℕ → Files → Files
closed_file file files = record files { opened = without file files.opened; recent = without file files.recent }

abbrev pub closing_events : ℕ → Files → List What
closing_events file files = if is_among file files.recent then DescriptorClosed file ∷ [] else []

-- how often the file is open: once or not at all
abbrev pub opens : Files → ℕ → ℕ
opens files file = count_by (λ other. file == other) files.opened

-- the file is open once more, and every other as before
abbrev pub OpensOneMore : Files → Files → ℕ → Type 0
OpensOneMore old new file = (f : ℕ) → opens new f ≡ opens old f + (if file == f then 1 else 0)

-- the file is open once less, and every other as before
abbrev pub OpensOneLess : Files → Files → ℕ → Type 0
OpensOneLess old new file = (f : ℕ) → opens new f + (if file == f then 1 else 0) ≡ opens old f

-- no file is twice in the list
abbrev pub IsDistinct : List ℕ → Type 0
IsDistinct [] = Unit {0}
IsDistinct (file ∷ files) = (is_among file files ≡ false) × IsDistinct files

-- Open files are different and at most 4,096. Those with a descriptor are open, different and at most as many
-- as there are descriptors, of which there is at least one.
pub record IsSound (files : Files) : Type 0 where
  pub at_most : length files.opened ≤ 4096
  pub distinct : IsDistinct files.opened
  pub descriptors : 0 < files.descriptors
  pub fits : length files.recent ≤ files.descriptors
  pub recent_distinct : IsDistinct files.recent
  pub recent_open : (file : ℕ) → IsTrue (is_among file files.recent) → IsTrue (is_among file files.opened)
