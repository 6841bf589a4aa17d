-- How much a session may have, and what some of its parts take.
use Rattle.std.specs.Prelude.{ℕ}

-- levels, owners, plans, portals and open files of a session
abbrev pub most_levels : ℕ
most_levels = 1000

abbrev pub most_owners : ℕ
most_owners = 65536

abbrev pub most_plans : ℕ
most_plans = 1024

abbrev pub most_portals : ℕ
most_portals = 1024

abbrev pub most_files : ℕ
most_files = 4096

-- the buffers that all sessions share, by their numbers from 0 on
abbrev pub shared_buffers : ℕ
shared_buffers = 1024

-- the bytes of a portal's own memory, and of the memory of a row that it gives
abbrev pub portal_bytes : ℕ
portal_bytes = 200

abbrev pub row_bytes : ℕ
row_bytes = 64

-- the bytes of the first blocks of a session's five contexts
abbrev pub asked_at_opening : ℕ
asked_at_opening = 65536
